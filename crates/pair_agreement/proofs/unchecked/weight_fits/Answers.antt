-- The mix of the two weights, as they are read.
use Rattle.std.proofs.Common.{ap, ◌∙◌, pos, get_or, arith, rules, w32, SFits, to_z-of_z}
use Rattle.network.specs.Limits.{in_scale}
use Rattle.pair_agreement.proofs.unchecked.weight_fits.Goals as goal

pub mixed-requires : goal.mixed-requires
mixed-requires c =
    let a = c.args.a.now in
    let i = c.args.feed in
    let u_fits : SFits w32 (get_or a.us i (pos 0)) = search rules in
    let v_fits : SFits w32 (get_or a.vs i (pos 0)) = search rules in
    rw (to_z-of_z u_fits, to_z-of_z v_fits)
    (record { dial = c.requires.dial_limits; x_small = omega (arith, c.requires.searchable.fair.us_small i); y_small = omega (arith, c.requires.searchable.fair.vs_small i) })

pub returns : goal.returns
returns c =
    let a = c.args.a.now in
    let i = c.args.feed in
    let u_fits : SFits w32 (get_or a.us i (pos 0)) = search rules in
    let v_fits : SFits w32 (get_or a.vs i (pos 0)) = search rules in
    let m_fits : SFits w32 c.mixed.result = search rules in
    c.in_scale.ensures ∙ ap in_scale (to_z-of_z m_fits ∙ (rw (to_z-of_z u_fits, to_z-of_z v_fits) at c.mixed.ensures))
