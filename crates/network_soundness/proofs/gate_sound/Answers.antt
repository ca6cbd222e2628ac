-- The parts of a gate's test. Assumes nothing.
use Rattle.std.proofs.Common.{rules, ◌≡◌, sym, ◌+◌, ◌-◌, ◌*◌, arith, to_z-of_z, get_or, SFits}
use Rattle.std.specs.Prelude.{pos}
use Rattle.std.specs.Int.{w32}
use Rattle.network.specs.PlaceLaws.{length_part, feeds_part}
use Rattle.network_soundness.proofs.SoundnessLaws.{gate_wide, gate_parts}
use Rattle.network_soundness.proofs.gate_sound.Goals as goal

pub returns-then-count-gt16 : goal.returns-then-count-gt16
returns-then-count-gt16 c = sym (gate_wide _ _ _ _ _ _ (omega arith))

pub returns : goal.returns
returns c =
    let r = c.args.network.now in
    let g = c.args.g in
    let n = c.from-count.result in
    let k = 16 * g + n - 16 * g in
    let same : k ≡ n = omega arith in
    let long = length_part r.signals (16 * g) n k (omega arith) same in
    let fits : SFits w32 (get_or r.thresholds g (pos 0)) = search rules in
    rw (c.in_scale.ensures, to_z-of_z fits, c.feeds_sound.ensures, long, feeds_part r.signals r.weights (16 * g) n k same, c.from-count.ensures)
    (gate_parts r.fanins r.thresholds r.signals r.weights g c.args.own (omega arith))
