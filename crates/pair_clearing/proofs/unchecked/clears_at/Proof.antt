-- The two sums of a setting are read from the tables. Assumes nothing.
use mir.Syntax.{w32}
use Rattle.basics.specs.SizeLaws.{read_back}
use Rattle.gate_sums.specs.SumLaws.{from_small}
use Rattle.pair_clearing.proofs.unchecked.clears_at.Statement.{statement}
use Rattle.pair_clearing.proofs.unchecked.clears_at.Tie as tie

sum_at_requires : tie.Need-sum_at-su-requires
sum_at_requires c κs = (c.requires.0.u_small, c.requires.1.1.1)

sum_at_requires_2 : tie.Need-sum_at-sv-requires
sum_at_requires_2 c κs = (c.requires.0.v_small, c.requires.1.1.1)

clears_requires : tie.Need-clears-requires
clears_requires c κs =
    let a = c.args in
    let u = from_small a.sums_u.now a.setting c.requires.0.u_small in
    let v = from_small a.sums_v.now a.setting c.requires.0.v_small in
    rw (read_back w32 c.sum_at-su.type_inv c.sum_at-su.ensures, read_back w32 c.sum_at-sv.type_inv c.sum_at-sv.ensures)
    (c.requires.1.0, record { dial = c.requires.1.1.0; x_small = u; y_small = v })

returns : tie.Need-returns
returns c =
    let su = read_back w32 c.sum_at-su.type_inv c.sum_at-su.ensures in
    let sv = read_back w32 c.sum_at-sv.type_inv c.sum_at-sv.ensures in
    rw (su, sv) at c.clears.ensures

pub clears_at_spec : {M : Type 1} → statement M
clears_at_spec = tie.close (tie.spec sum_at_requires sum_at_requires_2 clears_requires returns)
