-- 0 without feeds, else one more than the highest level among them, which is no higher than the number of gates before. Assumes nothing.
use Rattle.std.proofs.Common.{◌≡◌, sym, ap, ◌∙◌, [], suc, ◌+◌, ◌-◌, ◌*◌, arith, add-one, take, drop}
use Rattle.network.specs.Record.{gate_from}
use Rattle.network.specs.PlaceLaws.{length_part, feeds_part}
use Rattle.network_levels.specs.Levels.{gate_level}
use Rattle.network_levels.specs.Arrays.{levels_in}
use Rattle.network_levels.proofs.LevelLaws.{most_under, above_none, above_some}
use Rattle.network_levels.proofs.unchecked.gate_level.Goals as goal

pub returns-then-count-eq0 : goal.returns-then-count-eq0
unfolding gate_level gate_from
returns-then-count-eq0 c =
    let r = c.args.network.now in
    sym (above_none (levels_in c.args.levels.now) r.signals r.weights (16 * c.args.g) _ (omega (arith, c.from-count.ensures)))

pub overflow_add-result : goal.overflow_add-result
overflow_add-result c =
    let h = most_under _ c.args.g (c.highest_level-most.ensures []) c.requires.by_index in
    let k = c.requires.g_bound in
    omega arith

pub returns : goal.returns
unfolding gate_level gate_from
returns c =
    let r = c.args.network.now in
    let b = 16 * c.args.g in
    let n = c.from-count.result in
    let k = b + n - b in
    let level_of = levels_in c.args.levels.now in
    let same : k ≡ n = omega arith in
    let long = length_part r.signals b n k (omega arith) same in
    let e = rw (long, feeds_part r.signals r.weights b n k same) at (c.highest_level-most.ensures (take k (drop b r.weights))) in
    add-one _ ∙ ap suc (rw c.from-count.ensures at e) ∙ sym (above_some level_of r.signals r.weights b _ (omega (arith, c.from-count.ensures)))
