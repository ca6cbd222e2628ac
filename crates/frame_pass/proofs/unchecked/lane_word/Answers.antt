-- A mask is below 0 where its bit is on, and the word of at most 16 outputs fits.
use Rattle.std.proofs.Common.{◌≡◌, ◌+◌, ◌-◌, sym, ap, ◌∙◌, to_z, of_z, ◌*◌, get_or, pos, arith, rules, w32, SFits, to_z-of_z}
use Rattle.std.specs.Int.Signed.{lt_z}
use Rattle.basics.specs.TestLaws.{byte_below}
use Rattle.frame_reading.proofs.OutputLaws.{word_none, word_next, word_fits}
use Rattle.frame_reading.specs.Evaluation.{bits_in}
use Rattle.frame_lanes.specs.Lanes.{lane}
use Rattle.frame_lanes.specs.MaskLaws.{on_sign}
use Rattle.frame_lanes.specs.LaneLaws.{lane_bit}
use Rattle.frame_pass.proofs.unchecked.lane_word.Goals as goal

pub loop-j-init : goal.loop-j-init
loop-j-init c = word_none _ _ _

pub overflow_mul-word : goal.overflow_mul-word
overflow_mul-word c = omega (arith, word_fits c.loop-j.invariant c.requires.0)

pub overflow_add-word : goal.overflow_add-word
overflow_add-word c = omega (arith, word_fits c.loop-j.invariant c.requires.0, byte_below)

pub loop-j-preserved : goal.loop-j-preserved
loop-j-preserved c =
    let a = c.args in
    let signal = c.from.result in
    let mask = get_or a.masks.now (64 * signal + a.f) (pos 0) in
    let fits : SFits w32 mask = search rules in
    let on : lt_z (to_z w32 (of_z w32 mask)) (pos 0) ≡ bits_in (lane a.masks.now a.f) (get_or a.drivers.now (c.loop-j.j - 1) 0)
    = rw (to_z-of_z fits) (on_sign mask ∙ sym (lane_bit a.masks.now a.f signal (omega arith)) ∙ ap (bits_in (lane a.masks.now a.f)) c.from.ensures) in
    rw (c.from-in-loop-j.ensures, on) (word_next c.loop-j.invariant (omega arith))
