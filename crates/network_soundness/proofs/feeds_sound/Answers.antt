-- Each turn tests the next feed. Assumes nothing.
use Rattle.std.proofs.Common.{rules, sym, ap, ◌∙◌, ◌≤◌, arith, length, to_z-of_z, SFits}
use Rattle.std.specs.Prelude.{Bool, ◌&&◌, pos}
use Rattle.std.specs.Int.{w32}
use Rattle.std.proofs.lemmas.List.{length_push}
use Rattle.std.proofs.lemmas.Slice.Zip.{zip_turn, zip_end}
use Rattle.basics.specs.TestLaws.{and_true}
use Rattle.network_soundness.proofs.SoundnessLaws.{feed_turn, feeds_end}
use Rattle.network_soundness.proofs.feeds_sound.Goals as goal

pub loop-signal-preserved : goal.loop-signal-preserved
loop-signal-preserved c =
    let l = c.loop-signal in
    let t = zip_turn c.args.signals.now c.args.weights.now l.yielded c.into_iter-signal-iterator.result l.signal-iterator c.next.new.self c.next.result
    (cc) (cc) l.yielded_by (c.in-Some.signal, c.in-Some.weight) c.in-Some.is c.next.ensures.steps in
    let fits : SFits w32 c.in-Some.weight.now = search rules in
    rw (length_push, c.weight_sound.ensures, to_z-of_z fits)
    (feed_turn c.args.signals.now c.args.weights.now c.args.own l.ok l.low (length l.yielded) c.from-s.result c.in-Some.weight.now t.0
    (c.from-s.ensures ∙ t.2 0) (t.3 (pos 0)) ∙ l.invariant)

pub returns : goal.returns
returns c =
    let l = c.loop-signal in
    let t = zip_end c.args.signals.now c.args.weights.now l.yielded c.into_iter-signal-iterator.result l.signal-iterator c.next.new.self c.next.result
    (cc) (cc) l.yielded_by c.in-None.is c.next.ensures.steps in
    let h : length c.args.signals.now ≤ length l.yielded = omega (arith, t, c.requires) in
    sym (and_true l.ok) ∙ ap (λ (b : Bool). l.ok && b) (sym (feeds_end c.args.signals.now c.args.weights.now c.args.own l.low (length l.yielded) h))
    ∙ l.invariant
