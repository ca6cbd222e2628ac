-- The tests are those of the answer, in their order.
use mathlib.Core.Path.{◌≡◌, sym, ap, ◌∙◌}
use mathlib.Core.Bool.{Bool, true, ◌&&◌}
use native.Mathlib.Omega.{arith}
use lib.ListN.{length}
use borrow.Author.Rules.{rules}
use borrow.Author.Tests.{not-true, not-false}
use Rattle.basics.specs.TestLaws.{and_left, and_right}
use Rattle.network.specs.Record.{sound_record}
use Rattle.question_lines.specs.Lines.{Comparable}
use Rattle.question_text.specs.AnswerLaws.{refused_gives, broken, unlike, no_such_line}
use Rattle.question_text.proofs.line.Statement.{statement}
use Rattle.question_text.proofs.line.Tie as tie

-- the test of both records
both : (c : tie.After-is_sound-2) → c.is_sound.result && c.is_sound-2.result ≡ sound_record c.args.first
    && sound_record c.args.second
both c =
    ap (λ (b : Bool). b && c.is_sound-2.result) c.is_sound.ensures
    ∙ ap (λ (b : Bool). sound_record c.args.first && b) c.is_sound-2.ensures

sound : (c : tie.Else-not-is_sound) → sound_record c.args.first && sound_record c.args.second ≡ true
sound c = sym (both c.before) ∙ not-false _ c.if-not-is_sound.false-raw

-- both records are sound, and their counts are equal
comparable : (c : tie.Else-not-are_alike)
    → Comparable c.args.first c.args.second
comparable c = let a = c.before.before.before.before.before.before.args in let s = sound c.before.before in record {
  first_sound = and_left (sound_record a.first) (sound_record a.second) s;
  second_sound = and_right (sound_record a.first) (sound_record a.second) s;
  same_counts = sym c.are_alike.ensures ∙ not-false _ c.if-not-are_alike.false-raw;
}

returns : tie.Need-returns-then-not-is_sound
returns c =
    let tested = c.before.before in
    let a = tested.args in
    let out = a.out.now in
    let gives = refused_gives out (broken a.first a.second a.n (length out) (sym (both tested) ∙ not-true _ c.if-not-is_sound.true-raw)) in
    (c.refusal.ensures ∙ gives.0, gives.1)

returns_2 : tie.Need-returns-then-not-are_alike
returns_2 c =
    let a = c.args in
    let out = a.out.now in
    let gives = refused_gives out
    (unlike a.first a.second a.n (length out) (sound c.before.before.before) (sym c.are_alike.ensures ∙ not-true _ c.if-not-are_alike.true-raw)) in
    (c.refusal-then-not-are_alike.ensures ∙ gives.0, gives.1)

line_count_requires : tie.Need-line_count-requires
line_count_requires c κs = comparable c

returns_3 : tie.Need-returns-then-line_count-n
returns_3 c =
    let a = c.args in
    let out = a.out.now in
    let h = c.if-line_count-n.true in
    let gives = refused_gives out
    (no_such_line a.first a.second a.n (length out) (comparable c.before.before.before) (omega (arith, c.line_count.ensures))) in
    (c.refusal-then-line_count-n.ensures ∙ gives.0, gives.1)

write_line_requires : tie.Need-write_line-requires
write_line_requires c κs =
    let h = c.if-line_count-n.false in
    record { pair = comparable c.before.before.before; within = omega (arith, c.line_count.ensures) }

returns_4 : tie.Need-returns
returns_4 c = c.write_line.ensures

pub line_spec : {M : Type 1} → statement M
line_spec =
    tie.close
    (tie.spec
    (λ c κs. search rules)
    (λ c κs. search rules)
    (λ c κs. search rules)
    returns
    (λ c κs. search rules)
    (λ c κs. search rules)
    returns_2
    line_count_requires
    (λ c κs. search rules)
    returns_3
    write_line_requires
    (λ c. search rules)
    returns_4)
