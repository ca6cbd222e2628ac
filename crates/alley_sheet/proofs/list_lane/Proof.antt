-- Test by test, as the definition has it; then the lane found is listed.
use mathlib.Core.Path.{◌≡◌, sym, ap, ◌∙◌}
use mathlib.Core.Bool.{true}
use borrow.Author.Rules.{rules}
use borrow.Author.Tests.{not-true, not-false}
use lib.ListN.{length}
use Rattle.basics.specs.Refusals.{Answer, stored}
use Rattle.alley_theory.specs.Alley.{Size}
use Rattle.alley_theory.specs.Answers.{LaneStep, sound_totals, listed, room_tested, as_listed, text_of}
use Rattle.alley_theory.proofs.AnswerLaws.{refused_gives, idle_gives, unsound, shut, none_found, lane_found}
use Rattle.alley_sheet.proofs.list_lane.Statement.{statement}
use Rattle.alley_sheet.proofs.list_lane.Tie as tie

returns : tie.Need-returns-then-not-is_sound
returns c =
    let a = c.args in
    let gives =
    refused_gives a.totals a.out.now
    (unsound a.totals a.last a.bytes.now (length a.out.now) (sym c.is_sound.ensures ∙ not-true _ c.if-not-is_sound.true-raw)) in
    (c.none_listed.ensures ∙ gives.0, gives.1)

-- past the first test the totals are sound
sound : (c : tie.Else-not-is_sound) → sound_totals c.args.totals ≡ true
sound c = sym c.is_sound.ensures ∙ not-false _ c.if-not-is_sound.false-raw

returns_2 : tie.Need-returns-then-totals-ge65535
returns_2 c =
    let at_else = c.before.before.before in
    let a = at_else.args in
    let gives =
    idle_gives a.totals a.out.now (shut a.totals a.last a.bytes.now (length a.out.now) (sound at_else) c.if-totals-ge65535.true) in
    (c.none_listed-then-totals-ge65535.ensures ∙ gives.0, gives.1)

returns_3 : tie.Need-returns-then-taken-eq0
returns_3 c =
    let at_else = c.before.before.before.before.before in
    let a = at_else.args in
    let gives = idle_gives a.totals a.out.now
    (none_found a.totals a.last a.bytes.now (length a.out.now) (sound at_else) c.if-totals-ge65535.false c.find_lane-found.result
    c.find_lane-found.ensures c.if-taken-eq0.true) in
    (c.none_listed-then-taken-eq0.ensures ∙ gives.0, gives.1)

lane_entry_requires : tie.Need-lane_entry-entry-requires
lane_entry_requires c κs = c.find_lane-found.ensures.inside

write_lane_requires : tie.Need-write_lane-requires
write_lane_requires c κs =
    (record { sound = sound c.before.before.before.before.before.before; room = c.if-totals-ge65535.false }, c.lane_entry-entry.ensures.listable)

returns_4 : tie.Need-returns
returns_4 c =
    let at_else = c.before.before.before.before.before.before.before.before.before in
    let a = at_else.args in
    let room = length a.out.now in
    let f = c.find_lane-found.result in
    let e = ap (λ (x : Answer Size). room_tested room (listed a.totals f.taken x)) c.lane_entry-entry.ensures.is
    ∙ sym (lane_found a.totals a.last a.bytes.now room (sound at_else) c.if-totals-ge65535.false f c.find_lane-found.ensures
    c.if-taken-eq0.false) in (
      c.write_lane.ensures.0 ∙ ap (as_listed a.totals) e,
      c.write_lane.ensures.1 ∙ ap (λ (x : Answer LaneStep). stored (text_of x) a.out.now) e,
    )

pub list_lane_spec : {M : Type 1} → statement M
list_lane_spec =
    tie.close
    (tie.spec
    (λ c κs. search rules)
    (λ c κs. search rules)
    returns
    (λ c κs. search rules)
    returns_2
    (λ c κs. search rules)
    (λ c κs. search rules)
    returns_3
    lane_entry_requires
    write_lane_requires
    (λ c. search rules)
    returns_4)
