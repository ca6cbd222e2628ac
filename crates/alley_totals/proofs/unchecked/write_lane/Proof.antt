-- The line stands at the front of 21 bytes. It is copied where it has room, and else no lent byte is touched.
use mathlib.Core.Path.{◌≡◌, refl, sym, ap, ◌∙◌}
use mathlib.Core.List.{List, ◌++◌}
use Prim.Native.Nat.{ℕ, ◌+◌, ◌≤◌}
use native.Mathlib.Omega.{arith}
use lib.ListN.{length, take, drop}
use lib.Seq.{take_at}
use borrow.Author.Rules.{rules}
use Rattle.basics.specs.Refusals.{accepted}
use Rattle.texts.proofs.PutLaws.{put_text, put_length}
use Rattle.alley_theory.specs.Alley.{lane_text}
use Rattle.alley_theory.specs.Answers.{LaneStep, as_entry, with_entry, listed, as_listed}
use Rattle.alley_theory.specs.Writes.{entry_in}
use Rattle.alley_theory.proofs.AnswerLaws.{refused_gives, accepted_gives, too_long, has_room}
use Rattle.alley_theory.proofs.EntryLaws.{listable_fair}
use Rattle.alley_theory.proofs.TextLaws.{lane_short}
use Rattle.alley_theory.specs.declared.Entry.{Entry}
use Rattle.alley_theory.specs.declared.Totals.{Totals}
use Rattle.alley_totals.proofs.unchecked.write_lane.Statement.{statement}
use Rattle.alley_totals.proofs.unchecked.write_lane.Tie as tie

-- the lane's step, and its line
abbrev step_of : tie.Start → LaneStep
step_of c = listed c.args.totals c.args.taken (entry_in c.args.entry)

abbrev text_in : tie.Start → List ℕ
text_in c = lane_text (c.args.totals.lanes + 1) (entry_in c.args.entry)

step_text : (c : tie.Start) → (step_of c).text ≡ text_in c
unfolding listed
step_text c = refl

-- the line in the 21 bytes
text_is : (c : tie.After-put_lane-length) → take c.put_lane-length.result c.put_lane-length.new.out ≡ text_in c.before.before.before.before
text_is c = let p = c.put_lane-length.ensures in ap (take c.put_lane-length.result) p.bytes ∙ take_at _ _ _ p.long

within : (c : tie.After-put_lane-length) → c.put_lane-length.result ≤ length c.put_lane-length.new.out
within c =
    let p = c.put_lane-length.ensures in
    let a = c.args in
    let h : c.put_lane-length.result ≤ 21 =
    omega (
      arith,
      p.long,
      lane_short (a.totals.lanes + 1) (omega (arith, c.requires.0.room)) (entry_in a.entry) (listable_fair a.entry c.requires.1),
    ) in
    omega (arith, put_length p h)

returns : tie.Need-returns-then-out-length
returns c =
    let start = c.before.before.before.before.before.before.before in
    let a = start.args in
    let out = a.out.now in
    let gives =
    refused_gives a.totals out
    (too_long (length out) (step_of start) (omega (arith, c.put_lane-length.ensures.long, ap length (step_text start), c.if-out-length.true))) in
    (c.none_listed.ensures ∙ gives.0, gives.1)

array_share_prefix_text : tie.Need-slice_bounds-text-end
array_share_prefix_text c = within c.before.before.before

slice_aggregate_put_bytes : tie.Need-slice_bounds-put_bytes-end
slice_aggregate_put_bytes c = let done = c.before.before.before.before in sym (ap length (text_is done) ∙ done.put_lane-length.ensures.long)

put_bytes_requires : tie.Need-put_bytes-requires
put_bytes_requires c κs =
    let done = c.before.before.before.before in
    omega (arith, ap length (text_is done), done.put_lane-length.ensures.long, c.if-out-length.false)

with_entry_requires : tie.Need-with_entry-after-requires
with_entry_requires c κs =
    (c.requires.0, c.requires.1)

-- what is answered of a line of so many bytes
answer : (t : Totals) (n : ℕ) (e : Entry) (k : ℕ) (after : Totals) → as_entry (entry_in e) ≡ e → length (lane_text (t.lanes + 1) (entry_in e)) ≡ k
    → after ≡ with_entry t (entry_in e)
    → record { code = 0; taken = n; length = k; entry = e; totals = after } ≡ as_listed t (accepted (listed t n (entry_in e)))
unfolding as_listed listed
answer t n e k after same long d =
    ap (λ (x : Totals). record { code = 0; taken = n; length = k; entry = e; totals = x }) d
    ∙ ap (λ (j : ℕ). record { code = 0; taken = n; length = j; entry = e; totals = with_entry t (entry_in e) }) (sym long)
    ∙ ap (λ (x : Entry).
    record { code = 0; taken = n; length = length (lane_text (t.lanes + 1) (entry_in e)); entry = x; totals = with_entry t (entry_in e) }) (sym same)

returns_2 : tie.Need-returns
returns_2 c =
    let done = c.before.before.before.before.before.before.before.before in
    let start = c.before.before.before.before.before.before.before.before.before.before.before.before in
    let a = start.args in
    let out = a.out.now in
    let text = text_in start in
    let long = done.put_lane-length.ensures.long in
    let put = put_text c.put_bytes.ensures (text_is done) in
    let gives =
    accepted_gives a.totals out
    (has_room (length out) (step_of start) (omega (arith, long, ap length (step_text start), c.if-out-length.false))) in (
      answer a.totals a.taken a.entry done.put_lane-length.result c.with_entry-after.result start.requires.1.same long c.with_entry-after.ensures ∙ gives.0,
      put.bytes ∙ ap (λ (n : ℕ). text ++ drop n out) (sym put.long) ∙ ap (λ (l : List ℕ). l ++ drop (length l) out) (sym (step_text start)) ∙ gives.1,
    )

pub write_lane_spec : {M : Type 1} → statement M
write_lane_spec =
    tie.close
    (tie.spec
    (λ c. search rules)
    (λ c. search rules)
    (λ c κs. search rules)
    (λ c κs. search rules)
    returns
    array_share_prefix_text
    slice_aggregate_put_bytes
    put_bytes_requires
    with_entry_requires
    (λ c. search rules)
    returns_2)
