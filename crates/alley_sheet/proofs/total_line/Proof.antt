-- The line stands at the front of 48 bytes. It is copied where it has room, and else no lent byte is touched.
use mathlib.Core.Path.{◌≡◌, sym, ap, ◌∙◌}
use mathlib.Core.List.{List, ◌++◌}
use Prim.Native.Nat.{ℕ, ◌≤◌}
use native.Mathlib.Omega.{arith}
use lib.ListN.{length, take, drop}
use lib.Seq.{take_at}
use borrow.Author.Rules.{rules}
use Rattle.texts.proofs.PutLaws.{put_text, put_length}
use Rattle.alley_theory.specs.Alley.{total_text}
use Rattle.alley_theory.specs.Answers.{sums, as_sheet_line}
use Rattle.alley_theory.proofs.AnswerLaws.{total_long, total_given}
use Rattle.alley_sheet.proofs.total_line.Statement.{statement}
use Rattle.alley_sheet.proofs.total_line.Tie as tie

abbrev text_in : tie.Start → List ℕ
text_in c = total_text (sums c.args.totals)

-- the line in the 48 bytes
text_is : (c : tie.After-put_total-length) → take c.put_total-length.result c.put_total-length.new.out ≡ text_in c.before.before.before
text_is c = let p = c.put_total-length.ensures.0 in ap (take c.put_total-length.result) p.bytes ∙ take_at _ _ _ p.long

within : (c : tie.After-put_total-length) → c.put_total-length.result ≤ length c.put_total-length.new.out
within c = omega (arith, put_length c.put_total-length.ensures.0 c.put_total-length.ensures.1, c.put_total-length.ensures.1)

returns : tie.Need-returns-then-out-length
unfolding as_sheet_line
returns c =
    let a = c.args in
    total_long a.totals a.out.now (omega (arith, c.put_total-length.ensures.0.long, c.if-out-length.true))

array_share_prefix_text : tie.Need-slice_bounds-text-end
array_share_prefix_text c = within c.before.before.before

slice_aggregate_put_bytes : tie.Need-slice_bounds-put_bytes-end
slice_aggregate_put_bytes c = let done = c.before.before.before.before in sym (ap length (text_is done) ∙ done.put_total-length.ensures.0.long)

put_bytes_requires : tie.Need-put_bytes-requires
put_bytes_requires c κs =
    let done = c.before.before.before.before in
    omega (arith, ap length (text_is done), done.put_total-length.ensures.0.long, c.if-out-length.false)

returns_2 : tie.Need-returns
unfolding as_sheet_line
returns_2 c =
    let done = c.before.before.before.before.before.before.before in
    let start = c.before.before.before.before.before.before.before.before.before.before in
    let a = start.args in
    let out = a.out.now in
    let long = done.put_total-length.ensures.0.long in
    let put = put_text c.put_bytes.ensures (text_is done) in
    let gives = total_given a.totals out (omega (arith, long, c.if-out-length.false)) in (
      ap (λ (n : ℕ). record { code = 0; length = n }) (sym long) ∙ gives.0,
      put.bytes ∙ ap (λ (n : ℕ). text_in start ++ drop n out) (sym put.long) ∙ gives.1,
    )

pub total_line_spec : {M : Type 1} → statement M
total_line_spec =
    tie.close
    (tie.spec
    (λ c. search rules)
    (λ c κs. search rules)
    returns
    array_share_prefix_text
    slice_aggregate_put_bytes
    put_bytes_requires
    (λ c. search rules)
    returns_2)
