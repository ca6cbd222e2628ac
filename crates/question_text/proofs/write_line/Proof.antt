-- The text stands at the front of 254 bytes. It is copied where it has room, and else no lent byte is touched.
use mathlib.Core.Path.{◌≡◌, sym, ap, ◌∙◌}
use mathlib.Core.List.{List, ◌++◌}
use Prim.Native.Nat.{ℕ, ◌≤◌}
use native.Mathlib.Omega.{arith}
use lib.ListN.{length, take, drop}
use lib.Seq.{take_at}
use borrow.Author.Rules.{rules}
use Rattle.network.specs.Record.{net_of}
use Rattle.question_theory.specs.Text.{question_text}
use Rattle.question_text.specs.AnswerLaws.{refused_gives, accepted_gives, too_long, given}
use Rattle.question_lines.specs.ComparableLaws.{text_short}
use Rattle.texts.proofs.PutLaws.{put_text, put_length}
use Rattle.question_text.proofs.write_line.Statement.{statement}
use Rattle.question_text.proofs.write_line.Tie as tie

-- the line's text
abbrev text_of : tie.Start → List ℕ
text_of c = question_text (net_of c.args.first) (net_of c.args.second) c.args.n

-- the text in the 254 bytes
text_is : (c : tie.After-put_question-length) → take c.put_question-length.result c.put_question-length.new.out ≡ text_of c.before.before.before
text_is c = let p = c.put_question-length.ensures in ap (take c.put_question-length.result) p.bytes ∙ take_at _ _ _ p.long

within : (c : tie.After-put_question-length) → c.put_question-length.result ≤ length c.put_question-length.new.out
within c =
    let p = c.put_question-length.ensures in
    let h : c.put_question-length.result ≤ 254 = omega (arith, p.long, text_short c.requires.pair c.args.n c.requires.within) in
    omega (arith, put_length p h)

put_question_requires : tie.Need-put_question-length-requires
put_question_requires c κs = (c.requires, omega arith)

returns : tie.Need-returns-then-out-length
returns c =
    let a = c.args in
    let out = a.out.now in
    let h = c.if-out-length.true in
    let gives = refused_gives out (too_long a.first a.second a.n (length out) c.requires (omega (arith, c.put_question-length.ensures.long))) in
    (c.refusal.ensures ∙ gives.0, gives.1)

array_share_prefix_text : tie.Need-slice_bounds-text-end
array_share_prefix_text c = within c.before.before.before

slice_aggregate_put_bytes : tie.Need-slice_bounds-put_bytes-end
slice_aggregate_put_bytes c = let done = c.before.before.before.before in sym (ap length (text_is done) ∙ done.put_question-length.ensures.long)

put_bytes_requires : tie.Need-put_bytes-requires
put_bytes_requires c κs = let done = c.before.before.before.before in
    omega (arith, ap length (text_is done), done.put_question-length.ensures.long, c.if-out-length.false)

returns_2 : tie.Need-returns
returns_2 c =
    let done = c.before.before.before.before.before.before.before in
    let start = c.before.before.before.before.before.before.before.before.before.before in
    let a = start.args in
    let out = a.out.now in
    let text = text_of start in
    let long = done.put_question-length.ensures.long in
    let put = put_text c.put_bytes.ensures (text_is done) in
    let gives = accepted_gives text out
    (given a.first a.second a.n (length out) start.requires (omega (arith, long, c.if-out-length.false))) in (
      ap (λ (n : ℕ). record { code = 0; length = n }) (sym long) ∙ gives.0,
      put.bytes ∙ ap (λ (n : ℕ). text ++ drop n out) (sym put.long) ∙ gives.1,
    )

pub write_line_spec : {M : Type 1} → statement M
write_line_spec =
    tie.close
    (tie.spec
    (λ c. search rules)
    put_question_requires
    (λ c κs. search rules)
    returns
    array_share_prefix_text
    slice_aggregate_put_bytes
    put_bytes_requires
    (λ c. search rules)
    returns_2)
