-- Line 0 is the header; a later line is made and then written.
use mathlib.Core.Path.{refl, sym, ap, ◌∙◌, subst}
use Prim.Native.Nat.{◌-◌, ◌<◌}
use native.Mathlib.Decide.{dec_lt}
use native.Mathlib.Omega.{arith}
use lib.ListN.{length}
use borrow.Author.Rules.{rules}
use Rattle.network.specs.Record.{net_of}
use Rattle.question_theory.specs.Question.{Line}
use Rattle.question_theory.specs.Text.{line_text}
use Rattle.question_theory.proofs.SizeLaws.{ShortLine}
use Rattle.question_lines.specs.Lines.{lines_of}
use Rattle.question_terms.specs.TermLaws.{stands_line, stands_count}
use Rattle.question_lines.specs.ComparableLaws.{small_counts, line_narrow, text_short, header_is, line_is}
use Rattle.texts.proofs.PutLaws.{put_text}
use Rattle.question_text.proofs.put_question.Statement.{statement}
use Rattle.question_text.proofs.put_question.Tie as tie

-- n is not 0
positive : (c : tie.Else-n-eq0) → 0 < c.args.n
positive c = elim (dec_lt 0 c.args.n) as (λ d. 0 < c.args.n) [ yes h ↦ h | no h ↦ absurd (c.if-n-eq0.false (omega arith)) ]

-- the line before it, counted from 0 after the header, is one of the lines
within : (c : tie.Else-n-eq0) → c.args.n - 1 < lines_of (net_of c.args.first) (net_of c.args.second)
within c = let h = positive c in omega (arith, c.requires.0.within)

line_count_requires : tie.Need-line_count-lines-requires
line_count_requires c κs = c.requires.0.pair

add_variables : tie.Need-overflow_add-variables
add_variables c = let s = small_counts c.requires.0.pair in record { fits = omega arith }

add_variables_2 : tie.Need-overflow_add-variables-then-n-eq0
add_variables_2 c = let s = small_counts c.requires.0.pair in record { fits = omega arith }

add_variables_3 : tie.Need-overflow_add-variables-then-n-eq0-2
add_variables_3 c = let s = small_counts c.requires.0.pair in record { fits = omega arith }

put_header_requires : tie.Need-put_header-requires
put_header_requires c κs =
    let pair = c.requires.0.pair in
    omega (
      arith,
      ap length (header_is pair c.if-n-eq0.true refl c.line_count-lines.ensures),
      text_short pair c.args.n c.requires.0.within,
      c.requires.1,
    )

returns : tie.Need-returns-then-n-eq0
returns c =
    put_text c.put_header.ensures
    (header_is c.requires.0.pair c.if-n-eq0.true refl c.line_count-lines.ensures)

sub_question_line : tie.Need-overflow_sub-n
sub_question_line c = positive c

question_line_requires : tie.Need-question_line-line-requires
question_line_requires c κs = (c.requires.0.pair, within c)

put_line_requires : tie.Need-put_line-requires
put_line_requires c κs = (
  record {
    few = omega (arith, c.question_line-line.ensures.few, stands_count c.question_line-line.ensures);
    narrow = subst (λ (l : Line). ShortLine l) (sym (stands_line c.question_line-line.ensures))
        (line_narrow c.requires.0.pair (c.args.n - 1) (within c.before.before));
  },
  c.requires.1,
)

returns_2 : tie.Need-returns
returns_2 c =
    let a = c.args in
    put_text c.put_line.ensures
    (ap line_text (stands_line c.question_line-line.ensures) ∙ line_is (net_of a.first) (net_of a.second) a.n (positive c.before.before.before.before.before))

pub put_question_spec : {M : Type 1} → statement M
put_question_spec =
    tie.close
    (tie.spec
    line_count_requires
    add_variables
    add_variables_2
    add_variables_3
    put_header_requires
    (λ c. search rules)
    returns
    sub_question_line
    question_line_requires
    put_line_requires
    (λ c. search rules)
    returns_2)
