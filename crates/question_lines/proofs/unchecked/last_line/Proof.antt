-- The loop's invariant: the line has the first j variables as its terms.
use mathlib.Core.Path.{◌≡◌, refl, ap}
use Prim.Native.Nat.{◌+◌, ◌-◌, ◌≤◌}
use native.Mathlib.Omega.{arith}
use borrow.Author.Rules.{rules}
use Rattle.question_theory.specs.Question.{last_line}
use Rattle.question_terms.specs.Terms.{RecordOfLine}
use Rattle.question_terms.specs.TermLaws.{stands_is, stands_extendable, stands_next}
use Rattle.question_lines.specs.LineLaws.{last_none, last_more, last_count}
use Rattle.question_lines.proofs.unchecked.last_line.Statement.{statement}
use Rattle.question_lines.proofs.unchecked.last_line.Tie as tie

abbrev invariant-loop : tie.invariant-loop-j
invariant-loop d count line₀ j₀ line j = (j ≤ count) × RecordOfLine line (last_line d j)

abbrev decreases-loop : tie.decreases-loop-j
decreases-loop d count line₀ j₀ line j = count - j

loop_holds : tie.Need-loop-j-init invariant-loop decreases-loop
loop_holds c = (omega arith, stands_is (last_none c.args.d) c.no_terms-line.ensures)

with_term_requires : tie.Need-with_term-line-requires invariant-loop decreases-loop
with_term_requires c κs = let l = c.loop-j in stands_extendable l.invariant.1 (omega (arith, last_count c.args.d l.j))

loop_again : tie.Need-loop-j-preserved invariant-loop decreases-loop
loop_again c =
    let l = c.loop-j in
    let d = c.args.d in
    let h = c.loop-j-test.true in
    (omega arith, stands_is (last_more d l.j) (stands_next (d + l.j) l.invariant.1 refl c.with_term-line.ensures))

returns : tie.Need-returns invariant-loop decreases-loop
returns c =
    let l = c.loop-j in
    let a = c.args in
    let e : l.j ≡ a.count = omega arith in
    stands_is (ap (last_line a.d) e) l.invariant.1

pub last_line_spec : {M : Type 1} → statement M
last_line_spec =
    tie.close
    (tie.spec
    invariant-loop
    decreases-loop
    (λ c κs. search rules)
    loop_holds
    (λ c. search rules)
    with_term_requires
    (λ c. search rules)
    (λ c. search rules)
    loop_again
    returns)
