-- The loop's invariant: the test of the numbers from here on is the test of all of them.
use borrow.Author.Rules.{rules}
use mathlib.Core.Path.{◌≡◌, refl, sym, ap, ◌∙◌}
use mathlib.Core.Bool.{Bool, ◌&&◌}
use Prim.Native.Nat.{◌+◌, ◌-◌, ◌≤◌, zero-le}
use native.Mathlib.Omega.{arith}
use borrow.Author.Tests.{le-leb, lt-leb}
use lib.ListN.{length, drop, get_or, length-drop, drop_of_length-le}
use Rattle.basics.specs.TestLaws.{and_false_left}
use Rattle.call_numbers.specs.Numbers.{well_formed}
use Rattle.call_numbers.specs.NumberLaws.{formed_short, formed_next}
use Rattle.call_numbers.proofs.is_well_formed.Statement.{statement}
use Rattle.call_numbers.proofs.is_well_formed.Tie as tie

abbrev invariant-loop : tie.invariant-loop-at
invariant-loop numbers at₀ at = (at ≤ length numbers) × (well_formed (drop at numbers) ≡ well_formed numbers)

abbrev decreases-loop : tie.decreases-loop-at
decreases-loop numbers at₀ at = length numbers - at

loop_holds : tie.Need-loop-at-init invariant-loop decreases-loop
loop_holds c = (zero-le, refl)

returns : tie.Need-returns-then-numbers-at-lt5 invariant-loop decreases-loop
returns c =
    let l = c.loop-at in
    let ns = c.args.numbers.now in
    let e = length-drop l.at ns in
    sym (sym l.invariant.1 ∙ formed_short (drop l.at ns) (omega arith) (omega arith))

returns_2 : tie.Need-returns-then-numbers-at-gt5 invariant-loop decreases-loop
returns_2 c =
    let l = c.loop-at in
    let ns = c.args.numbers.now in
    sym (sym l.invariant.1 ∙ formed_next ns l.at (omega arith) ∙ and_false_left _ _ (lt-leb (get_or ns l.at 0) 5 c.if-numbers-at-gt5.true))

loop_again : tie.Need-loop-at-preserved invariant-loop decreases-loop
loop_again c =
    let l = c.loop-at in
    let ns = c.args.numbers.now in
    let kind = le-leb (get_or ns l.at 0) 5 c.if-numbers-at-gt5.false in
    (omega arith, sym (formed_next ns l.at (omega arith) ∙ ap (λ (b : Bool). b && well_formed (drop (l.at + 5) ns)) kind) ∙ l.invariant.1)

returns_3 : tie.Need-returns invariant-loop decreases-loop
unfolding well_formed
returns_3 c =
    let l = c.loop-at in
    let ns = c.args.numbers.now in
    sym (ap well_formed (drop_of_length-le ns {i = l.at} c.loop-at-test.false)) ∙ l.invariant.1

pub is_well_formed_spec : {M : Type 1} → statement M
is_well_formed_spec =
    tie.close
    (tie.spec
    invariant-loop
    decreases-loop
    loop_holds
    (λ c. search rules)
    returns
    (λ c. search rules)
    (λ c. search rules)
    returns_2
    (λ c. search rules)
    (λ c. search rules)
    loop_again
    returns_3)
