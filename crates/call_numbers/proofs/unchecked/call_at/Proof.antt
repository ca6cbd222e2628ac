-- Each kind's call is the definition's; every kind that is not 0, 1, 2, 3 or 4 is an undo.
use borrow.Author.Rules.{rules}
use mathlib.Core.Path.{sym}
use Prim.Native.Nat.{◌+◌, ◌*◌}
use lib.ListN.{get_or}
use Rattle.call_numbers.specs.Numbers.{call_of}
use Rattle.call_numbers.specs.NumberLaws.{undo_call}
use Rattle.call_numbers.proofs.unchecked.call_at.Statement.{statement}
use Rattle.call_numbers.proofs.unchecked.call_at.Tie as tie

returns : tie.Need-returns-in-0
unfolding call_of
returns c = rw c.in-0.is

returns_2 : tie.Need-returns-in-1
unfolding call_of
returns_2 c = rw c.in-1.is

returns_3 : tie.Need-returns-in-2
unfolding call_of
returns_3 c = rw c.in-2.is

returns_4 : tie.Need-returns-in-3
unfolding call_of
returns_4 c = rw c.in-3.is

returns_5 : tie.Need-returns-in-4
unfolding call_of
returns_5 c = rw c.in-4.is

returns_6 : tie.Need-returns-in_default
returns_6 c =
    let a = c.args in
    let ns = a.numbers.now in
    let at = 5 * a.i in
    let k = c.in_default.in_default-own.rest in
    sym (undo_call (get_or ns at 0) (get_or ns (at + 1) 0) (get_or ns (at + 2) 0) (get_or ns (at + 3) 0) (get_or ns (at + 4) 0)
    k.0.0.0.0.1 k.0.0.0.1 k.0.0.1 k.0.1 k.1)

pub call_at_spec : {M : Type 1} → statement M
call_at_spec =
    tie.close
    (tie.spec
    (λ c. search rules)
    (λ c. search rules)
    (λ c. search rules)
    (λ c. search rules)
    (λ c. search rules)
    (λ c. search rules)
    (λ c. search rules)
    (λ c. search rules)
    (λ c. search rules)
    (λ c. search rules)
    (λ c. search rules)
    (λ c. search rules)
    (λ c. search rules)
    (λ c. search rules)
    (λ c. search rules)
    returns
    returns_2
    returns_3
    returns_4
    returns_5
    returns_6)
