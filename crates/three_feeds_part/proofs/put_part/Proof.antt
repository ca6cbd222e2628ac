-- Signals that do not rise, then the entry. Assumes nothing.
use mathlib.Core.Path.{◌≡◌}
use native.Mathlib.Omega.{arith}
use mir.Syntax.{w32}
use mir.Val.{to_z, of_z}
use mir.Facts.{to_z-of_z}
use borrow.Author.Rules.{rules}
use Rattle.three_feeds_part.specs.PartLaws.{first_crossed, second_crossed, settings_answered, gate_answered}
use Rattle.three_feeds_part.proofs.put_part.Statement.{statement}
use Rattle.three_feeds_part.proofs.put_part.Tie as tie

returns : tie.Need-returns-then-i-j
returns c = let a = c.args in first_crossed a.table a.i a.j a.k a.out.now (omega arith)

returns_2 : tie.Need-returns-then-j-k
returns_2 c = let a = c.args in second_crossed a.table a.i a.j a.k a.out.now (omega arith)

returns_3 : tie.Need-returns-in-NoGate
returns_3 c =
    let a = c.args in
    settings_answered a.table a.i a.j a.k a.out.now c.if-i-j.false c.if-j-k.false c.entry-found.ensures.0
    c.in-NoGate.is

returns_4 : tie.Need-returns-in-HasGate
returns_4 c =
    let done = c.put_in in
    let ok = c.in-HasGate.known_told-in-HasGate-1-own.given in
    let field = c.in-HasGate in
    let a = c.args in
    let p : to_z w32 (of_z w32 field.weight_0) ≡ field.weight_0 = to_z-of_z {w = w32} (record { sfits = ok.0.1 }) in
    let q : to_z w32 (of_z w32 field.weight_1) ≡ field.weight_1 = to_z-of_z {w = w32} (record { sfits = ok.1.0.1 }) in
    let r : to_z w32 (of_z w32 field.weight_2) ≡ field.weight_2 = to_z-of_z {w = w32} (record { sfits = ok.1.1.0.1 }) in
    let t : to_z w32 (of_z w32 field.threshold) ≡ field.threshold = to_z-of_z {w = w32} (record { sfits = ok.1.1.1.0.1 }) in
    gate_answered a.table a.i a.j a.k a.out.now c.if-i-j.false c.if-j-k.false c.entry-found.ensures.0
    c.in-HasGate.is (rw (p, q, r, t) at done.ensures.0) (rw (p, q, r, t) at done.ensures.1)

pub put_part_spec : {M : Type 1} → statement M
put_part_spec =
    tie.close
    (tie.spec
    returns
    returns_2
    (λ c κs. search rules)
    (λ c. search rules)
    (λ c. search rules)
    (λ c κs. search rules)
    returns_3
    (λ c. search rules)
    returns_4)
