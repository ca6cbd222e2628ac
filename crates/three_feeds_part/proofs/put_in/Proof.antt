-- The room is looked at first. Assumes nothing.
use mathlib.Core.Path.{◌≡◌, sym, ap, ◌∙◌, subst}
use mathlib.Core.List.{◌++◌}
use Prim.Native.Nat.{ℕ, ◌+◌, ◌*◌, ◌≤◌, ◌<◌}
use lib.ListN.{length, drop}
use mir.Facts.{to_z-of_z}
use borrow.Author.Rules.{rules}
use Rattle.network.specs.Threshold.{Gate}
use Rattle.network.specs.Record.{gate_in}
use Rattle.pmn_format.specs.Format.{gate_bytes}
use Rattle.three_feeds.specs.Rule.{gate_on_signals}
use Rattle.three_feeds_part.specs.PartLaws.{row_length, no_room, has_room}
use Rattle.three_feeds_part.proofs.put_in.Statement.{statement}
use Rattle.three_feeds_part.proofs.put_in.Tie as tie

-- the gate
abbrev gate_of : tie.After-gate_on-gate → Gate
gate_of c = let a = c.args in gate_on_signals a.i a.j a.k a.a a.b a.c a.threshold

made : (c : tie.After-gate_on-gate) → gate_in c.gate_on-gate.result ≡ gate_of c
made c =
    let f = c.ranges in
    rw (to_z-of_z f.a, to_z-of_z f.b, to_z-of_z f.c, to_z-of_z f.threshold) at c.gate_on-gate.ensures.0

-- how long its bytes are
length_is : (c : tie.After-gate_on-gate) → 5 + 5 * c.gate_on-gate.result.fanin ≡ length (gate_bytes (gate_of c))
length_is c = sym (row_length c.gate_on-gate.result) ∙ ap (λ (g : Gate). length (gate_bytes g)) (made c)

room_is : (c : tie.After-from) → 5 + 5 * c.from.result ≡ length (gate_bytes (gate_of c.before))
room_is c = ap (λ (n : ℕ). 5 + 5 * n) c.from.ensures ∙ length_is c.before

returns : tie.Need-returns-then-out-from
returns c =
    let out = c.args.out.now in
    no_room (gate_of c.before.before) out (subst (λ (n : ℕ). length out < n) (room_is c.before) c.if-out-from.true)

returns_2 : tie.Need-returns
returns_2 c =
    let done = c.put_gate in
    let gate = c.before.before.before.before.before.before in
    let out = gate.args.out.now in
    has_room (gate_of gate) out done.result done.new.out
    (subst (λ (n : ℕ). n ≤ length out) (room_is c.before.before.before.before.before) c.if-out-from.false)
    (done.ensures.0 ∙ length_is gate)
    (done.ensures.1 ∙ ap (λ (g : Gate). gate_bytes g ++ drop done.result out) (made gate))

pub put_in_spec : {M : Type 1} → statement M
put_in_spec =
    tie.close
    (tie.spec
    (λ c κs. search rules)
    (λ c κs. search rules)
    (λ c. search rules)
    (λ c. search rules)
    returns
    (λ c κs. search rules)
    (λ c. search rules)
    returns_2)
