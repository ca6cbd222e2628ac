-- 20 for the journal and no setting, else the witness on the network. Assumes nothing.
use borrow.Author.Rules.{rules}
use mathlib.Core.Path.{refl, sym, subst}
use Prim.Native.Nat.{ℕ, ◌^◌}
use native.Mathlib.Omega.{arith}
use lib.ListN.{length}
use Rattle.network.specs.Record.{net_of}
use Rattle.fold_theory.specs.Merge.{edge, distinct, agrees_at}
use Rattle.fold_witness.specs.Witness.{Shows}
use Rattle.fold_witness.specs.declared.Witnessed.{Witnessed}
use Rattle.journal.specs.declared.Record.{Record}
use Rattle.journal_calls.specs.AnswerLaws.{merge_number_lem, broken_number}
use Rattle.journal_calls.proofs.witness.Statement.{statement}
use Rattle.journal_calls.proofs.witness.Tie as tie

-- the promise, by the merge's number
abbrev With : Record → ℕ → ℕ → ℕ → ℕ → Witnessed → ℕ → Type 0
With r u v k l w n = Shows n (2 ^ length (distinct (edge (net_of r.network) u v))) (agrees_at (edge (net_of r.network) u v) k l) w

returns : tie.Need-returns-then-count-gt64
returns c =
    let a = c.args in
    subst (With a.held a.u a.v a.k a.l (record { code = 20; setting = 0 }))
    (sym (broken_number a.held a.u a.v a.k a.l c.if-count-gt64.true))
    (record { number_is = refl; shown = λ q. absurd (omega (arith, q)); none = λ q. refl })

returns_2 : tie.Need-returns
returns_2 c =
    let a = c.args in
    subst (With a.held a.u a.v a.k a.l c.witness.result)
    (sym (merge_number_lem a.held a.u a.v a.k a.l c.if-count-gt64.false)) c.witness.ensures

pub witness_spec : {M : Type 1} → statement M
witness_spec = tie.close (tie.spec returns (λ c κs. search rules) returns_2)
