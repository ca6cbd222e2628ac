-- The sweep. Document 01, "Sweep with reader limit B". Nothing is proved here.
use Rattle.std.specs.Prelude.{[], ◌∷◌, ℕ, zero, suc, leb, length}
use Rattle.basics.specs.Lists.{keep}
use Rattle.basics.specs.Refusals.{Answer, accepted, refused, ◌else◌, checks}
use Rattle.network.specs.Threshold.{Net}
use Rattle.network.specs.Limits.{sound}
use Rattle.fold_theory.specs.Merge.{reads}
use Rattle.fold_theory.specs.Collapse.{collapse}

-- "A gate's readers are the gates that have its signal among their feeds": how many
unfoldable pub readers : Net → ℕ → ℕ
readers N u = length (keep (reads u) N.gates)

-- the first answer that is accepted
unfoldable pub or_else : {A : Type 0} → Answer A → Answer A → Answer A
or_else (accepted a) q = accepted a
or_else (refused c) q = q

-- "collapse the lowest gate that has at most B readers and that collapse accepts", of the n gates from u on
unfoldable pub sweep_from : Net → ℕ → ℕ → ℕ → Answer Net
sweep_from N B u zero = refused 0
sweep_from N B u (suc n) = or_else (checks ((leb (readers N u) B else 0) ∷ []) (collapse N u)) (sweep_from N B (suc u) n)

unfoldable pub sweep_once : Net → ℕ → Answer Net
sweep_once N B = sweep_from N B N.inputs (length N.gates)

-- a network, and the number of collapses that led to it
pub record Swept : Type 0 where
  pub net : Net
  pub collapses : ℕ

-- what follows an accepted answer, or else a
unfoldable pub go_on : {A : Type 0} → Answer Net → (Net → A) → A → A
go_on (accepted M) f a = f M
go_on (refused c) f a = a

-- "begin again; end when there is none": at most n times, after c collapses
unfoldable pub sweeping : ℕ → ℕ → Net → ℕ → Swept
sweeping zero B N c = record { net = N; collapses = c }
sweeping (suc n) B N c = go_on (sweep_once N B) (λ M. sweeping n B M (suc c)) (record { net = N; collapses = c })

-- order 20, 14: "B, 0 to 128"; every collapse takes a gate, so as many turns as gates are enough
unfoldable pub sweep : Net → ℕ → Answer Swept
sweep N B = checks ((sound N else 20) ∷ (leb B 128 else 14) ∷ []) (accepted (sweeping (length N.gates) B N 0))
