-- The tables into which two networks are laid stand for the two. Assumes nothing.
use Rattle.std.specs.Prelude.{◌≡◌, refl, List, ℕ, ◌+◌, ℤ, get_or, length, replicate}
use Rattle.std.proofs.Common.{sym, subst}
use Rattle.network.specs.Record.{net_of}
use Rattle.network.specs.Places.{Pasted}
use Rattle.network.specs.declared.Network.{Network}
use Rattle.question_theory.specs.Question.{second_variable}
use Rattle.question_theory.proofs.AlikeLaws.{alike_inputs}
use Rattle.question_lines.specs.Lines.{Comparable}
use Rattle.compare_theory.specs.Tables.{joint_of}
use Rattle.compare_theory.specs.Wiring.{StandsFor}
use Rattle.compare_theory.specs.declared.Tables.{Tables}
use Rattle.compare_joint.specs.Rows.{Laid}
use Rattle.compare_joint.specs.LayingLaws.{joint_stands, outputs_put}

module _ (a b : Network) (pair : Comparable a b) where
  same_inputs : b.inputs ≡ a.inputs
  unfolding net_of
  same_inputs = sym (alike_inputs (net_of a) (net_of b) pair.same_counts)

  pub tables_stand : {w₀ w₁ : List (List ℕ)} {v₀ v₁ : List (List ℤ)} {outs : List ℕ} (t : Tables) → length w₀ ≡ 256 → length v₀ ≡ 256
      → Laid a 0 w₀ v₀ w₁ v₁ → Laid b a.gates w₁ v₁ t.wires t.weights → t.inputs ≡ a.inputs → t.gates ≡ a.gates + b.gates
      → Pasted 0 0 b.outputs (λ j. second_variable b.inputs a.gates (get_or b.drivers j 0)) (replicate 16 0) outs
      → StandsFor (net_of a) (net_of b) (joint_of t) outs
  tables_stand {w₀} {w₁} {v₀} {v₁} {outs} t long long_weights first second inputs gates put =
      let drivers = subst (λ (n : ℕ). Pasted 0 0 b.outputs (λ j. second_variable n a.gates (get_or b.drivers j 0)) (replicate 16 0) outs) same_inputs put in
      rw (inputs, gates) (joint_stands a b pair w₀ w₁ t.wires v₀ v₁ t.weights long long_weights first second outs (outputs_put a b pair refl drivers))
