-- The outputs, read one after another: what the loop keeps, from its start to its end. Assumes nothing.
use mathlib.Core.Path.{◌≡◌, refl, sym, ap, ◌∙◌}
use mathlib.Core.Bool.{true, false}
use mathlib.Core.List.{List, []}
use Prim.Native.Nat.{ℕ, ◌+◌, ◌-◌, ◌<◌}
use native.Mathlib.Nat.{sub-zero}
use native.Mathlib.Omega.{arith}
use lib.ListN.{length, take, set, length-set}
use Rattle.std.proofs.lemmas.List.{take_more_set, take_all}
use Rattle.network.specs.Limits.{gate_signal}
use Rattle.pmn_format.specs.Format.{refused, done, byte_then, parse_outputs}
use Rattle.pmn_format.proofs.TurnLaws.{outputs_short, outputs_more, outputs_ended}

-- after j of count outputs: they stand in the first places, and the others are read from the bytes that are left
pub record OutputsSoFar (bytes : List ℕ) (inputs gates count : ℕ) (drivers : List ℕ) (j : ℕ) (left : List ℕ) : Type 0 where
  pub long : length drivers ≡ count
  pub rest : parse_outputs inputs gates count [] bytes ≡ parse_outputs inputs gates (count - j) (take j drivers) left

pub outputs_start : (bytes : List ℕ) (inputs gates : ℕ) (drivers : List ℕ) → OutputsSoFar bytes inputs gates (length drivers) drivers 0 bytes
outputs_start bytes inputs gates drivers = record {
  long = refl;
  rest = ap (λ (k : ℕ). parse_outputs inputs gates k [] bytes) (sym (sub-zero (length drivers)));
}

module _ {bytes : List ℕ} {inputs gates count : ℕ} {drivers : List ℕ} {j : ℕ} {left : List ℕ} (h : OutputsSoFar bytes inputs gates count drivers j left) where
  pub outputs_cut : {k : ℕ} → j < count → refused k ≡ byte_then left done → refused k ≡ parse_outputs inputs gates count [] bytes
  outputs_cut l e = sym (h.rest ∙ outputs_short inputs gates count j (take j drivers) left l (sym e))

  pub outputs_stray : {x : ℕ} {m : List ℕ} → j < count → done x m ≡ byte_then left done → gate_signal inputs gates x ≡ false
      → refused 8 ≡ parse_outputs inputs gates count [] bytes
  outputs_stray l e f = sym (h.rest ∙ outputs_more inputs gates count j (take j drivers) left l (sym e) f)

  pub outputs_got : {x : ℕ} {m : List ℕ} → j < count → done x m ≡ byte_then left done → gate_signal inputs gates x ≡ true
      → OutputsSoFar bytes inputs gates count (set drivers j x) (j + 1) m
  outputs_got {x} {m} l e f = record {
    long = simp length-set h.long;
    rest = h.rest ∙ outputs_more inputs gates count j (take j drivers) left l (sym e) f
        ∙ ap (λ (os : List ℕ). parse_outputs inputs gates (count - (j + 1)) os m) (sym (take_more_set drivers j x (omega (arith, h.long))));
  }

  pub outputs_end : j ≡ count → done drivers left ≡ parse_outputs inputs gates count [] bytes
  outputs_end e = sym (h.rest ∙ outputs_ended inputs gates count j (take j drivers) left (omega arith) ∙ ap (λ (os : List ℕ). done os left) (take_all j drivers (omega (arith, h.long))))
