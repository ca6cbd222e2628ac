-- Laws of the pairs as they are found, gate by gate. Assumes nothing.
use Rattle.std.specs.Prelude.{◌≡◌, true, List, ℕ, ◌+◌, ◌-◌, ◌≤◌, ◌<◌, T, length, get_or, set, replicate}
use Rattle.std.proofs.Common.{sym, ap, ◌∙◌, subst, arith}
use Rattle.std.proofs.Math.Decide.{dec_lt}
use Rattle.std.proofs.Math.ListN.{length-set, length-replicate, get_or-replicate, get_or-eq_default}
use Rattle.std.proofs.Math.Seq.{get_or-set_same, get_or-set_other}
use Rattle.basics.specs.TestLaws.{T_is}
use Rattle.basics.specs.Refusals.{accepted}
use Rattle.network.specs.Threshold.{Gate}
use Rattle.network.specs.Sound.{HasSignal}
use Rattle.network.specs.Record.{gate_of}
use Rattle.network.specs.declared.Network.{Network}
use Rattle.network.specs.declared.Board.{Board}
use Rattle.fold_theory.specs.Merge.{edge_of, reads}
use Rattle.fold_edges.specs.Edges.{edge_at, ReadsIn}
use Rattle.fold_theory.specs.Pair.{Pair}
use Rattle.fold_reader_pairs.specs.Collapsing.{edge_to, no_pair, reader_pair}

-- ---- gates u and g of a record
module _ (r : Network) (u g : ℕ) where
  -- by g's signal, and by its number
  pub edge_number : edge_at r u (r.inputs + g) ≡ edge_to r.board (gate_of r) r.inputs u g
  edge_number =
      ap (λ (i : ℕ). edge_of r.board u (r.inputs + g) (gate_of r (u - r.inputs)) (gate_of r i)) (let e : r.inputs + g - r.inputs ≡ g = omega arith in e)

  pub joined_number : HasSignal r.inputs r.gates u → g < r.gates → reads u (gate_of r g) ≡ true → ReadsIn r u (r.inputs + g)
  joined_number w h t = record {
    u_gate = w;
    v_gate = (omega arith, omega arith);
    joined = subst (λ (i : ℕ). T (reads u (gate_of r i))) (let e : g ≡ r.inputs + g - r.inputs = omega arith in e) (T_is (reads u (gate_of r g)) t);
  }

-- ---- the pairs found so far: those of the gates below g stand in two arrays, and 0 after them
pub record Found (board : Board) (gate : ℕ → Gate) (inputs u g : ℕ) (ks ls : List ℕ) : Type 0 where
  long_ks : length ks ≡ 128
  long_ls : length ls ≡ 128
  pub spare : (i : ℕ) → g ≤ i → ◌≡◌ {A = Pair} (record { k = get_or ks i 0; l = get_or ls i 0 }) no_pair
  pub each : (i : ℕ) → i < g → reader_pair (edge_to board gate inputs u i) ≡ accepted (record { k = get_or ks i 0; l = get_or ls i 0 })

pub found_none : (board : Board) (gate : ℕ → Gate) (inputs u : ℕ) → Found board gate inputs u 0 (replicate 128 0) (replicate 128 0)
found_none board gate inputs u = record {
  long_ks = length-replicate {A = ℕ} 128 0;
  long_ls = length-replicate {A = ℕ} 128 0;
  spare = λ i h. λ x. record { k = zero_at i x; l = zero_at i x };
  each = λ i h. absurd (omega arith);
}
  where
    zero_at : (i : ℕ) → ◌≡◌ {A = ℕ} (get_or (replicate 128 0) i 0) 0
    zero_at i = elim (dec_lt i 128) as (λ d. ◌≡◌ {A = ℕ} (get_or (replicate 128 0) i 0) 0) [
      | yes k ↦ get_or-replicate {A = ℕ} 128 i 0 0 k
      | no k ↦ get_or-eq_default {A = ℕ} (replicate 128 0) 0 {n = i} (omega (arith, length-replicate {A = ℕ} 128 0))
    ]

module _ {board : Board} {gate : ℕ → Gate} {inputs u g : ℕ} {ks ls : List ℕ} (f : Found board gate inputs u g ks ls) where
  pub found_more : (k l : ℕ) → g < 128 → reader_pair (edge_to board gate inputs u g) ≡ accepted (record { k = k; l = l })
      → Found board gate inputs u (g + 1) (set ks g k) (set ls g l)
  found_more k l h q = record {
    long_ks = length-set ks g k ∙ f.long_ks;
    long_ls = length-set ls g l ∙ f.long_ls;
    spare = λ i b. (λ x. record {
      k = get_or-set_other ks g i k 0 (λ e. omega arith) x;
      l = get_or-set_other ls g i l 0 (λ e. omega arith) x;
    }) ∙ f.spare i (omega arith);
    each = λ i b. elim (dec_lt i g) as
        (λ t. reader_pair (edge_to board gate inputs u i) ≡ accepted (record { k = get_or (set ks g k) i 0; l = get_or (set ls g l) i 0 })) [
          | yes j ↦ f.each i j ∙ ap accepted (λ x. record {
            k = sym (get_or-set_other ks g i k 0 (λ e. omega arith)) x;
            l = sym (get_or-set_other ls g i l 0 (λ e. omega arith)) x;
          })
          | no j ↦ let e : i ≡ g = omega arith in rw e (q ∙ ap accepted (λ x. record {
            k = sym (get_or-set_same ks g k 0 (omega (arith, f.long_ks))) x;
            l = sym (get_or-set_same ls g l 0 (omega (arith, f.long_ls))) x;
          }))
        ];
  }
