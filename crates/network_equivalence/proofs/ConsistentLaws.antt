-- On each frame exactly one assignment fits a network, so two networks of which one simulates the other have the same output bits on
-- every frame. Assumes nothing.
use Rattle.std.specs.Prelude.{◌≡◌, refl, Bool, true, false, cond, List, [], ◌∷◌, map, ◌≢◌, ℕ, zero, suc, ◌+◌, ◌-◌, ◌<◌, T, eqb, length, get_or}
use Rattle.std.proofs.Common.{sym, ap, ◌∙◌, subst, arith, eqb→eq}
use Rattle.std.proofs.Math.Path.{fun_ext}
use Rattle.std.proofs.Math.Decide.{dec_lt}
use Rattle.std.proofs.Math.Dec.{eqb_refl}
use Rattle.std.specs.Int.Signed.{le_z}
use Rattle.std.proofs.lemmas.List.{length-map}
use Rattle.basics.specs.TestLaws.{is_true, eqb_no}
use Rattle.basics.specs.Lists.{Each}
use Rattle.basics.specs.ListLaws.{each_imp}
use Rattle.network.specs.Threshold.{Feed, Gate, Net, Assignment, sum, bit, assign, run, values, output_bits}
use Rattle.network.specs.Limits.{signals_of}
use Rattle.network.specs.Changes.{gate_at, with_gates}
use Rattle.network.specs.Sound.{GatesOk, Has, Sound}
use Rattle.network.specs.LimitLaws.{rise_below}
use Rattle.network_equivalence.specs.Consistent.{BitsFrom, Fits, Agree, Ordered, WellFormed, Carried, Simulates}

-- ---- a gate's bit depends only on the bits of its feeds
sum_local : (ρ σ : Assignment) (fs : List Feed) → Agree ρ σ (signals_of fs) → sum ρ fs ≡ sum σ fs
unfolding sum signals_of
sum_local ρ σ [] h = refl
sum_local ρ σ (f ∷ fs) h = rw (h.0, sum_local ρ σ fs h.1)

pub bit_local : (ρ σ : Assignment) (g : Gate) → Agree ρ σ (signals_of g.feeds) → bit ρ g ≡ bit σ g
unfolding bit
bit_local ρ σ g h = ap (le_z g.threshold) (sum_local ρ σ g.feeds h)

bit_below : (ρ σ : Assignment) (n : ℕ) (g : Gate) → Each (λ s. s < n) (signals_of g.feeds) → ((s : ℕ) → s < n → ρ s ≡ σ s) → bit ρ g ≡ bit σ g
bit_below ρ σ n g h e = bit_local ρ σ g (each_imp (λ s. s < n) (λ s. ρ s ≡ σ s) e (signals_of g.feeds) h)

pub map_same : (ρ σ : Assignment) (ss : List ℕ) → Agree ρ σ ss → map ρ ss ≡ map σ ss
map_same ρ σ [] e = refl
map_same ρ σ (s ∷ ss) e = rw (e.0, map_same ρ σ ss e.1)

-- ---- an assignment with one bit put in
pub assign_same : (ρ : Assignment) (n : ℕ) (b : Bool) → assign ρ n b n ≡ b
unfolding assign
assign_same ρ n b = rw (is_true (eqb n n) (eqb_refl n))

pub assign_other : (ρ : Assignment) (n : ℕ) (b : Bool) (s : ℕ) → s ≢ n → assign ρ n b s ≡ ρ s
unfolding assign
assign_other ρ n b s h = rw (eqb_no s n h)

-- the bit at a where x is a, or else b, is the bit at x, if b is
pub choice_own : (ρ : Assignment) (a x : ℕ) (b : Bool) → b ≡ ρ x → cond (eqb x a) (ρ a) b ≡ ρ x
choice_own ρ a x b e = elim (eqb x a) as (λ t. (T t → x ≡ a) → cond t (ρ a) b ≡ ρ x) [ true ↦ λ k. ap ρ (sym (k tt)) | false ↦ λ k. e ] (eqb→eq x a)

pub assign_own : (ρ : Assignment) (n : ℕ) → assign ρ n (ρ n) ≡ ρ
unfolding assign
assign_own ρ n = fun_ext λ s. choice_own ρ n s (ρ s) refl

-- ---- the assignment that the gates compute fits, and with its inputs no other does
run_below : (n : ℕ) (gs : List Gate) (ρ : Assignment) (s : ℕ) → s < n → run n gs ρ s ≡ ρ s
unfolding run
run_below n [] ρ s h = refl
run_below n (g ∷ gs) ρ s h = run_below (suc n) gs (assign ρ n (bit ρ g)) s (omega arith) ∙ assign_other ρ n (bit ρ g) s (omega arith)

run_fits : (n : ℕ) (gs : List Gate) (ρ : Assignment) → Ordered n gs → BitsFrom (run n gs ρ) n (map (bit (run n gs ρ)) gs)
unfolding run
run_fits n [] ρ o = tt
run_fits n (g ∷ gs) ρ o = (
  run_below (suc n) gs σ n (omega arith) ∙ assign_same ρ n (bit ρ g) ∙ bit_below ρ (run (suc n) gs σ) n g o.0 (λ s h. sym (run_below n (g ∷ gs) ρ s h)),
  run_fits (suc n) gs σ o.1,
)
  where
    σ : Assignment
    σ = assign ρ n (bit ρ g)

pub fits_one : (n : ℕ) (gs : List Gate) (ρ σ : Assignment) → Ordered n gs → BitsFrom ρ n (map (bit ρ) gs) → BitsFrom σ n (map (bit σ) gs)
    → ((s : ℕ) → s < n → ρ s ≡ σ s) → (s : ℕ) → s < n + length gs → ρ s ≡ σ s
fits_one n [] ρ σ o p q e s h = e s (omega arith)
fits_one n (g ∷ gs) ρ σ o p q e s h = fits_one (suc n) gs ρ σ o.1 p.1 q.1 (λ r k. next r (dec_lt r n) k) s (omega arith)
  where
    next : (r : ℕ) → Dec (r < n) → r < suc n → ρ r ≡ σ r
    next r (yes k) j = e r k
    next r (no k) j = rw (let x : r ≡ n = omega arith in x) (p.0 ∙ bit_below ρ σ n g o.0 e ∙ sym q.0)

pub values_fit : (N : Net) (ρ : Assignment) → WellFormed N → Fits (values N ρ) N
unfolding values
values_fit N ρ g = run_fits N.inputs N.gates ρ g.ordered

pub values_inputs : (N : Net) (ρ : Assignment) (s : ℕ) → s < N.inputs → values N ρ s ≡ ρ s
unfolding values
values_inputs N ρ s h = run_below N.inputs N.gates ρ s h

-- two assignments that fit one network and share its inputs have the same outputs
pub outputs_one : (N : Net) (ρ σ : Assignment) → WellFormed N → Fits ρ N → Fits σ N
    → ((s : ℕ) → s < N.inputs → ρ s ≡ σ s) → map ρ N.outputs ≡ map σ N.outputs
outputs_one N ρ σ g p q e = map_same ρ σ N.outputs (each_imp (λ s. s < N.inputs + length N.gates) (λ s. ρ s ≡ σ s)
    (fits_one N.inputs N.gates ρ σ g.ordered p q e) N.outputs g.within)

-- ---- a fitting assignment has each gate's bit at its signal
vals_at : (ρ : Assignment) (n i : ℕ) (gs : List Gate) (d : Gate) → BitsFrom ρ n (map (bit ρ) gs) → i < length gs → ρ (n + i) ≡ bit ρ (get_or gs i d)
vals_at ρ n i [] d v h = absurd (omega arith)
vals_at ρ n zero (g ∷ gs) d v h = ap ρ (omega arith) ∙ v.0
vals_at ρ n (suc i) (g ∷ gs) d v h = ap ρ (let e : n + suc i ≡ suc n + i = omega arith in e) ∙ vals_at ρ (suc n) i gs d v.1 (omega arith)

pub own_bit : (N : Net) (u : ℕ) (ρ : Assignment) → Has N u → Fits ρ N → ρ u ≡ bit ρ (gate_at N u)
unfolding gate_at
own_bit N u ρ g h = ap ρ (let e : u ≡ N.inputs + (u - N.inputs) = omega arith in e) ∙ vals_at ρ N.inputs (u - N.inputs) N.gates _ h (omega arith)

-- ---- a sound network is good
gates_ordered : (n : ℕ) (gs : List Gate) → GatesOk n gs → Ordered n gs
gates_ordered n [] h = tt
gates_ordered n (g ∷ gs) h = (rise_below 0 n (signals_of g.feeds) h.0.rise, gates_ordered (suc n) gs h.1)

pub sound_good : (N : Net) → Sound N → WellFormed N
sound_good N s = record {
  ordered = gates_ordered N.inputs N.gates s.all_gates;
  within = each_imp (Has N) (λ s. s < N.inputs + length N.gates) (λ s h. h.1) N.outputs s.all_outputs;
}

-- ---- simulation: a network simulates itself, simulations follow one another, and outputs are kept
pub sim_refl : (N : Net) → Simulates N N
sim_refl N = record { same_inputs = refl; carry = λ ρ h. record { assignment = ρ; fits = h; at_inputs = λ s k. refl; at_outputs = refl } }

pub sim_trans : {N M L : Net} → Simulates N M → Simulates M L → Simulates N L
sim_trans p q = record {
  same_inputs = p.same_inputs ∙ q.same_inputs;
  carry = λ ρ h.
      let a = p.carry ρ h in
      let b = q.carry a.assignment a.fits in
      record {
        assignment = b.assignment;
        fits = b.fits;
        at_inputs = λ s k. b.at_inputs s k ∙ a.at_inputs s (omega (arith, q.same_inputs));
        at_outputs = b.at_outputs ∙ a.at_outputs;
      };
}

pub sim_outputs : (N M : Net) → WellFormed N → WellFormed M → Simulates N M → (ρ : Assignment) → output_bits M ρ ≡ output_bits N ρ
unfolding output_bits
sim_outputs N M g k c ρ = outputs_one M (values M ρ) a.assignment k (values_fit M ρ k) a.fits
    (λ s h. values_inputs M ρ s h ∙ sym (a.at_inputs s h ∙ values_inputs N ρ s (omega (arith, c.same_inputs)))) ∙ a.at_outputs
  where
    a : Carried N M (values N ρ)
    a = c.carry (values N ρ) (values_fit N ρ g)

-- where the output bits are the same, there are as many outputs
pub outputs_many : (N M : Net) (ρ : Assignment) → output_bits M ρ ≡ output_bits N ρ → length M.outputs ≡ length N.outputs
unfolding output_bits
outputs_many N M ρ e = sym (length-map M.outputs (values M ρ)) ∙ ap length e ∙ length-map N.outputs (values N ρ)

-- gates replaced by gates that have the same bits under every fitting assignment
pub replaced : (N : Net) (gs : List Gate) → ((ρ : Assignment) → Fits ρ N → map (bit ρ) gs ≡ map (bit ρ) N.gates)
    → Simulates N (with_gates N gs)
replaced N gs e = record {
  same_inputs = refl;
  carry = λ ρ h.
      record { assignment = ρ; fits = subst (BitsFrom ρ N.inputs) (sym (e ρ h)) h; at_inputs = λ s k. refl; at_outputs = refl };
}
