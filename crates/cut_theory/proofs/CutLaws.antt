-- What the cut keeps, and that folding and cutting may change places. Assumes nothing.
use Rattle.std.specs.Prelude.{◌≡◌, Bool, true, false, ℕ, ◌+◌, ◌^◌, ◌≤◌, ◌<◌, ltb, length, get_or}
use Rattle.std.proofs.Math.Path.{refl, ap}
use Rattle.std.proofs.Common.{sym, ◌∙◌, subst, le-ltb, ltb→lt, lt→ltb}
use mathlib.Core.List.{List, [], ◌∷◌}
use native.Mathlib.Omega.{arith}
use Rattle.basics.specs.ListLaws.{each_get_or}
use Rattle.basics.specs.TableLaws.{get_d_map}
use Rattle.basics.specs.Refusals.{accepted, refused, ◌else◌, checks}
use Rattle.basics.specs.TestLaws.{is_true}
use Rattle.basics.specs.RefusalLaws.{accepted_inj, checks_accepted, passed_checks}
use Rattle.network.specs.Threshold.{Net, Assignment, values, frame, output_bits}
use Rattle.network.specs.Limits.{sound}
use Rattle.network.specs.Sound.{Has, Sound}
use Rattle.network.specs.LimitLaws.{has_of, of_sound}
use Rattle.network_equivalence.proofs.ConsistentLaws.{sound_good, sim_outputs, outputs_many}
use Rattle.call_theory.specs.Steps.{just_opened}
use Rattle.call_theory.specs.Calls.{calls}
use Rattle.call_theory.proofs.TraceLaws.{Traced}
use Rattle.call_theory.proofs.GuaranteeLaws.{opened_traced, calls_traced, traced_agree}
use Rattle.call_theory.specs.declared.Call.{Call}
use Rattle.cut_theory.specs.Cut.{InCut, named, cut_by, cut_marks, cut_net, cut}
use Rattle.cut_theory.proofs.BelongLaws.{belongs_exact}
use Rattle.cut_theory.proofs.PickLaws.{up_to_all}
use Rattle.cut_theory.proofs.RemoveLaws.{alone, cut_all, long_marks, alone_sound, cut_sound, cut_sim}
use Rattle.cut_theory.proofs.NeedLaws.{cut_needed}
use Rattle.cut_theory.proofs.OrderLaws.{in_order}
use Rattle.cut_theory.specs.Claims.{CutOut}

-- ---- refusals
pub named_has : (N : Net) (j : ℕ) → Sound N → j < length N.outputs → Has N (named N j)
unfolding named
named_has N j s h = each_get_or (Has N) N.outputs 0 s.all_outputs j h

pub cut_accepts : (N : Net) (j : ℕ) → Sound N → j < length N.outputs → cut N j ≡ accepted (cut_net N (named N j))
unfolding cut
cut_accepts N j s h = passed_checks ((sound N else 20) ∷ (ltb j (length N.outputs) else 8) ∷ []) _
    (of_sound N s, (lt→ltb j (length N.outputs) h, tt))

-- an output that the network lacks
pub cut_stray : (N : Net) (j : ℕ) → Sound N → length N.outputs ≤ j → cut N j ≡ refused 8
unfolding cut checks
cut_stray N j s h = rw (is_true (sound N) (of_sound N s), le-ltb j (length N.outputs) h)

-- what an accepted cut says
cut_accepted : (N : Net) (j : ℕ) (M : Net) → cut N j ≡ accepted M → (j < length N.outputs) × (cut_net N (named N j) ≡ M)
unfolding cut
cut_accepted N j M e =
    let a = checks_accepted ((sound N else 20) ∷ (ltb j (length N.outputs) else 8) ∷ []) _ e in
    (ltb→lt j (length N.outputs) a.0.1.0, accepted_inj a.1)

-- ---- the bit

-- the one bit of a network with one output
alone_bit : (N : Net) (d : ℕ) (ρ : Assignment) → output_bits (alone N d) ρ ≡ values N ρ d ∷ []
unfolding alone output_bits values
alone_bit N d ρ = refl

named_bit : (N : Net) (j : ℕ) (ρ : Assignment) → j < length N.outputs → get_or (output_bits N ρ) j false ≡ values N ρ (named N j)
unfolding output_bits named
named_bit N j ρ h = get_d_map (values N ρ) N.outputs j 0 false h

cut_bit : (N : Net) (j : ℕ) → Sound N → j < length N.outputs → (ρ : Assignment)
    → output_bits (cut_net N (named N j)) ρ ≡ get_or (output_bits N ρ) j false ∷ []
cut_bit N j s h ρ =
    let d = named N j in
    let g = named_has N j s h in
    sim_outputs (alone N d) (cut_net N d) (sound_good (alone N d) (alone_sound N d s g)) (sound_good (cut_net N d) (cut_sound N d s g)) (cut_sim N d s g) ρ
    ∙ alone_bit N d ρ ∙ ap (λ (b : Bool). b ∷ []) (sym (named_bit N j ρ h))

-- ---- the cut of a network whose gates are all needed
module _ (M : Net) (d : ℕ) (s : Sound M) (gate : Has M d) (needed : (v : ℕ) → Has M v → InCut M d v) where
  all_marked : (g : ℕ) → g < length M.gates → get_or (cut_marks M d) g false ≡ true
  all_marked g h = is_true (get_or (cut_marks M d) g false) ((belongs_exact M d s gate g h).1 (needed (M.inputs + g) (omega arith)))

  cut_whole : cut_net M d ≡ alone M d
  unfolding cut_net
  cut_whole = ap (λ (ms : List Bool). cut_by M ms d) (sym (up_to_all (length M.gates) (cut_marks M d) all_marked))
      ∙ cut_all M (cut_marks M d) d (long_marks M d s gate)

-- ---- all that an accepted cut keeps
module _ (N : Net) (j : ℕ) (s : Sound N) (h : j < length N.outputs) where
  abbrev M : Net
  M = cut_net N (named N j)

  by_marks : M ≡ cut_by N (cut_marks N (named N j)) (named N j)
  unfolding cut_net
  by_marks = refl

  board_kept : M.board ≡ N.board
  unfolding cut_net cut_by
  board_kept = refl

  inputs_kept : M.inputs ≡ N.inputs
  unfolding cut_net cut_by
  inputs_kept = refl

  one_output : alone M (named M 0) ≡ M
  unfolding alone named cut_net cut_by
  one_output = refl

  has_output : 0 < length M.outputs
  unfolding cut_net cut_by
  has_output = omega arith

  cut_out : CutOut N j (cut_net N (named N j))
  cut_out =
      let g = named_has N j s h in
      let s' = cut_sound N (named N j) s g in
      let needed = cut_needed N (named N j) s g in
      record {
        marked = belongs_exact N (named N j) s g;
        network = by_marks;
        keeps_order = in_order N (named N j) s g;
        sound_after = of_sound M s';
        same_board = board_kept;
        same_inputs = inputs_kept;
        same_bit = λ n k. cut_bit N j s h (frame n);
        all_needed = λ v t. needed v (has_of M v t);
        again = cut_accepts M 0 s' has_output ∙ ap accepted (cut_whole M (named M 0) s' (named_has M 0 s' has_output) needed ∙ one_output);
      }

-- ---- folding and cutting

-- what any list of calls leaves, from a sound network just read
after_calls : (N : Net) (cs : List Call) → Sound N → Traced N (calls (just_opened N) cs)
after_calls N cs s = calls_traced N (just_opened N) cs (opened_traced N s)

module _ (N : Net) (j : ℕ) (s : Sound N) where
  -- what an accepted cut is
  pub cut_only : (M : Net) → cut N j ≡ accepted M → (j < length N.outputs) × CutOut N j M
  cut_only M e = let a = cut_accepted N j M e in (a.0, subst (CutOut N j) a.1 (cut_out N j s a.0))

  -- N folded by the calls cs since its read and then cut to L, or cut to M and then folded by the calls ds
  pub either_order : (cs ds : List Call) (M : Net) → cut N j ≡ accepted M →
      (L : Net) × (cut (calls (just_opened N) cs).net j ≡ accepted L)
      × ((n : ℕ) → n < 2 ^ N.inputs → output_bits L (frame n) ≡ output_bits (calls (just_opened M) ds).net (frame n))
  either_order cs ds M e =
      let a = cut_accepted N j M e in
      let h = a.0 in
      let folded = (calls (just_opened N) cs).net in
      let t = after_calls N cs s in
      let s' = t.kept.sound in
      let same : (ρ : Assignment) → output_bits folded ρ ≡ output_bits N ρ = traced_agree N (calls (just_opened N) cs) s t in
      let many = outputs_many N folded (frame 0) (same (frame 0)) in
      let h' : j < length folded.outputs = omega (arith, many) in
      let sM = subst Sound a.1 (cut_sound N (named N j) s (named_has N j s h)) in (
        cut_net folded (named folded j),
        cut_accepts folded j s' h',
        λ n k. cut_bit folded j s' h' (frame n) ∙ ap (λ (bs : List Bool). get_or bs j false ∷ []) (same (frame n)) ∙ sym (cut_bit N j s h (frame n))
            ∙ ap (λ (L : Net). output_bits L (frame n)) a.1 ∙ sym (traced_agree M (calls (just_opened M) ds) sM (after_calls M ds sM) (frame n)),
      )
