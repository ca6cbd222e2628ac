-- The tests of two gates by their distinct feeds are those of the merge. Assumes nothing.
use Rattle.std.specs.Prelude.{◌≡◌, Bool, ◌&&◌, List, [], ◌∷◌, map, ℕ, ◌≤◌, T, leb, length}
use Rattle.std.proofs.Math.Path.{refl, ap, ap₂}
use Rattle.std.proofs.Common.{◌∙◌, arith, leb→le}
use Rattle.std.proofs.Math.Bool.{true, false, cond}
use Rattle.std.proofs.lemmas.List.{length-map}
use Rattle.basics.specs.Refusals.{Test, ◌else◌, Passed}
use Rattle.basics.specs.TestLaws.{T_and, and_T}
use Rattle.basics.specs.Lists.{all, keep, range}
use Rattle.basics.specs.ListLaws.{below_at, of_each, each_both, each_keep, kept, length_keep, length_range, each_range}
use Rattle.network.specs.Threshold.{Gate}
use Rattle.network.specs.Limits.{in_scale, weighs, weight_ok, scale_ok, keeps}
use Rattle.network.specs.Record.{gate_record}
use Rattle.fold_theory.specs.Merge.{Edge, distinct, merged, agrees, merge_keeps, on_dial, narrow}
use Rattle.fold_theory.specs.Pair.{qualifies}
use Rattle.fold_theory.specs.Aligned.{Aligned, aligned, edge_thresholds, mixed_threshold, mixed_weight, scale_fits}
use Rattle.pair_agreement.specs.GateLaws.{feed_count}
use Rattle.fold_theory.proofs.AlignedLaws.{EdgeOk, scale_ok_fits, agrees_all_lem}
use Rattle.fold_theory.proofs.PairLaws.{qualified_of, dial_of}
use Rattle.fold_theory.proofs.LimitLaws.{narrow_few}
use Rattle.pair_theory.specs.Alignments.{alignment_of, aligned_in, mixed_feed, merged_of, AlignmentOnScale, Searchable, Mergeable}
use Rattle.pair_theory.specs.declared.Alignment.{Alignment}
use Rattle.pair_theory.proofs.AlignmentLaws.{aligned_in_lem, merged_is, mergeable}
use Rattle.fold_edges.specs.Codes.{first_failing}
use Rattle.fold_edges.specs.CodeLaws.{code_passed}
use Rattle.fold_merge.specs.Codes.{merge_tests, setting_tests, limit_tests_on, merge_tests_on}

module _ (e : Edge) (ok : EdgeOk e) where
  -- 6, 24 and 15, where 7 does not apply
  fit_is : length (distinct e) ≤ 16 → (k l : ℕ)
      → (scale_fits (aligned_in (alignment_of e)) k l else 6) ∷ (keeps e.board (merged_of (alignment_of e) k l) else 24) ∷ setting_tests
      (aligned_in (alignment_of e)) k l
      ≡ (scale_ok (merged e k l) else 6) ∷ (merge_keeps e k l else 24) ∷ (agrees e k l else 15) ∷ []
  unfolding setting_tests merge_keeps
  fit_is few k l =
      ap₂ (λ (a : Aligned) (g : Gate). (scale_fits a k l else 6) ∷ (keeps e.board g else 24) ∷ setting_tests a k l) (aligned_in_lem e few) (merged_is e k l few)
      ∙ rw (scale_ok_fits e k l, agrees_all_lem e ok k l)

  -- what follows a test counts only where the test holds
  after_test : (b : Bool) (c : ℕ) {ts us : List Test} → (T b → ts ≡ us) → first_failing ((b else c) ∷ ts) ≡ first_failing ((b else c) ∷ us)
  unfolding first_failing
  after_test true c h = ap first_failing (h tt)
  after_test false c h = refl

  pub tests_on : (k l : ℕ) → first_failing (merge_tests_on (alignment_of e) k l) ≡ first_failing (merge_tests e k l)
  unfolding first_failing merge_tests_on limit_tests_on merge_tests narrow alignment_of aligned edge_thresholds
  tests_on k l = ap (λ (n : ℕ). cond (on_dial k && on_dial l) n 14)
      (after_test (leb (length (distinct e)) 16) 7 (λ t. fit_is (leb→le (length (distinct e)) 16 t) k l))

-- ---- where the tests before the settings hold
pub limits_hold : (a : Alignment) (k l : ℕ) → Passed (limit_tests_on a k l) → AlignmentOnScale a → Mergeable a k l
unfolding limit_tests_on
limits_hold a k l p f =
    let d = T_and (on_dial k) (on_dial l) p.0 in
    record {
      searchable = record { few = leb→le a.count 16 p.1.0; fair = f };
      dial = record { k_high = (dial_of k d.0).1; l_high = (dial_of l d.1).1 };
    }

pub limits_passed : (a : Alignment) (k l : ℕ) → first_failing (limit_tests_on a k l) ≡ 0 → Passed (limit_tests_on a k l)
unfolding limit_tests_on
limits_passed a k l e = code_passed (limit_tests_on a k l) (omega arith, (omega arith, (omega arith, (omega arith, tt)))) e

-- the merged gate of aligned gates is within the limits where the test of the scale says so
pub merged_scaled : (a : Alignment) (k l : ℕ) → Searchable a → T (scale_fits (aligned_in a) k l)
    → (length (merged_of a k l).feeds ≤ 16) × T (scale_ok (merged_of a k l))
unfolding merged_of mixed_feed scale_ok scale_fits weight_ok weighs aligned_in
merged_scaled a k l f t =
    let fs = map (mixed_feed a k l) (range 0 a.count) in
    let h = T_and (in_scale (mixed_threshold a.thresholds k l)) _ t in
    let sized = each_range (λ x. T (in_scale x.weight)) (mixed_feed a k l) 0 a.count λ i j n.
    below_at _ (λ i. in_scale (mixed_weight (aligned_in a) k l i)) h.1 i (omega (arith, feed_count a f)) in
    let few : length fs ≤ 16 = omega (arith, length-map (range 0 a.count) (mixed_feed a k l), length_range 0 a.count, f.few) in
    let both = each_both (λ x. T (in_scale x.weight)) (λ x. T (weighs x)) (keep weighs fs) (each_keep (λ x. T (in_scale x.weight)) weighs fs sized)
    (kept weighs fs) in (
      omega (arith, few, length_keep weighs fs),
      and_T (in_scale (mixed_threshold a.thresholds k l)) (all weight_ok (keep weighs fs)) h.0
          (of_each weight_ok (λ x. T (in_scale x.weight) × T (weighs x)) (λ x q. and_T (in_scale x.weight) (weighs x) q.0 q.1) (keep weighs fs) both),
    )

-- ---- the merged gate of k and l that qualify
module _ (e : Edge) (ok : EdgeOk e) (k l : ℕ) (t : T (narrow e)) where
  -- it can be made
  pub qualified_mergeable : T (qualifies e (record { k = k; l = l })) → Mergeable (alignment_of e) k l
  qualified_mergeable h =
      let q = qualified_of e (record { k = k; l = l }) h in
      mergeable e k l ok (narrow_few e t) (dial_of k q.k_dial).1 (dial_of l q.l_dial).1

  pub merged_of_is : gate_record (merged_of (alignment_of e) k l) ≡ gate_record (merged e k l)
  merged_of_is = ap gate_record (merged_is e k l (narrow_few e t))
