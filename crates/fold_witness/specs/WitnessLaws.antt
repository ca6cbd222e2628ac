-- Laws of what an answer shows: none with a number other than 15, a setting with 15, and the same said of the two gates. Assumes nothing.
use Rattle.std.specs.Prelude.{◌≡◌, Bool, [], ◌∷◌, ℕ, ◌^◌, length}
use Rattle.std.proofs.Math.Path.{refl, fun_ext}
use Rattle.std.proofs.Common.{sym, ap, ◌∙◌, subst, leb→le}
use native.Mathlib.Omega.{arith}
use Rattle.basics.specs.Refusals.{◌else◌}
use Rattle.basics.specs.ListLaws.{below_no}
use Rattle.fold_theory.specs.Merge.{Edge, distinct, agrees_at}
use Rattle.fold_theory.specs.Aligned.{Aligned, agrees_on, clears_on}
use Rattle.fold_theory.proofs.AlignedLaws.{EdgeOk, agrees_at_on}
use Rattle.pair_theory.specs.Alignments.{alignment_of, aligned_in, Searchable}
use Rattle.pair_theory.proofs.AlignmentLaws.{aligned_in_lem}
use Rattle.pair_theory.specs.declared.Alignment.{Alignment}
use Rattle.pair_agreement.specs.Agreement.{plainly}
use Rattle.pair_agreement.specs.GateLaws.{every_setting, plain_on, plain_all}
use Rattle.pair_witness.specs.declared.Unclear.{Unclear}
use Rattle.pair_witness.specs.declared.Unclear.TheVariants.{At, Nowhere}
use Rattle.pair_witness.specs.Fewest.{Fewest}
use Rattle.pair_witness.specs.Pass.{FewestUnclear}
use Rattle.fold_edges.specs.Codes.{first_failing}
use Rattle.fold_edges.specs.CodeLaws.{code_after, code_before, code_never, passed_before}
use Rattle.fold_merge.specs.Codes.{setting_tests, limit_tests_on, merge_tests_on, merge_tests}
use Rattle.fold_merge.specs.AlignedLaws.{tests_on, limits_passed}
use Rattle.fold_witness.specs.declared.Witnessed.{Witnessed}
use Rattle.fold_witness.specs.Witness.{Shows}
use Rattle.fold_witness.specs.Parts.{no_witness, as_witness, FewestOn, DiffersOn, WitnessOfAlignment}

-- none, with a number other than 15
pub none_shows : (number n : ℕ) (agree : ℕ → Bool) → (number ≡ 15 → ⊥) → {w : Witnessed} → w ≡ no_witness number → Shows number n agree w
none_shows number n agree h {w} e =
    subst (Shows number n agree) (sym e) (unfold no_witness in record { number_is = refl; shown = λ q. absurd (h q); none = λ q. refl })

-- what a pass over the settings found
pub found_shows : (a : Alignment) → Searchable a → (k l : ℕ) (x : Unclear) → FewestUnclear (2 ^ a.count) (clears_on (aligned_in a) k l) x
    → {w : Witnessed} → w ≡ as_witness x → FewestOn a k l w
unfolding first_failing FewestUnclear as_witness
found_shows a f k l (At s) h e = subst (FewestOn a k l) (sym e) (record {
  number_is = rw (every_setting a f k l ∙ below_no (2 ^ a.count) (clears_on (aligned_in a) k l) s h.inside h.differs);
  shown = λ q. h;
  none = λ q. absurd (q refl);
})
found_shows a f k l Nowhere h e =
    rw (every_setting a f k l ∙ h) (none_shows 0 (2 ^ a.count) (clears_on (aligned_in a) k l) (λ (q : 0 ≡ 15). absurd (omega arith)) e)

-- without margins, what is not clear differs
pub plain_differs : (a : Alignment) (k l : ℕ) {w : Witnessed} → FewestOn (plainly a) k l w → DiffersOn a k l w
unfolding setting_tests plainly
plain_differs a k l {w} h =
    let n = 2 ^ a.count in
    let test = clears_on (aligned_in (plainly a)) k l in
    let number = first_failing (setting_tests (aligned_in a) k l) in
    subst (λ (p : ℕ → Bool). Shows number n p w) (fun_ext (plain_on a k l))
    (subst (λ (b : Bool). Shows (first_failing ((b else 15) ∷ [])) n test w) (plain_all a k l) h)

-- ---- with the tests before the settings
module _ (a : Alignment) (k l : ℕ) {w : Witnessed} where
  -- 14, 7, 6 or 24
  pub limited : (n : ℕ) → n ≡ first_failing (limit_tests_on a k l) → (n ≡ 0 → ⊥) → w ≡ no_witness n → WitnessOfAlignment a k l w
  unfolding merge_tests_on limit_tests_on
  limited n same other h =
      let number = code_before (limit_tests_on a k l) (setting_tests (aligned_in a) k l) (λ z. other (same ∙ z)) in
      let never = code_never 15 (limit_tests_on a k l) (omega arith, (omega arith, (omega arith, (omega arith, tt)))) (λ (q : 15 ≡ 0). absurd (omega arith)) in
      rw (number, ← same) (none_shows n (2 ^ a.count) (agrees_on (aligned_in a) k l) (λ q. never (sym same ∙ q)) h)

  -- none of them
  pub unlimited : first_failing (limit_tests_on a k l) ≡ 0 → DiffersOn a k l w → WitnessOfAlignment a k l w
  unfolding merge_tests_on
  unlimited e h = rw (code_after (limit_tests_on a k l) (setting_tests (aligned_in a) k l) (limits_passed a k l e)) h

-- ---- what the aligned gates show is what the two gates show
pub aligned_shows : (e : Edge) → EdgeOk e → (k l : ℕ) {w : Witnessed} → WitnessOfAlignment (alignment_of e) k l w
    → Shows (first_failing (merge_tests e k l)) (2 ^ length (distinct e)) (agrees_at e k l) w
unfolding merge_tests_on limit_tests_on alignment_of
aligned_shows e ok k l {w} h = record {
  number_is = h.number_is ∙ tests_on e ok k l;
  shown = λ q.
      let tests = limit_tests_on (alignment_of e) k l in
      let others = setting_tests (aligned_in (alignment_of e)) k l in
      let passed = passed_before 15 tests others (omega arith, (omega arith, (omega arith, (omega arith, tt)))) (sym h.number_is ∙ q) in
      let few = leb→le (length (distinct e)) 16 passed.1.0 in
      let agree = ap (λ (a : Aligned). agrees_on a k l) (aligned_in_lem e few) ∙ sym (fun_ext (agrees_at_on e ok k l)) in
      subst (λ (p : ℕ → Bool). Fewest (2 ^ length (distinct e)) p w.setting) agree (h.shown q);
  none = h.none;
}
