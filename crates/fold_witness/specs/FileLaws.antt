-- What the call on a whole file answers, by the call that it makes on the record of an accepted file. Assumes nothing.
use Rattle.std.specs.Prelude.{◌≡◌, refl, List, [], ◌∷◌, ℕ, ◌^◌, ◌≤◌, length, get_or, drop, set}
use Rattle.std.proofs.Common.{sym, ◌∙◌, subst, arith}
use Rattle.std.proofs.Math.Path.{ap}
use Rattle.basics.specs.Refusals.{Answer, accepted, refused, code_of}
use Rattle.network.specs.Threshold.{Net}
use Rattle.network.specs.Record.{net_of}
use Rattle.network.specs.RecordLaws.{net_of_layout}
use Rattle.network.specs.declared.Network.{Network}
use Rattle.fold_theory.specs.Merge.{edge, distinct, agrees_at, merge}
use Rattle.pmn_opening.specs.Files.{open_net}
use Rattle.pmn_opening.specs.Opening.{FileOpen}
use Rattle.pmn_opening.specs.OpeningLaws.{open_net_lem}
use Rattle.fold_merge.specs.Answers.{merge_code}
use Rattle.fold_merge.specs.AnswerLaws.{on_layout}
use Rattle.fold_witness.specs.declared.Witnessed.{Witnessed}
use Rattle.pair_witness.specs.Fewest.{Fewest}
use Rattle.fold_witness.specs.Witness.{WitnessOf}
use Rattle.fold_witness.specs.Files.{WitnessLeft}

-- the file's refusal, or 18
pub left_refused : (a : Answer Net) (u v k l : ℕ) (lent : List ℕ) {c : ℕ} → c ≡ code_of a → (c ≡ 0 → ⊥) → WitnessLeft a u v k l lent lent c
unfolding code_of
left_refused (accepted N) u v k l lent e h = absurd (h e)
left_refused (refused j) u v k l lent e h = (e, refl)

module _ {file : List ℕ} {r : Network} (u v k l : ℕ) (lent : List ℕ) (f : FileOpen file (length lent) 1 r) {w : Witnessed} (s : WitnessOf r u v k l w) where
  abbrev N : Net
  N = f.net

  -- the number is that of the merge on the network
  number_read : w.code ≡ code_of (merge N u v k l)
  unfolding merge_code
  number_read =
      s.number_is
      ∙ ap (λ (x : Network). merge_code x u v k l) f.laid
      ∙ ap code_of (on_layout N f.sound (λ M. merge M u v k l))

  net_is : net_of r ≡ N
  net_is = ap net_of f.laid ∙ net_of_layout N f.sound

  -- none: everything as it was
  pub left_none : (w.code ≡ 15 → ⊥) → WitnessLeft (open_net file (length lent) 1) u v k l lent lent w.code
  left_none other = subst (λ (a : Answer Net). WitnessLeft a u v k l lent lent w.code) (sym (open_net_lem f))
      (record { number_is = number_read; kept = λ q. refl; put = λ q. absurd (other q); shown = λ q. absurd (other q) })

  -- 15: the setting in place 0
  pub left_shown : (after : List ℕ) → after ≡ w.setting ∷ drop 1 lent → w.code ≡ 15 → WitnessLeft (open_net file (length lent) 1) u v k l lent after w.code
  left_shown after e c =
      let front : get_or after 0 0 ≡ w.setting = ap (λ (xs : List ℕ). get_or xs 0 0) e in
      subst (λ (a : Answer Net). WitnessLeft a u v k l lent after w.code) (sym (open_net_lem f)) (record {
        number_is = number_read;
        kept = λ q. absurd (q c);
        put = λ q. e ∙ ap (λ (x : ℕ). x ∷ drop 1 lent) (sym front);
        shown = λ q. subst (λ (x : ℕ). Fewest (2 ^ length (distinct (edge N u v))) (agrees_at (edge N u v) k l) x) (sym front)
            (subst (λ (M : Net). Fewest (2 ^ length (distinct (edge M u v))) (agrees_at (edge M u v) k l) w.setting) net_is (s.shown c));
      })

-- a number put into place 0
pub put_first : (lent : List ℕ) (x : ℕ) → 1 ≤ length lent → set lent 0 x ≡ x ∷ drop 1 lent
put_first [] x h = absurd (omega arith)
put_first (y ∷ ys) x h = refl
