-- What the calls answer, test by test. Assumes nothing.
use Rattle.std.specs.Prelude.{◌≡◌, Bool, true, false, List, ◌++◌, ℕ, ◌≤◌, ◌<◌, length, drop}
use Rattle.std.proofs.Math.Path.{refl, ap}
use Rattle.std.proofs.Common.{sym, ◌∙◌, arith, lt-ltb, le-ltb, le-leb}
use Rattle.std.proofs.lemmas.Bool.{lt-leb}
use Rattle.basics.specs.Refusals.{Answer, accepted, refused, stored}
use Rattle.basics.specs.RefusalLaws.{checks_first, checks_next, checks_none}
use Rattle.alley_theory.specs.Alley.{lane_entry, total_text}
use Rattle.alley_theory.specs.Answers.{lane_at, sums, sound_totals, front, LaneStep, idle, listed, step_from, step, room_tested, listing, as_listed, text_of}
use Rattle.alley_theory.specs.Answers.{total_answer, as_sheet_line}
use Rattle.alley_theory.specs.Writes.{lane_in, front_by, FoundIn}
use Rattle.alley_theory.proofs.FoundLaws.{front_taken}
use Rattle.alley_theory.specs.declared.Totals.{Totals}
use Rattle.alley_theory.specs.declared.Found.{Found}

-- ---- what an answer gives: the value, and the lent bytes
module _ (t : Totals) (out : List ℕ) {answer : Answer LaneStep} where
  pub refused_gives : {k : ℕ} → answer ≡ refused k → (as_listed t (refused k) ≡ as_listed t answer) × (out ≡ stored (text_of answer) out)
  unfolding text_of stored
  refused_gives e = rw e (refl, refl)

  pub accepted_gives : {p : LaneStep} → answer ≡ accepted p
      → (as_listed t (accepted p) ≡ as_listed t answer) × (p.text ++ drop (length p.text) out ≡ stored (text_of answer) out)
  unfolding text_of stored
  accepted_gives e = rw e (refl, refl)

  -- no lane: as a refusal, with the number 0
  pub idle_gives : answer ≡ accepted (idle t) → (as_listed t (refused 0) ≡ as_listed t answer) × (out ≡ stored (text_of answer) out)
  unfolding as_listed idle text_of stored
  idle_gives e = rw e (refl, refl)

-- ---- a step whose line has room
module _ (room : ℕ) (p : LaneStep) where
  pub too_long : room < length p.text → room_tested room p ≡ refused 18
  unfolding room_tested
  too_long h = checks_first _ 18 _ _ (lt-leb (length p.text) room h)

  pub has_room : length p.text ≤ room → room_tested room p ≡ accepted p
  unfolding room_tested
  has_room h = checks_next _ 18 _ _ (le-leb (length p.text) room h) ∙ checks_none _

-- ---- the step, test by test
module _ (t : Totals) (last : Bool) (s : List ℕ) where
  pub step_open : t.lanes < 65535 → step t last s ≡ step_from t (front last s)
  unfolding step
  step_open h = rw (lt-ltb t.lanes 65535 h)

  pub step_shut : 65535 ≤ t.lanes → step t last s ≡ idle t
  unfolding step
  step_shut h = rw (le-ltb t.lanes 65535 h)

  module _ (room : ℕ) where
    pub unsound : sound_totals t ≡ false → listing t last s room ≡ refused 20
    unfolding listing
    unsound e = checks_first _ 20 _ _ e

    module _ (sound : sound_totals t ≡ true) where
      listing_step : listing t last s room ≡ room_tested room (step t last s)
      unfolding listing
      listing_step = checks_next _ 20 _ _ sound ∙ checks_none _

      idle_room : room_tested room (idle t) ≡ accepted (idle t)
      idle_room = has_room room (idle t) (unfold idle in omega arith)

      pub shut : 65535 ≤ t.lanes → listing t last s room ≡ accepted (idle t)
      shut h = listing_step ∙ ap (room_tested room) (step_shut h) ∙ idle_room

      module _ (h : t.lanes < 65535) (f : Found) (found : FoundIn last s f) where
        -- no lane
        pub none_found : f.taken ≡ 0 → listing t last s room ≡ accepted (idle t)
        unfolding step_from
        none_found z =
            listing_step
            ∙ ap (room_tested room) (step_open h ∙ ap (step_from t) (sym (ap (front_by s f.complete) (sym z) ∙ found.is)))
            ∙ idle_room

        -- a lane
        pub lane_found : (f.taken ≡ 0 → ⊥) → listing t last s room ≡ room_tested room (listed t f.taken (lane_entry (lane_in s f)))
        lane_found z =
            listing_step ∙ ap (room_tested room) (step_open h ∙ ap (step_from t) (sym (sym (front_taken s f.complete f.taken z) ∙ found.is)) ∙ taken_step)
          where
            taken_step : step_from t (lane_at f.taken (lane_in s f)) ≡ listed t f.taken (lane_entry (lane_in s f))
            taken_step = unfold step_from in refl

-- ---- the total's line
module _ (t : Totals) (out : List ℕ) where
  pub total_long : length out < length (total_text (sums t))
      → (as_sheet_line (refused 18) ≡ as_sheet_line (total_answer t (length out))) × (out ≡ stored (total_answer t (length out)) out)
  unfolding total_answer stored
  total_long h = rw (checks_first _ 18 _ (accepted (total_text (sums t))) (lt-leb (length (total_text (sums t))) (length out) h)) (refl, refl)

  pub total_given : length (total_text (sums t)) ≤ length out
      → (as_sheet_line (accepted (total_text (sums t))) ≡ as_sheet_line (total_answer t (length out)))
      × (total_text (sums t) ++ drop (length (total_text (sums t))) out ≡ stored (total_answer t (length out)) out)
  unfolding total_answer stored
  total_given h = rw (checks_next _ 18 _ (accepted (total_text (sums t))) (le-leb (length (total_text (sums t))) (length out) h) ∙ checks_none _) (refl, refl)
