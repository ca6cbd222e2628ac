-- What the call for one line answers, test by test. Assumes nothing.
use Rattle.std.specs.Prelude.{◌≡◌, refl, true, false, ◌&&◌, List, ◌∷◌, ◌++◌, ℕ, ◌≤◌, ◌<◌, length, drop}
use Rattle.std.proofs.Common.{◌∙◌, le-leb}
use Rattle.std.proofs.lemmas.Bool.{lt-leb}
use Rattle.basics.specs.Refusals.{Answer, accepted, refused, Test, ◌else◌, checks, stored}
use Rattle.basics.specs.RefusalLaws.{checks_first, checks_next, checks_none}
use Rattle.basics.specs.TestLaws.{both_true}
use Rattle.network.specs.Record.{net_of, sound_record}
use Rattle.network.specs.declared.Network.{Network}
use Rattle.question_theory.specs.Text.{question_text}
use Rattle.question_theory.specs.Question.{alike}
use Rattle.question_text.specs.Answers.{line_answer, as_line_written}
use Rattle.question_lines.specs.Lines.{Comparable, LineInRange, lines_of}

-- ---- what an answer gives

-- a refusal and its bytes
pub refused_gives : {answer : Answer (List ℕ)} {c : ℕ} (out : List ℕ) → answer ≡ refused c → (as_line_written (refused c) ≡ as_line_written answer)
    × (out ≡ stored answer out)
unfolding stored
refused_gives out e = rw e (refl, refl)

-- a line and its bytes
pub accepted_gives : {answer : Answer (List ℕ)} (text out : List ℕ) → answer ≡ accepted text
    → (record { code = 0; length = length text } ≡ as_line_written answer) × (text ++ drop (length text) out ≡ stored answer out)
unfolding as_line_written stored
accepted_gives text out e = rw e (refl, refl)

-- ---- the tests in their order
module _ (a b : Network) (n room : ℕ) where
  pub broken : sound_record a && sound_record b ≡ false → line_answer a b n room ≡ refused 20
  unfolding line_answer
  broken e = checks_first _ 20 _ _ e

  pub unlike : sound_record a && sound_record b ≡ true → alike (net_of a) (net_of b) ≡ false → line_answer a b n room ≡ refused 19
  unfolding line_answer
  unlike s e = checks_next _ 20 _ _ s ∙ checks_first _ 19 _ _ e

  -- two networks that can be asked about pass the first two tests
  asked : Comparable a b → (ts : List Test) (r : Answer (List ℕ))
      → checks ((sound_record a && sound_record b else 20) ∷ (alike (net_of a) (net_of b) else 19) ∷ ts) r ≡ checks ts r
  asked p ts r = checks_next _ 20 _ _ (both_true _ _ p.first_sound p.second_sound) ∙ checks_next _ 19 _ _ p.same_counts

  pub no_such_line : Comparable a b → lines_of (net_of a) (net_of b) < n → line_answer a b n room ≡ refused 21
  unfolding line_answer lines_of
  no_such_line p h = asked p _ _ ∙ checks_first _ 21 _ _ (lt-leb n _ h)

  module _ (p : LineInRange a b n) where
    pub too_long : room < length (question_text (net_of a) (net_of b) n) → line_answer a b n room ≡ refused 18
    unfolding line_answer lines_of
    too_long h = asked p.pair _ _ ∙ checks_next _ 21 _ _ (le-leb n _ p.within)
        ∙ checks_first _ 18 _ _ (lt-leb (length (question_text (net_of a) (net_of b) n)) room h)

    pub given : length (question_text (net_of a) (net_of b) n) ≤ room → line_answer a b n room ≡ accepted (question_text (net_of a) (net_of b) n)
    unfolding line_answer lines_of
    given h = asked p.pair _ _ ∙ checks_next _ 21 _ _ (le-leb n _ p.within)
        ∙ checks_next _ 18 _ _ (le-leb (length (question_text (net_of a) (net_of b) n)) room h) ∙ checks_none _
