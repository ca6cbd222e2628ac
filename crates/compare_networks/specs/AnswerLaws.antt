-- What a comparison answers, test by test and verdict by verdict. Assumes nothing.
use Rattle.std.specs.Prelude.{◌≡◌, refl, true, false, ◌&&◌, ℕ}
use Rattle.std.proofs.Common.{◌∙◌}
use Rattle.basics.specs.Refusals.{Answer, accepted, refused}
use Rattle.basics.specs.RefusalLaws.{checks_first, checks_next, checks_none}
use Rattle.network.specs.Threshold.{Net}
use Rattle.network.specs.Record.{net_of, sound_record}
use Rattle.network.specs.declared.Network.{Network}
use Rattle.question_theory.specs.Question.{alike}
use Rattle.compare_theory.specs.Verdicts.{Verdict, Pair, pair_of, comparable}
use Rattle.compare_networks.specs.Answers.{compare_answer, ComparedAs}
use Rattle.compare_networks.specs.declared.Compared.{Compared}

-- an answer that is a refusal, or a pair
as_refused : {answer : Answer Pair} {c : ℕ} (budget : ℕ) {r : Compared} → answer ≡ refused c → r ≡ record { code = c; verdict = 0; frame = 0; steps = 0 }
    → ComparedAs answer budget r
as_refused budget e h = rw e h

-- ---- the networks
module _ (N M : Net) where
  pub compared_unlike : alike N M ≡ false → comparable N M ≡ refused 19
  unfolding comparable
  compared_unlike e = checks_first _ 19 _ _ e

  pub compared_like : alike N M ≡ true → comparable N M ≡ accepted (pair_of N M)
  unfolding comparable
  compared_like e = checks_next _ 19 _ _ e ∙ checks_none _

  pub unlike : (budget : ℕ) {r : Compared} → alike N M ≡ false → r ≡ record { code = 19; verdict = 0; frame = 0; steps = 0 } → ComparedAs (comparable N M) budget r
  unlike budget e h = as_refused budget (compared_unlike e) h

  pub given : {budget v x s : ℕ} {r : Compared} → alike N M ≡ true → r ≡ record { code = 0; verdict = v; frame = x; steps = s } → Verdict N M budget v x s
      → ComparedAs (comparable N M) budget r
  given e h w = rw (compared_like e, h) (refl, w)

-- ---- the records
module _ (a b : Network) (budget : ℕ) (r : Compared) where
  pub broken : sound_record a && sound_record b ≡ false → r ≡ record { code = 20; verdict = 0; frame = 0; steps = 0 } → ComparedAs (compare_answer a b) budget r
  unfolding compare_answer
  broken e h = as_refused budget (checks_first _ 20 _ _ e) h

  pub sound : sound_record a && sound_record b ≡ true → ComparedAs (comparable (net_of a) (net_of b)) budget r → ComparedAs (compare_answer a b) budget r
  unfolding compare_answer
  sound e h =
      let same : compare_answer a b ≡ comparable (net_of a) (net_of b) = checks_next _ 20 _ _ e ∙ checks_none _ in
      rw same h
