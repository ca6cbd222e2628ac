-- What the calls that change nothing answer on a sound record, and on one that is not. Assumes nothing.
use Rattle.std.specs.Prelude.{◌≡◌, refl, Bool, true, false, ℕ, ◌≤◌, ◌<◌}
use Rattle.std.proofs.Common.{sym, ◌∙◌, true≢false, arith}
use mathlib.Core.List.{[]}
use Rattle.std.proofs.Math.Decide.{dec_lt}
use Rattle.basics.specs.Refusals.{Answer, refused}
use Rattle.basics.specs.RefusalLaws.{checks_first, checks_next, checks_none}
use Rattle.network.specs.Threshold.{Net}
use Rattle.network.specs.Record.{net_of, sound_record}
use Rattle.journal.specs.Records.{sound_whole, tested}
use Rattle.journal.proofs.AnswerLaws.{whole_network, whole_few, whole_of}
use Rattle.journal.specs.declared.Record.{Record}
use Rattle.journal_calls.specs.AnswerLaws.{tested_few, tested_many}
use Rattle.fold_merge.specs.Answers.{on_record}

pub by_test : (b : Bool) {X : Type 0} → (b ≡ true → X) → (b ≡ false → X) → X
by_test true f g = f refl
by_test false f g = g refl

-- the journal's count
pub by_count : (n : ℕ) {X : Type 0} → (n ≤ 64 → X) → (64 < n → X) → X
by_count n {X} f g = elim (dec_lt 64 n) as (λ d. X) [
  | yes h ↦ g h
  | no h ↦ f (omega arith)
]

pub whole_differs : (r : Record) → sound_whole r ≡ true → sound_whole r ≡ false → ⊥
whole_differs r a b = true≢false (sym a ∙ b)

module _ {A : Type 0} (r : Record) (call : Net → Answer A) where
  pub answer_whole : sound_whole r ≡ true → tested r (on_record r.network call) ≡ call (net_of r.network)
  unfolding on_record
  answer_whole w =
      tested_few r (on_record r.network call) (whole_few r w)
      ∙ checks_next (sound_record r.network) 20 [] (call (net_of r.network)) (whole_network r w) ∙ checks_none (call (net_of r.network))

  -- the network or the journal is broken
  pub answer_broken : sound_whole r ≡ false → tested r (on_record r.network call) ≡ refused 20
  unfolding on_record
  answer_broken w = by_count r.journal.count
      (λ h. tested_few r (on_record r.network call) h ∙ by_test (sound_record r.network)
      (λ s. absurd (whole_differs r (whole_of r s h) w))
      (λ s. checks_first (sound_record r.network) 20 [] (call (net_of r.network)) s))
      (λ h. tested_many r (on_record r.network call) h)
