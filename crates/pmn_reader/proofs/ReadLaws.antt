-- What `read` answers, from what was read. Assumes nothing.
use mathlib.Core.Path.{◌≡◌, sym, ap, ◌∙◌}
use mathlib.Core.List.{List}
use Prim.Native.Nat.{ℕ}
use Rattle.network.specs.Record.{layout, blank_record}
use Rattle.network.specs.declared.Network.{Network}
use Rattle.pmn_format.specs.Format.{refused, done, parse_file}
use Rattle.pmn_format.specs.Answered.{mapped}
use Rattle.pmn_format.proofs.AnsweredLaws.{found, failed}
use Rattle.pmn_reader.specs.Answers.{as_loaded, loaded}

pub loaded_refused : (s : List ℕ) {k code : ℕ} {r : Network} → refused k ≡ mapped layout (parse_file s) → code ≡ k → r ≡ blank_record
    → record { code = code; network = r } ≡ loaded s
unfolding loaded as_loaded
loaded_refused s e c b = (λ x. record { code = c x; network = b x }) ∙ sym (ap as_loaded (failed layout (parse_file s) e))

pub loaded_done : (s : List ℕ) {r : Network} {m : List ℕ} → done r m ≡ mapped layout (parse_file s) → record { code = 0; network = r } ≡ loaded s
unfolding loaded as_loaded
loaded_done s e = let f = found layout (parse_file s) e in (λ x. record { code = 0; network = f.holds x }) ∙ sym (ap as_loaded f.reads)
