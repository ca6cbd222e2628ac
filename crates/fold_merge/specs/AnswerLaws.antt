-- A call on the record of a sound network: its first test is passed, and it is the call on the network. Assumes nothing.
use Rattle.std.specs.Prelude.{◌≡◌, List, [], ◌∷◌}
use Rattle.std.proofs.Common.{ap, ◌∙◌}
use Rattle.basics.specs.Refusals.{Answer, Test, ◌else◌, checks}
use Rattle.basics.specs.RefusalLaws.{checks_next, checks_none}
use Rattle.basics.specs.TestLaws.{is_true}
use Rattle.network.specs.Threshold.{Net}
use Rattle.network.specs.Sound.{Sound}
use Rattle.network.specs.Record.{net_of, layout, sound_record}
use Rattle.network.specs.RecordLaws.{net_of_layout, sound_layout}
use Rattle.fold_merge.specs.Answers.{on_record}

-- the record of a sound network passes the first test of every call
sound_first : {A : Type 0} (N : Net) → Sound N → (ts : List Test) (r : Answer A) → checks ((sound_record (layout N) else 20) ∷ ts) r ≡ checks ts r
sound_first N s ts r = checks_next (sound_record (layout N)) 20 ts r (is_true (sound_record (layout N)) (sound_layout N s))

-- a call on the record of a sound network is the call on the network
pub on_layout : {A : Type 0} (N : Net) → Sound N → (call : Net → Answer A) → on_record (layout N) call ≡ call N
unfolding on_record
on_layout N s call = sound_first N s [] (call (net_of (layout N))) ∙ checks_none (call (net_of (layout N))) ∙ ap call (net_of_layout N s)
