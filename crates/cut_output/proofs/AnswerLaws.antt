-- The cut of a record, refusal by refusal in their order. Assumes nothing.
use Rattle.std.specs.Prelude.{◌≡◌, true, false, ℕ, ◌≤◌, ◌<◌}
use Rattle.std.proofs.Math.Path.{ap}
use Rattle.std.proofs.Common.{◌∙◌, arith}
use mathlib.Core.List.{[]}
use Rattle.basics.specs.RefusalLaws.{checks_first, checks_next, checks_none}
use Rattle.basics.specs.TestLaws.{T_is}
use Rattle.network.specs.Record.{net_of, layout, sound_record}
use Rattle.network.specs.Sound.{Sound}
use Rattle.network.specs.RecordLaws.{sound_net, count_outputs}
use Rattle.journal.specs.Records.{sound_whole, just_read}
use Rattle.journal.proofs.AnswerLaws.{whole_network}
use Rattle.journal.specs.declared.Record.{Record}
use Rattle.cut_theory.specs.Cut.{named, cut_net, cut}
use Rattle.cut_theory.proofs.CutLaws.{cut_accepts, cut_stray}
use Rattle.cut_output.specs.Answers.{as_cut_answer, cut_record}

module _ (r : Record) (output : ℕ) where
  pub record_broken : sound_whole r ≡ false → cut_record r output ≡ record { code = 20; after = r }
  unfolding cut_record as_cut_answer
  record_broken e = ap (as_cut_answer r) (checks_first (sound_whole r) 20 [] (cut (net_of r.network) output) e)

  module _ (whole : sound_whole r ≡ true) where
    net_sound : Sound (net_of r.network)
    net_sound = sound_net r.network (T_is (sound_record r.network) (whole_network r whole))

    record_cut : cut_record r output ≡ as_cut_answer r (cut (net_of r.network) output)
    unfolding cut_record
    record_cut = ap (as_cut_answer r) (checks_next (sound_whole r) 20 [] _ whole ∙ checks_none (cut (net_of r.network) output))

    -- an output that the network lacks
    pub record_stray : r.network.outputs ≤ output → cut_record r output ≡ record { code = 8; after = r }
    unfolding as_cut_answer
    record_stray h = record_cut ∙ ap (as_cut_answer r) (cut_stray (net_of r.network) output net_sound (omega (arith, count_outputs r.network)))

    pub record_done : output < r.network.outputs
        → cut_record r output ≡ record { code = 0; after = just_read (layout (cut_net (net_of r.network) (named (net_of r.network) output))) }
    unfolding as_cut_answer
    record_done h = record_cut ∙ ap (as_cut_answer r) (cut_accepts (net_of r.network) output net_sound (omega (arith, count_outputs r.network)))
