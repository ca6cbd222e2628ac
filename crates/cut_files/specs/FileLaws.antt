-- The cut of a whole file is that of the record of its network. Assumes nothing.
use Rattle.std.specs.Prelude.{◌≡◌, true, List, ℕ, ◌≤◌, ◌<◌}
use Rattle.std.proofs.Common.{sym, ◌∙◌, arith}
use Rattle.std.proofs.Math.Path.{ap}
use Rattle.basics.specs.Refusals.{Answer, refused, bind}
use Rattle.basics.specs.TestLaws.{is_true, T_is}
use Rattle.network.specs.Threshold.{Net}
use Rattle.network.specs.Sound.{Sound}
use Rattle.network.specs.Record.{net_of, layout, sound_record}
use Rattle.network.specs.RecordLaws.{net_of_layout, sound_net, sound_layout, count_outputs}
use Rattle.network.specs.declared.Network.{Network}
use Rattle.pmn_opening.specs.Opening.{FileOpen}
use Rattle.pmn_opening.specs.OpeningLaws.{file_sound, open_record, open_on}
use Rattle.pmn_files.specs.Files.{file_in}
use Rattle.cut_theory.specs.Cut.{named, cut_net, cut}
use Rattle.cut_theory.proofs.RemoveLaws.{cut_sound}
use Rattle.cut_theory.proofs.CutLaws.{named_has, cut_accepts, cut_stray}
use Rattle.cut_files.specs.Answers.{cut_places}

module _ {file : List ℕ} {places : ℕ} {r : Network} (a : FileOpen file places 1 r) (output room : ℕ) where
  abbrev N : Net
  N = net_of r

  net_sound : Sound (net_of r)
  net_sound = sound_net r (T_is (sound_record r) (file_sound a))

  file_cut : cut_places file output room places ≡ bind (cut N output) (file_in room)
  unfolding cut_places
  file_cut = open_on a _ ∙ ap (λ (X : Net). bind (cut X output) (file_in room)) (open_record a)

  -- an output that the network lacks
  pub file_stray : r.outputs ≤ output → cut_places file output room places ≡ refused 8
  unfolding bind
  file_stray h = file_cut ∙ ap (λ (x : Answer Net). bind x (file_in room)) (cut_stray N output net_sound (omega (arith, count_outputs r)))

  file_done : output < r.outputs → cut_places file output room places ≡ file_in room (cut_net N (named N output))
  unfolding bind
  file_done h = file_cut ∙ ap (λ (x : Answer Net). bind x (file_in room)) (cut_accepts N output net_sound (omega (arith, count_outputs r)))

-- the record of the cut
module _ {file : List ℕ} {places : ℕ} {r : Network} (a : FileOpen file places 1 r) (output : ℕ) (h : output < r.outputs)
    {pin : Network} (e : pin ≡ layout (cut_net (net_of r) (named (net_of r) output))) where
  abbrev M : Net
  M = cut_net (net_of r) (named (net_of r) output)

  network_sound : Sound M
  network_sound =
      let s = sound_net r (T_is (sound_record r) (file_sound a)) in
      cut_sound (net_of r) (named (net_of r) output) s (named_has (net_of r) output s (omega (arith, count_outputs r)))

  pub pin_sound : sound_record pin ≡ true
  pin_sound = ap sound_record e ∙ is_true (sound_record (layout M)) (sound_layout M network_sound)

  -- the answer is its file
  pub pin_answer : (room : ℕ) → cut_places file output room places ≡ file_in room (net_of pin)
  pin_answer room = file_done a output room h ∙ sym (ap (λ (z : Network). file_in room (net_of z)) e ∙ ap (file_in room) (net_of_layout M network_sound))
