-- The cut of a record is as claimed. Assumes nothing.
use Rattle.std.specs.Prelude.{◌≡◌, refl, Bool, true, List, ℕ, ◌≤◌, ◌<◌, ◌^◌, length}
use Rattle.std.proofs.Math.Path.{sym, ap, subst}
use Rattle.std.proofs.Common.{◌∙◌, arith}
use Rattle.basics.specs.Refusals.{accepted}
use Rattle.basics.specs.RefusalLaws.{accepted_inj}
use Rattle.basics.specs.TestLaws.{is_true, T_is}
use Rattle.network.specs.Threshold.{Net, frame, output_bits}
use Rattle.network.specs.Sound.{Sound}
use Rattle.network.specs.Record.{net_of, layout, sound_record}
use Rattle.network.specs.LimitLaws.{sound_of}
use Rattle.network.specs.RecordLaws.{ArrayLengths, net_of_layout, layout_net_of, sound_layout, sound_net, count_outputs}
use Rattle.network.specs.declared.Network.{Network}
use Rattle.call_theory.specs.Steps.{State, just_opened}
use Rattle.call_theory.specs.Calls.{calls}
use Rattle.call_theory.proofs.TraceLaws.{Traced}
use Rattle.call_theory.proofs.GuaranteeLaws.{opened_traced, calls_traced}
use Rattle.call_theory.specs.declared.Call.{Call}
use Rattle.journal.specs.Journals.{empty_journal}
use Rattle.journal.proofs.JournalLaws.{empty_journal_lem}
use Rattle.journal.specs.Records.{sound_whole, record_of, just_read}
use Rattle.journal.proofs.AnswerLaws.{whole_network, whole_of}
use Rattle.journal.specs.declared.Record.{Record}
use Rattle.journal_states.proofs.StateLaws.{record_sound}
use Rattle.cut_theory.specs.Cut.{named, cut_net, cut}
use Rattle.cut_theory.specs.Claims.{CutOut}
use Rattle.cut_theory.proofs.CutLaws.{cut_accepts, cut_only, either_order}
use Rattle.cut_output.specs.Answers.{cut_record}
use Rattle.cut_output.proofs.AnswerLaws.{record_broken, record_stray, record_done}
use Rattle.cut_output.specs.declared.CutAnswer.{CutAnswer}
use Rattle.guarantees.specs.Lists.{calls_on}
use Rattle.guarantees.proofs.ListLaws.{list_record}
use Rattle.guarantees.specs.Cuts.{RecordCut, EitherOrder, CutClaim}

-- the network of the record of a sound network just read, and of what calls leave of it
net_read_lem : (M : Net) → Sound M → net_of (just_read (layout M)).network ≡ M
unfolding just_read
net_read_lem M s = net_of_layout M s

read_record : (N : Net) → just_read (layout N) ≡ record_of (just_opened N)
unfolding just_read record_of just_opened
read_record N = λ x. record { network = layout N; journal = empty_journal_lem x }

calls_record : (N : Net) → Sound N → (cs : List Call) → calls_on (just_read (layout N)) cs ≡ record_of (calls (just_opened N) cs)
calls_record N s cs = ap (λ (r : Record). calls_on r cs) (read_record N) ∙ list_record N (just_opened N) cs (opened_traced N s)

after_calls : (N : Net) → Sound N → (cs : List Call) → Traced N (calls (just_opened N) cs)
after_calls N s cs = calls_traced N (just_opened N) cs (opened_traced N s)

calls_net : (N : Net) → Sound N → (cs : List Call) → net_of (calls_on (just_read (layout N)) cs).network ≡ (calls (just_opened N) cs).net
unfolding record_of
calls_net N s cs = ap (λ (r : Record). net_of r.network) (calls_record N s cs) ∙ net_of_layout (calls (just_opened N) cs).net (after_calls N s cs).kept.sound

-- ---- an accepted cut
module _ (r : Record) (j : ℕ) (w : sound_whole r ≡ true) (h : j < r.network.outputs) where
  abbrev N : Net
  N = net_of r.network

  abbrev M : Net
  M = cut_net N (named N j)

  N_sound : Sound N
  N_sound = sound_net r.network (T_is (sound_record r.network) (whole_network r w))

  accepts : cut N j ≡ accepted M
  accepts = cut_accepts N j N_sound (omega (arith, count_outputs r.network))

  cut_out : CutOut N j M
  cut_out = (cut_only N j N_sound M accepts).1

  M_sound : Sound M
  M_sound = sound_of M cut_out.sound_after

  done : cut_record r j ≡ record { code = 0; after = just_read (layout M) }
  done = record_done r j w h

  record_cut : RecordCut r j
  unfolding just_read empty_journal
  record_cut = record {
    accepts = ap (λ (x : CutAnswer). x.code) done;
    no_steps = ap (λ (x : CutAnswer). x.after) done ∙ sym (ap (λ (x : CutAnswer). just_read x.after.network) done);
    sound_after = ap (λ (x : CutAnswer). sound_whole x.after) done
        ∙ whole_of (just_read (layout M)) (is_true (sound_record (layout M)) (sound_layout M M_sound)) (omega arith);
    is_cut = subst (CutOut N j) (sym (ap (λ (x : CutAnswer). net_of x.after.network) done ∙ net_of_layout M M_sound)) cut_out;
  }

-- ---- folding and cutting, from the record of a network just read
module _ (N : Net) (s : Sound N) (j : ℕ) (h : j < (layout N).outputs) (cs ds : List Call) where
  abbrev r : Record
  r = just_read (layout N)

  abbrev q : State
  q = calls (just_opened N) cs

  abbrev F : Net
  F = q.net

  F_sound : Sound F
  F_sound = (after_calls N s cs).kept.sound

  folded : calls_on r cs ≡ record_of q
  folded = calls_record N s cs

  r_whole : sound_whole r ≡ true
  r_whole = ap sound_whole (read_record N) ∙ record_sound N (just_opened N) (opened_traced N s)

  net_is : net_of r.network ≡ N
  unfolding just_read
  net_is = net_of_layout N s

  has : j < r.network.outputs
  unfolding just_read
  has = h

  abbrev L : Net
  L = cut_net N (named N j)

  cut_first : (cut_record r j).after ≡ just_read (layout L)
  cut_first = ap (λ (x : CutAnswer). x.after) (record_done r j r_whole has) ∙ ap (λ (K : Net). just_read (layout (cut_net K (named K j)))) net_is

  many : j < length N.outputs
  unfolding layout
  many = h

  L_cut : cut N j ≡ accepted L
  L_cut = cut_accepts N j s many

  L_sound : Sound L
  L_sound = sound_of L (cut_only N j s L L_cut).1.sound_after

  -- the record of what the calls leave has the output, and its cut is that of the definitions
  whole_after : sound_whole (record_of q) ≡ true
  whole_after = record_sound N q (after_calls N s cs)

  cut_last : (P : Net) → cut F j ≡ accepted P → cut_record (calls_on r cs) j ≡ record { code = 0; after = just_read (layout P) }
  unfolding record_of layout
  cut_last P e =
      let o = cut_only F j F_sound P e in
      let same : cut_net F (named F j) ≡ P = accepted_inj (sym (cut_accepts F j F_sound o.0) ∙ e) in
      ap (λ (x : Record). cut_record x j) folded
      ∙ record_done (record_of q) j whole_after o.0
      ∙ ap (λ (K : Net). record { code = 0; after = just_read (layout (cut_net K (named K j))) }) (net_of_layout F F_sound)
      ∙ ap (λ (K : Net). record { code = 0; after = just_read (layout K) }) same

  fits : (x : ℕ) → x < 2 ^ r.network.inputs → x < 2 ^ N.inputs
  unfolding just_read layout
  fits x k = k

  orders : EitherOrder r j cs ds
  orders =
      let e = either_order N j s cs ds L L_cut in
      let P = e.0 in
      let left = cut_last P e.1 in
      let P_sound = sound_of P (cut_only F j F_sound P e.1).1.sound_after in
      record {
        accepts = ap (λ (x : CutAnswer). x.code) left;
        same_bit = λ x k.
            ap (λ (a : CutAnswer). output_bits (net_of a.after.network) (frame x)) left
            ∙ ap (λ (K : Net). output_bits K (frame x)) (net_read_lem P P_sound)
            ∙ e.2 x (fits x k)
            ∙ sym (ap (λ (K : Net). output_bits K (frame x)) (calls_net L L_sound ds))
            ∙ sym (ap (λ (y : Record). output_bits (net_of (calls_on y ds).network) (frame x)) cut_first);
      }

pub cut_claim : (r : Record) → ArrayLengths r.network → (j : ℕ) → CutClaim r j
cut_claim r shape j = record {
  unsound = record_broken r j;
  stray = record_stray r j;
  given = record_cut r j;
  either_order = λ w h e cs ds.
      let N = net_of r.network in
      let t = T_is (sound_record r.network) (whole_network r w) in
      let same = layout_net_of r.network shape t in
      let here : r ≡ just_read (layout N) = e ∙ ap just_read (sym same) in
      subst (λ (x : Record). EitherOrder x j cs ds) (sym here)
      (orders N (sound_net r.network t) j (subst (λ (n : Network). j < n.outputs) (sym same) h) cs ds);
}
