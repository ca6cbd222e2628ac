-- Laws of a list of calls that is run: one call on a record, the places of the answers, and the length of the file. Assumes nothing.
use Rattle.std.specs.Prelude.{◌≡◌, refl, true, List, [], ◌∷◌, ◌++◌, ℕ, suc, ◌+◌, ◌*◌, ◌<◌, ◌≤◌, length, get_or, drop, set}
use Rattle.std.proofs.Math.Path.{sym, ap, subst}
use Rattle.std.proofs.Common.{◌∙◌, add-zero, arith, length-drop, drop-drop, get_or-drop}
use Rattle.std.proofs.lemmas.List.Edits.{sets}
use Rattle.std.proofs.Math.Seq.{paste, paste-suc}
use Rattle.basics.specs.Refusals.{Answer, accepted, refused, code_of}
use Rattle.network.specs.Threshold.{Net}
use Rattle.network.specs.Sound.{Sound}
use Rattle.network.specs.Record.{net_of}
use Rattle.network.specs.Places.{HoldsSound}
use Rattle.network.specs.RecordLaws.{ArrayLengths, shaped_layout, holds_sound}
use Rattle.network.specs.declared.Network.{Network}
use Rattle.pmn_format.specs.Format.{file_bytes}
use Rattle.pmn_format.specs.Lengths.{longest_file}
use Rattle.pmn_format.proofs.LengthLaws.{longest}
use Rattle.pmn_writer.specs.Answers.{as_written, written}
use Rattle.pmn_writer.specs.WriteAnswerLaws.{write_whole}
use Rattle.pmn_writer.specs.declared.Written.{Written}
use Rattle.call_theory.specs.Steps.{State, just_opened}
use Rattle.call_theory.specs.Calls.{Given, answer, leaves, calls}
use Rattle.call_theory.proofs.TraceLaws.{Traced}
use Rattle.call_theory.proofs.GuaranteeLaws.{opened_traced, call_traced, calls_traced}
use Rattle.call_theory.specs.declared.Call.{Call}
use Rattle.journal.specs.Records.{state_of, sound_whole, record_of, just_read}
use Rattle.journal.proofs.JournalLaws.{empty_journal_lem}
use Rattle.journal.specs.Answers.{applied}
use Rattle.journal.specs.declared.CallAnswer.{CallAnswer}
use Rattle.journal.specs.declared.Record.{Record}
use Rattle.journal_states.specs.Answers.{answer_on}
use Rattle.journal_states.proofs.StateLaws.{state_record, record_sound, applied_record}
use Rattle.call_numbers.specs.Numbers.{calls_in, four_of}
use Rattle.call_numbers.specs.CallPlaces.{call_at}
use Rattle.call_numbers.specs.NumberLaws.{calls_next}
use Rattle.call_runs.specs.Runs.{figures_in, answers_of, net_after}
use Rattle.call_runs.specs.Running.{FromRead, Stepped}

-- ---- one call on a record

-- the network after a list is sound
pub after_sound : (r : Network) → HoldsSound r → (cs : List Call) → Sound (net_after (net_of r) cs)
after_sound r h cs = (calls_traced (net_of r) (just_opened (net_of r)) cs (opened_traced (net_of r) h.sound)).kept.sound

-- the record of a state is that of a read and calls where the state is
came_record : (R : Net) (q : State) → Traced R q → FromRead (record_of q)
came_record R q t = let e = state_record R q t in record { read = R; traced = subst (Traced R) (sym e) t; laid = ap record_of e }

-- such a record is sound, and its arrays have their lengths
pub came_whole : (r : Record) → FromRead r → sound_whole r ≡ true
came_whole r c = subst (λ (x : Record). sound_whole x ≡ true) c.laid (record_sound c.read (state_of r) c.traced)

pub came_shaped : (r : Record) → FromRead r → ArrayLengths r.network
unfolding record_of
came_shaped r c = subst (λ (x : Record). ArrayLengths x.network) c.laid (shaped_layout (state_of r).net)

-- the record of a network just read
just_record : (r : Network) → HoldsSound r → just_read r ≡ record_of (just_opened (net_of r))
unfolding just_read record_of just_opened
just_record r h = λ x. record { network = sym h.laid x; journal = empty_journal_lem x }

pub just_came : (r : Network) → HoldsSound r → FromRead (just_read r)
just_came r h = subst FromRead (sym (just_record r h)) (came_record (net_of r) (just_opened (net_of r)) (opened_traced (net_of r) h.sound))

pub just_state : (r : Network) → HoldsSound r → state_of (just_read r) ≡ just_opened (net_of r)
just_state r h = ap state_of (just_record r h) ∙ state_record (net_of r) (just_opened (net_of r)) (opened_traced (net_of r) h.sound)

answer_on_call : (q : State) (a : Answer Given) → Stepped q a (answer_on q a)
unfolding answer_on code_of figures_in leaves
answer_on_call q (accepted g) = record { code = refl; figures = refl; left = refl }
answer_on_call q (refused k) = record { code = refl; figures = refl; left = refl }

pub step_done : (r : Record) → FromRead r → (c : Call) {o : CallAnswer} → o ≡ applied r c → Stepped (state_of r) (answer (state_of r) c) o
step_done r h c e =
    let q = state_of r in
    let same = e ∙ ap (λ (x : Record). applied x c) (sym h.laid) ∙ applied_record h.read q h.traced c in
    subst (Stepped q (answer q c)) (sym same) (answer_on_call q (answer q c))

-- what is left of the list after call i
module _ (r : Record) (h : FromRead r) (ns : List ℕ) (i : ℕ) (l : 5 * i + 5 ≤ length ns) (o : CallAnswer)
    (s : Stepped (state_of r) (answer (state_of r) (call_at ns i)) o) where
  next : State
  next = leaves (state_of r) (answer (state_of r) (call_at ns i))

  next_traced : Traced h.read next
  unfolding next
  next_traced = call_traced h.read (state_of r) (call_at ns i) h.traced

  pub next_came : FromRead o.after
  unfolding next
  next_came = subst FromRead (sym s.left) (came_record h.read next next_traced)

  next_state : state_of o.after ≡ next
  unfolding next
  next_state = ap state_of s.left ∙ state_record h.read next next_traced

  pub next_calls : calls (state_of o.after) (calls_in (drop (5 * (i + 1)) ns)) ≡ calls (state_of r) (calls_in (drop (5 * i) ns))
  unfolding next calls
  next_calls = ap (λ (q : State). calls q (calls_in (drop (5 * (i + 1)) ns))) next_state ∙ sym (ap (calls (state_of r)) (calls_next ns i l))

  pub next_answers : answers_of (state_of r) (calls_in (drop (5 * i) ns))
      ≡ four_of o.code o.figures ++ answers_of (state_of o.after) (calls_in (drop (5 * (i + 1)) ns))
  unfolding next answers_of
  next_answers =
      ap (answers_of (state_of r)) (calls_next ns i l)
      ∙ sym (λ x. four_of (s.code x) (s.figures x) ++ answers_of (next_state x) (calls_in (drop (5 * (i + 1)) ns)))

-- ---- the places of the answers, from 1 on
pub answers_length : (q : State) (cs : List Call) → length (answers_of q cs) ≡ 4 * length cs
unfolding answers_of
answers_length q [] = refl
answers_length q (c ∷ cs) = let e = answers_length (leaves q (answer q c)) cs in omega arith

-- more of the numbers xs, stored after the j before them
pub store_more : (lent xs : List ℕ) (at j : ℕ) (ys rest : List ℕ) → drop j xs ≡ ys ++ rest → at + j + length ys ≤ length lent
    → sets (paste lent at xs j) (at + j) ys ≡ paste lent at xs (j + length ys)
store_more lent xs at j [] rest e h = ap (paste lent at xs) (sym (add-zero j))
store_more lent xs at j (y ∷ ys) rest e h =
    let long : j < length xs = omega (arith, length-drop j xs, ap length e) in
    let here : get_or xs j 0 ≡ y = sym (get_or-drop j xs 0 0 ∙ ap (λ (k : ℕ). get_or xs k 0) (add-zero j)) ∙ ap (λ (l : List ℕ). get_or l 0 0) e in
    let next : drop (suc j) xs ≡ ys ++ rest = ap (λ (k : ℕ). drop k xs) {x = suc j} {y = j + 1} (omega arith) ∙ sym (drop-drop 1 j xs) ∙ ap (drop 1) e in
    ap (λ (l : List ℕ). sets l (suc (at + j)) ys) (ap (set (paste lent at xs j) (at + j)) (sym here) ∙ paste-suc lent at xs j 0 (omega arith) long)
    ∙ ap (λ (k : ℕ). sets (paste lent at xs (suc j)) k ys) {x = suc (at + j)} {y = at + suc j} (omega arith)
    ∙ store_more lent xs at (suc j) ys rest next (omega arith)
    ∙ ap (paste lent at xs) {x = suc j + length ys} {y = j + suc (length ys)} (omega arith)

-- ---- a writing with room for the longest file gives the file's length
pub length_written : (r : Network) → HoldsSound r → (room : ℕ) → longest_file ≤ room
    → {w : Written} → w ≡ written r room → w.length ≡ length (file_bytes (net_of r))
unfolding written as_written
length_written r h room l e =
    let fits : length (file_bytes (net_of r)) ≤ room = omega (arith, longest (net_of r) h.sound) in
    ap (λ (x : Written). x.length) e ∙ ap (λ (a : Answer (List ℕ)). (as_written a).length) (write_whole r room (holds_sound r h) fits)
