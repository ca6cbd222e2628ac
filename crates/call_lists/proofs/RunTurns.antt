-- The turns of the loops that run a list of calls. Assumes nothing.
use mathlib.Core.Path.{◌≡◌, refl, sym, ap, ◌∙◌}
use mathlib.Core.Bool.{true}
use mathlib.Core.List.{List, [], ◌∷◌}
use Prim.Native.Nat.{ℕ, suc, ◌+◌, ◌*◌, ◌/◌, ◌<◌, ◌≤◌}
use native.Mathlib.Omega.{arith}
use lib.ListN.{length, drop, set, length-set, drop_of_length-le}
use lib.Seq.{drop-drop, sets, paste, paste-zero}
use Rattle.network.specs.Record.{net_of, layout}
use Rattle.network.specs.Places.{HoldsSound}
use Rattle.network.specs.declared.Network.{Network}
use Rattle.call_theory.specs.Steps.{State, just_opened}
use Rattle.call_theory.specs.Calls.{answer, calls}
use Rattle.journal.specs.Records.{state_of, record_of, just_read}
use Rattle.journal.specs.declared.CallAnswer.{CallAnswer}
use Rattle.journal.specs.declared.Record.{Record}
use Rattle.call_numbers.specs.Numbers.{well_formed, calls_in, four_of}
use Rattle.call_numbers.specs.CallPlaces.{call_at}
use Rattle.call_numbers.specs.NumberLaws.{count_calls}
use Rattle.call_runs.specs.Runs.{answers_of}
use Rattle.call_runs.specs.Running.{FromRead, Stepped}
use Rattle.call_runs.proofs.RunLaws.{just_came, just_state, next_came, next_calls, next_answers, store_more}

-- r is the record before call i of a list that began at the state q
pub record Reached (q : State) (ns : List ℕ) (i : ℕ) (r : Record) : Type 0 where
  pub came : FromRead r
  pub rest : calls (state_of r) (calls_in (drop (5 * i) ns)) ≡ calls q (calls_in ns)

-- the codes and numbers of the calls before it stand in the places from 1 on
pub record Answered (q : State) (ns : List ℕ) (i : ℕ) (r : Record) (lent answers : List ℕ) : Type 0 where
  pub places : answers ≡ paste lent 1 (answers_of q (calls_in ns)) (4 * i)
  pub rest : drop (4 * i) (answers_of q (calls_in ns)) ≡ answers_of (state_of r) (calls_in (drop (5 * i) ns))
  pub long : length answers ≡ length lent

-- storing keeps the length
sets_length : (l : List ℕ) (at : ℕ) (ys : List ℕ) → length (sets l at ys) ≡ length l
sets_length l at [] = refl
sets_length l at (y ∷ ys) = sets_length (set l at y) (suc at) ys ∙ length-set l at y

-- ---- before the first call

-- the record and the state of a network just read
module _ (n : Network) (h : HoldsSound n) {r : Record} (e : r ≡ just_read n) where
  pub began_came : FromRead r
  began_came = rw e (just_came n h)

  pub began_state : state_of r ≡ just_opened (net_of n)
  began_state = ap state_of e ∙ just_state n h

pub reached_none : (ns : List ℕ) {r : Record} → FromRead r → Reached (state_of r) ns 0 r
reached_none ns c = record { came = c; rest = refl }

-- nothing is stored
pub answered_none : (ns : List ℕ) (r : Record) (lent : List ℕ) → Answered (state_of r) ns 0 r lent lent
answered_none ns r lent = record { places = paste-zero lent 1 (answers_of (state_of r) (calls_in ns)); rest = refl; long = refl }

-- ---- from call to call

module _ (q : State) (ns : List ℕ) (i : ℕ) {r : Record} (h : Reached q ns i r) where
  pub reached_next : 5 * i + 5 ≤ length ns → {o : CallAnswer} → Stepped (state_of r) (answer (state_of r) (call_at ns i)) o → Reached q ns (i + 1) o.after
  reached_next l {o} s = record { came = next_came r h.came ns i l o s; rest = next_calls r h.came ns i l o s ∙ h.rest }

  -- after the last call
  pub reached_end : well_formed ns ≡ true → length ns / 5 ≤ i → r.network ≡ layout (calls q (calls_in ns)).net
  unfolding calls calls_in record_of
  reached_end w l =
      let e : drop (5 * i) ns ≡ [] = drop_of_length-le ns {i = 5 * i} (omega (arith, count_calls ns w)) in
      ap (λ (x : Record). x.network) (sym h.came.laid)
      ∙ ap (λ (p : State). layout p.net) (sym (ap (λ (m : List ℕ). calls (state_of r) (calls_in m)) e) ∙ h.rest)

  module _ {lent answers : List ℕ} (a : Answered q ns i r lent answers) where
    -- after a call whose four numbers are stored
    pub answered_next : 5 * i + 5 ≤ length ns → 4 * i + 4 < length lent → {o : CallAnswer} → Stepped (state_of r) (answer (state_of r) (call_at ns i)) o
        → {put : List ℕ} → put ≡ sets answers (1 + 4 * i) (four_of o.code o.figures)
        → Reached q ns (i + 1) o.after × Answered q ns (i + 1) o.after lent put
    answered_next l k {o} s p =
        let xs = answers_of q (calls_in ns) in
        let four = four_of o.code o.figures in
        let e = a.rest ∙ next_answers r h.came ns i l o s in
        let more : 4 * i + 4 ≡ 4 * (i + 1) = omega arith in (
          reached_next l s,
          record {
            places = p ∙ ap (λ (m : List ℕ). sets m (1 + 4 * i) four) a.places ∙ store_more lent xs 1 (4 * i) four _ e (omega arith)
                ∙ ap (paste lent 1 xs) more;
            rest = ap (λ (n : ℕ). drop n xs) (sym more) ∙ sym (drop-drop 4 (4 * i) xs) ∙ ap (drop 4) e;
            long = ap length p ∙ sets_length answers (1 + 4 * i) four ∙ a.long;
          },
        )

    pub answered_end : i ≡ length (calls_in ns) → answers ≡ paste lent 1 (answers_of q (calls_in ns)) (4 * length (calls_in ns))
    answered_end e = a.places ∙ ap (λ (n : ℕ). paste lent 1 (answers_of q (calls_in ns)) (4 * n)) e
