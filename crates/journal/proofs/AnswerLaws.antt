-- What a call of a list answers on a sound record, and on a broken one. Assumes nothing.
use Rattle.std.specs.Prelude.{◌≡◌, true, false, [], ℕ, ◌≤◌, leb, length}
use Rattle.std.proofs.Common.{ap, ◌∙◌, le-leb, leb-true}
use Rattle.basics.specs.ListLaws.{length_tab}
use Rattle.basics.specs.TestLaws.{both_true, and_left, and_right, and_false_left}
use Rattle.basics.specs.Refusals.{refused}
use Rattle.basics.specs.RefusalLaws.{checks_first, checks_next, checks_none}
use Rattle.network.specs.Limits.{sound}
use Rattle.network.specs.Record.{net_of, sound_record}
use Rattle.network.specs.declared.Network.{Network}
use Rattle.call_theory.specs.Steps.{sound_state}
use Rattle.call_theory.specs.Calls.{no_figures, reply_of, answer}
use Rattle.call_theory.specs.declared.Call.{Call}
use Rattle.journal.specs.Journals.{steps_in}
use Rattle.journal.specs.Records.{state_of, sound_whole}
use Rattle.journal.specs.Answers.{as_call_answer, applied}
use Rattle.journal.specs.declared.Journal.{Journal}
use Rattle.journal.specs.declared.Record.{Record}

-- ---- soundness

count_steps : (j : Journal) → length (steps_in j) ≡ j.count
unfolding steps_in
count_steps j = length_tab j.count _

-- a sound record has a sound network, and at most 64 steps
pub whole_network : (r : Record) → sound_whole r ≡ true → sound_record r.network ≡ true
unfolding sound_whole
whole_network r e = and_left (sound_record r.network) (leb r.journal.count 64) e

pub whole_few : (r : Record) → sound_whole r ≡ true → r.journal.count ≤ 64
unfolding sound_whole
whole_few r e = leb-true r.journal.count 64 (and_right (sound_record r.network) (leb r.journal.count 64) e)

pub whole_of : (r : Record) → sound_record r.network ≡ true → r.journal.count ≤ 64 → sound_whole r ≡ true
unfolding sound_whole
whole_of r e h = both_true (sound_record r.network) (leb r.journal.count 64) e (le-leb r.journal.count 64 h)

-- a broken network, or too many steps, make a broken record
pub broken_network : (r : Record) → sound_record r.network ≡ false → sound_whole r ≡ false
unfolding sound_whole
broken_network r e = and_false_left (sound_record r.network) (leb r.journal.count 64) e

-- the state of a sound record is sound
net_sound : (n : Network) → sound_record n ≡ true → sound (net_of n) ≡ true
unfolding sound_record
net_sound n e = and_left (sound (net_of n)) _ e

pub whole_state : (r : Record) → sound_whole r ≡ true → sound_state (state_of r) ≡ true
unfolding sound_state state_of
whole_state r e = both_true (sound (net_of r.network)) (leb (length (steps_in r.journal)) 64)
    (net_sound r.network (whole_network r e))
    (ap (λ (n : ℕ). leb n 64) (count_steps r.journal) ∙ le-leb r.journal.count 64 (whole_few r e))

-- ---- the answer

-- on a sound record the answer is that of the definitions
pub applied_exact : (r : Record) (c : Call) → sound_whole r ≡ true → applied r c ≡ as_call_answer r c (answer (state_of r) c)
unfolding applied
applied_exact r c e = ap (as_call_answer r c) (checks_next (sound_whole r) 20 [] _ e ∙ checks_none (answer (state_of r) c))

-- by the call's own order
pub applied_sound : (r : Record) (c : Call) → sound_whole r ≡ true → applied r c ≡ as_call_answer r c (reply_of (state_of r) c)
unfolding answer
applied_sound r c e = applied_exact r c e
    ∙ ap (as_call_answer r c) (checks_next (sound_state (state_of r)) 20 [] _ (whole_state r e) ∙ checks_none (reply_of (state_of r) c))

-- on a broken one it is 20
pub applied_broken : (r : Record) (c : Call) → sound_whole r ≡ false → applied r c ≡ record { code = 20; after = r; figures = no_figures }
unfolding applied as_call_answer
applied_broken r c e = ap (as_call_answer r c) (checks_first (sound_whole r) 20 [] (answer (state_of r) c) e)

-- a refusal hands the record back
pub applied_refused : (r : Record) (c : Call) (k : ℕ) → sound_whole r ≡ true → reply_of (state_of r) c ≡ refused k
    → applied r c ≡ record { code = k; after = r; figures = no_figures }
unfolding as_call_answer
applied_refused r c k e h = applied_sound r c e ∙ ap (as_call_answer r c) h
