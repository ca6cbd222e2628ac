-- What the run of a list of calls on a whole file answers, by the tests of its function and by the calls that it makes. Assumes nothing.
use Rattle.std.specs.Prelude.{◌≡◌, refl, true, false, ◌&&◌, ℕ, suc, ◌+◌, ◌*◌, ◌/◌, ◌<◌, ◌≤◌, drop}
use Rattle.std.proofs.Common.{sym, ◌∙◌, subst, arith, le-leb}
use Rattle.std.proofs.Math.Path.{ap}
use mathlib.Core.List.{List, [], ◌∷◌, ◌++◌}
use Rattle.std.proofs.lemmas.Bool.{lt-leb}
use Rattle.std.proofs.Math.Dec.{leb}
use Rattle.std.proofs.Math.ListN.{length}
use Rattle.std.proofs.Math.Seq.{paste, take-length}
use Rattle.basics.specs.Refusals.{Answer, accepted, refused, Test, ◌else◌, checks, code_of, stored}
use Rattle.basics.specs.RefusalLaws.{checks_first, checks_next, checks_none}
use Rattle.basics.specs.TestLaws.{is_true, both_true, and_false_left, and_false_right}
use Rattle.network.specs.Threshold.{Net}
use Rattle.network.specs.Record.{net_of, layout, sound_record}
use Rattle.network.specs.RecordLaws.{net_of_layout, sound_layout, holds_layout}
use Rattle.network.specs.Places.{HoldsSound}
use Rattle.network.specs.declared.Network.{Network}
use Rattle.pmn_format.specs.Format.{file_bytes}
use Rattle.call_theory.specs.Steps.{just_opened}
use Rattle.call_theory.specs.declared.Call.{Call}
use Rattle.pmn_opening.specs.Files.{room, length_of}
use Rattle.pmn_opening.specs.Opening.{FileOpen}
use Rattle.pmn_opening.specs.OpeningLaws.{open_record, read_on}
use Rattle.pmn_files.specs.Files.{file_in}
use Rattle.call_numbers.specs.Numbers.{well_formed, calls_in}
use Rattle.call_numbers.specs.NumberLaws.{count_calls}
use Rattle.call_runs.specs.Runs.{answers_of, net_after, ListRan, ran}
use Rattle.call_runs.proofs.RunLaws.{after_sound, answers_length}
use Rattle.call_runs.specs.Files.{run_answer, ran_file, ran_numbers}

-- what a run leaves: its answer's code, the numbers and the bytes
pub record RunLeft (x : Answer ListRan) (k : ℕ) (answers numbers out bytes : List ℕ) : Type 0 where
  pub code : k ≡ code_of x
  pub places : numbers ≡ stored (ran_numbers x) answers
  pub file : bytes ≡ stored (ran_file x) out

run_same : {x y : Answer ListRan} {k : ℕ} {answers numbers out bytes : List ℕ} → x ≡ y → RunLeft y k answers numbers out bytes
    → RunLeft x k answers numbers out bytes
run_same {k = k} {answers} {numbers} {out} {bytes} e l = subst (λ (z : Answer ListRan). RunLeft z k answers numbers out bytes) (sym e) l

-- a refusal: everything as it was
pub run_refused : {x : Answer ListRan} {k : ℕ} (answers out : List ℕ) → x ≡ refused k → RunLeft x k answers answers out out
unfolding code_of stored ran_numbers ran_file
run_refused answers out e = run_same e (record { code = refl; places = refl; file = refl })

-- ---- the record of the file that was read
module _ {file : List ℕ} {r : Network} (a : FileOpen file 0 0 r) where
  pub read_holds : HoldsSound r
  read_holds = subst HoldsSound (sym a.laid) (holds_layout a.net a.sound)

-- ---- the tests
module _ {file : List ℕ} {r : Network} (a : FileOpen file 0 0 r) (ns answers out : List ℕ) where
  abbrev cs : List Call
  cs = calls_in ns

  abbrev last : Net → List Test
  last N = (room (1 + 4 * length cs) answers && room (length (file_bytes (net_after N cs))) out else 18) ∷ []

  run_on : run_answer file ns answers out ≡ checks ((well_formed ns else 14) ∷ last (net_of r)) (accepted (ran (net_of r) cs))
  unfolding run_answer
  run_on = read_on a _ ∙ ap (λ (N : Net). checks ((well_formed ns else 14) ∷ last N) (accepted (ran N cs))) (open_record a)

  pub run_unformed : well_formed ns ≡ false → run_answer file ns answers out ≡ refused 14
  run_unformed w = run_on ∙ checks_first (well_formed ns) 14 (last (net_of r)) (accepted (ran (net_of r) cs)) w

  module _ (w : well_formed ns ≡ true) where
    run_formed : run_answer file ns answers out ≡ checks (last (net_of r)) (accepted (ran (net_of r) cs))
    run_formed = run_on ∙ checks_next (well_formed ns) 14 (last (net_of r)) (accepted (ran (net_of r) cs)) w

    -- the places that the answers need
    pub enough : 4 * (length ns / 5) + 1 ≤ length answers → 1 + 4 * length cs ≤ length answers
    enough h = omega (arith, count_calls ns w)

    abbrev places : ℕ
    places = 1 + 4 * length cs

    abbrev long : ℕ
    long = length (file_bytes (net_after (net_of r) cs))

    -- the last test
    abbrev given : Answer ListRan
    given = accepted (ran (net_of r) cs)

    last_fails : leb places (length answers) && leb long (length out) ≡ false → run_answer file ns answers out ≡ refused 18
    unfolding room
    last_fails e = run_formed ∙ checks_first (leb places (length answers) && leb long (length out)) 18 [] given e

    pub run_few : length answers < 4 * (length ns / 5) + 1 → run_answer file ns answers out ≡ refused 18
    run_few h =
        let few : length answers < places = omega (arith, count_calls ns w) in
        last_fails (and_false_left (leb places (length answers)) (leb long (length out)) (lt-leb places (length answers) few))

    pub run_long : leb long (length out) ≡ false → run_answer file ns answers out ≡ refused 18
    run_long t = last_fails (and_false_right (leb places (length answers)) (leb long (length out)) t)

    run_whole : places ≤ length answers → leb long (length out) ≡ true → run_answer file ns answers out ≡ accepted (ran (net_of r) cs)
    unfolding room
    run_whole h t =
        let fits = both_true (leb places (length answers)) (leb long (length out)) (le-leb places (length answers) h) t in
        run_formed ∙ checks_next (leb places (length answers) && leb long (length out)) 18 [] given fits ∙ checks_none given

-- ---- the run
module _ {r : Network} (s : HoldsSound r) (cs : List Call) {after : Network} (e : after ≡ layout (net_after (net_of r) cs)) where
  abbrev M : Net
  M = net_after (net_of r) cs

  -- the record after the list is sound
  pub after_list_sound : sound_record after ≡ true
  after_list_sound = ap sound_record e ∙ is_true (sound_record (layout M)) (sound_layout M (after_sound r s cs))

  -- its file, where there is room for it
  after_file : (room : ℕ) → leb (length (file_bytes (net_after (net_of r) cs))) room ≡ true
      → file_in room (net_of after) ≡ accepted (file_bytes (net_after (net_of r) cs))
  unfolding file_in
  after_file room fits =
      ap (λ (z : Network). file_in room (net_of z)) e
      ∙ ap (file_in room) (net_of_layout M (after_sound r s cs))
      ∙ checks_next (leb (length (file_bytes M)) room) 18 [] (accepted (file_bytes M)) fits
      ∙ checks_none (accepted (file_bytes M))

-- the first place after the others
place_first : (lent xs : List ℕ) (x : ℕ) → 1 + length xs ≤ length lent
    → stored (accepted (x ∷ [])) (paste lent 1 xs (length xs)) ≡ stored (accepted (x ∷ xs)) lent
unfolding stored
place_first [] xs x h = absurd (omega arith)
place_first (y ∷ l) xs x h =
    ap (λ (zs : List ℕ). x ∷ (zs ++ drop (1 + length xs) (y ∷ l))) (take-length xs)
    ∙ ap (λ (n : ℕ). x ∷ (xs ++ drop n (y ∷ l))) {x = 1 + length xs} {y = suc (length xs)} (omega arith)

-- the calls' answers are stored, the file of the record after them is written, and its length goes into place 0
module _ {file : List ℕ} {r : Network} (a : FileOpen file 0 0 r) (ns answers out : List ℕ) (w : well_formed ns ≡ true)
    (h : 1 + 4 * length (calls_in ns) ≤ length answers) (fits : leb (length (file_bytes (net_after (net_of r) (calls_in ns)))) (length out) ≡ true)
    {after : Network} (e : after ≡ layout (net_after (net_of r) (calls_in ns))) where
  pub run_left : {put : List ℕ} → put ≡ paste answers 1 (answers_of (just_opened (net_of r)) (calls_in ns)) (4 * length (calls_in ns))
      → {k : ℕ} {bytes numbers : List ℕ} → k ≡ code_of (file_in (length out) (net_of after)) → bytes ≡ stored (file_in (length out) (net_of after)) out
      → numbers ≡ stored (length_of (file_in (length out) (net_of after))) put → RunLeft (run_answer file ns answers out) k answers numbers out bytes
  unfolding code_of length_of ran_numbers ran_file ran stored
  run_left p c b d =
      let cs = calls_in ns in
      let xs = answers_of (just_opened (net_of r)) cs in
      let n = length (file_bytes (net_after (net_of r) cs)) in
      let f = after_file (read_holds a) cs e (length out) fits in
      let count = answers_length (just_opened (net_of r)) cs in
      run_same (run_whole a ns answers out w h fits) (record {
        code = c ∙ ap code_of f;
        places = d
            ∙ (λ x. stored (length_of (f x)) (p x))
            ∙ ap (λ (k : ℕ). stored (accepted (n ∷ [])) (paste answers 1 xs k)) (sym count)
            ∙ place_first answers xs n (omega arith);
        file = b ∙ ap (λ (z : Answer (List ℕ)). stored z out) f;
      })
