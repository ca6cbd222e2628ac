-- The read's refusal, then a list that is not well formed, then too few places or bytes; then the list is run and the file written.
use borrow.Author.Rules.{rules}
use borrow.Author.Tests.{not-true, not-false}
use mathlib.Core.Path.{◌≡◌, refl, sym, ◌∙◌}
use mathlib.Core.Bool.{true}
use mathlib.Core.List.{List}
use Prim.Native.Nat.{ℕ}
use Rattle.basics.specs.Refusals.{Answer, code_of, stored}
use Rattle.pmn_opening.specs.Opening.{FileOpen}
use Rattle.pmn_opening.specs.OpeningLaws.{read_refused}
use Rattle.call_numbers.specs.Numbers.{well_formed, calls_in}
use Rattle.call_runs.specs.Runs.{ListRan}
use Rattle.call_runs.specs.Files.{run_answer, ran_file, ran_numbers}
use Rattle.call_runs.proofs.FileLaws.{RunLeft, run_refused, read_holds, run_unformed, enough, run_few, run_long, after_list_sound, run_left}
use Rattle.call_lists.proofs.files.run_on_file.Statement.{statement}
use Rattle.call_lists.proofs.files.run_on_file.Tie as tie

refusal_requires : tie.Need-refusal-code-requires
refusal_requires c κs = (λ i. (c.shared_slice_known-1.given i).fits, c.read-loaded.ensures)

-- what a run leaves, as the contract has it
left : {x : Answer ListRan} {k m : ℕ} {answers numbers out bytes : List ℕ} → m ≡ k → RunLeft x k answers numbers out bytes
    → (m ≡ code_of x) × ((numbers ≡ stored (ran_numbers x) answers) × (bytes ≡ stored (ran_file x) out))
left e l = (e ∙ l.code, (l.places, l.file))

returns : tie.Need-returns-then-code-ne0
unfolding run_answer
returns c =
    let a = c.args in
    left refl (run_refused a.answers.now a.out.now (read_refused c.refusal-code.ensures _ c.if-code-ne0.true))

-- the file that was read
file_open : (c : tie.Else-code-ne0)
    → FileOpen c.args.file.now 0 0 c.read-loaded.result.network
file_open c = c.refusal-code.ensures.gives c.if-code-ne0.false

-- the list is well formed
formed : (c : tie.Else-not-is_well_formed) →
    well_formed c.args.calls.now ≡ true
formed c = sym c.is_well_formed.ensures ∙ not-false _ c.if-not-is_well_formed.false-raw

returns_2 : tie.Need-returns-then-not-is_well_formed
returns_2 c =
    let s = c.before.before in
    let a = c.args in
    let e = sym c.is_well_formed.ensures ∙ not-true _ c.if-not-is_well_formed.true-raw in
    left refl (run_refused a.answers.now a.out.now (run_unformed (file_open s) a.calls.now a.answers.now a.out.now e))

returns_3 : tie.Need-returns-then-answers-calls
returns_3 c =
    let s = c.before.before.before in
    let a = c.args in
    left refl (run_refused a.answers.now a.out.now
    (run_few (file_open s) a.calls.now a.answers.now a.out.now (formed c.before) c.if-answers-calls.true))

has_room_requires : tie.Need-has_room-requires
has_room_requires c κs = (read_holds (file_open c.before.before.before.before), formed c.before.before)

returns_4 : tie.Need-returns-then-not-has_room
returns_4 c =
    let w = c.before.before.before.before in
    let s = c.before.before.before.before.before.before in
    let a = c.args in
    let e = sym c.has_room.ensures ∙ not-true _ c.if-not-has_room.true-raw in
    left refl (run_refused a.answers.now a.out.now (run_long (file_open s) a.calls.now a.answers.now a.out.now (formed w) e))

run_storing_requires : tie.Need-run_storing-after-requires
run_storing_requires c κs =
    let s = c.before.before.before.before.before.before.before.before in
    let a = c.args in
    let w = formed c.before.before.before.before.before.before in
    (read_holds (file_open s), (w, enough (file_open s) a.calls.now a.answers.now a.out.now w c.if-answers-calls.false))

put_file_requires : tie.Need-put_file-requires
put_file_requires c κs =
    let s = c.before.before.before.before.before.before.before.before.before.before.before.before.before in
    let a = c.args in
    (after_list_sound (read_holds (file_open s)) (calls_in a.calls.now) c.run_storing-after.ensures.0, search rules)

returns_5 : tie.Need-returns
returns_5 c =
    let p = c.put_file.ensures in
    let r = c.run_storing-after.ensures in
    let s = c.before.before.before.before.before.before.before.before.before.before.before.before.before.before.before.before.before.before in
    let a = c.args in
    let w = formed c.before.before.before.before.before.before.before.before.before.before.before.before.before.before.before.before in
    let places = enough (file_open s) a.calls.now a.answers.now a.out.now w c.if-answers-calls.false in
    let fits = sym c.has_room.ensures ∙ not-false _ c.if-not-has_room.false-raw in
    left refl (run_left (file_open s) a.calls.now a.answers.now a.out.now w places fits r.0 r.1 p.0 p.1.0 p.1.1)

pub run_on_file_spec : {M : Type 1} → statement M
run_on_file_spec =
    tie.close
    (tie.spec
    (λ c κs. search rules)
    refusal_requires
    returns
    (λ c κs. search rules)
    returns_2
    (λ c. search rules)
    (λ c. search rules)
    returns_3
    has_room_requires
    returns_4
    run_storing_requires
    put_file_requires
    (λ c. search rules)
    (λ c. search rules)
    returns_5)
