-- What the run of a list of calls on a whole file answers, with the order as read, 14, 18. A refusal leaves everything as it was. Nothing is
-- proved here.
use Rattle.std.specs.Prelude.{◌&&◌, List, [], ◌∷◌, ℕ, ◌+◌, ◌*◌, length}
use Rattle.basics.specs.Refusals.{Answer, accepted, refused, ◌else◌, checks, bind}
use Rattle.pmn_format.specs.Format.{file_bytes}
use Rattle.pmn_opening.specs.Files.{read_net, room}
use Rattle.call_numbers.specs.Numbers.{well_formed, calls_in}
use Rattle.call_runs.specs.Runs.{net_after, ListRan, ran}

-- the file after the list and the numbers of its calls
unfoldable pub run_answer : List ℕ → List ℕ → List ℕ → List ℕ → Answer ListRan
run_answer file numbers answers out = bind (read_net file) (λ N.
    checks
    ((well_formed numbers else 14)
    ∷ (room (1 + 4 * length (calls_in numbers)) answers && room (length (file_bytes (net_after N (calls_in numbers)))) out else 18) ∷ [])
    (accepted (ran N (calls_in numbers))))

-- the file that a run leaves
unfoldable pub ran_file : Answer ListRan → Answer (List ℕ)
ran_file (accepted r) = accepted r.file
ran_file (refused k) = refused k

-- the numbers that a run leaves
unfoldable pub ran_numbers : Answer ListRan → Answer (List ℕ)
ran_numbers (accepted r) = accepted r.numbers
ran_numbers (refused k) = refused k
