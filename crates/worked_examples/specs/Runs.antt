-- Lists of calls by their numbers, and runs of one on file F, from bytes to bytes. Nothing is proved here.
use Rattle.std.specs.Prelude.{◌≡◌, Bool, true, false, List, [], ◌∷◌, map, ℕ, replicate}
use Rattle.basics.specs.Refusals.{Answer, accepted, refused}
use Rattle.call_theory.specs.declared.Call.{Call}
use Rattle.call_theory.specs.declared.Call.TheVariants.{Merge, Drop, Collapse, Sweep, Preview, Undo}
use Rattle.call_numbers.specs.Numbers.{calls_in, well_formed}
use Rattle.call_runs.specs.Runs.{ListRan}
use Rattle.call_runs.specs.Files.{run_answer}
use Rattle.worked_examples.specs.Literal.{bytes_f}

-- ---- five numbers to a call: a kind from 0 to 5, and four numbers

-- one call of each kind
abbrev six_calls : List ℕ
six_calls =
    0 ∷ 3 ∷ 4 ∷ 1 ∷ 2
    ∷ 1 ∷ 5 ∷ 9 ∷ 9 ∷ 9
    ∷ 2 ∷ 6 ∷ 9 ∷ 9 ∷ 9
    ∷ 3 ∷ 7 ∷ 9 ∷ 9 ∷ 9
    ∷ 4 ∷ 8 ∷ 9 ∷ 9 ∷ 9
    ∷ 5 ∷ 9 ∷ 9 ∷ 9 ∷ 9 ∷ []

-- no multiple of 5, or a kind above 5
unfoldable pub unformed : List (List ℕ)
unformed = (0 ∷ []) ∷ (5 ∷ 0 ∷ 0 ∷ 0 ∷ 0 ∷ 5 ∷ 0 ∷ 0 ∷ 0 ∷ []) ∷ (6 ∷ 0 ∷ 0 ∷ 0 ∷ 0 ∷ []) ∷ (5 ∷ 0 ∷ 0 ∷ 0 ∷ 0 ∷ 6 ∷ 0 ∷ 0 ∷ 0 ∷ 0 ∷ []) ∷ []

pub record CallsRead : Type 0 where
  pub empty : calls_in [] ≡ []
  pub six : calls_in six_calls ≡ Merge 3 4 1 2 ∷ Drop 5 ∷ Collapse 6 ∷ Sweep 7 ∷ Preview 8 ∷ Undo ∷ []
  pub formed : map well_formed ([] ∷ six_calls ∷ []) ≡ true ∷ true ∷ []
  pub not_formed : map well_formed unformed ≡ false ∷ false ∷ false ∷ false ∷ []

-- ---- runs on F, with so many places for numbers and bytes
pub record RunRow : Type 0 where
  pub numbers : List ℕ
  pub places : ℕ
  pub room : ℕ
  pub gives : Answer ListRan

-- a preview of the collapse of u, the collapse, and the drop of a gate that is not there
abbrev three_calls : List ℕ
three_calls = 4 ∷ 3 ∷ 0 ∷ 0 ∷ 0 ∷ 2 ∷ 3 ∷ 0 ∷ 0 ∷ 0 ∷ 1 ∷ 9 ∷ 0 ∷ 0 ∷ 0 ∷ []

-- [4,3,3;8] in 29 bytes; the length, then four numbers for each call: the preview's 0, 1 gate, cost 18 and 1 level, the collapse's 0, the drop's 11;
-- 18 for a byte or a place less, and 14 before it for a kind above 5
unfoldable pub runs : List RunRow
runs =
    record {
      numbers = three_calls;
      places = 13;
      room = 29;
      gives = accepted (record {
        file =
            80 ∷ 77 ∷ 78 ∷ 1 ∷ 0 ∷ 3 ∷ 1 ∷ 1 ∷ 3 ∷ 8 ∷ 0 ∷ 0 ∷ 0 ∷ 0 ∷ 4 ∷ 0 ∷ 0 ∷ 0 ∷ 1 ∷ 3 ∷ 0 ∷ 0 ∷ 0 ∷ 2 ∷ 3 ∷ 0 ∷ 0 ∷ 0 ∷ 3 ∷ [];
        numbers = 29 ∷ 0 ∷ 1 ∷ 18 ∷ 1 ∷ 0 ∷ 0 ∷ 0 ∷ 0 ∷ 11 ∷ 0 ∷ 0 ∷ 0 ∷ [];
      });
    }
    ∷ record { numbers = three_calls; places = 13; room = 28; gives = refused 18 }
    ∷ record { numbers = three_calls; places = 12; room = 29; gives = refused 18 }
    ∷ record { numbers = 6 ∷ 0 ∷ 0 ∷ 0 ∷ 0 ∷ []; places = 0; room = 0; gives = refused 14 }
    ∷ []

abbrev pub RunAsSaid : Type 0
RunAsSaid = map (λ row. run_answer bytes_f row.numbers (replicate row.places 0) (replicate row.room 0)) runs ≡ map (λ row. row.gives) runs
