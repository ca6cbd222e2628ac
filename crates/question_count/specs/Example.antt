-- An example of document 02, No. 13: two networks with one input and one gate, which both outputs name. The gate of the first has the
-- input's bit, that of the second is always 1. On frame 0 both outputs differ, on frame 1 none does. Nothing is proved here.
use Rattle.std.specs.Prelude.{◌≡◌, true, [], ◌∷◌, pos}
use Rattle.network.specs.Threshold.{Gate, Net}
use Rattle.network.specs.Limits.{sound}
use Rattle.question_theory.specs.Question.{variables, alike}
use Rattle.question_count.specs.Counting.{solutions, differences, ways}

-- one input, one gate, and two outputs that name it
abbrev named_twice : Gate → Net
named_twice g = record { board = record { version = 1; on = 0; off = 1 }; inputs = 1; gates = g ∷ []; outputs = 1 ∷ 1 ∷ [] }

-- "[1;1]" on the input: the input's bit
unfoldable pub input_twice : Net
input_twice = named_twice (record { feeds = record { signal = 0; weight = pos 1 } ∷ []; threshold = pos 1 })

-- "[ ;0] is always 1"
unfoldable pub one_twice : Net
one_twice = named_twice (record { feeds = []; threshold = pos 0 })

-- files describe both, and 19 does not apply to them; two outputs differ on frame 0 and none on frame 1, and of the settings of the 5
-- variables 3 are solutions
pub record ThreeWays : Type 0 where
  pub first_sound : sound input_twice ≡ true
  pub second_sound : sound one_twice ≡ true
  pub same_counts : alike input_twice one_twice ≡ true
  pub both_differ : differences input_twice one_twice 0 ≡ 2
  pub none_differs : differences input_twice one_twice 1 ≡ 0
  pub three_ways : ways input_twice one_twice ≡ 3
  pub five_variables : variables input_twice one_twice ≡ 5
  pub three_solutions : solutions input_twice one_twice ≡ 3
