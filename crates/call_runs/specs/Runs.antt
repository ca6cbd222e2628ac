-- What a list of calls answers and leaves. The list is run as document 01, "A list of calls", has it, from a network just read. Nothing is
-- proved here.
use Rattle.std.specs.Prelude.{List, [], ◌∷◌, ◌++◌, ℕ, length}
use Rattle.basics.specs.Refusals.{Answer, accepted, refused, code_of}
use Rattle.network.specs.Threshold.{Net}
use Rattle.pmn_format.specs.Format.{file_bytes}
use Rattle.call_theory.specs.Steps.{State, just_opened}
use Rattle.call_theory.specs.Calls.{Given, no_figures, answer, leaves, calls}
use Rattle.call_theory.specs.declared.Figures.{Figures}
use Rattle.call_theory.specs.declared.Call.{Call}
use Rattle.call_numbers.specs.Numbers.{four_of}

-- the three numbers of a call, 0 where it is refused
unfoldable pub figures_in : Answer Given → Figures
figures_in (accepted g) = g.figures
figures_in (refused c) = no_figures

unfoldable pub answers_of : State → List Call → List ℕ
answers_of q [] = []
answers_of q (c ∷ cs) = four_of (code_of (answer q c)) (figures_in (answer q c)) ++ answers_of (leaves q (answer q c)) cs

-- the network after a list, from a read on
abbrev pub net_after : Net → List Call → Net
net_after N cs = (calls (just_opened N) cs).net

-- what a run leaves: the file of the network after the list, and the numbers of `answers`
pub record ListRan : Type 0 where
  pub file : List ℕ
  pub numbers : List ℕ

unfoldable pub ran : Net → List Call → ListRan
ran N cs = record { file = file_bytes (net_after N cs); numbers = length (file_bytes (net_after N cs)) ∷ answers_of (just_opened N) cs }
