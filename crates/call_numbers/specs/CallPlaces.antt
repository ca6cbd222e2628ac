-- Internal: the call at a place of a list of numbers. Nothing is proved here.
use Rattle.std.specs.Prelude.{List, ℕ, ◌+◌, ◌*◌, get_or}
use Rattle.call_theory.specs.declared.Call.{Call}
use Rattle.call_numbers.specs.Numbers.{call_of}

-- call i of a list of numbers
abbrev pub call_at : List ℕ → ℕ → Call
call_at ns i = call_of (get_or ns (5 * i) 0) (get_or ns (5 * i + 1) 0) (get_or ns (5 * i + 2) 0) (get_or ns (5 * i + 3) 0) (get_or ns (5 * i + 4) 0)
