-- What `read` answers, as document 01 has it: "A refusal hands the record back unchanged (a refused read: blank), with 0 for every other
-- number, and touches no lent byte." Nothing is proved here.
use Rattle.std.specs.Prelude.{List, ℕ}
use Rattle.network.specs.Threshold.{Net}
use Rattle.network.specs.Record.{layout, blank_record}
use Rattle.pmn_format.specs.Format.{Read, done, parse_file}
use Rattle.pmn_reader.specs.declared.Loaded.{Loaded}

unfoldable pub as_loaded : Read Net → Loaded
as_loaded (Read.refused k) = record { code = k; network = blank_record }
as_loaded (done N l) = record { code = 0; network = layout N }

-- the network of a file, or the first refusal and the blank record
unfoldable pub loaded : List ℕ → Loaded
loaded file = as_loaded (parse_file file)
