-- What a read answers: the record of a file. Nothing is proved here.
use Rattle.std.specs.Prelude.{List, ℕ}
use Rattle.journal.specs.Records.{just_read}
use Rattle.pmn_reader.specs.Answers.{loaded}
use Rattle.front.specs.declared.Opened.{Opened}

-- "A read empties the journal"
unfoldable pub opened_file : List ℕ → Opened
opened_file file = record { code = (loaded file).code; held = just_read (loaded file).network }
