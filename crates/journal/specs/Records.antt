-- The record: a network with its journal. Document 02, No. 5, "The record gains a journal". Nothing is proved here.
use Rattle.std.specs.Prelude.{Bool, ◌&&◌, [], ◌∷◌, leb}
use Rattle.basics.specs.Refusals.{Answer, ◌else◌, checks}
use Rattle.network.specs.Record.{net_of, layout, sound_record}
use Rattle.network.specs.declared.Network.{Network}
use Rattle.call_theory.specs.Steps.{State}
use Rattle.journal.specs.Journals.{steps_in, journal_of, empty_journal}
use Rattle.journal.specs.declared.Record.{Record}

-- the network and the steps that a record stands for
unfoldable pub state_of : Record → State
state_of r = record { net = net_of r.network; steps = steps_in r.journal }

-- "sound": what it was for the network, and "A journal that claims more than 64 steps makes a record not sound"
unfoldable pub sound_whole : Record → Bool
sound_whole r = sound_record r.network && leb r.journal.count 64

-- "Every call given a record tests this first": 20 for the journal; then the answer on the network, which tests the network first, also with 20
unfoldable pub tested : {A : Type 0} → Record → Answer A → Answer A
tested r a = checks ((leb r.journal.count 64 else 20) ∷ []) a

-- the record of a network and its steps, spare places 0
unfoldable pub record_of : State → Record
record_of q = record { network = layout q.net; journal = journal_of q.steps }

-- "A read empties the journal": the record of a network just read
unfoldable pub just_read : Network → Record
just_read n = record { network = n; journal = empty_journal }
