-- A sound record's counts lie within its arrays, the word is that of the output bits, and its ones are the bits that are 1.
use Rattle.std.proofs.Common.{◌≡◌, Bool, List, ℕ}
use Rattle.basics.specs.Library.{ones}
use Rattle.network.specs.Threshold.{values, frame, output_bits, word_of, ones_of}
use Rattle.network.specs.Record.{net_of}
use Rattle.network.specs.SoundLaws.{sized_of}
use Rattle.network.specs.WordLaws.{ones_word}
use Rattle.frame_reading.specs.Reading.{as_reading}
use Rattle.frame_reading.specs.declared.Reading.{Reading}
use Rattle.frame_reading.proofs.unchecked.read_outputs.Goals as goal

pub signal_values-values-requires : goal.signal_values-values-requires
signal_values-values-requires c =
    let sized = sized_of _ c.requires.network_value in
    record { few_inputs = sized.few_inputs; few_gates = sized.few_gates; few_feeds = sized.few_feeds; fits = c.requires.x_value }

pub output_word-bits-requires : goal.output_word-bits-requires
output_word-bits-requires c = (sized_of _ c.requires.network_value).few_outputs

-- the word of some bits, with the count of its ones, is the reading of these bits
as_reading_lem : (bs : List Bool) (w : ℕ) → w ≡ word_of bs
    → ◌≡◌ {A = Reading} (record { code = 0; bits = w; ones = ones w }) (record { code = 0; bits = word_of bs; ones = ones_of bs })
as_reading_lem bs w e = rw (e, ones_word)

pub returns : goal.returns
unfolding as_reading output_bits values net_of
returns c =
    let a = c.args in
    as_reading_lem (output_bits (net_of a.network.now) (frame a.x)) _
    (rw c.signal_values-values.ensures at c.output_word-bits.ensures)
