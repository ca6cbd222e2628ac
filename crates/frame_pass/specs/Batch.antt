-- Internal: what reading a batch of frames in one pass asks for and gives. Nothing is proved here.
use Rattle.std.specs.Prelude.{◌≡◌, true, List, ℕ, ◌≤◌, ◌<◌, length, get_or}
use Rattle.basics.specs.Lists.{all}
use Rattle.network.specs.Threshold.{fits_frame}
use Rattle.network.specs.Record.{sound_record}
use Rattle.network.specs.declared.Network.{Network}
use Rattle.frame_reading.specs.Reading.{reading}

-- a sound record, and at most 64 frames that fit it
pub record Readable (r : Network) (frames : List ℕ) : Type 0 where
  pub sound : sound_record r ≡ true
  pub few : length frames ≤ 64
  pub fit : all (fits_frame r.inputs) frames ≡ true

-- 64 words, of which the first are those of the frames, each as a single reading gives it
pub record FirstWords (r : Network) (frames words : List ℕ) : Type 0 where
  pub long : length words ≡ 64
  pub word : (f : ℕ) → f < length frames → get_or words f 0 ≡ (reading r (get_or frames f 0)).bits
