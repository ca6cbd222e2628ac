-- Document 02, No. 10, of what the call on a record promises. Nothing is proved here.
use Rattle.std.specs.Prelude.{◌≡◌, true, false, List, map, ℕ, ◌≤◌, ◌<◌, length}
use Rattle.basics.specs.Lists.{all}
use Rattle.basics.specs.Refusals.{accepted, refused}
use Rattle.network.specs.Threshold.{fits_frame}
use Rattle.journal.specs.Records.{sound_whole}
use Rattle.journal.specs.declared.Record.{Record}
use Rattle.journal_calls.specs.Answers.{reading_on, frames_on}

-- frames in one pass, up to 64 of them, with as many places: each "as single readings would give them"; "More than 64 frames, or a lent answer slice
-- shorter than the list of frames, give 26, after 20 and before 10"; "If a frame is refused, none is read"
pub record FramesClaim (r : Record) (frames lent : List ℕ) : Type 0 where
  pub unsound : sound_whole r ≡ false → frames_on r frames lent ≡ refused 20
  pub many : sound_whole r ≡ true → 64 < length frames → frames_on r frames lent ≡ refused 26
  pub short : sound_whole r ≡ true → length lent < length frames → frames_on r frames lent ≡ refused 26
  pub long : sound_whole r ≡ true → length frames ≤ 64 → length frames ≤ length lent → all (fits_frame r.network.inputs) frames ≡ false
      → frames_on r frames lent ≡ refused 10
  pub given : sound_whole r ≡ true → length frames ≤ 64 → length frames ≤ length lent → all (fits_frame r.network.inputs) frames ≡ true
      → frames_on r frames lent ≡ accepted (map (λ x. (reading_on r x).bits) frames)
