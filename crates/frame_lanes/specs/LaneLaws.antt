-- A lane: its length and its bits. Assumes nothing.
use Rattle.std.specs.Prelude.{◌≡◌, false, List, ℕ, ◌+◌, ◌*◌, ◌<◌, ℤ, pos, length, get_or}
use Rattle.basics.specs.ListLaws.{length_tab, get_or_tab}
use Rattle.frame_reading.specs.Evaluation.{bits_in}
use Rattle.frame_lanes.specs.Lanes.{is_on, lane}

pub length_lane : (masks : List ℤ) (f : ℕ) → length (lane masks f) ≡ 256
unfolding lane
length_lane masks f = length_tab 256 (λ s. is_on (get_or masks (64 * s + f) (pos 0)))

-- the bit of a signal in a lane
pub lane_bit : (masks : List ℤ) (f s : ℕ) → s < 256 → bits_in (lane masks f) s ≡ is_on (get_or masks (64 * s + f) (pos 0))
unfolding lane
lane_bit masks f s h = get_or_tab false 256 (λ t. is_on (get_or masks (64 * t + f) (pos 0))) s h
