-- Internal: a game on the output words of its frames, and what the loops over frames and balls keep. Nothing is proved here.
use Rattle.std.specs.Prelude.{◌≡◌, true, false, List, [], ◌∷◌, ◌++◌, ℕ, ◌+◌, ◌*◌, ◌/◌, ◌%◌, ◌≤◌, ◌<◌, leb, length, get_or, take, drop}
use Rattle.basics.specs.Lists.{all}
use Rattle.basics.specs.Refusals.{Answer, accepted, ◌else◌, checks, bind}
use Rattle.network.specs.Threshold.{fits_frame}
use Rattle.scorer_theory.specs.Rules.{Pins, first_frame, felled_from}
use Rattle.scorer_ball.specs.Words.{pins_in, game_of, OnLane}
use Rattle.scorer_ball.specs.declared.Lane.{Lane}

-- ---- frames

-- the first n frames are read: they are not long, and the next one is, or they are 22
pub record ShortFrames (inputs : ℕ) (frames : List ℕ) (n : ℕ) : Type 0 where
  pub within : n ≤ length frames
  pub few : n ≤ 22
  pub fit : all (fits_frame inputs) (take n frames) ≡ true
  pub next : n < length frames → n < 22 → fits_frame inputs (get_or frames n 0) ≡ false

-- ---- words

-- the pins that an output word shows
unfoldable pub word_pins : ℕ → Answer Pins
word_pins w = accepted (pins_in (w % 1024))

-- after the last word: 10 where the game has more frames
unfoldable pub after_words : List ℕ → ℕ → List ℕ → Answer (List ℕ)
after_words words frames felled = checks ((leb frames (length words) else 10) ∷ []) (accepted felled)

-- the game of so many frames, on the words of those that are read
unfoldable pub word_game : List ℕ → ℕ → Answer (List ℕ)
word_game words frames = bind (felled_from word_pins first_frame words) (after_words words frames)

-- ---- balls

-- pins felled so far, before those that are still to come
unfoldable pub joined : List ℕ → Answer (List ℕ) → Answer (List ℕ)
joined done more = bind more (λ rest. accepted (done ++ rest))

-- so many balls of a game are bowled, what they felled and what is still to come are the whole game, and the lane is before the next ball; there
-- is room for it, since the nine frames before the tenth have two balls each at most, and the tenth three
pub record Bowled (words : List ℕ) (l : Lane) (done : List ℕ) (balls : ℕ) : Type 0 where
  pub on_lane : OnLane l
  pub room : balls + 2 ≤ 2 * l.frame + l.balls + l.frame / 11
  pub in_game : l.frame ≤ 11
  pub few : balls ≤ 21
  pub left : joined done (felled_from word_pins (game_of l) (drop balls words)) ≡ felled_from word_pins first_frame words

-- so many balls of a game are bowled, the lane is as in `Bowled`, and what they felled stands in the first of 21 places; the others are as they
-- were
pub record Playing (words : List ℕ) (l : Lane) (old felled : List ℕ) (balls : ℕ) : Type 0 where
  pub done : List ℕ
  pub many : balls ≡ length done
  pub within : balls ≤ length words
  pub few : balls ≤ 21
  pub on_lane : OnLane l
  pub room : balls + 2 ≤ 2 * l.frame + l.balls + l.frame / 11
  pub in_game : l.frame ≤ 11
  pub long : length felled ≡ 21
  pub stored : felled ≡ done ++ drop balls old
  pub left : joined done (felled_from word_pins (game_of l) (drop balls words)) ≡ felled_from word_pins first_frame words
