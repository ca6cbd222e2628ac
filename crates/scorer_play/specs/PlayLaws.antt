-- Laws of play on output words: the balls in their order. Assumes nothing.
use Rattle.std.specs.Prelude.{◌≡◌, ℕ, ◌+◌, ◌%◌, ◌≤◌, ◌<◌, length, get_or, set, take, replicate}
use Rattle.std.proofs.Math.Path.{refl, sym, ap, subst}
use Rattle.std.proofs.Common.{◌∙◌, add-one, arith, le-leb, drop-cons}
use mathlib.Core.List.{List, [], ◌∷◌, ◌++◌, append_assoc, append-nil}
use Rattle.std.proofs.lemmas.Bool.{lt-leb}
use Rattle.std.proofs.Math.ListN.{drop, length-append}
use Rattle.std.proofs.Math.Seq.{set-append_seam}
use Rattle.std.proofs.lemmas.List.{take_at, drop_all, length-replicate, length-set, length-drop}
use Rattle.basics.specs.Lists.{places}
use Rattle.basics.specs.Refusals.{Answer, accepted, refused, code_of, checks, bind}
use Rattle.basics.specs.RefusalLaws.{checks_first, checks_next}
use Rattle.scorer_theory.specs.Rules.{Pins, Game, first_frame, next_game, ball, felled_from}
use Rattle.scorer_theory.proofs.RuleLaws.{BallAccepted, ball_played}
use Rattle.scorer_ball.specs.Words.{pins_in, game_of, first_lane, SameRack, BallPlayed}
use Rattle.scorer_ball.specs.PinLaws.{fresh_word}
use Rattle.scorer_ball.specs.declared.Lane.{Lane}
use Rattle.scorer_tally.specs.TallyLaws.{places_copied}
use Rattle.scorer_play.specs.Play.{word_pins, after_words, word_game, joined, Bowled, Playing}
use Rattle.scorer_play.specs.BallLaws.{felled_next, felled_refused, felled_none, Moved, moved}

pub joined_none : (a : Answer (List ℕ)) → joined [] a ≡ a
unfolding joined bind
joined_none (accepted xs) = refl
joined_none (refused c) = refl

pub joined_twice : (xs ys : List ℕ) (a : Answer (List ℕ)) → joined xs (joined ys a) ≡ joined (xs ++ ys) a
unfolding joined bind
joined_twice xs ys (accepted zs) = ap accepted (sym (append_assoc xs ys zs))
joined_twice xs ys (refused c) = refl

first_game : game_of first_lane ≡ first_frame
unfolding game_of first_frame
first_game = rw fresh_word

-- ---- balls bowled, wherever the pins that they felled stand

-- the pins that the next ball leaves
abbrev pins_left : List ℕ → ℕ → Pins
pins_left words balls = pins_in (get_or words balls 0 % 1024)

pub bowled_none : (words : List ℕ) → Bowled words first_lane [] 0
bowled_none words = record {
  on_lane = record { few_balls = omega arith; few_down = omega arith; ten_pins = omega arith };
  room = omega arith;
  in_game = omega arith;
  few = omega arith;
  left = rw first_game (joined_none (felled_from word_pins first_frame words));
}

module _ {words : List ℕ} {l : Lane} {done : List ℕ} {balls : ℕ} (p : Bowled words l done balls) where
  -- the next ball of the game has a place
  pub bowled_room : l.frame ≤ 10 → balls < 21
  bowled_room h = omega (arith, p.room, p.on_lane.few_balls)

  module _ (more : balls < length words) where
    -- what is left starts with the next ball
    ahead : drop balls words ≡ get_or words balls 0 ∷ drop (balls + 1) words
    ahead = rw add-one (drop-cons words balls 0 more)

    pub bowled_refused : {c : ℕ} (frames : ℕ) → ball (game_of l) (pins_left words balls) ≡ refused c → word_game words frames ≡ refused c
    unfolding word_game word_pins joined bind
    bowled_refused frames e =
        let stop = felled_refused word_pins (game_of l) (get_or words balls 0) (drop (balls + 1) words) refl e in
        let rest = ap (λ (xs : List ℕ). joined done (felled_from word_pins (game_of l) xs)) ahead ∙ ap (joined done) stop in
        ap (λ (a : Answer (List ℕ)). bind a (after_words words frames)) (sym p.left ∙ rest)

    module _ {r : Lane} {fell : ℕ} (t : BallPlayed l fell (get_or words balls 0 % 1024) r) where
      in_frame : l.frame ≤ 10
      unfolding game_of code_of
      in_frame = let b = ball_played (game_of l) (pins_left words balls) (ap code_of t.allowed) in b.in_game

      -- a ball that is played has a place
      pub bowled_place : balls < 21
      bowled_place = bowled_room in_frame

      pub bowled_next : fell < 256 → Bowled words r (done ++ (fell ∷ [])) (balls + 1)
      unfolding game_of next_game word_pins
      bowled_next k =
          let m : Moved (game_of l) (game_of r) fell =
          subst (λ (h : Game). Moved (game_of l) h fell) (sym t.thrown.game) (moved (game_of l) fell (pins_left words balls) in_frame p.on_lane.few_balls) in
          let rest = drop (balls + 1) words in
          let turn : felled_from word_pins (game_of l) (drop balls words) ≡ joined (fell ∷ []) (felled_from word_pins (game_of r) rest) =
          ap (felled_from word_pins (game_of l)) ahead ∙ felled_next word_pins (game_of l) (get_or words balls 0) rest refl t.allowed
          ∙ rw (← t.pins, t.thrown.game) in
          record {
            on_lane = record { few_balls = m.few_balls; few_down = m.few_down p.on_lane.few_down k; ten_pins = t.thrown.ten_pins };
            room = omega (arith, p.room, m.room, in_frame);
            in_game = m.in_game;
            few = omega (arith, bowled_place);
            left = sym (joined_twice done (fell ∷ []) (felled_from word_pins (game_of r) rest)) ∙ ap (joined done) (sym turn) ∙ p.left;
          }

  -- every word is played: there are more frames, or none
  module _ (end : length words ≤ balls) where
    playing_end : felled_from word_pins first_frame words ≡ accepted done
    unfolding joined bind
    playing_end =
        sym p.left ∙ ap (λ (xs : List ℕ). joined done (felled_from word_pins (game_of l) xs)) (drop_all balls words end)
        ∙ ap (joined done) (felled_none word_pins (game_of l)) ∙ ap accepted (append-nil done)

    whole_words : (frames : ℕ) → word_game words frames ≡ after_words words frames done
    unfolding word_game bind
    whole_words frames = ap (λ (a : Answer (List ℕ)). bind a (after_words words frames)) playing_end

    pub bowled_long : {frames : ℕ} → length words < frames → word_game words frames ≡ refused 10
    unfolding after_words
    bowled_long {frames} h = whole_words frames ∙ checks_first _ 10 [] _ (lt-leb frames (length words) h)

    pub bowled_whole : {frames : ℕ} → frames ≤ length words → word_game words frames ≡ accepted done
    unfolding after_words checks
    bowled_whole {frames} h = whole_words frames ∙ checks_next _ 10 [] _ (le-leb frames (length words) h)

-- ---- the pins that they felled, in 21 places

-- the places after the first are as they were, and the next is written
next_place : (done old : List ℕ) (i x : ℕ) → i ≡ length done → i < length old
    → set (done ++ drop i old) i x ≡ (done ++ (x ∷ [])) ++ drop (i + 1) old
next_place done old i x e h =
    let y = get_or old i 0 in
    let rest = drop (i + 1) old in
    let start : drop i old ≡ y ∷ rest = rw add-one (drop-cons old i 0 h) in
    ap (λ (xs : List ℕ). set (done ++ xs) i x) start ∙ ap (λ (n : ℕ). set (done ++ (y ∷ rest)) n x) e
    ∙ set-append_seam done y rest x ∙ sym (append_assoc done (x ∷ []) rest)

pub playing_start : (words old : List ℕ) → length old ≡ 21 → Playing words first_lane old old 0
playing_start words old long =
    let t = bowled_none words in
    record {
      done = [];
      many = refl;
      within = omega arith;
      few = t.few;
      on_lane = t.on_lane;
      room = t.room;
      in_game = t.in_game;
      long = long;
      stored = refl;
      left = t.left;
    }

pub playing_none : (words : List ℕ) → Playing words first_lane (replicate 21 0) (replicate 21 0) 0
playing_none words = playing_start words (replicate 21 0) (length-replicate {A = ℕ} 21 0)

module _ {words : List ℕ} {l : Lane} {old felled : List ℕ} {balls : ℕ} (p : Playing words l old felled balls) where
  pub playing_bowled : Bowled words l p.done balls
  playing_bowled = record { on_lane = p.on_lane; room = p.room; in_game = p.in_game; few = p.few; left = p.left }

  pub playing_room : l.frame ≤ 10 → balls < 21
  playing_room h = bowled_room playing_bowled h

  -- the balls thrown are those in their places
  pub playing_taken : take balls felled ≡ p.done
  playing_taken = ap (take balls) p.stored ∙ take_at p.done (drop balls old) balls (sym p.many)

  -- in places that held 0, the spare ones still do
  pub playing_stored : old ≡ replicate 21 0 → felled ≡ places 21 0 p.done
  playing_stored e =
      p.stored ∙ ap (λ (xs : List ℕ). p.done ++ drop balls xs) e ∙ ap (λ (n : ℕ). p.done ++ drop n (replicate 21 0)) p.many
      ∙ places_copied 21 p.done (omega (arith, p.few, p.many))

  module _ (more : balls < length words) where
    abbrev after : Pins
    after = pins_left words balls

    pub playing_refused : {c : ℕ} (frames : ℕ) → ball (game_of l) after ≡ refused c → word_game words frames ≡ refused c
    playing_refused frames e = bowled_refused playing_bowled more frames e

    pub playing_fair : BallAccepted (game_of l) after → SameRack l.rack (get_or words balls 0 % 1024)
    unfolding game_of
    playing_fair b = record { ten_before = p.on_lane.ten_pins; ten_after = omega arith; same_rack = b.same_rack }

    module _ {r : Lane} {fell : ℕ} (t : BallPlayed l fell (get_or words balls 0 % 1024) r) where
      -- a ball that is played has a place
      pub playing_place : balls < 21
      playing_place = bowled_place playing_bowled more t

      pub playing_next : fell < 256 → Playing words r old (set felled balls fell) (balls + 1)
      playing_next k =
          let n = bowled_next playing_bowled more t k in
          let free : balls < length old =
          omega (arith, playing_place, p.long, p.many, ap length p.stored, length-append p.done (drop balls old), length-drop balls old) in
          record {
            done = p.done ++ (fell ∷ []);
            many = omega (arith, p.many, length-append p.done (fell ∷ []));
            within = omega arith;
            few = n.few;
            on_lane = n.on_lane;
            room = n.room;
            in_game = n.in_game;
            long = length-set felled balls fell ∙ p.long;
            stored = ap (λ (xs : List ℕ). set xs balls fell) p.stored ∙ next_place p.done old balls fell p.many free;
            left = n.left;
          }

  -- every word is played: there are more frames, or none
  module _ (end : length words ≤ balls) where
    all_thrown : balls ≡ length words
    all_thrown = omega (arith, p.within)

    pub playing_long : {frames : ℕ} → balls < frames → word_game words frames ≡ refused 10
    playing_long {frames} h = bowled_long playing_bowled end (omega (arith, all_thrown))

    pub playing_whole : {frames : ℕ} → frames ≤ balls → word_game words frames ≡ accepted p.done
    playing_whole {frames} h = bowled_whole playing_bowled end (omega (arith, all_thrown))
