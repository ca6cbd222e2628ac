-- Every game that is not refused is made of frames. Assumes nothing.
use Rattle.std.specs.Prelude.{◌≡◌, List, [], ◌∷◌, ◌≢◌, ℕ, zero, suc, ◌+◌, ◌≤◌, ◌<◌, length}
use Rattle.std.proofs.Math.Path.{refl, sym, ap}
use Rattle.std.proofs.Common.{◌∙◌, inl, inr, add-one, arith, lt-ltb, le-ltb, ne_eqb, leb→le, length-take-le}
use Rattle.std.proofs.Math.Decide.{dec_lt, ℕ_discrete}
use Rattle.basics.specs.Refusals.{Answer, accepted, code_of, bind}
use Rattle.basics.specs.RefusalLaws.{accepted_inj, checks_accepted, bind_accepted}
use Rattle.network.specs.Threshold.{Net, frame, output_bits, ones_of}
use Rattle.scorer_theory.specs.Rules.{Pins, pins_of, fresh_rack, felled_by, Game, first_frame, finished, rack_for, with_ball, next_game, ball, felled_from}
use Rattle.scorer_theory.specs.Scores.{running_scores}
use Rattle.scorer_theory.specs.NetworkGames.{pins_on, game}
use Rattle.scorer_theory.specs.Frames.{OnRacks, TenthGoing, after_strike, after_strike_ball, after_spare, TenthDone, open_frame, spare_ball}
use Rattle.scorer_theory.specs.Frames.{strike_balls, Frames, no_ball, one_ball_lem, strike, two_balls_lem, tenth_going, tenth_done, after_ball}
use Rattle.scorer_theory.specs.Frames.{game_after, MadeOfFrames}
use Rattle.scorer_theory.proofs.RuleLaws.{felled_ones}
use Rattle.scorer_theory.proofs.RuleLaws.{bits_many, ball_played}
use Rattle.scorer_theory.proofs.FrameLaws.{frames_scored}

-- ---- where a ball leads

-- the start of frame k, and a frame with one ball
abbrev start_of : ℕ → Game
start_of k = record { frame = k; balls = 0; down = 0; rack = fresh_rack }

abbrev one_ball : ℕ → ℕ → Pins → Game
one_ball k felled rack = record { frame = k; balls = 1; down = felled; rack = rack }

-- the tenth frame with two
abbrev two_balls : ℕ → Pins → Game
two_balls felled rack = record { frame = 10; balls = 2; down = felled; rack = rack }

rack_some : (p : Pins) → ones_of p ≢ 0 → rack_for p ≡ p
unfolding rack_for
rack_some p n = rw (ne_eqb (ones_of p) 0 n)

rack_none : (p : Pins) → ones_of p ≡ 0 → rack_for p ≡ fresh_rack
unfolding rack_for
rack_none p e = rw e

next_strike : (k : ℕ) (p : Pins) → k < 10 → felled_by fresh_rack p ≡ 10 → next_game (start_of k) p ≡ start_of (suc k)
unfolding next_game with_ball finished
next_strike k p h e = rw (lt-ltb k 10 h, e, add-one)

next_first : (k : ℕ) (p : Pins) → k < 10 → felled_by fresh_rack p ≢ 10 → next_game (start_of k) p ≡ one_ball k (felled_by fresh_rack p) (rack_for p)
unfolding next_game with_ball finished
next_first k p h n =
    let zero_left : 0 + felled_by fresh_rack p ≡ felled_by fresh_rack p = omega arith in
    rw (lt-ltb k 10 h, zero_left, ne_eqb (felled_by fresh_rack p) 10 n)

next_second : (k f : ℕ) (r q : Pins) → k < 10 → next_game (one_ball k f r) q ≡ start_of (suc k)
unfolding next_game with_ball finished
next_second k f r q h = rw (lt-ltb k 10 h, add-one)

next_tenth : (p : Pins) → next_game (start_of 10) p ≡ one_ball 10 (felled_by fresh_rack p) (rack_for p)
unfolding next_game with_ball finished
next_tenth p = let zero_left : 0 + felled_by fresh_rack p ≡ felled_by fresh_rack p = omega arith in rw zero_left

next_tenth_open : (f : ℕ) (r q : Pins) → f + felled_by r q < 10 → next_game (one_ball 10 f r) q ≡ start_of 11
unfolding next_game with_ball finished
next_tenth_open f r q h = rw (lt-ltb (f + felled_by r q) 10 h)

next_tenth_bonus : (f : ℕ) (r q : Pins) → 10 ≤ f + felled_by r q → next_game (one_ball 10 f r) q ≡ two_balls (f + felled_by r q) (rack_for q)
unfolding next_game with_ball finished
next_tenth_bonus f r q h = rw (le-ltb (f + felled_by r q) 10 h)

next_tenth_last : (f : ℕ) (r q : Pins) → next_game (two_balls f r) q ≡ start_of 11
unfolding next_game with_ball finished
next_tenth_last f r q = refl

-- ---- one ball of a game

fresh_ten : ones_of fresh_rack ≡ 10
unfolding ones_of fresh_rack
fresh_ten = refl

fresh_length : length fresh_rack ≡ 10
unfolding fresh_rack
fresh_length = refl

module _ (pins : ℕ → Answer Pins) (ten : (x : ℕ) (p : Pins) → pins x ≡ accepted p → length p ≡ 10) where
  -- the first ball of a game that is not refused, and the rest
  record First (g : Game) (x : ℕ) (xs fs : List ℕ) : Type 0 where
    after : Pins
    rest : List ℕ
    ten_pins : length after ≡ 10
    in_game : g.frame ≤ 10
    split : length g.rack ≡ 10 → felled_by g.rack after + ones_of after ≡ ones_of g.rack
    goes_on : felled_from pins (next_game g after) xs ≡ accepted rest
    felled : fs ≡ felled_by g.rack after ∷ rest
    game : game_after pins g (x ∷ xs) ≡ game_after pins (next_game g after) xs

  first_ball : (g : Game) (x : ℕ) (xs fs : List ℕ) → felled_from pins g (x ∷ xs) ≡ accepted fs → First g x xs fs
  unfolding felled_from game_after after_ball
  first_ball g x xs fs e =
      let thrown = bind_accepted (bind (pins x) (ball g)) _ e in
      let read = bind_accepted (pins x) (ball g) thrown.1 in
      let p = read.0 in
      let code : code_of (ball g p) ≡ 0 = unfold code_of in ap code_of read.2 in
      let played = ball_played g p code in
      let same : thrown.0 ≡ p = accepted_inj (sym read.2 ∙ played.pins) in
      let more = bind_accepted (felled_from pins (next_game g thrown.0) xs) _ thrown.2 in
      record {
        after = p;
        rest = more.0;
        ten_pins = ten x p read.1;
        in_game = played.in_game;
        split = λ l. felled_ones g.rack p (l ∙ sym (ten x p read.1)) played.same_rack;
        goes_on = ap (λ (q : Pins). felled_from pins (next_game g q) xs) (sym same) ∙ more.1;
        felled = sym (accepted_inj more.2) ∙ ap (λ (q : Pins). felled_by g.rack q ∷ more.0) same;
        game = ap (λ (a : Answer Pins). game_after pins (after_ball g a) xs) read.1;
      }

  no_balls : (g : Game) (fs : List ℕ) → felled_from pins g [] ≡ accepted fs → fs ≡ []
  unfolding felled_from
  no_balls g fs e = sym (accepted_inj e)

  game_none : (g : Game) → game_after pins g [] ≡ g
  unfolding game_after
  game_none g = refl

  -- ---- frame by frame

  -- what a game from g on comes to, as frames from k on
  abbrev Comes : ℕ → Game → List ℕ → List ℕ → Type 0
  Comes k g xs fs = felled_from pins g xs ≡ accepted fs → Frames k fs (game_after pins g xs).frame

  -- the game is over: no ball more
  comes_over : (fs xs : List ℕ) → felled_from pins (start_of 11) xs ≡ accepted fs → (fs ≡ []) × (game_after pins (start_of 11) xs ≡ start_of 11)
  comes_over fs [] e = (no_balls (start_of 11) fs e, game_none (start_of 11))
  comes_over fs (x ∷ xs) e = absurd (let b = first_ball (start_of 11) x xs fs e in omega (arith, b.in_game))

  -- the tenth frame after two balls of which the first ten pins are down
  last_ball : (a b : ℕ) (r : Pins) (xs fs : List ℕ) → length r ≡ 10 → TenthGoing (a ∷ b ∷ []) → ((c : ℕ) → c ≤ ones_of r → TenthDone (a ∷ b ∷ c ∷ []))
      → felled_from pins (two_balls (a + b) r) xs ≡ accepted fs → Frames 10 (a ∷ b ∷ fs) (game_after pins (two_balls (a + b) r) xs).frame
  last_ball a b r [] fs l going done e =
      rw (no_balls (two_balls (a + b) r) fs e, game_none (two_balls (a + b) r)) (tenth_going refl going)
  last_ball a b r (x ∷ xs) fs l going done e =
      let t = first_ball (two_balls (a + b) r) x xs fs e in
      let over = comes_over t.rest xs (rw (next_tenth_last (a + b) r t.after) at t.goes_on) in
      let c = felled_by r t.after in
      let few : c ≤ ones_of r = omega (arith, t.split l) in
      rw (t.felled, over.0, t.game, next_tenth_last (a + b) r t.after, over.1) (tenth_done refl (done c few))

  -- the tenth frame after a strike
  after_tenth_strike : (xs fs : List ℕ) → felled_from pins (one_ball 10 10 fresh_rack) xs ≡ accepted fs
      → Frames 10 (10 ∷ fs) (game_after pins (one_ball 10 10 fresh_rack) xs).frame
  after_tenth_strike [] fs e =
      rw (no_balls (one_ball 10 10 fresh_rack) fs e, game_none (one_ball 10 10 fresh_rack)) (tenth_going refl after_strike)
  after_tenth_strike (x ∷ xs) fs e =
      let t = first_ball (one_ball 10 10 fresh_rack) x xs fs e in
      let q = t.after in
      let b = felled_by fresh_rack q in
      let split : b + ones_of q ≡ 10 = t.split fresh_length ∙ fresh_ten in
      let leads = next_tenth_bonus 10 fresh_rack q (omega arith) in
      let go : (r : Pins) → rack_for q ≡ r → length r ≡ 10 → ((c : ℕ) → c ≤ ones_of r → OnRacks b c)
      → Frames 10 (10 ∷ fs) (game_after pins (one_ball 10 10 fresh_rack) (x ∷ xs)).frame =
      λ r s l racks. rw (t.felled, t.game, leads, s)
      (last_ball 10 b r xs t.rest l (after_strike_ball (omega arith)) (λ c h. strike_balls (racks c h)) (rw (leads, s) at t.goes_on)) in
      elim (ℕ_discrete (ones_of q) 0) as (λ d. Frames 10 (10 ∷ fs) (game_after pins (one_ball 10 10 fresh_rack) (x ∷ xs)).frame) [
        | yes z ↦ go fresh_rack (rack_none q z) fresh_length (λ c h. inr (omega arith, omega (arith, fresh_ten)))
        | no n ↦ go q (rack_some q n) t.ten_pins (λ c h. inl (omega arith))
      ]

  -- the tenth frame after a ball that leaves pins
  after_tenth_ball : (a : ℕ) (p : Pins) (xs fs : List ℕ) → a < 10 → length p ≡ 10 → a + ones_of p ≡ 10 → felled_from pins (one_ball 10 a p) xs ≡ accepted fs
      → Frames 10 (a ∷ fs) (game_after pins (one_ball 10 a p) xs).frame
  after_tenth_ball a p [] fs h l s e = rw (no_balls (one_ball 10 a p) fs e, game_none (one_ball 10 a p)) (one_ball_lem h)
  after_tenth_ball a p (x ∷ xs) fs h l s e =
      let t = first_ball (one_ball 10 a p) x xs fs e in
      let q = t.after in
      let b = felled_by p q in
      let split = t.split l in
      elim (dec_lt (a + b) 10) as (λ d. Frames 10 (a ∷ fs) (game_after pins (one_ball 10 a p) (x ∷ xs)).frame) [
        | yes k ↦
            let leads = next_tenth_open a p q k in
            let over = comes_over t.rest xs (rw leads at t.goes_on) in
            rw (t.felled, over.0, t.game, leads, over.1) (tenth_done refl (open_frame k))
        | no k ↦
            let ten_down : a + b ≡ 10 = omega arith in
            let leads = next_tenth_bonus a p q (omega arith) in
            let fresh = rack_none q (omega arith) in
            let last : (c : ℕ) → c ≤ ones_of fresh_rack → TenthDone (a ∷ b ∷ c ∷ []) = λ c m. spare_ball {c = c} h ten_down (omega (arith, fresh_ten)) in
            rw (t.felled, t.game, leads, fresh)
            (last_ball a b fresh_rack xs t.rest fresh_length (after_spare h ten_down) last (rw (leads, fresh) at t.goes_on))
      ]

  -- the tenth frame
  tenth_frame : (xs fs : List ℕ) → Comes 10 (start_of 10) xs fs
  tenth_frame [] fs e = rw (no_balls (start_of 10) fs e, game_none (start_of 10)) no_ball
  tenth_frame (x ∷ xs) fs e =
      let t = first_ball (start_of 10) x xs fs e in
      let p = t.after in
      let a = felled_by fresh_rack p in
      let split : a + ones_of p ≡ 10 = t.split fresh_length ∙ fresh_ten in
      let leads = next_tenth p in
      elim (ℕ_discrete (ones_of p) 0) as (λ d. Frames 10 fs (game_after pins (start_of 10) (x ∷ xs)).frame) [
        | yes z ↦
            let ten_down : a ≡ 10 = omega arith in
            let fresh = rack_none p z in
            rw (t.felled, t.game, leads, fresh, ten_down) (after_tenth_strike xs t.rest (rw (leads, fresh, ten_down) at t.goes_on))
        | no n ↦
            let same = rack_some p n in
            rw (t.felled, t.game, leads, same) (after_tenth_ball a p xs t.rest (omega arith) t.ten_pins split (rw (leads, same) at t.goes_on))
      ]

  -- one of the first nine frames after a ball that leaves pins
  after_ball_lem : (k a : ℕ) (p : Pins) (xs fs : List ℕ) → k < 10 → a < 10 → length p ≡ 10 → a + ones_of p ≡ 10
      → ((ys gs : List ℕ) → Comes (suc k) (start_of (suc k)) ys gs) → felled_from pins (one_ball k a p) xs ≡ accepted fs
      → Frames k (a ∷ fs) (game_after pins (one_ball k a p) xs).frame
  after_ball_lem k a p [] fs h m l s on e = rw (no_balls (one_ball k a p) fs e, game_none (one_ball k a p)) (one_ball_lem m)
  after_ball_lem k a p (x ∷ xs) fs h m l s on e =
      let t = first_ball (one_ball k a p) x xs fs e in
      let leads = next_second k a p t.after h in
      let one_rack : a + felled_by p t.after ≤ 10 = omega (arith, t.split l) in
      rw (t.felled, t.game, leads) (two_balls_lem h m one_rack (on xs t.rest (rw leads at t.goes_on)))

  -- a frame of the first nine, and those after it
  early_frame : (k : ℕ) → k < 10 → ((ys gs : List ℕ) → Comes (suc k) (start_of (suc k)) ys gs) → (xs fs : List ℕ) → Comes k (start_of k) xs fs
  early_frame k h on [] fs e = rw (no_balls (start_of k) fs e, game_none (start_of k)) no_ball
  early_frame k h on (x ∷ xs) fs e =
      let t = first_ball (start_of k) x xs fs e in
      let p = t.after in
      let a = felled_by fresh_rack p in
      let split : a + ones_of p ≡ 10 = t.split fresh_length ∙ fresh_ten in
      elim (ℕ_discrete (ones_of p) 0) as (λ d. Frames k fs (game_after pins (start_of k) (x ∷ xs)).frame) [
        | yes z ↦
            let ten_down : a ≡ 10 = omega arith in
            let leads = next_strike k p h ten_down in
            rw (t.felled, t.game, leads, ten_down) (strike h (on xs t.rest (rw leads at t.goes_on)))
        | no n ↦
            let leads = next_first k p h (λ q. n (omega arith)) ∙ ap (one_ball k a) (rack_some p n) in
            rw (t.felled, t.game, leads) (after_ball_lem k a p xs t.rest h (omega arith) t.ten_pins split on (rw leads at t.goes_on))
      ]

  frames_from : (n k : ℕ) → k + n ≡ 10 → (xs fs : List ℕ) → Comes k (start_of k) xs fs
  frames_from zero k e = rw (let q : k ≡ 10 = omega arith in q) tenth_frame
  frames_from (suc n) k e = early_frame k (omega arith) (frames_from n (suc k) (omega arith))

  game_frames : (xs fs : List ℕ) → felled_from pins first_frame xs ≡ accepted fs → Frames 1 fs (game_after pins first_frame xs).frame
  unfolding first_frame
  game_frames xs fs e = frames_from 9 1 refl xs fs e

-- ---- games on a network

pins_ten : (N : Net) → 10 ≤ length N.outputs → (x : ℕ) (p : Pins) → pins_on N x ≡ accepted p → length p ≡ 10
unfolding pins_on pins_of
pins_ten N h x p e =
    let bits = output_bits N (frame x) in
    let pins : pins_of bits ≡ p = accepted_inj (checks_accepted _ _ e).1 in
    ap length (sym pins) ∙ length-take-le 10 bits (omega (arith, bits_many N (frame x)))

-- the frames of a game
pub game_made : (N : Net) (shots felled : List ℕ) → game N shots ≡ accepted felled → Frames 1 felled (game_after (pins_on N) first_frame shots).frame
unfolding game
game_made N shots felled e =
    let c = checks_accepted _ _ e in
    game_frames (pins_on N) (pins_ten N (leb→le 10 (length N.outputs) c.0.0)) shots felled c.1

pub made_of_frames : (N : Net) (shots felled : List ℕ) → game N shots ≡ accepted felled → MadeOfFrames N shots felled
unfolding running_scores
made_of_frames N shots felled e =
    let f = game_made N shots felled e in
    let s = frames_scored f (omega arith) 0 in
    record { frames = f; finished_only = s.only; all_at_the_end = λ q. let w = s.all q in omega arith }
