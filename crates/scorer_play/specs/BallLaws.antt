-- Laws of one ball: refused or not, where it leads, and how many balls a game has. Assumes nothing.
use Rattle.std.specs.Prelude.{◌≡◌, refl, false, List, [], ◌∷◌, ◌⊎◌, ℕ, ◌+◌, ◌-◌, ◌*◌, ◌/◌, ◌%◌, ◌≤◌, ◌<◌, leb, ltb, length}
use Rattle.std.proofs.Common.{sym, ap, ◌∙◌, inl, inr, arith, leb-false, ltb→lt, nltb→le}
use Rattle.basics.specs.Refusals.{Answer, accepted, refused, code_of, bind}
use Rattle.basics.specs.RefusalLaws.{accepted≢refused, bind_accepted}
use Rattle.basics.specs.TestLaws.{is_false, cond_case, or_false}
use Rattle.scorer_theory.specs.Rules.{Pins, felled_by, Game, finished, with_ball, next_game, ball, felled_from}
use Rattle.scorer_theory.proofs.RuleLaws.{BallAccepted, ball_played}
use Rattle.scorer_ball.specs.Words.{pins_in}
use Rattle.scorer_play.specs.Play.{word_pins, joined}

-- ---- a ball and the balls after it

pub ball_cases : (g : Game) (p : Pins) → BallAccepted g p ⊎ ((c : ℕ) × (ball g p ≡ refused c))
unfolding code_of
ball_cases g p = go (ball g p) refl
  where
    go : (a : Answer Pins) → ball g p ≡ a → BallAccepted g p ⊎ ((c : ℕ) × (ball g p ≡ refused c))
    go (accepted q) e = inl (ball_played g p (ap code_of e))
    go (refused c) e = inr (c, e)

module _ (pins : ℕ → Answer Pins) (g : Game) (x : ℕ) (xs : List ℕ) where
  pub felled_next : {p : Pins} → pins x ≡ accepted p → ball g p ≡ accepted p
      → felled_from pins g (x ∷ xs) ≡ joined (felled_by g.rack p ∷ []) (felled_from pins (next_game g p) xs)
  unfolding felled_from joined bind
  felled_next e f = rw (e, f)

  pub felled_refused : {p : Pins} {c : ℕ} → pins x ≡ accepted p → ball g p ≡ refused c → felled_from pins g (x ∷ xs) ≡ refused c
  unfolding felled_from bind
  felled_refused e f = rw (e, f)

  pub felled_long : {c : ℕ} → pins x ≡ refused c → felled_from pins g (x ∷ xs) ≡ refused c
  unfolding felled_from bind
  felled_long e = rw e

pub felled_none : (pins : ℕ → Answer Pins) (g : Game) → felled_from pins g [] ≡ accepted []
unfolding felled_from
felled_none pins g = refl

-- ---- where a ball leads

-- a frame that is not finished has one ball, and the tenth at most two
unfinished : (frame balls down : ℕ) → frame ≤ 10 → finished frame balls down ≡ false → balls ≤ 1 + frame / 10
unfolding finished
unfinished frame balls down h = cond_case (λ b. b ≡ false → balls ≤ 1 + frame / 10) (ltb frame 10)
    (λ t e. let l = ltb→lt frame 10 t in let k = leb-false 2 balls (or_false (leb 2 balls) _ e).0 in omega arith)
    (λ t e. let l = nltb→le frame 10 t in let k = leb-false 3 balls (or_false (leb 3 balls) _ e).0 in omega arith)

-- how a ball moves the numbers of a game on
pub record Moved (g h : Game) (felled : ℕ) : Type 0 where
  pub few_balls : h.balls ≤ 1 + h.frame / 10
  pub few_down : g.down ≤ 255 * g.balls → felled < 256 → h.down ≤ 255 * h.balls
  pub room : 2 * g.frame + g.balls + 1 ≤ 2 * h.frame + h.balls + h.frame / 11
  pub in_game : h.frame ≤ 11

pub moved : (g : Game) (felled : ℕ) (after : Pins) → g.frame ≤ 10 → g.balls ≤ 1 + g.frame / 10 → Moved g (with_ball g felled after) felled
unfolding with_ball
moved g felled after h few =
    let over = finished g.frame (g.balls + 1) (g.down + felled) in
    cond_case (λ (x : Game). Moved g x felled) over
    (λ t. record { few_balls = omega arith; few_down = λ d f. omega arith; room = omega arith; in_game = omega arith })
    (λ t.
    let one = unfinished g.frame (g.balls + 1) (g.down + felled) h (is_false over t) in
    record { few_balls = one; few_down = λ d f. omega arith; room = omega arith; in_game = omega arith })

-- a game has at most 21 balls, and from any moment on so many fewer
pub felled_few : (g : Game) → g.balls ≤ 1 + g.frame / 10 → (ws : List ℕ) {fs : List ℕ} → felled_from word_pins g ws ≡ accepted fs
    → length ws ≤ 23 - (2 * g.frame + g.balls + g.frame / 11)
unfolding word_pins next_game bind joined
felled_few g b [] e = omega arith
felled_few g b (w ∷ ws) e =
    let p = pins_in (w % 1024) in
    elim (ball_cases g p) as (λ _. length (w ∷ ws) ≤ 23 - (2 * g.frame + g.balls + g.frame / 11)) [
      | inl a ↦
          let more = bind_accepted (felled_from word_pins (next_game g p) ws) _ (sym (felled_next word_pins g w ws refl a.pins) ∙ e) in
          let m = moved g (felled_by g.rack p) p a.in_game b in
          omega (arith, felled_few (next_game g p) m.few_balls ws more.1, m.room, a.in_game, b)
      | inr r ↦ accepted≢refused (sym e ∙ felled_refused word_pins g w ws refl r.1)
    ]
