-- Internal: the decisions of a refutation, a signal and a bit at each level, and what holds along the way. Nothing is proved here.
use Rattle.std.specs.Prelude.{◌≡◌, ◌⊎◌, Bool, cond, List, ℕ, ◌-◌, ◌/◌, ◌^◌, ◌≤◌, ◌<◌, eqb, get_or, length, replicate, set}
use Rattle.network.specs.Threshold.{Assignment}
use Rattle.compare_theory.specs.Joint.{Joint, FitsJoint, Extends}
use Rattle.compare_theory.specs.Reasons.{Meets, Rests}

-- all signals open but p and q, which are apart: p has the bit v
abbrev pub apart : ℕ → ℕ → ℕ → List ℕ
apart p q v = set (set (replicate 296 2) p v) q (1 - v)

-- ρ has the bit of the decision at level d
abbrev pub met_by : List ℕ → List ℕ → Assignment → ℕ → Bool
met_by chosen tried ρ d = eqb (get_or tried d 0) (cond (ρ (get_or chosen d 0)) 1 0)

-- every assignment that fits and extends the goal extends the bits as far as it meets the decisions on which they rest
pub record Decided (J : Joint) (goal chosen tried bits rests : List ℕ) : Type 0 where
  pub long_chosen : length chosen ≡ 64
  pub long_tried : length tried ≡ 64
  pub few : (d : ℕ) → get_or tried d 0 < 2
  pub rests_on : (ρ : Assignment) → FitsJoint J ρ → Extends ρ goal → Rests (met_by chosen tried ρ) ρ bits rests

-- the bits that rest on a decision at the level or above are open again
pub record Reopened (level : ℕ) (rests bits bits' : List ℕ) : Type 0 where
  pub kept : (met : ℕ → Bool) (ρ : Assignment) → Rests met ρ bits rests → Rests met ρ bits' rests
  pub low : (met : ℕ → Bool) (ρ : Assignment) → Rests met ρ bits rests → (s : ℕ) → s < 296
      → (2 ≤ get_or bits' s 0) ⊎ (get_or rests s 0 / 2 ^ level ≡ 0)

-- a decision more, or another in place of those at its level and above
pub record Decision (chosen tried bits rests chosen' tried' bits' rests' : List ℕ) : Type 0 where
  pub decided : (J : Joint) (goal : List ℕ) → Decided J goal chosen tried bits rests → Decided J goal chosen' tried' bits' rests'

-- no assignment meets the decisions `why`, so that the last of them goes the other way
pub record JumpedBack (chosen tried bits rests : List ℕ) (why : ℕ) (bits' rests' : List ℕ) : Type 0 where
  pub decided : (J : Joint) (goal : List ℕ) → Decided J goal chosen tried bits rests
      → ((ρ : Assignment) → FitsJoint J ρ → Extends ρ goal → Meets (met_by chosen tried ρ) why → ⊥)
      → Decided J goal chosen tried bits' rests'
