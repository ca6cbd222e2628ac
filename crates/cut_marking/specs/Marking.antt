-- Internal: the gates that a gate needs, by feed counts and signals alone, and what is promised of marks. Document 02, No. 12: "from a gate one
-- goes to its feeds, and from each feed to the gate behind it". Gates go by their numbers here, and a mark is a bit for each gate.
-- Nothing is proved here.
use Rattle.std.specs.Prelude.{◌≡◌, Bool, true, false, List, ◌⊎◌, ◌↔◌, ℕ, ◌+◌, ◌*◌, ◌≤◌, ◌<◌, get_or}
use Rattle.cut_theory.specs.Cut.{Reached}

-- gate g is marked
abbrev pub IsMarked : List Bool → ℕ → Type 0
IsMarked marks g = get_or marks g false ≡ true

module _ (fanins signals : List ℕ) (inputs : ℕ) where
  -- the arrays of gates that have at most 16 feeds each, all before their gate: of the gates below top
  pub record Wired (top : ℕ) : Type 0 where
    pub few_feeds : (g : ℕ) → g < top → get_or fanins g 0 ≤ 16
    pub feeds_below : (g i : ℕ) → g < top → i < get_or fanins g 0 → get_or signals (16 * g + i) 0 < inputs + g

  -- gate h is behind feed i of gate g
  pub record BehindFeed (g h : ℕ) : Type 0 where
    pub feed : ℕ
    pub used : feed < get_or fanins g 0
    pub there : get_or signals (16 * g + feed) 0 ≡ inputs + h

  -- of each marked gate below top, the gates behind its feeds are marked
  pub record Closed (top : ℕ) (marks : List Bool) : Type 0 where
    pub all_feeds : (g h : ℕ) → g < top → IsMarked marks g → BehindFeed g h → IsMarked marks h

  -- what stands marked after a call: what was marked before it, and gates that g needs
  pub record Grown (g : ℕ) (before after : List Bool) : Type 0 where
    pub kept : (h : ℕ) → IsMarked before h → IsMarked after h
    pub only : (h : ℕ) → IsMarked after h → IsMarked before h ⊎ Reached BehindFeed g h

  -- gate g is marked with all that it needs; no mark above it changes
  pub record GateMarked (g : ℕ) (before after : List Bool) : Type 0 where
    pub grown : Grown g before after
    pub here : IsMarked after g
    pub closed : Closed (g + 1) after
    pub above : (h : ℕ) → g < h → get_or after h false ≡ get_or before h false

  -- the gates behind the feeds of gate g from feed i on are marked with all that they need; neither g's mark nor one above it changes
  pub record FeedsMarked (g i : ℕ) (before after : List Bool) : Type 0 where
    pub grown : Grown g before after
    pub here : (h : ℕ) (b : BehindFeed g h) → i ≤ b.feed → IsMarked after h
    pub closed : Closed g after
    pub above : (h : ℕ) → g ≤ h → get_or after h false ≡ get_or before h false

  -- the marked gates are those that g needs
  pub record Needed (g : ℕ) (marks : List Bool) : Type 0 where
    pub exact : (h : ℕ) → IsMarked marks h ↔ Reached BehindFeed g h
