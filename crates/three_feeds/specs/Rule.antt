-- What an entry of the three-feed table says: document 02, No. 7, "The three-feed table". Nothing is proved here.
use Rattle.std.specs.Prelude.{◌≡◌, Bool, true, false, List, [], ◌∷◌, ℕ, ◌+◌, ◌≤◌, ◌<◌, ℤ, pos, nat_abs}
use Rattle.basics.specs.Lists.{keep, Each}
use Rattle.network.specs.Threshold.{Feed, Gate, Assignment, bit, frame, digit, word_of}
use Rattle.network.specs.Limits.{weighs}
use Rattle.three_feeds.specs.declared.TableEntry.{TableEntry}
use Rattle.three_feeds.specs.declared.TableEntry.TheVariants.{HasGate, NoGate}

-- ---- functions of three feeds

-- "bit s is the value on setting s, and bit i of s is feed i, from 0": both numbers are taken apart by `frame`.
-- On every setting the gate's bit by the threshold rule is that of the truth table.
abbrev pub HasFunction : ℕ → Gate → Type 0
HasFunction table g = (s : ℕ) → s < 8 → bit (frame s) g ≡ frame table s

-- a gate that reads none but the three feeds; its weights and its threshold are any integers
abbrev pub OverThree : Gate → Type 0
OverThree g = Each (λ f. f.signal < 3) g.feeds

-- ---- the gate of an entry

abbrev pub feed : ℕ → ℤ → Feed
feed i w = record { signal = i; weight = w }

-- the gate with three weights and T on three signals; "0 leaves that feed out"
unfoldable pub gate_on_signals : ℕ → ℕ → ℕ → ℤ → ℤ → ℤ → ℤ → Gate
gate_on_signals i j k a b c t = record { feeds = keep weighs (feed i a ∷ feed j b ∷ feed k c ∷ []); threshold = t }

-- that of an entry, on the feeds 0, 1 and 2
unfoldable pub entry_gate : ℤ → ℤ → ℤ → ℤ → Gate
entry_gate a b c t = gate_on_signals 0 1 2 a b c t

-- the setting that three signals have
unfoldable pub setting_of : Assignment → ℕ → ℕ → ℕ → ℕ
setting_of ρ i j k = word_of (ρ i ∷ ρ j ∷ ρ k ∷ [])

-- ---- the rule

-- "a gate that has exactly that function, with weights −2 to 2 .. and T from −4 to 4"
pub record GateRule (table : ℕ) (a b c t : ℤ) : Type 0 where
  pub weight_0 : nat_abs a ≤ 2
  pub weight_1 : nat_abs b ≤ 2
  pub weight_2 : nat_abs c ≤ 2
  pub threshold : nat_abs t ≤ 4
  pub function : HasFunction table (entry_gate a b c t)

-- how often feed i is 1 in two settings
unfoldable pub together : ℕ → ℕ → ℕ → ℕ
together x y i = digit (frame x i) + digit (frame y i)

-- "two settings that are 1 and two that are 0 (repeats allowed) whose feed-by-feed sums are equal"
pub record WitnessRule (table x y u v : ℕ) : Type 0 where
  pub below_x : x < 8
  pub below_y : y < 8
  pub below_u : u < 8
  pub below_v : v < 8
  pub one_x : frame table x ≡ true
  pub one_y : frame table y ≡ true
  pub zero_u : frame table u ≡ false
  pub zero_v : frame table v ≡ false
  pub sums : (i : ℕ) → i < 3 → together x y i ≡ together u v i

-- "An entry holds a gate .. or two settings that are 1 and two that are 0"
abbrev pub EntryRule : ℕ → TableEntry → Type 0
EntryRule table (HasGate a b c t) = GateRule table a b c t
EntryRule table (NoGate x y u v) = WitnessRule table x y u v

-- ---- an entry as numbers

-- the entry has a gate
unfoldable pub has_gate : TableEntry → Bool
has_gate (HasGate a b c t) = true
has_gate (NoGate x y u v) = false

-- the weights of feeds 0, 1 and 2, and T; or the two settings that are 1, and the two that are 0
unfoldable pub entry_numbers : TableEntry → List ℤ
entry_numbers (HasGate a b c t) = a ∷ b ∷ c ∷ t ∷ []
entry_numbers (NoGate x y u v) = pos x ∷ pos y ∷ pos u ∷ pos v ∷ []
