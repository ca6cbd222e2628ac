-- Laws of the bytes of a gate on three signals: the gate in the form of its places, and each of the answers. Assumes nothing.
use Rattle.std.specs.Prelude.{◌≡◌, Bool, not, List, [], ◌∷◌, ◌++◌, ℕ, ◌+◌, ◌*◌, ◌≤◌, ◌<◌, ltb, ℤ, pos, length, set, replicate}
use Rattle.std.proofs.Math.Path.{refl, sym, ap}
use Rattle.std.proofs.Common.{◌∙◌, arith, le-leb, le-ltb, lt-ltb}
use Rattle.std.proofs.Math.Bool.{true, false, cond}
use Rattle.std.proofs.lemmas.Bool.{lt-leb}
use Rattle.std.proofs.Math.ListN.{drop}
use Rattle.basics.specs.Lists.{keep, range}
use Rattle.basics.specs.TestLaws.{both_true, and_false_left, and_false_right}
use Rattle.network.specs.Threshold.{Feed, Gate, digit}
use Rattle.network.specs.Limits.{is_zero, weighs}
use Rattle.network.specs.Record.{feed_at, feeds_from, gate_in}
use Rattle.network.specs.declared.GateRecord.{GateRecord}
use Rattle.pmn_format.specs.Format.{gate_bytes}
use Rattle.pmn_writing.specs.PartLaws.{first_feeds_length, gate_in_bytes}
use Rattle.three_feeds.specs.Rule.{feed, gate_on_signals}
use Rattle.three_feeds.specs.Table.{table_entry}
use Rattle.three_feeds.specs.declared.TableEntry.{TableEntry}
use Rattle.three_feeds.specs.declared.TableEntry.TheVariants as Entry
use Rattle.three_feeds_part.specs.declared.MaskPart.{MaskPart}
use Rattle.three_feeds_part.specs.declared.MaskPart.TheVariants.{Put, NoGate, Refused}
use Rattle.three_feeds_part.specs.Parts.{put_in, bytes_in, part_of, bytes_of, rise, mask_part, part_bytes_after}

-- ---- the gate in the form of its places
module _ (i j k : ℕ) where
  -- three feeds, each stored behind those that stay; x, y and z are 1 for one that stays, and else 0
  abbrev row_of : ℕ → ℕ → ℕ → ℤ → ℤ → ℤ → ℤ → GateRecord
  row_of x y z a b c t = record {
    fanin = x + y + z;
    threshold = t;
    signals = set (set (set (replicate 16 0) 0 i) x j) (x + y) k;
    weights = set (set (set (replicate 16 (pos 0)) 0 a) x b) (x + y) c;
  }

  module _ (a b c t : ℤ) where
    -- those that stay
    third : Bool → List Feed
    third r = cond r (feed k c ∷ []) []

    second : Bool → Bool → List Feed
    second q r = cond q (feed j b ∷ third r) (third r)

    first : Bool → Bool → Bool → List Feed
    first p q r = cond p (feed i a ∷ second q r) (second q r)

    row_feeds : (p q r : Bool) → gate_in (row_of (digit p) (digit q) (digit r) a b c t) ≡ record { feeds = first p q r; threshold = t }
    unfolding first second third gate_in feeds_from feed_at range
    row_feeds true true true = refl
    row_feeds true true false = refl
    row_feeds true false true = refl
    row_feeds true false false = refl
    row_feeds false true true = refl
    row_feeds false true false = refl
    row_feeds false false true = refl
    row_feeds false false false = refl

    -- the numbers are those of the gate, as the machine reads them back
    pub row_gate : {a' b' c' t' : ℤ} {x y z : ℕ} → a' ≡ a → b' ≡ b → c' ≡ c → t' ≡ t
        → x ≡ digit (not (is_zero a)) → y ≡ digit (not (is_zero b)) → z ≡ digit (not (is_zero c))
        → gate_in (row_of x y z a' b' c' t') ≡ gate_on_signals i j k a b c t
    unfolding first second third gate_on_signals keep weighs
    row_gate ea eb ec et ex ey ez =
        (λ h. gate_in (row_of (ex h) (ey h) (ez h) (ea h) (eb h) (ec h) (et h)))
        ∙ row_feeds (not (is_zero a)) (not (is_zero b)) (not (is_zero c))

-- how long its bytes are
pub row_length : (g : GateRecord) → length (gate_bytes (gate_in g)) ≡ 5 + 5 * g.fanin
row_length g = ap length (gate_in_bytes g) ∙ omega (arith, first_feeds_length g.signals g.weights g.fanin)

-- ---- a gate into lent bytes
module _ (g : Gate) (lent : List ℕ) where
  pub no_room : length lent < length (gate_bytes g) → (Refused 18 ≡ put_in g (length lent)) × (lent ≡ bytes_in g lent)
  unfolding put_in bytes_in
  no_room h =
      let e = sym (lt-leb (length (gate_bytes g)) (length lent) h) in (
        ap (λ (x : Bool). cond x (Put (length (gate_bytes g))) (Refused 18)) e,
        ap (λ (x : Bool). cond x (gate_bytes g ++ drop (length (gate_bytes g)) lent) lent) e,
      )

  pub has_room : (n : ℕ) (after : List ℕ) → length (gate_bytes g) ≤ length lent → n ≡ length (gate_bytes g)
      → after ≡ gate_bytes g ++ drop n lent → (Put n ≡ put_in g (length lent)) × (after ≡ bytes_in g lent)
  unfolding put_in bytes_in
  has_room n after h q a =
      let e = sym (le-leb (length (gate_bytes g)) (length lent) h) in (
        ap Put q ∙ ap (λ (x : Bool). cond x (Put (length (gate_bytes g))) (Refused 18)) e,
        a ∙ ap (λ (m : ℕ). gate_bytes g ++ drop m lent) q
            ∙ ap (λ (x : Bool). cond x (gate_bytes g ++ drop (length (gate_bytes g)) lent) lent) e,
      )

-- ---- the call
module _ (table i j k : ℕ) (lent : List ℕ) where
  -- what the call answers, and what it leaves
  abbrev pub Answered : MaskPart → List ℕ → Type 0
  Answered r after = (r ≡ mask_part table i j k (length lent)) × (after ≡ part_bytes_after table i j k lent)

  crossed : rise i j k ≡ false → Answered (Refused 5) lent
  unfolding mask_part part_bytes_after
  crossed e = (
    sym (ap (λ (x : Bool). cond x (part_of i j k (table_entry table) (length lent)) (Refused 5)) e),
    sym (ap (λ (x : Bool). cond x (bytes_of i j k (table_entry table) lent) lent) e),
  )

  pub first_crossed : j ≤ i → Answered (Refused 5) lent
  unfolding rise
  first_crossed h = crossed (and_false_left (ltb i j) (ltb j k) (le-ltb i j h))

  pub second_crossed : k ≤ j → Answered (Refused 5) lent
  unfolding rise
  second_crossed h = crossed (and_false_right (ltb i j) (ltb j k) (le-ltb j k h))

  module _ (p : i < j) (q : j < k) {e : TableEntry} (f : e ≡ table_entry table) where
    answered : {r : MaskPart} {after : List ℕ} → r ≡ part_of i j k e (length lent) → after ≡ bytes_of i j k e lent → Answered r after
    unfolding mask_part part_bytes_after rise
    answered a b =
        let t = sym (both_true (ltb i j) (ltb j k) (lt-ltb i j p) (lt-ltb j k q)) in (
          a ∙ ap (λ (x : TableEntry). part_of i j k x (length lent)) f
              ∙ ap (λ (x : Bool). cond x (part_of i j k (table_entry table) (length lent)) (Refused 5)) t,
          b ∙ ap (λ (x : TableEntry). bytes_of i j k x lent) f ∙ ap (λ (x : Bool). cond x (bytes_of i j k (table_entry table) lent) lent) t,
        )

    pub settings_answered : {x y u v : ℕ} → e ≡ Entry.NoGate x y u v → Answered (NoGate x y u v) lent
    unfolding part_of bytes_of
    settings_answered g =
        answered (sym (ap (λ (x : TableEntry). part_of i j k x (length lent)) g)) (sym (ap (λ (x : TableEntry). bytes_of i j k x lent) g))

    pub gate_answered : {a b c t : ℤ} {r : MaskPart} {after : List ℕ} → e ≡ Entry.HasGate a b c t
        → r ≡ put_in (gate_on_signals i j k a b c t) (length lent) → after ≡ bytes_in (gate_on_signals i j k a b c t) lent → Answered r after
    unfolding part_of bytes_of
    gate_answered g l m =
        answered (l ∙ sym (ap (λ (x : TableEntry). part_of i j k x (length lent)) g)) (m ∙ sym (ap (λ (x : TableEntry). bytes_of i j k x lent) g))
