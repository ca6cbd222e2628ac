-- The fields of a file at a place: what is read by an index is what the format reads off the rest of the list. Assumes nothing.
use Rattle.std.specs.Prelude.{◌≡◌, refl, List, [], ◌∷◌, Bool, true, false, ◌&&◌, ℕ, suc, ◌+◌, ◌<◌, ◌≤◌, length, get_or, drop, ltb, leb, ℤ}
use Rattle.std.proofs.Common.{sym, ◌∙◌, subst, add-one, arith, le-leb, length-drop, drop_of_length-le, drop-cons}
use Rattle.std.proofs.Math.Path.{ap}
use Rattle.std.proofs.lemmas.Bool.{lt-leb}
use Rattle.basics.specs.WordLaws.{int_at}
use Rattle.network.specs.Threshold.{Feed, Gate}
use Rattle.network.specs.Limits.{in_scale, weight_ok, keeps}
use Rattle.network.specs.declared.Board.{Board}
use Rattle.pmn_format.specs.Format.{Read, refused, done, byte_or, int_then, check, and_then, parse_feed, parse_feeds, parse_gate}

-- ---- one field

pub byte_at : {A : Type 0} (r at : ℕ) (s : List ℕ) (k : ℕ → List ℕ → Read A) → at < length s → byte_or r (drop at s) k ≡ k (get_or s at 0) (drop (at + 1) s)
byte_at r at s k h = rw (add-one, drop-cons s at 0)

pub byte_end : {A : Type 0} (r at : ℕ) (s : List ℕ) (k : ℕ → List ℕ → Read A) → length s ≤ at → byte_or r (drop at s) k ≡ refused r
byte_end r at s k h = rw (drop_of_length-le s)

drop_next : (s : List ℕ) (at j n : ℕ) → at + j ≡ n → n < length s → drop n s ≡ get_or s (at + j) 0 ∷ drop (suc n) s
drop_next s at j n e h = drop-cons s n 0 h ∙ ap (λ (m : ℕ). get_or s m 0 ∷ drop (suc n) s) (sym e)

four : (s : List ℕ) (at : ℕ) → at + 4 ≤ length s → drop at s ≡ get_or s at 0 ∷ get_or s (at + 1) 0 ∷ get_or s (at + 2) 0 ∷ get_or s (at + 3) 0 ∷ drop (at + 4) s
four s at h =
    drop-cons s at 0 (omega arith)
    ∙ ap (λ (l : List ℕ). get_or s at 0 ∷ l)
    (drop_next s at 1 (suc at) (omega arith) (omega arith)
    ∙ ap (λ (l : List ℕ). get_or s (at + 1) 0 ∷ l)
    (drop_next s at 2 (suc (suc at)) (omega arith) (omega arith)
    ∙ ap (λ (l : List ℕ). get_or s (at + 2) 0 ∷ l)
    (drop_next s at 3 (suc (suc (suc at))) (omega arith) (omega arith)
    ∙ ap (λ (n : ℕ). get_or s (at + 3) 0 ∷ drop n s) {x = suc (suc (suc (suc at)))} {y = at + 4} (omega arith))))

int_at_lem : {A : Type 0} (at : ℕ) (s : List ℕ) (k : ℤ → List ℕ → Read A) → at + 4 ≤ length s → int_then (drop at s) k ≡ k (int_at s at) (drop (at + 4) s)
int_at_lem at s k h = ap (λ (l : List ℕ). int_then l k) (four s at h)

int_short : {A : Type 0} (l : List ℕ) (k : ℤ → List ℕ → Read A) → length l < 4 → int_then l k ≡ refused 4
int_short [] k h = refl
int_short (a ∷ []) k h = refl
int_short (a ∷ b ∷ []) k h = refl
int_short (a ∷ b ∷ c ∷ []) k h = refl
int_short (a ∷ b ∷ c ∷ d ∷ l) k h = absurd (omega arith)

int_end : {A : Type 0} (at : ℕ) (s : List ℕ) (k : ℤ → List ℕ → Read A) → length s < at + 4 → int_then (drop at s) k ≡ refused 4
int_end at s k h = int_short (drop at s) k (subst (λ (n : ℕ). n < 4) (sym (length-drop at s)) (omega arith))

-- ---- a feed

-- the feed that stands at a place
abbrev pub feed_at_place : List ℕ → ℕ → Feed
feed_at_place s at = record { signal = get_or s at 0; weight = int_at s (at + 1) }

module _ (own low at : ℕ) (s : List ℕ) where
  feed_int : ℕ → ℤ → List ℕ → Read Feed
  feed_int x w l = check (weight_ok (record { signal = x; weight = w })) 6 (done (record { signal = x; weight = w }) l)

  feed_byte : ℕ → List ℕ → Read Feed
  feed_byte x l = check (leb low x && ltb x own) 5 (int_then l (feed_int x))

  pub feed_end : length s ≤ at → parse_feed own low (drop at s) ≡ refused 4
  unfolding feed_byte feed_int
  feed_end h = byte_end 4 at s feed_byte h

  -- where it does not rise, or is not below its gate
  pub feed_crossed : at < length s → (leb low (get_or s at 0) && ltb (get_or s at 0) own) ≡ false → parse_feed own low (drop at s) ≡ refused 5
  unfolding feed_byte feed_int
  feed_crossed h e = byte_at 4 at s feed_byte h ∙ ap (λ (b : Bool). check b 5 (int_then (drop (at + 1) s) (feed_int (get_or s at 0)))) e

  module _ (e : (leb low (get_or s at 0) && ltb (get_or s at 0) own) ≡ true) where
    feed_on : at < length s → parse_feed own low (drop at s) ≡ int_then (drop (at + 1) s) (feed_int (get_or s at 0))
    unfolding feed_byte feed_int
    feed_on h = byte_at 4 at s feed_byte h ∙ ap (λ (b : Bool). check b 5 (int_then (drop (at + 1) s) (feed_int (get_or s at 0)))) e

    pub feed_short : at < length s → length s < at + 5 → parse_feed own low (drop at s) ≡ refused 4
    feed_short h k = feed_on h ∙ int_end (at + 1) s (feed_int (get_or s at 0)) (omega arith)

    -- the whole feed, by the test of its weight
    pub feed_whole : {b : Bool} → at + 5 ≤ length s → weight_ok (feed_at_place s at) ≡ b
        → parse_feed own low (drop at s) ≡ check b 6 (done (feed_at_place s at) (drop (at + 5) s))
    unfolding feed_int
    feed_whole h w =
        feed_on (omega arith)
        ∙ int_at_lem (at + 1) s (feed_int (get_or s at 0)) (omega arith)
        ∙ ap (λ (j : ℕ). feed_int (get_or s at 0) (int_at s (at + 1)) (drop j s)) {x = at + 1 + 4} {y = at + 5} (omega arith)
        ∙ ap (λ (b : Bool). check b 6 (done (feed_at_place s at) (drop (at + 5) s))) w

-- ---- a gate

-- a gate whose feeds are read, by its margins
abbrev pub gate_kept : Board → ℤ → List Feed → List ℕ → Read Gate
gate_kept b t fs l = check (keeps b (record { feeds = fs; threshold = t })) 24 (done (record { feeds = fs; threshold = t }) l)

-- the n feeds of the gate with signal own and threshold t, and its margins
abbrev pub parse_kept : Board → ℕ → ℕ → ℤ → List ℕ → Read Gate
parse_kept b own n t l = and_then (parse_feeds own n 0 [] l) (gate_kept b t)

module _ (b : Board) (own at : ℕ) (s : List ℕ) where
  gate_int : ℕ → ℤ → List ℕ → Read Gate
  gate_int n t l = check (in_scale t) 6 (parse_kept b own n t l)

  gate_byte : ℕ → List ℕ → Read Gate
  gate_byte n l = check (leb n 16) 7 (int_then l (gate_int n))

  pub gate_end : length s ≤ at → parse_gate b own (drop at s) ≡ refused 4
  unfolding gate_byte gate_int
  gate_end h = byte_end 4 at s gate_byte h

  -- by the test of its feed count
  gate_counted : at < length s → parse_gate b own (drop at s) ≡ check (leb (get_or s at 0) 16) 7 (int_then (drop (at + 1) s) (gate_int (get_or s at 0)))
  unfolding gate_byte gate_int
  gate_counted h = byte_at 4 at s gate_byte h

  pub gate_wide : at < length s → 16 < get_or s at 0 → parse_gate b own (drop at s) ≡ refused 7
  gate_wide h k =
      gate_counted h ∙ ap (λ (x : Bool). check x 7 (int_then (drop (at + 1) s) (gate_int (get_or s at 0)))) (lt-leb (get_or s at 0) 16 k)

  gate_on_lem : at < length s → get_or s at 0 ≤ 16 → parse_gate b own (drop at s) ≡ int_then (drop (at + 1) s) (gate_int (get_or s at 0))
  gate_on_lem h k =
      gate_counted h ∙ ap (λ (x : Bool). check x 7 (int_then (drop (at + 1) s) (gate_int (get_or s at 0)))) (le-leb (get_or s at 0) 16 k)

  pub gate_short : at < length s → get_or s at 0 ≤ 16 → length s < at + 5 → parse_gate b own (drop at s) ≡ refused 4
  gate_short h k n = gate_on_lem h k ∙ int_end (at + 1) s (gate_int (get_or s at 0)) (omega arith)

  -- the whole gate, by the test of its threshold
  pub gate_whole : {x : Bool} → get_or s at 0 ≤ 16 → at + 5 ≤ length s → in_scale (int_at s (at + 1)) ≡ x
      → parse_gate b own (drop at s) ≡ check x 6 (parse_kept b own (get_or s at 0) (int_at s (at + 1)) (drop (at + 5) s))
  unfolding gate_int
  gate_whole k h w =
      gate_on_lem (omega arith) k
      ∙ int_at_lem (at + 1) s (gate_int (get_or s at 0)) (omega arith)
      ∙ ap (λ (j : ℕ). gate_int (get_or s at 0) (int_at s (at + 1)) (drop j s)) {x = at + 1 + 4} {y = at + 5} (omega arith)
      ∙ ap (λ (x : Bool). check x 6 (parse_kept b own (get_or s at 0) (int_at s (at + 1)) (drop (at + 5) s))) w
