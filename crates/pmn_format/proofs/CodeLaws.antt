-- A refusal's number is not 0 and has at most two digits, so a number of 0 is an accepted file. Assumes nothing.
use Rattle.std.specs.Prelude.{◌≡◌, Bool, true, false, cond, ◌&&◌, List, [], ◌∷◌, ◌++◌, ℕ, zero, suc, ◌<◌, T, ltb, leb, eqb, length, ℤ}
use Rattle.std.proofs.Common.{arith, ltb→lt, to_z}
use Rattle.std.specs.Int.{w32}
use Rattle.basics.specs.Word.{number32}
use Rattle.basics.specs.Lists.{between}
use Rattle.network.specs.Threshold.{Feed, Gate, Net}
use Rattle.network.specs.Limits.{in_scale, weight_ok, keeps, gate_signal}
use Rattle.network.specs.declared.Board.{Board}
use Rattle.pmn_format.specs.Format.{Read, refused, done, byte_or, int_then, check, and_then, parse_feed, parse_feeds, parse_gate, parse_gates}
use Rattle.pmn_format.specs.Format.{parse_outputs, net_read, at_end, parse_body, parse_counts, parse_board, parse_version, parse_file}

-- a refusal's number is not 0, and has at most two digits
abbrev TwoDigits : {A : Type 0} → Read A → Type 0
TwoDigits (refused k) = (0 < k) × (k < 100)
TwoDigits (done a l) = Unit {0}

pub record ReadNumbered {A : Type 0} (r : Read A) : Type 0 where
  pub holds : TwoDigits r

-- ---- the steps of reading
n_done : {A : Type 0} (a : A) (l : List ℕ) → ReadNumbered (done a l)
n_done a l = record { holds = tt }

n_check : {A : Type 0} (b : Bool) (k : ℕ) (few : T (ltb k 99)) (r : Read A) → ReadNumbered r → ReadNumbered (check b (suc k) r)
n_check true k few r h = h
n_check false k few r h = let b = ltb→lt k 99 few in record { holds = (omega arith, omega arith) }

n_byte : {A : Type 0} (k : ℕ) (few : T (ltb k 99)) (l : List ℕ) (f : ℕ → List ℕ → Read A) → ((b : ℕ) (m : List ℕ) → ReadNumbered (f b m))
    → ReadNumbered (byte_or (suc k) l f)
n_byte k few [] f h = let b = ltb→lt k 99 few in record { holds = (omega arith, omega arith) }
n_byte k few (b ∷ l) f h = h b l

n_then : {A B : Type 0} (r : Read A) (f : A → List ℕ → Read B) → ReadNumbered r → ((a : A) (m : List ℕ) → ReadNumbered (f a m)) → ReadNumbered (and_then r f)
n_then (refused k) f h g = record { holds = h.holds }
n_then (done a l) f h g = g a l

n_int : {A : Type 0} (l : List ℕ) (f : ℤ → List ℕ → Read A) → ((z : ℤ) (m : List ℕ) → ReadNumbered (f z m)) → ReadNumbered (int_then l f)
n_int l f h = n_byte 3 tt l _ (λ a l₁. n_byte 3 tt l₁ _ (λ b l₂. n_byte 3 tt l₂ _ (λ c l₃. n_byte 3 tt l₃ _ (λ d l₄. h (to_z w32 (number32 a b c d)) l₄))))

-- ---- the parts of a file
n_feed : (own low : ℕ) (l : List ℕ) → ReadNumbered (parse_feed own low l)
n_feed own low l =
    n_byte 3 tt l _ (λ s l₁. n_check (leb low s && ltb s own) 4 tt _ (n_int l₁ _ (λ w l₂.
    n_check (weight_ok (record { signal = s; weight = w })) 5 tt _ (n_done (record { signal = s; weight = w }) l₂))))

n_feeds : (own n low : ℕ) (acc : List Feed) (l : List ℕ) → ReadNumbered (parse_feeds own n low acc l)
n_feeds own zero low acc l = n_done acc l
n_feeds own (suc n) low acc l = n_then (parse_feed own low l) _ (n_feed own low l) (λ f l₁. n_feeds own n (suc f.signal) (acc ++ (f ∷ [])) l₁)

n_gate : (b : Board) (own : ℕ) (l : List ℕ) → ReadNumbered (parse_gate b own l)
n_gate b own l =
    n_byte 3 tt l _ (λ n l₁. n_check (leb n 16) 6 tt _ (n_int l₁ _ (λ t l₂. n_check (in_scale t) 5 tt _
    (n_then (parse_feeds own n 0 [] l₂) _ (n_feeds own n 0 [] l₂) (λ fs l₃.
    n_check (keeps b (record { feeds = fs; threshold = t })) 23 tt _ (n_done (record { feeds = fs; threshold = t }) l₃))))))

n_gates : (b : Board) (own n : ℕ) (acc : List Gate) (l : List ℕ) → ReadNumbered (parse_gates b own n acc l)
n_gates b own zero acc l = n_done acc l
n_gates b own (suc n) acc l = n_then (parse_gate b own l) _ (n_gate b own l) (λ g l₁. n_gates b (suc own) n (acc ++ (g ∷ [])) l₁)

n_outputs : (inputs gates n : ℕ) (acc l : List ℕ) → ReadNumbered (parse_outputs inputs gates n acc l)
n_outputs inputs gates zero acc l = n_done acc l
n_outputs inputs gates (suc n) acc l = n_byte 3 tt l _ (λ s l₁. n_check (gate_signal inputs gates s) 7 tt _ (n_outputs inputs gates n (acc ++ (s ∷ [])) l₁))

n_end : (N : Net) (l : List ℕ) → ReadNumbered (at_end N l)
n_end N [] = n_done N []
n_end N (b ∷ l) = record { holds = (omega arith, omega arith) }

n_body : (b : Board) (i g o : ℕ) (l : List ℕ) → ReadNumbered (parse_body b i g o l)
n_body b i g o l =
    n_then (parse_gates b i g [] l) _ (n_gates b i g [] l) (λ gs l₁.
    n_then (parse_outputs i g o [] l₁) _ (n_outputs i g o [] l₁) (λ os l₂. n_end (net_read b i gs os) l₂))

n_counts : (b : Board) (l : List ℕ) → ReadNumbered (parse_counts b l)
n_counts b l =
    n_byte 3 tt l _ (λ i l₁. n_check (between 1 40 i) 2 tt _ (n_byte 3 tt l₁ _ (λ g l₂. n_check (between 1 128 g) 2 tt _
    (n_byte 3 tt l₂ _ (λ o l₃. n_check (between 1 16 o) 2 tt _ (n_body b i g o l₃))))))

n_cond : {A : Type 0} (b : Bool) (x y : Read A) → ReadNumbered x → ReadNumbered y → ReadNumbered (cond b x y)
n_cond true x y h k = h
n_cond false x y h k = k

n_board : (v : ℕ) (l : List ℕ) → ReadNumbered (parse_board v l)
n_board v l = n_cond (eqb v 1) _ _ (n_done (record { version = 1; on = 0; off = 1 }) l)
    (n_byte 3 tt l _ (λ on l₁. n_byte 3 tt l₁ _ (λ off l₂. n_check (leb 1 off) 2 tt _ (n_done (record { version = 2; on = on; off = off }) l₂))))

n_version : (l : List ℕ) → ReadNumbered (parse_version l)
n_version l =
    n_byte 3 tt l _ (λ v l₁. n_byte 3 tt l₁ _ (λ w l₂. n_check (between 1 2 v && eqb w 0) 1 tt _
    (n_then (parse_board v l₂) parse_counts (n_board v l₂) n_counts)))

-- the whole file
file_numbered : (s : List ℕ) → ReadNumbered (parse_file s)
file_numbered s =
    n_check (leb 8 (length s)) 0 tt _ (n_byte 3 tt s _ (λ p l₁. n_byte 3 tt l₁ _ (λ m l₂. n_byte 3 tt l₂ _ (λ n l₃.
    n_check (eqb p 80 && (eqb m 77 && eqb n 78)) 0 tt _ (n_version l₃)))))

pub refused_positive : (s : List ℕ) (k : ℕ) → parse_file s ≡ refused k → 0 < k
refused_positive s k e = (rw e at (file_numbered s)).holds.0

pub refused_small : (s : List ℕ) (k : ℕ) → parse_file s ≡ refused k → k < 100
refused_small s k e = (rw e at (file_numbered s)).holds.1
