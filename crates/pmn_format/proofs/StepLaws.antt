-- The steps of reading: what follows a test, a byte or a number that is there, and what an accepted step says of its parts. Assumes nothing.
use Rattle.std.specs.Prelude.{ℕ, ◌≤◌, ◌<◌, ◌≡◌, refl, List, [], ◌∷◌, ◌++◌, Bool, true, false, ◌&&◌, T, leb, ltb, ℤ}
use Rattle.std.proofs.Common.{arith, sym, ap, ◌∙◌, leb→le, le→leb, ltb→lt, lt→ltb, SFits, to_z}
use Rattle.std.proofs.lemmas.Bool.{false≢true}
use Rattle.std.specs.Int.{w32}
use Rattle.basics.specs.Word.{number32, int_bytes}
use Rattle.basics.specs.WordLaws.{int_back, int_forth}
use Rattle.basics.specs.TestLaws.{is_true, T_and, and_T}
use Rattle.pmn_format.specs.Format.{Read, refused, done, check, and_then, byte_or, int_then, Bytes}

-- ---- the test of a signal's field
pub signal_test : (low top s : ℕ) → low ≤ s → s < top → (leb low s && ltb s top) ≡ true
signal_test low top s h k = is_true (leb low s && ltb s top) (and_T (leb low s) (ltb s top) (le→leb low s h) (lt→ltb s top k))

pub test_signal : (low top s : ℕ) → T (leb low s && ltb s top) → (low ≤ s) × (s < top)
test_signal low top s t = let h = T_and (leb low s) (ltb s top) t in (leb→le low s h.0, ltb→lt s top h.1)

-- ---- a step whose field is there
-- a test that holds lets the rest follow
pub check_true : {A : Type 0} (b : Bool) (k : ℕ) (r : Read A) → b ≡ true → check b k r ≡ r
check_true true k r h = refl
check_true false k r h = absurd (false≢true h)

-- the number at the front of the bytes is read
pub int_read : {A : Type 0} (z : ℤ) (l : List ℕ) (k : ℤ → List ℕ → Read A) → SFits w32 z → int_then (int_bytes z ++ l) k ≡ k z l
int_read z l k f = ap (λ (x : ℤ). k x l) (int_back z f)

-- ---- what an accepted step says of its parts
-- a refusal is no value, and a value is one value
pub refused≢done : {A X : Type 0} {k : ℕ} {a : A} {l : List ℕ} → refused k ≡ done a l → X
refused≢done e = let z : ◌≡◌ {A = ℕ} 0 1 = cc in absurd (omega arith)

pub done_inj : {A : Type 0} {a b : A} {l m : List ℕ} → done a l ≡ done b m → (a ≡ b) × (l ≡ m)
done_inj e = (cc, cc)

-- its test holds
pub true_of : {A : Type 0} (b : Bool) (k : ℕ) (r : Read A) (a : A) (l : List ℕ) → check b k r ≡ done a l → T b × (r ≡ done a l)
true_of true k r a l h = (tt, h)
true_of false k r a l h = refused≢done h

-- the first part gives a value, and what follows it is accepted
pub record Then {A B : Type 0} (r : Read A) (f : A → List ℕ → Read B) (b : B) (m : List ℕ) : Type 0 where
  pub value : A
  pub rest : List ℕ
  pub first : r ≡ done value rest
  pub second : f value rest ≡ done b m

pub then_of : {A B : Type 0} (r : Read A) (f : A → List ℕ → Read B) (b : B) (m : List ℕ) → and_then r f ≡ done b m → Then r f b m
then_of (refused k) f b m h = refused≢done h
then_of (done a l) f b m h = record { value = a; rest = l; first = refl; second = h }

-- a byte is there, and what follows it is accepted
pub record Byte {A : Type 0} (l : List ℕ) (k : ℕ → List ℕ → Read A) (a : A) (m : List ℕ) : Type 0 where
  pub byte : ℕ
  pub rest : List ℕ
  pub list : l ≡ byte ∷ rest
  pub then : k byte rest ≡ done a m
  pub small : byte < 256
  pub bytes : Bytes rest

pub byte_of : {A : Type 0} (r : ℕ) (l : List ℕ) (k : ℕ → List ℕ → Read A) (a : A) (m : List ℕ) → Bytes l → byte_or r l k ≡ done a m → Byte l k a m
byte_of r [] k a m bs h = refused≢done h
byte_of r (b ∷ l) k a m bs h = record { byte = b; rest = l; list = refl; then = h; small = bs.0; bytes = bs.1 }

-- the four bytes of a number are there, and what follows it is accepted
pub record Int {A : Type 0} (l : List ℕ) (k : ℤ → List ℕ → Read A) (a : A) (m : List ℕ) : Type 0 where
  pub int : ℤ
  pub rest : List ℕ
  pub list : l ≡ int_bytes int ++ rest
  pub then : k int rest ≡ done a m
  pub bytes : Bytes rest

pub int_of : {A : Type 0} (l : List ℕ) (k : ℤ → List ℕ → Read A) (a : A) (m : List ℕ) → Bytes l → int_then l k ≡ done a m → Int l k a m
int_of l k a m bs h =
    let p = byte_of 4 l (λ a l₁. byte_or 4 l₁ (λ b l₂. byte_or 4 l₂ (λ c l₃. byte_or 4 l₃ (λ d l₄. k (to_z w32 (number32 a b c d)) l₄)))) a m bs h in
    let q = byte_of 4 p.rest (λ b l₂. byte_or 4 l₂ (λ c l₃. byte_or 4 l₃ (λ d l₄. k (to_z w32 (number32 p.byte b c d)) l₄))) a m p.bytes p.then in
    let r = byte_of 4 q.rest (λ c l₃. byte_or 4 l₃ (λ d l₄. k (to_z w32 (number32 p.byte q.byte c d)) l₄)) a m q.bytes q.then in
    let s = byte_of 4 r.rest (λ d l₄. k (to_z w32 (number32 p.byte q.byte r.byte d)) l₄) a m r.bytes r.then in
    record {
      int = to_z w32 (number32 p.byte q.byte r.byte s.byte);
      rest = s.rest;
      list = p.list ∙ ap (λ (x : List ℕ). p.byte ∷ x) (q.list ∙ ap (λ (x : List ℕ). q.byte ∷ x) (r.list ∙ ap (λ (x : List ℕ). r.byte ∷ x) s.list))
          ∙ ap (λ (x : List ℕ). x ++ s.rest) (sym (int_forth p.byte q.byte r.byte s.byte p.small q.small r.small s.small));
      then = s.then;
      bytes = s.bytes;
    }
