-- Texts put after each other at the front of the lent bytes. Assumes nothing.
use Rattle.std.specs.Prelude.{◌≡◌, refl, List, [], ◌∷◌, ◌++◌, ℕ, ◌+◌, ◌-◌, ◌<◌, ◌≤◌, length, take, drop, set}
use Rattle.std.proofs.Common.{sym, ap, ◌∙◌, arith, length-append, length-drop}
use borrow.Rule.Slice.PartMut.{put_mid}
use Rattle.basics.specs.WriteLaws.{store_on, write_on}
use Rattle.texts.specs.Writes.{TextPut}

-- no text
pub put_none : (xs : List ℕ) → TextPut [] 0 xs xs
put_none xs = record { long = refl; bytes = refl }

module _ {p x₀ xs : List ℕ} {a : ℕ} (w : TextPut p a x₀ xs) where
  -- the same text by another name
  pub put_text : {q : List ℕ} → p ≡ q → TextPut q a x₀ xs
  put_text e = record { long = ap length (sym e) ∙ w.long; bytes = w.bytes ∙ ap (λ (l : List ℕ). l ++ drop a x₀) e }

  -- no byte is added
  pub put_length : a ≤ length x₀ → length xs ≡ length x₀
  put_length h = ap length w.bytes ∙ length-append p (drop a x₀) ∙ ap (λ (k : ℕ). length p + k) (length-drop a x₀) ∙ omega (arith, w.long)

  -- a byte stored after the text
  pub put_byte : (b : ℕ) → a < length x₀ → TextPut (p ++ (b ∷ [])) (a + 1) x₀ (set xs a b)
  put_byte b h = record { long = length-append p (b ∷ []) ∙ omega (arith, w.long); bytes = store_on x₀ xs p b a w.bytes w.long h }

  -- a text put into the part after the text
  pub put_part : {b ys : List ℕ} {n : ℕ} → a + n ≤ length x₀ → TextPut b n (take (length xs - a) (drop a xs)) ys
      → TextPut (p ++ b) (a + n) x₀ (put_mid a (length xs - a) xs ys)
  put_part {b} {ys} {n} h v = record {
    long = length-append p b ∙ omega (arith, w.long, v.long);
    bytes = write_on x₀ xs ys p b a n w.bytes w.long v.long h v.bytes;
  }
