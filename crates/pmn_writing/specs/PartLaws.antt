-- Laws of what the parts of the writer put: one feed or output more, the lengths, a gate's bytes, and the mark. Assumes nothing.
use Rattle.std.specs.Prelude.{◌≡◌, List, [], ◌∷◌, ◌++◌, map, ℕ, ◌+◌, ◌*◌, ℤ, length, ◌≤◌, take}
use Rattle.std.proofs.Math.Path.{refl, ap}
use Rattle.std.proofs.Common.{◌∙◌, arith, sym, get_or-take, zero-add, eq-eqb, ne_eqb}
use Rattle.std.proofs.lemmas.List.{map-append, length-take-le}
use Rattle.std.proofs.Math.ListN.{get_or}
use Rattle.basics.specs.Lists.{range, tab}
use Rattle.basics.specs.ListLaws.{length_tab, range_more, tab_of}
use Rattle.basics.specs.Word.{int_bytes}
use Rattle.network.specs.declared.Board.{Board}
use Rattle.network.specs.declared.GateRecord.{GateRecord}
use Rattle.network.specs.Record.{feed_at, feeds_from, gate_in}
use Rattle.network.specs.PlaceLaws.{length_feeds}
use Rattle.pmn_format.specs.Format.{feed_bytes, feeds_bytes, gate_bytes, mark_bytes}
use Rattle.pmn_format.proofs.LengthLaws.{feeds_bytes_length, feeds_bytes_append}
use Rattle.pmn_writing.specs.Parts.{first_feeds, first_outputs}

-- a table with one member more
pub tab_more : {A : Type 0} (f : ℕ → A) (n : ℕ) → tab (n + 1) f ≡ tab n f ++ (f n ∷ [])
tab_more f n = ap (map f) (range_more 0 n ∙ ap (λ (k : ℕ). range 0 n ++ (k ∷ [])) (zero-add n)) ∙ map-append f (range 0 n) (n ∷ [])

-- ---- feeds
module _ (ss : List ℕ) (ws : List ℤ) where
  pub first_feeds_none : first_feeds ss ws 0 ≡ []
  unfolding first_feeds feeds_from range
  first_feeds_none = refl

  pub first_feeds_more : (n : ℕ) → first_feeds ss ws (n + 1) ≡ first_feeds ss ws n ++ feed_bytes (feed_at ss ws n)
  unfolding first_feeds feeds_from
  first_feeds_more n = ap feeds_bytes (tab_more (feed_at ss ws) n) ∙ feeds_bytes_append (tab n (feed_at ss ws)) (feed_at ss ws n ∷ [])

  pub first_feeds_length : (n : ℕ) → length (first_feeds ss ws n) ≡ 5 * n
  unfolding first_feeds
  first_feeds_length n = feeds_bytes_length (feeds_from ss ws 0 n) ∙ ap (λ (k : ℕ). 5 * k) (length_feeds ss ws 0 n)

-- a gate's bytes: its feed count, its threshold and its feeds
pub gate_in_bytes : (g : GateRecord) → gate_bytes (gate_in g) ≡ (g.fanin ∷ int_bytes g.threshold) ++ first_feeds g.signals g.weights g.fanin
unfolding gate_in first_feeds
gate_in_bytes g = ap (λ (k : ℕ). (k ∷ int_bytes g.threshold) ++ feeds_bytes (feeds_from g.signals g.weights 0 g.fanin))
    (length_feeds g.signals g.weights 0 g.fanin)

-- ---- outputs
module _ (ds : List ℕ) where
  pub first_outputs_none : first_outputs ds 0 ≡ []
  unfolding first_outputs range
  first_outputs_none = refl

  pub first_outputs_more : (j : ℕ) → first_outputs ds (j + 1) ≡ first_outputs ds j ++ (get_or ds j 0 ∷ [])
  unfolding first_outputs
  first_outputs_more j = tab_more (λ k. get_or ds k 0) j

  pub first_outputs_length : (n : ℕ) → length (first_outputs ds n) ≡ n
  unfolding first_outputs
  first_outputs_length n = length_tab n (λ k. get_or ds k 0)

  -- they are the first n places
  pub first_outputs_taken : (n : ℕ) → n ≤ length ds → take n ds ≡ first_outputs ds n
  unfolding first_outputs
  first_outputs_taken n h = sym (tab_of 0 n (λ j. get_or ds j 0) (take n ds) (sym (length-take-le n ds h)) (λ i k. sym (get_or-take n ds i 0 (omega (arith, length-take-le n ds h)))))

-- ---- the header
pub marked_second : (b : Board) → b.version ≡ 2 → mark_bytes b ≡ 80 ∷ 77 ∷ 78 ∷ 2 ∷ 0 ∷ b.on ∷ b.off ∷ []
marked_second b e = rw (eq-eqb b.version 2 e)

pub marked_first : (b : Board) → (b.version ≡ 2 → ⊥) → mark_bytes b ≡ 80 ∷ 77 ∷ 78 ∷ 1 ∷ 0 ∷ []
marked_first b e = rw (ne_eqb b.version 2 e)
