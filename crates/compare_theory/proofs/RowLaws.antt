-- The gate of two rows, over other signals. Assumes nothing.
use Rattle.std.specs.Prelude.{◌≡◌, refl, List, map, ℕ, ◌+◌, ◌<◌, ℤ, pos, get_or}
use Rattle.std.proofs.Math.Path.{sym}
use Rattle.std.proofs.Common.{ap, ◌∙◌}
use Rattle.std.proofs.lemmas.Simd.{map-map}
use Rattle.basics.specs.Lists.{range}
use Rattle.basics.specs.ListLaws.{tab_same}
use Rattle.basics.specs.TableLaws.{range_tab}
use Rattle.network.specs.Threshold.{Feed, Gate}
use Rattle.network.specs.Record.{feed_at, feeds_from}
use Rattle.question_theory.specs.Question.{term, over_gate}
use Rattle.compare_theory.specs.Joint.{fanin, gate_of_rows}

module _ (φ : ℕ → ℕ) (signals signals' : List ℕ) (weights weights' : List ℤ) where
  -- count feeds from place p on, and from place p' on with φ of their signals
  pub feeds_over : (p p' count : ℕ) → ((i : ℕ) → i < count → get_or signals' (p' + i) 0 ≡ φ (get_or signals (p + i) 0))
      → ((i : ℕ) → i < count → get_or weights' (p' + i) (pos 0) ≡ get_or weights (p + i) (pos 0))
      → feeds_from signals' weights' p' count ≡ map (λ f. term (φ f.signal) f.weight) (feeds_from signals weights p count)
  unfolding feeds_from feed_at
  feeds_over p p' count h k =
      range_tab (feed_at signals' weights') p' count
      ∙ tab_same count (λ i. feed_at signals' weights' (p' + i)) (λ i. over (feed_at signals weights (p + i)))
      (λ i l. λ t. record { signal = h i l t; weight = k i l t })
      ∙ sym (map-map over (feed_at signals weights) (range p count) ∙ range_tab (λ q. over (feed_at signals weights q)) p count)
    where
      over : Feed → Feed
      over f = term (φ f.signal) f.weight

  -- two rows with φ of the signals of two others
  pub rows_over : fanin signals' ≡ fanin signals → get_or weights' 0 (pos 0) ≡ get_or weights 0 (pos 0)
      → ((i : ℕ) → i < fanin signals → get_or signals' (1 + i) 0 ≡ φ (get_or signals (1 + i) 0))
      → ((i : ℕ) → i < fanin signals → get_or weights' (1 + i) (pos 0) ≡ get_or weights (1 + i) (pos 0))
      → gate_of_rows signals' weights' ≡ over_gate φ (gate_of_rows signals weights)
  unfolding gate_of_rows over_gate
  rows_over e t h k = λ z. record {
    feeds = (ap (feeds_from signals' weights' 1) e ∙ feeds_over 1 1 (fanin signals) h k) z;
    threshold = t z;
  }
