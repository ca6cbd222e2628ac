-- The feeds of a gate, read one after another: what the loop keeps, from its start to its end. Assumes nothing.
use mathlib.Core.Path.{◌≡◌, refl, sym, ap, ◌∙◌}
use mathlib.Core.List.{List, [], ◌∷◌, ◌++◌}
use Prim.Native.Nat.{ℕ, suc, ◌+◌, ◌-◌, ◌≤◌, ◌<◌, zero-le}
use native.Mathlib.Nat.{sub-zero}
use native.Mathlib.Omega.{arith}
use lib.IntN.{ℤ, pos}
use lib.ListN.{length, set, replicate, length-append}
use Rattle.basics.specs.ListLaws.{tab_replicate}
use Rattle.network.specs.Threshold.{Feed}
use Rattle.network.specs.Record.{no_feed, gate_record}
use Rattle.pmn_format.specs.Format.{refused, done, parse_feed, parse_feeds}
use Rattle.pmn_format.specs.Answered.{mapped}
use Rattle.pmn_format.proofs.TurnLaws.{feeds_refused, feeds_more, feeds_ended}
use Rattle.pmn_gate.specs.GateAnswers.{gate_places}
use Rattle.pmn_gate.proofs.Tables.{tab_end}

-- after i of count feeds: the arrays hold them, and the others are read from the bytes that are left
pub record FeedsSoFar (bytes : List ℕ) (own count : ℕ) (signals : List ℕ) (weights : List ℤ) (low i : ℕ) (left : List ℕ) : Type 0 where
  pub taken : List Feed
  pub many : length taken ≡ i
  pub few : i ≤ count
  pub signals_are : signals ≡ (gate_places (pos 0) taken).signals
  pub weights_are : weights ≡ (gate_places (pos 0) taken).weights
  pub rest : parse_feeds own count 0 [] bytes ≡ parse_feeds own (count - i) low taken left

pub feeds_start : (bytes : List ℕ) (own count : ℕ) → FeedsSoFar bytes own count (replicate 16 0) (replicate 16 (pos 0)) 0 0 bytes
unfolding gate_record
feeds_start bytes own count = record {
  taken = [];
  many = refl;
  few = zero-le;
  signals_are = sym (tab_replicate 16 0);
  weights_are = sym (tab_replicate 16 (pos 0));
  rest = ap (λ (k : ℕ). parse_feeds own k 0 [] bytes) (sym (sub-zero count));
}

module _ {bytes : List ℕ} {own count : ℕ} {signals : List ℕ} {weights : List ℤ} {low i : ℕ} {left : List ℕ}
    (h : FeedsSoFar bytes own count signals weights low i left) where
  pub feeds_bad : {k : ℕ} (t : ℤ) → i < count → refused k ≡ parse_feed own low left → refused k ≡ mapped (gate_places t) (parse_feeds own count 0 [] bytes)
  feeds_bad t j e = sym (ap (mapped (gate_places t)) (h.rest ∙ feeds_refused own count i low h.taken left j (sym e)))

  pub feeds_got : {f : Feed} {after : List ℕ} → i < count → count ≤ 16 → done f after ≡ parse_feed own low left
      → FeedsSoFar bytes own count (set signals i f.signal) (set weights i f.weight) (suc f.signal) (i + 1) after
  unfolding gate_record
  feeds_got {f} j few e =
      let fs = h.taken in
      record {
        taken = fs ++ (f ∷ []);
        many = length-append fs (f ∷ []) ∙ ap (λ (n : ℕ). n + 1) h.many;
        few = omega arith;
        signals_are = rw (h.signals_are, ← h.many) (sym (tab_end no_feed (λ f. f.signal) 16 fs f (omega (arith, h.many))));
        weights_are = rw (h.weights_are, ← h.many) (sym (tab_end no_feed (λ f. f.weight) 16 fs f (omega (arith, h.many))));
        rest = h.rest ∙ feeds_more own count i low fs left j (sym e);
      }

  pub feeds_end : {n : ℕ} {t t' : ℤ} → count ≤ i → n ≡ count → t' ≡ t
      → done (record { fanin = n; threshold = t'; signals = signals; weights = weights }) left
      ≡ mapped (gate_places t) (parse_feeds own count 0 [] bytes)
  unfolding gate_record
  feeds_end {n} {t} {t'} j en et =
      let fs = h.taken in
      let e : n ≡ length fs = omega (arith, h.many, h.few) in
      (λ x. done (record { fanin = e x; threshold = et x; signals = h.signals_are x; weights = h.weights_are x }) left)
      ∙ sym (ap (mapped (gate_places t)) (h.rest ∙ feeds_ended own count i low fs left j))
