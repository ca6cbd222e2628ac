-- The numbers that calls answer: a refusal of a merge, a pair, a drop or a collapse is not 0, and no call answers 13, "against the grain", since
-- where b is negative the complement votes. Assumes nothing.
use Rattle.std.specs.Prelude.{Bool, ◌≢◌, ℕ, suc}
use mathlib.Core.List.{List, [], ◌∷◌}
use Rattle.std.proofs.Common.{arith}
use Rattle.basics.specs.TestLaws.{cond_case}
use Rattle.basics.specs.Refusals.{accepted, bind}
use Rattle.network.specs.Threshold.{Gate, Net}
use Rattle.network.specs.declared.Board.{Board}
use Rattle.fold_theory.specs.Merge.{Edge, edge_of, edge, silent, merged, feed_tests, limits, merge}
use Rattle.fold_theory.specs.Pair.{pairs, qualifies, first, pair_tests, pair_of, pair}
use Rattle.fold_theory.specs.Collapse.{drop_gate, merged_reader, merged_readers, collapse}
use Rattle.fold_theory.specs.Sweep.{sweep}
use Rattle.fold_theory.proofs.RefusalLaws.{NoneSays, NeverSays, checks_never, bind_never, Numbered}

-- ---- merge
pub merge_never : (N : Net) (u v k l : ℕ) → NeverSays 13 (merge N u v k l)
unfolding merge limits
merge_never N u v k l = checks_never 13 (limits N u v k l) _ (omega arith, (omega arith, (omega arith, (omega arith, (omega arith, (omega arith, tt))))))
    (checks_never 13 _ (accepted _) (omega arith, (omega arith, tt)) tt)

-- ---- pair
first_never : {A : Type 0} (p : A → Bool) (n : ℕ) (xs : List A) (c : ℕ) → c ≢ n → NeverSays n (first p xs c)
unfolding first
first_never p n [] c h = h
first_never p n (y ∷ xs) c h = cond_case (NeverSays n) (p y) {x = accepted y} {y = first p xs c} (λ t. tt) (λ t. first_never p n xs c h)

pair_of_never : (n : ℕ) (e : Edge) → NoneSays n (pair_tests e) → 16 ≢ n → NeverSays n (pair_of e)
unfolding pair_of
pair_of_never n e h k = checks_never n (pair_tests e) (first (qualifies e) pairs 16) h (first_never (qualifies e) n pairs 16 k)

pub pair_of_numbered : (e : Edge) → Numbered (pair_of e)
unfolding pair_tests
pair_of_numbered e = pair_of_never 0 e (omega arith, tt) (omega arith)

pair_of_13 : (e : Edge) → NeverSays 13 (pair_of e)
unfolding pair_tests
pair_of_13 e = pair_of_never 13 e (omega arith, tt) (omega arith)

pub pair_numbered : (N : Net) (u v : ℕ) → Numbered (pair N u v)
unfolding pair feed_tests
pair_numbered N u v = checks_never 0 (feed_tests N u v) (pair_of (edge N u v)) (omega arith, (omega arith, (omega arith, tt))) (pair_of_numbered (edge N u v))

pub pair_never : (N : Net) (u v : ℕ) → NeverSays 13 (pair N u v)
unfolding pair feed_tests
pair_never N u v = checks_never 13 (feed_tests N u v) (pair_of (edge N u v)) (omega arith, (omega arith, (omega arith, tt))) (pair_of_13 (edge N u v))

-- ---- drop, collapse, sweep
pub drop_never : (N : Net) (u : ℕ) → NeverSays 13 (drop_gate N u)
unfolding drop_gate
drop_never N u = checks_never 13 _ (accepted _) (omega arith, (omega arith, (omega arith, tt))) tt

merged_reader_never : (n : ℕ) (e : Edge) → NeverSays n (pair_of e) → NeverSays n (merged_reader e)
unfolding merged_reader
merged_reader_never n e h =
    cond_case (NeverSays n) (silent e.u e.gate_v) {x = accepted e.gate_v} {y = bind (pair_of e) (λ p. accepted (merged e p.k p.l))}
    (λ t. tt) (λ t. bind_never n (pair_of e) _ h (λ p. tt))

module _ (n : ℕ) (pairs_never : (e : Edge) → NeverSays n (pair_of e)) where
  merged_readers_never : (b : Board) (u : ℕ) (gate_u : Gate) (m : ℕ) (gs : List Gate) → NeverSays n (merged_readers b u gate_u m gs)
  unfolding merged_readers
  merged_readers_never b u gate_u m [] = tt
  merged_readers_never b u gate_u m (g ∷ gs) =
      let e = edge_of b u m gate_u g in
      bind_never n (merged_reader e) _ (merged_reader_never n e (pairs_never e))
      (λ h. bind_never n (merged_readers b u gate_u (suc m) gs) _ (merged_readers_never b u gate_u (suc m) gs) (λ hs. tt))

  collapse_never_says : (N : Net) (u : ℕ) → 20 ≢ n → 11 ≢ n → 17 ≢ n → NeverSays n (collapse N u)
  unfolding collapse
  collapse_never_says N u x y z =
      checks_never n _ _ (x, (y, (z, tt)))
      (bind_never n (merged_readers _ _ _ _ N.gates) _ (merged_readers_never _ _ _ _ N.gates) (λ gs. tt))

pub collapse_never : (N : Net) (u : ℕ) → NeverSays 13 (collapse N u)
collapse_never N u = collapse_never_says 13 pair_of_13 N u (omega arith) (omega arith) (omega arith)

pub collapse_numbered : (N : Net) (u : ℕ) → Numbered (collapse N u)
collapse_numbered N u = collapse_never_says 0 pair_of_numbered N u (omega arith) (omega arith) (omega arith)

pub sweep_never : (N : Net) (B : ℕ) → NeverSays 13 (sweep N B)
unfolding sweep
sweep_never N B = checks_never 13 _ (accepted _) (omega arith, (omega arith, tt)) tt
