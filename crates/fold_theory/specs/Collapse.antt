-- Drop and collapse. Document 01, "Pair, drop, collapse, sweep". Nothing is proved here.
use Rattle.std.specs.Prelude.{Bool, cond, ◌&&◌, List, [], ◌∷◌, ℕ, suc}
use Rattle.basics.specs.Lists.{all, other}
use Rattle.basics.specs.Refusals.{Answer, accepted, ◌else◌, checks, bind}
use Rattle.network.specs.Threshold.{Gate, Net}
use Rattle.network.specs.Limits.{is_gate, sound}
use Rattle.network.specs.Changes.{gate_at, with_gates, without}
use Rattle.network.specs.declared.Board.{Board}
use Rattle.fold_theory.specs.Merge.{Edge, edge_of, silent, merged}
use Rattle.fold_theory.specs.Pair.{pair_of}

-- ---- drop

-- no gate and no output reads u
unfoldable pub unread : Net → ℕ → Bool
unread N u = all (silent u) N.gates && all (other u) N.outputs

-- order 20, 11, 17: "removes a gate that no gate and no output reads; higher signals fall by one"
unfoldable pub drop_gate : Net → ℕ → Answer Net
drop_gate N u = checks ((sound N else 20) ∷ (is_gate N u else 11) ∷ (unread N u else 17) ∷ []) (accepted (without N u))

-- ---- collapse

-- what becomes of a gate v: as it was if it does not read u, else merged with its pair, or the pair's refusal
unfoldable pub merged_reader : Edge → Answer Gate
merged_reader e = cond (silent e.u e.gate_v) (accepted e.gate_v) (bind (pair_of e) (λ p. accepted (merged e p.k p.l)))

-- "The pair is found for each reader of u, in rising order": the gates from signal n on, or the first refusal
unfoldable pub merged_readers : Board → ℕ → Gate → ℕ → List Gate → Answer (List Gate)
merged_readers b u gate_u n [] = accepted []
merged_readers b u gate_u n (g ∷ gs) =
    bind (merged_reader (edge_of b u n gate_u g)) (λ h. bind (merged_readers b u gate_u (suc n) gs) (λ hs. accepted (h ∷ hs)))

-- a reader's 7 or 16, or "then all are merged and u is dropped"
abbrev pub collapsed : Net → ℕ → Answer Net
collapsed N u = bind (merged_readers N.board u (gate_at N u) N.inputs N.gates) (λ gs. accepted (without (with_gates N gs) u))

-- order 20, 11, 17 ("is an output"), then the readers'
unfoldable pub collapse : Net → ℕ → Answer Net
collapse N u =
    checks ((sound N else 20) ∷ (is_gate N u else 11) ∷ (all (other u) N.outputs else 17) ∷ []) (collapsed N u)
