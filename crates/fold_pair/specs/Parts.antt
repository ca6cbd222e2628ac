-- Internal: the tests of a pair after those of the record and of the edge, and the pair that a call gives. Nothing is proved here.
use Rattle.std.specs.Prelude.{[], ◌∷◌, leb, Result, Ok, Err}
use Rattle.basics.specs.Refusals.{Answer, accepted, refused, ◌else◌, checks}
use Rattle.refusals.specs.Numbers.{number_of}
use Rattle.refusals.specs.declared.Refusal.{Refusal}
use Rattle.fold_theory.specs.Pair.{Pair, pairs, first}
use Rattle.fold_theory.specs.Aligned.{qualifies_on}
use Rattle.pair_theory.specs.Alignments.{aligned_in}
use Rattle.pair_theory.specs.declared.Alignment.{Alignment}
use Rattle.fold_pair.specs.declared.Multipliers.{Multipliers}

-- 7 and 16
unfoldable pub pair_of_alignment : Alignment → Answer Pair
pair_of_alignment a = checks ((leb a.count 16 else 7) ∷ []) (first (qualifies_on (aligned_in a)) pairs 16)

-- the multipliers as a pair, or the number of the refusal
abbrev pub pair_answer : Result Multipliers Refusal → Answer Pair
pair_answer (Ok m) = accepted (record { k = m.k; l = m.l })
pair_answer (Err e) = refused (number_of e)
