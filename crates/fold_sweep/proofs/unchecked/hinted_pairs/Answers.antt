-- Of what is known of all readers a sweep takes the pairs, or the refuser. Assumes nothing.
use Rattle.std.specs.Prelude.{◌≡◌, refl, ℕ, Result, Ok, Err, MatchResult}
use Rattle.std.proofs.Common.{rules, ap, subst}
use Rattle.network.specs.Record.{gate_of}
use Rattle.network.specs.declared.Network.{Network}
use Rattle.fold_reader_pairs.specs.Collapsing.{ReaderPairs, TriedPairs, ReaderRefuses}
use Rattle.fold_reader_pairs.specs.declared.Pairs.{Pairs}
use Rattle.fold_reader_pairs.specs.declared.Refuser.{Refuser}
use Rattle.fold_reader_pairs.specs.declared.FirstRefuser.{FirstRefuser}
use Rattle.fold_sweep.proofs.unchecked.hinted_pairs.Goals as goal

tried : (r : Network) (u : ℕ) (m : Result Pairs FirstRefuser) {m' : Result Pairs Refuser} → ReaderPairs r u m
    → MatchResult m (λ p. m' ≡ Ok p) (λ x. m' ≡ Err x.refuser) → TriedPairs r u m'
tried r u (Ok p) {m'} h q = record {
  found = λ t e. let same : p ≡ t = cc in h.found t (ap Ok same);
  refuses = λ x e. let no : ⊥ = cc in absurd no;
}
tried r u (Err x) {m'} h q = record {
  found = λ t e. let no : ⊥ = cc in absurd no;
  refuses = λ y e. let same : x.refuser ≡ y = cc in
      subst (λ (z : Refuser). ReaderRefuses r.board (gate_of r) r.inputs r.gates u z) same (h.refuses x refl);
}

pub returns : goal.returns
returns c = tried c.args.network.now c.args.u c.reader_pairs.result c.reader_pairs.ensures (search rules)
