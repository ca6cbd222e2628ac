-- What was read, where it went through a function. Assumes nothing.
use Rattle.std.specs.Prelude.{◌≡◌, List, ℕ}
use Rattle.std.proofs.Common.{sym, ap}
use Rattle.pmn_format.specs.Format.{Read, refused, done}
use Rattle.pmn_format.specs.Answered.{mapped}
use Rattle.pmn_format.proofs.StepLaws.{refused≢done, done_inj}

-- a read that gave a value
pub record Found {A B : Type 0} (f : A → B) (p : Read A) (value : B) (rest : List ℕ) : Type 0 where
  pub what : A
  pub reads : p ≡ done what rest
  pub holds : value ≡ f what

pub found : {A B : Type 0} (f : A → B) (p : Read A) {value : B} {rest : List ℕ} → done value rest ≡ mapped f p → Found f p value rest
found f (refused k) e = refused≢done (sym e)
found f (done a l) e = let h = done_inj e in record { what = a; reads = ap (done a) (sym h.1); holds = h.0 }

-- a read that was refused
pub failed : {A B : Type 0} (f : A → B) (p : Read A) {k : ℕ} → refused k ≡ mapped f p → p ≡ refused k
failed f (refused j) e = ap refused (cc)
failed f (done a l) e = refused≢done e
