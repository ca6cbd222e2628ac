-- What follows the header, from the answers for its gates and its outputs. Assumes nothing.
use mathlib.Core.Path.{◌≡◌, refl, sym, ap, ◌∙◌}
use mathlib.Core.List.{List, [], ◌++◌}
use Prim.Native.Nat.{ℕ, ◌+◌, ◌-◌, ◌≤◌, ◌<◌}
use native.Mathlib.Omega.{arith}
use lib.ListN.{length, get_or, take, drop, replicate, length-append, get_or-append, get_or-eq_default}
use Rattle.std.proofs.Math.Decide.{dec_lt}
use Rattle.std.proofs.lemmas.List.{drop-replicate, length-replicate, get_or-replicate, get_or-append_right, length-take-le}
use Rattle.basics.specs.ListLaws.{tab_of}
use Rattle.network.specs.Record.{layout, drivers_of}
use Rattle.network.specs.PlaceLaws.{no_drivers}
use Rattle.network.specs.declared.Board.{Board}
use Rattle.network.specs.declared.Network.{Network}
use Rattle.pmn_format.specs.Format.{refused, done, parse_gates, parse_outputs, parse_body}
use Rattle.pmn_format.specs.Answered.{mapped}
use Rattle.pmn_format.proofs.HeadLaws.{body_tail, body_done}
use Rattle.pmn_format.proofs.AnsweredLaws.{Found, found}
use Rattle.pmn_reader.specs.ReadAnswers.{gates_record}

-- the outputs, and 0 in the spare places
drivers_laid : (os : List ℕ) (k : ℕ) → length os + k ≡ 16 → os ++ replicate k 0 ≡ drivers_of os
unfolding drivers_of
drivers_laid os k e = sym (tab_of 0 16 (λ j. get_or os j 0) (os ++ replicate k 0) (omega (arith, length-append os (replicate k 0), length-replicate {A = ℕ})) at)
  where
    at : (i : ℕ) → i < length (os ++ replicate k 0) → get_or os i 0 ≡ get_or (os ++ replicate k 0) i 0
    at i h = elim (dec_lt i (length os)) as (λ t. get_or os i 0 ≡ get_or (os ++ replicate k 0) i 0) [
      | yes j ↦ sym (get_or-append os (replicate k 0) 0 i j)
      | no j ↦ get_or-eq_default os 0 {n = i} (omega arith)
          ∙ sym (get_or-append_right os (replicate k 0) (length os) i 0 refl (omega arith)
          ∙ get_or-replicate k (i - length os) 0 0 (omega (arith, length-append os (replicate k 0), length-replicate {A = ℕ})))
    ]

module _ (b : Board) (i g o : ℕ) (l : List ℕ) {r : Network} {m : List ℕ} (e : done r m ≡ mapped (gates_record b i) (parse_gates b i g [] l))
    {os rest : List ℕ} (f : done os rest ≡ parse_outputs i g (length (take o r.drivers)) [] m) (few : o ≤ 16) where
  gs : Found (gates_record b i) (parse_gates b i g [] l) r m
  gs = found (gates_record b i) (parse_gates b i g [] l) e

  spare : r.drivers ≡ replicate 16 0
  unfolding layout
  spare = ap (λ (n : Network). n.drivers) gs.holds ∙ no_drivers

  -- there is a place for each output
  many : length (take o r.drivers) ≡ o
  many = ap (λ (ds : List ℕ). length (take o ds)) spare ∙ length-take-le o (replicate 16 0) few

  outputs_read : parse_outputs i g o [] m ≡ done os rest
  outputs_read = ap (λ (j : ℕ). parse_outputs i g j [] m) (sym many) ∙ sym f

  pub tail_left : 0 < length rest → refused 9 ≡ mapped layout (parse_body b i g o l)
  tail_left h = sym (ap (mapped layout) (body_tail b i g o l gs.reads outputs_read h))

  pub body_read : length rest ≤ 0 → length os ≡ length (take o r.drivers)
      → done (record r { outputs = o; drivers = os ++ drop o r.drivers }) [] ≡ mapped layout (parse_body b i g o l)
  unfolding layout gs
  body_read h j =
      let n : length os ≡ o = j ∙ many in
      let d : os ++ drop o r.drivers ≡ drivers_of os =
      ap (λ (ds : List ℕ). os ++ drop o ds) spare
      ∙ ap (λ (ds : List ℕ). os ++ ds) (drop-replicate o 16 0)
      ∙ drivers_laid os (16 - o) (omega arith) in
      (λ x. done (record (gs.holds x) { outputs = sym n x; drivers = d x }) [])
      ∙ sym (ap (mapped layout) (body_done b i g o l gs.reads outputs_read h))
