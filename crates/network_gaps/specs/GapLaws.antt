-- Laws of places put into an array. Assumes nothing.
use Rattle.std.specs.Prelude.{◌≡◌, refl, List, ℕ, ◌+◌, ◌-◌, ◌≤◌, ◌<◌, get_or, length, replicate}
use Rattle.std.proofs.Math.Decide.{dec_lt}
use Rattle.std.proofs.Common.{sym, ap, ◌∙◌, arith, lt-ltb, le-ltb}
use Rattle.std.proofs.Math.ListN.{get_or-eq_default}
use Rattle.basics.specs.ListLaws.{length_tab, get_or_tab, tab_of}
use Rattle.network_places.specs.PasteLaws.{part_length, pasted_part}
use Rattle.std.specs.List.{CopiedTo, SameBelow}
use Rattle.std.proofs.lemmas.List.{length-replicate, get_or-replicate}
use borrow.Rule.Slice.PartMut.{put_mid, mid_of}
use Rattle.network_gaps.specs.Gaps.{source, with_places, MembersBelow}

-- a place before the new ones stays, a later one moves by the gap
pub source_low : (size first gap p : ℕ) → p < first → source size first gap p ≡ p
unfolding source
source_low size first gap p h = rw (lt-ltb p first h)

pub source_new : (size first gap p : ℕ) → first ≤ p → p < first + gap → source size first gap p ≡ size
unfolding source
source_new size first gap p h k = rw (le-ltb p first h, lt-ltb p (first + gap) k)

pub source_high : (size first gap p : ℕ) → first + gap ≤ p → source size first gap p ≡ p - gap
unfolding source
source_high size first gap p h = rw (le-ltb p first (omega arith), le-ltb p (first + gap) h)

-- moved up, and spare in the gap
pub gap_opened : {A : Type 0} (d : A) (first gap k : ℕ) (old mid ys : List A) → first + gap ≤ length old → k ≡ gap → length mid ≡ length old
    → CopiedTo old mid first (first + gap) (length old - gap - first) → SameBelow old mid (first + gap) → ys ≡ replicate (length (mid_of first k mid)) d
    → put_mid first k mid ys ≡ with_places d (length old) first gap old
unfolding with_places
gap_opened {A} d first gap k old mid ys few ek em moved stays spare =
    let m : ℕ = length (mid_of first k mid) in
    let whole : m ≡ k = part_length first k mid (omega arith) in
    let long : length ys ≡ k = ap length spare ∙ length-replicate m d ∙ whole in
    let past = pasted_part d first k k mid ys refl long (omega arith) in
    let new : List A = put_mid first k mid ys in
    let from : ℕ → ℕ = source (length old) first gap in
    sym (tab_of d (length old) (λ p. get_or old (from p) d) new (sym (past.long ∙ em)) λ p b.
    elim (dec_lt p first) as (λ t. get_or old (from p) d ≡ get_or new p d) [
      | yes i ↦ ap (λ (q : ℕ). get_or old q d) (source_low (length old) first gap p i) ∙ sym (past.before p i ∙ stays p d (omega arith))
      | no i ↦ elim (dec_lt p (first + gap)) as (λ t. get_or old (from p) d ≡ get_or new p d) [
        | yes j ↦ let e : p ≡ first + (p - first) = omega arith in
            ap (λ (q : ℕ). get_or old q d) (source_new (length old) first gap p (omega arith) j)
            ∙ get_or-eq_default old d {n = length old} (omega arith)
            ∙ sym (ap (λ (q : ℕ). get_or new q d) e ∙ past.inside (p - first) (omega arith) (omega arith)
            ∙ ap (λ (zs : List A). get_or zs (p - first) d) spare ∙ get_or-replicate m (p - first) d d (omega arith))
        | no j ↦ let e : p - gap ≡ first + (p - (first + gap)) = omega arith in
            ap (λ (q : ℕ). get_or old q d) (source_high (length old) first gap p (omega arith) ∙ e)
            ∙ sym (past.after p (omega arith) ∙ moved p d (omega arith) (omega (arith, past.long)))
      ]
    ])

-- the new places hold 0
pub low_places : (n size first gap : ℕ) (xs : List ℕ) → 0 < n → MembersBelow n xs → MembersBelow n (with_places 0 size first gap xs)
unfolding with_places
low_places n size first gap xs z h = record {
  each = λ p. elim (dec_lt p size) as (λ d. get_or (with_places 0 size first gap xs) p 0 < n) [
    | yes k ↦ omega (arith, get_or_tab 0 size (λ p. get_or xs (source size first gap p) 0) p k, h.each (source size first gap p))
    | no k ↦
        let long = length_tab size (λ p. get_or xs (source size first gap p) 0) in
        omega (arith, get_or-eq_default (with_places 0 size first gap xs) 0 {n = p} (omega (arith, long)))
  ];
}
