-- Laws of a run of values written into a list, one after the other, at any type of values. Assumes nothing.
use Rattle.std.specs.Prelude.{◌≡◌, refl, List, ◌++◌, ℕ, ◌+◌, ◌-◌, ◌≤◌, ◌<◌, length, get_or, set, take, drop, map}
use Rattle.std.proofs.Common.{sym, ap, ◌∙◌, arith, length-set, ext_get_or, get_or-set_same, get_or-set_other}
use Rattle.std.proofs.Math.Decide.{dec_lt}
use Rattle.std.proofs.lemmas.List.{length-take, length-drop, get_or-take, get_or-drop, length-append, get_or-append-add, get_or-append_right}
use Rattle.std.proofs.Math.ListN.{get_or-append}
use borrow.Rule.Slice.PartMut.{put_mid, mid_of}
use Rattle.basics.specs.Lists.{tab}
use Rattle.basics.specs.ListLaws.{tab_of}
use Rattle.basics.specs.TableLaws.{map_tab}
use Rattle.network.specs.Places.{Pasted}

-- nothing written
pub pasted_none : {A : Type 0} (d : A) (base : ℕ) (f : ℕ → A) (l : List A) → Pasted d base 0 f l l
pasted_none d base f l = record { long = refl; inside = λ i h l. absurd (omega arith); before = λ p h. refl; after = λ p h. refl }

-- one value more
pub pasted_more : {A : Type 0} {d : A} {base k : ℕ} {f : ℕ → A} {old new : List A} (q : ℕ) (v : A) → Pasted d base k f old new
    → q ≡ base + k → v ≡ f k → Pasted d base (k + 1) f old (set new q v)
pasted_more {A} {d} {base} {k} {f} {old} {new} q v h e ev = record {
  long = length-set new q v ∙ h.long;
  inside = λ i p l. elim (dec_lt i k) as (λ t. get_or (set new q v) (base + i) d ≡ f i) [
    | yes j ↦ get_or-set_other new q (base + i) v d (λ x. omega arith) ∙ h.inside i j l
    | no j ↦
        let same : i ≡ k = omega arith in
        let here : q < length new = omega (arith, h.long) in
        rw (same, ← e) (get_or-set_same new q v d here ∙ ev)
  ];
  before = λ p b. get_or-set_other new q p v d (λ x. omega arith) ∙ h.before p b;
  after = λ p a. get_or-set_other new q p v d (λ x. omega arith) ∙ h.after p (omega arith);
}

-- a value of a run at the front
pub pasted_first : {A : Type 0} {d : A} {k i : ℕ} {f : ℕ → A} {old new : List A} → Pasted d 0 k f old new → i < k → i < length old → get_or new i d ≡ f i
pasted_first {A} {d} {k} {i} {f} {old} {new} h l q =
    let e : 0 + i ≡ i = omega arith in
    ap (λ (p : ℕ). get_or new p d) (sym e) ∙ h.inside i l (omega arith)

-- a run that fills the list is its table
pub pasted_tab : {A : Type 0} {d : A} {k : ℕ} {f : ℕ → A} {old new : List A} → Pasted d 0 k f old new → length old ≡ k → new ≡ tab k f
pasted_tab {A} {d} {k} {f} {old} {new} h l =
    sym (tab_of d k f new (sym (h.long ∙ l)) λ i j. sym (pasted_first h (omega (arith, h.long)) (omega (arith, h.long))))

-- a run that is f of each value of the list
pub pasted_map : {A : Type 0} {d : A} {k : ℕ} (f : A → A) {old new : List A} → Pasted d 0 k (λ i. f (get_or old i d)) old new → length old ≡ k → new ≡ map f old
pasted_map {A} {d} {k} f {old} {new} h l =
    pasted_tab h l ∙ sym (map_tab f k (λ i. get_or old i d)) ∙ ap (map f) (tab_of d k (λ i. get_or old i d) old (sym l) (λ i h. refl))

-- the same run by another name
pub pasted_as : {A : Type 0} {d : A} {base to k : ℕ} {f g : ℕ → A} {old new : List A} → Pasted d base k f old new → base ≡ to
    → ((i : ℕ) → i < k → f i ≡ g i) → Pasted d to k g old new
pasted_as {A} {d} {base} {to} {k} {f} {g} {old} {new} h e q = record {
  long = h.long;
  inside = λ i l r. ap (λ (p : ℕ). get_or new (p + i) d) (sym e) ∙ h.inside i l (omega arith) ∙ q i l;
  before = λ p l. h.before p (omega arith);
  after = λ p l. h.after p (omega arith);
}

-- two runs, of which the second follows the first, are one
pub pasted_join : {A : Type 0} {d : A} {base n m : ℕ} {f : ℕ → A} {old mid new : List A} → Pasted d base n f old mid
    → Pasted d (base + n) m (λ i. f (n + i)) mid new → Pasted d base (n + m) f old new
pasted_join {A} {d} {base} {n} {m} {f} {old} {mid} {new} h k = record {
  long = k.long ∙ h.long;
  inside = λ i l q. elim (dec_lt i n) as (λ t. get_or new (base + i) d ≡ f i) [
    | yes j ↦ k.before (base + i) (omega arith) ∙ h.inside i j q
    | no j ↦
        let e : base + i ≡ base + n + (i - n) = omega arith in
        let r : n + (i - n) ≡ i = omega arith in
        ap (λ (p : ℕ). get_or new p d) e ∙ k.inside (i - n) (omega arith) (omega (arith, h.long)) ∙ ap f r
  ];
  before = λ p l. k.before p (omega arith) ∙ h.before p l;
  after = λ p l. k.after p (omega arith) ∙ h.after p (omega arith);
}

-- two lists with the same run written into the same list are one
pub pasted_same : {A : Type 0} {d : A} {base k : ℕ} {f : ℕ → A} {old new new' : List A} → Pasted d base k f old new → Pasted d base k f old new'
    → new ≡ new'
pasted_same {A} {d} {base} {k} {f} {old} {new} {new'} a b = ext_get_or d new new' (a.long ∙ sym b.long) λ p h.
    elim (dec_lt p base) as (λ t. get_or new p d ≡ get_or new' p d) [
      | yes j ↦ a.before p j ∙ sym (b.before p j)
      | no j ↦ elim (dec_lt p (base + k)) as (λ t. get_or new p d ≡ get_or new' p d) [
        | yes l ↦ let q : ℕ = p - base in
            let e : p ≡ base + q = omega arith in
            ap (λ (m : ℕ). get_or new m d) e
            ∙ a.inside q (omega arith) (omega (arith, a.long))
            ∙ sym (b.inside q (omega arith) (omega (arith, a.long)))
            ∙ ap (λ (m : ℕ). get_or new' m d) (sym e)
        | no l ↦ a.after p (omega arith) ∙ sym (b.after p (omega arith))
      ]
    ]

-- ---- a part of a list, read and written
-- how long the part is
pub part_length : {A : Type 0} (base k : ℕ) (xs : List A) → base + k ≤ length xs → length (mid_of base k xs) ≡ k
part_length base k xs h = omega (arith, length-take k (drop base xs), length-drop base xs)

-- n values from place base on, as a table
pub part_tab : {A : Type 0} (d : A) (base n k : ℕ) (xs : List A) → k ≡ n → base + n ≤ length xs → mid_of base k xs ≡ tab n (λ i. get_or xs (base + i) d)
part_tab d base n k xs e h =
    let long : length (mid_of base k xs) ≡ k = part_length base k xs (omega arith) in
    sym (tab_of d n (λ i. get_or xs (base + i) d) (mid_of base k xs) (omega arith) λ i l.
    sym (get_or-take k (drop base xs) i d (omega arith) ∙ get_or-drop base xs i d))

-- n values written from place base on
pub pasted_part : {A : Type 0} (d : A) (base n k : ℕ) (old ys : List A) → k ≡ n → length ys ≡ n → base + n ≤ length old
    → Pasted d base n (λ i. get_or ys i d) old (put_mid base k old ys)
pasted_part d base n k old ys e l h =
    let front : length (take base old) ≡ base = omega (arith, length-take base old) in
    let rest : length (drop k (drop base old)) ≡ length old - base - k = omega (arith, length-drop k (drop base old), length-drop base old) in
    record {
      long = omega (arith, length-append (take base old) (ys ++ drop k (drop base old)), length-append ys (drop k (drop base old)));
      inside = λ i j q. ap (λ (m : ℕ). get_or (put_mid base k old ys) (m + i) d) (sym front)
          ∙ get_or-append-add (take base old) (ys ++ drop k (drop base old)) i d
          ∙ get_or-append ys (drop k (drop base old)) d i (omega arith);
      before = λ p j. get_or-append (take base old) (ys ++ drop k (drop base old)) d p (omega arith) ∙ get_or-take base old p d j;
      after = λ p j. get_or-append_right (take base old) (ys ++ drop k (drop base old)) base p d front (omega arith)
          ∙ get_or-append_right ys (drop k (drop base old)) n (p - base) d l (omega arith)
          ∙ get_or-drop k (drop base old) (p - base - n) d
          ∙ get_or-drop base old (k + (p - base - n)) d
          ∙ ap (λ (m : ℕ). get_or old m d) (omega arith);
    }
