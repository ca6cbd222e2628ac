-- Laws of tests: a Bool as a fact, and the facts of a conjunction, a disjunction and a choice. Assumes nothing.
use Rattle.std.specs.Prelude.{◌≡◌, refl, Bool, true, false, not, cond, ◌&&◌, ◌||◌, ◌≢◌, List, [], ◌∷◌, ℕ, ◌≤◌, ◌<◌, T, leb, ltb, eqb}
use Rattle.std.proofs.Common.{sym, subst, true≢false, arith, T_not, eqb→eq, leb→le, le→leb, ltb→lt}
use Rattle.std.specs.Bool.{beq}
use Rattle.std.proofs.lemmas.Bool.{false≢true}
use mir.Val.{bool_byte}
use Rattle.std.proofs.Math.Dec.{not_T, eqb_refl}
use Rattle.basics.specs.Lists.{every, between, other}

-- ---- a test as a fact
pub is_true : (b : Bool) → T b → b ≡ true
is_true true t = refl
is_true false t = absurd t

pub is_false : (b : Bool) → T (not b) → b ≡ false
is_false true t = absurd t
is_false false t = refl

pub T_is : (b : Bool) → b ≡ true → T b
T_is b e = subst T (sym e) tt

pub T_isnt : (b : Bool) → b ≡ false → T (not b)
T_isnt b e = subst (λ x. T (not x)) (sym e) tt

pub not_not : (b : Bool) → T (not (not b)) → T b
not_not true t = tt
not_not false t = t

pub test_case : {X : Type 0} (b : Bool) → (T b → X) → (T (not b) → X) → X
test_case true f g = f tt
test_case false f g = g tt

-- a Bool as the language stores it
pub byte_below : (b : Bool) → bool_byte b < 2
byte_below true = omega arith
byte_below false = omega arith

pub byte_cond : (b : Bool) → bool_byte b ≡ cond b 1 0
byte_cond true = refl
byte_cond false = refl

-- two tests that say the same are one
pub test_same : (a b : Bool) → (T a → T b) → (T b → T a) → a ≡ b
test_same true true f g = refl
test_same true false f g = absurd (f tt)
test_same false true f g = absurd (g tt)
test_same false false f g = refl

-- ---- conjunction
pub T_and : (a b : Bool) → T (a && b) → T a × T b
T_and true b h = (tt, h)
T_and false b h = absurd h

pub and_T : (a b : Bool) → T a → T b → T (a && b)
and_T true b h k = k
and_T false b h k = absurd h

pub and_left : (a b : Bool) → a && b ≡ true → a ≡ true
and_left true b h = refl
and_left false b h = h

pub and_right : (a b : Bool) → a && b ≡ true → b ≡ true
and_right true b h = h
and_right false b h = absurd (false≢true h)

pub both_true : (a b : Bool) → a ≡ true → b ≡ true → a && b ≡ true
both_true true b h k = k
both_true false b h k = h

pub and_false_left : (a b : Bool) → a ≡ false → a && b ≡ false
and_false_left true b h = absurd (true≢false h)
and_false_left false b h = refl

pub and_false_right : (a b : Bool) → b ≡ false → a && b ≡ false
and_false_right true b h = h
and_false_right false b h = refl

pub and_true : (b : Bool) → b && true ≡ b
and_true true = refl
and_true false = refl

pub and_assoc : (a b c : Bool) → (a && b) && c ≡ a && (b && c)
and_assoc true b c = refl
and_assoc false b c = refl

-- ---- disjunction
pub or_T : (a b : Bool) → T b → T (a || b)
or_T true b h = tt
or_T false b h = h

pub T_or : (a b : Bool) → T a → T (a || b)
T_or true b h = tt
T_or false b h = absurd h

pub or_case : {X : Type 0} (a b : Bool) → T (a || b) → (T a → X) → (T b → X) → X
or_case true b h f g = f tt
or_case false b h f g = g h

-- a disjunction whose first test fails
pub or_second : (a b : Bool) → T (not a) → T (a || b) → T b
or_second true b n t = absurd n
or_second false b n t = t

pub or_false : (a b : Bool) → a || b ≡ false → (a ≡ false) × (b ≡ false)
or_false true b h = absurd (true≢false h)
or_false false b h = (refl, h)

-- ---- equal Bools
pub beq_eq : (a b : Bool) → T (beq a b) → a ≡ b
beq_eq true true h = refl
beq_eq true false h = absurd h
beq_eq false true h = absurd h
beq_eq false false h = refl

pub eq_beq : (a b : Bool) → a ≡ b → T (beq a b)
eq_beq true true h = tt
eq_beq true false h = true≢false h
eq_beq false true h = false≢true h
eq_beq false false h = tt

-- ---- a choice: both branches, each with what the test says
pub cond_case : {A : Type 0} (P : A → Type 0) (b : Bool) {x y : A} → (T b → P x) → (T (not b) → P y) → P (cond b x y)
cond_case P true f g = f tt
cond_case P false f g = g tt

-- ---- tests that fail

-- what is refuted is false
pub refuted : (b : Bool) → (T b → ⊥) → b ≡ false
refuted true f = absurd (f tt)
refuted false f = refl

pub fails : (b : Bool) → b ≡ false → T b → ⊥
fails true e t = absurd (true≢false e)
fails false e t = t

-- ---- equal numbers
pub other_ne : (u s : ℕ) → T (other u s) → s ≢ u
unfolding other
other_ne u s t e = T_not (eqb s u) t (rw e (eqb_refl u))

pub ne_other : (u s : ℕ) → s ≢ u → T (other u s)
unfolding other
ne_other u s h = elim (eqb s u) as (λ b. (T b → s ≡ u) → T (not b)) [ true ↦ λ k. h (k tt) | false ↦ λ k. tt ] (eqb→eq s u)

pub not_below : (a b : ℕ) → b ≤ a → T (not (ltb a b))
not_below a b h = not_T (ltb a b) λ t. let l = ltb→lt a b t in omega arith

pub eqb_no : (a b : ℕ) → a ≢ b → eqb a b ≡ false
eqb_no a b h = elim (eqb a b) as (λ x. (T x → a ≡ b) → x ≡ false) [ true ↦ λ k. absurd (h (k tt)) | false ↦ λ k. refl ] (eqb→eq a b)

-- ---- a list of tests
abbrev pub Every : List Bool → Type 0
Every [] = Unit {0}
Every (b ∷ bs) = T b × Every bs

pub every_of : (bs : List Bool) → T (every bs) → Every bs
unfolding every
every_of [] t = tt
every_of (b ∷ bs) t = let h = T_and b (every bs) t in (h.0, every_of bs h.1)

pub of_every : (bs : List Bool) → Every bs → T (every bs)
unfolding every
of_every [] t = tt
of_every (b ∷ bs) t = and_T b (every bs) t.0 (of_every bs t.1)

-- ---- a number between two
pub between_of : (a b n : ℕ) → T (between a b n) → (a ≤ n) × (n ≤ b)
unfolding between
between_of a b n t = let h = T_and (leb a n) (leb n b) t in (leb→le a n h.0, leb→le n b h.1)

pub of_between : (a b n : ℕ) → (a ≤ n) × (n ≤ b) → T (between a b n)
unfolding between
of_between a b n h = and_T (leb a n) (leb n b) (le→leb a n h.0) (le→leb n b h.1)
