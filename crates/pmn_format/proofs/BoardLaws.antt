-- The board of a file: the two kinds of board, their bytes, and that these are read back. Assumes nothing.
use Rattle.std.specs.Prelude.{◌≡◌, refl, ◌&&◌, List, ◌∷◌, ◌++◌, ℕ, zero, suc, ◌+◌, ◌≤◌, ◌<◌, T, leb, eqb, length}
use Rattle.std.proofs.Common.{ap, ◌∙◌, subst, arith, eqb→eq, leb→le, le→leb}
use Rattle.basics.specs.Lists.{between}
use Rattle.basics.specs.TestLaws.{T_and, and_T, or_case, cond_case, is_true, is_false, test_case, between_of, of_between}
use Rattle.network.specs.Threshold.{Net}
use Rattle.network.specs.Limits.{board_ok}
use Rattle.network.specs.declared.Board.{Board}
use Rattle.pmn_format.specs.Format.{Read, done, check, and_then, byte_or, board_bytes, mark_bytes, parse_counts, parse_board, parse_version, Bytes}
use Rattle.pmn_format.specs.Lengths.{header_length}
use Rattle.pmn_format.proofs.StepLaws.{check_true, true_of, then_of, byte_of, done_inj}

-- a board is that of version 1, or one of version 2
pub board_kinds : {X : Type 0} (b : Board) → T (board_ok b) → (b.version ≡ 1 → b.on ≡ 0 → b.off ≡ 1 → X)
    → (b.version ≡ 2 → b.on ≤ 255 → (1 ≤ b.off) × (b.off ≤ 255) → X) → X
unfolding board_ok
board_kinds b t f g =
    let v₁ = eqb b.version 1 in
    let v₂ = eqb b.version 2 in
    let m₁ = eqb b.on 0 && eqb b.off 1 in
    let m₂ = leb b.on 255 && between 1 255 b.off in
    or_case (v₁ && m₁) (v₂ && m₂) t
    (λ h.
    let h₁ = T_and v₁ m₁ h in
    let h₂ = T_and (eqb b.on 0) (eqb b.off 1) h₁.1 in
    f (eqb→eq b.version 1 h₁.0) (eqb→eq b.on 0 h₂.0) (eqb→eq b.off 1 h₂.1))
    (λ h.
    let h₁ = T_and v₂ m₂ h in
    let h₂ = T_and (leb b.on 255) (between 1 255 b.off) h₁.1 in
    g (eqb→eq b.version 2 h₁.0) (leb→le b.on 255 h₂.0) (between_of 1 255 b.off h₂.1))

-- a board of version 2
second_ok : (on off : ℕ) → on ≤ 255 → (1 ≤ off) × (off ≤ 255) → T (board_ok (record { version = 2; on = on; off = off }))
unfolding board_ok
second_ok on off h k = and_T (leb on 255) (between 1 255 off) (le→leb on 255 h) (of_between 1 255 off k)

-- ---- its bytes
pub mark_bytes_length : (b : Board) → length (mark_bytes b) + 3 ≡ header_length b
mark_bytes_length b =
    let second = eqb b.version 2 in
    test_case second (λ t. rw (is_true second t)) (λ t. rw (is_false second t))

pub header_long : (b : Board) → (8 ≤ header_length b) × (header_length b ≤ 10)
header_long b = cond_case (λ (n : ℕ). (8 ≤ n) × (n ≤ 10)) (eqb b.version 2) (λ t. (omega arith, omega arith)) (λ t. (omega arith, omega arith))

pub board_bytes_lem : (b : Board) → T (board_ok b) → Bytes (board_bytes b)
board_bytes_lem b t =
    let small : (b.on < 256) × (b.off < 256) = board_kinds b t (λ v h k. (omega arith, omega arith)) (λ v h k. (omega arith, omega arith)) in
    cond_case Bytes (eqb b.version 2)
    (λ z. (omega arith, (omega arith, (small.0, (small.1, tt)))))
    (λ z. (omega arith, (omega arith, tt)))

-- ---- reading

-- what is written is read back
first_read : (v on off : ℕ) (l : List ℕ) → v ≡ 1 → on ≡ 0 → off ≡ 1
    → parse_version (board_bytes (record { version = v; on = on; off = off }) ++ l) ≡ parse_counts (record { version = v; on = on; off = off }) l
unfolding between
first_read v on off l e f g = rw (e, f, g)

second_read : (v on off : ℕ) (l : List ℕ) → v ≡ 2 → 1 ≤ off
    → parse_version (board_bytes (record { version = v; on = on; off = off }) ++ l) ≡ parse_counts (record { version = v; on = on; off = off }) l
unfolding between
second_read v on off l e h = rw e (ap (λ (r : Read Board). and_then r parse_counts)
    (check_true (leb 1 off) 3 (done (record { version = 2; on = on; off = off }) l) (is_true (leb 1 off) (le→leb 1 off h))))

pub board_read : (b : Board) (l : List ℕ) → T (board_ok b) → parse_version (board_bytes b ++ l) ≡ parse_counts b l
board_read b l t = board_kinds b t (first_read b.version b.on b.off l) (λ e f g. second_read b.version b.on b.off l e g.0)

-- the margins of a version that is accepted
record MarginsOf (v : ℕ) (l : List ℕ) (b : Board) (m : List ℕ) : Type 0 where
  list : v ∷ 0 ∷ l ≡ board_bytes b ++ m
  ok : T (board_ok b)
  bytes : Bytes m

margins_of : (v : ℕ) (l : List ℕ) (b : Board) (m : List ℕ) → (1 ≤ v) × (v ≤ 2) → Bytes l → parse_board v l ≡ done b m → MarginsOf v l b m
unfolding board_ok
margins_of zero l b m r bs h = absurd (omega (arith, r.0))
margins_of (suc zero) l b m r bs h =
    let e = done_inj h in
    let z : MarginsOf 1 l (record { version = 1; on = 0; off = 1 }) l = record { list = refl; ok = tt; bytes = bs } in
    subst (λ (x : List ℕ). MarginsOf 1 l b x) e.1 (subst (λ (x : Board). MarginsOf 1 l x l) e.0 z)
margins_of (suc (suc zero)) l b m r bs h =
    let k₂ : ℕ → ℕ → List ℕ → Read Board = λ on off l₂. check (leb 1 off) 3 (done (record { version = 2; on = on; off = off }) l₂) in
    let p = byte_of 4 l (λ on l₁. byte_or 4 l₁ (k₂ on)) b m bs h in
    let q = byte_of 4 p.rest (k₂ p.byte) b m p.bytes p.then in
    let x : Board = record { version = 2; on = p.byte; off = q.byte } in
    let t = true_of (leb 1 q.byte) 3 (done x q.rest) b m q.then in
    let e = done_inj t.1 in
    let z : MarginsOf 2 l x q.rest = record {
      list = ap (λ (y : List ℕ). 2 ∷ 0 ∷ y) (p.list ∙ ap (λ (y : List ℕ). p.byte ∷ y) q.list);
      ok = second_ok p.byte q.byte (omega (arith, p.small)) (leb→le 1 q.byte t.0, omega (arith, q.small));
      bytes = q.bytes;
    } in
    subst (λ (y : List ℕ). MarginsOf 2 l b y) e.1 (subst (λ (y : Board). MarginsOf 2 l y q.rest) e.0 z)
margins_of (suc (suc (suc v))) l b m r bs h = absurd (omega (arith, r.1))

-- a version that is accepted, with its margins: the bytes of a board, and the counts after them
pub record BoardOf (l : List ℕ) (N : Net) (m : List ℕ) : Type 0 where
  pub board : Board
  pub rest : List ℕ
  pub list : l ≡ board_bytes board ++ rest
  pub ok : T (board_ok board)
  pub then : parse_counts board rest ≡ done N m
  pub bytes : Bytes rest

pub board_of : (l : List ℕ) (N : Net) (m : List ℕ) → Bytes l → parse_version l ≡ done N m → BoardOf l N m
board_of l N m bs h =
    let k₂ : ℕ → ℕ → List ℕ → Read Net = λ v w l₂. check (between 1 2 v && eqb w 0) 2 (and_then (parse_board v l₂) parse_counts) in
    let p = byte_of 4 l (λ v l₁. byte_or 4 l₁ (k₂ v)) N m bs h in
    let v = p.byte in
    let q = byte_of 4 p.rest (k₂ v) N m p.bytes p.then in
    let t = true_of (between 1 2 v && eqb q.byte 0) 2 (and_then (parse_board v q.rest) parse_counts) N m q.then in
    let c = T_and (between 1 2 v) (eqb q.byte 0) t.0 in
    let u = then_of (parse_board v q.rest) parse_counts N m t.1 in
    let b = margins_of v q.rest u.value u.rest (between_of 1 2 v c.0) q.bytes u.first in
    record {
      board = u.value;
      rest = u.rest;
      list = p.list ∙ ap (λ (y : List ℕ). v ∷ y) (q.list ∙ ap (λ (n : ℕ). n ∷ q.rest) (eqb→eq q.byte 0 c.1)) ∙ b.list;
      ok = b.ok;
      then = u.second;
      bytes = b.bytes;
    }
