-- The header of a file by its indices, and the body of a file from its gates and outputs. Assumes nothing.
use Rattle.std.specs.Prelude.{◌≡◌, Bool, true, false, ◌&&◌, List, [], ◌∷◌, ℕ, ◌+◌, ◌≤◌, ◌<◌, length, drop, leb, eqb}
use Rattle.std.proofs.Math.Path.{refl, ap}
use Rattle.std.proofs.Common.{◌∙◌, arith, le-leb, drop_of_length-le, drop-cons}
use Rattle.std.proofs.Math.Bool.{cond}
use Rattle.std.proofs.lemmas.Bool.{lt-leb}
use Rattle.std.proofs.Math.ListN.{get_or}
use Rattle.basics.specs.Lists.{between}
use Rattle.basics.specs.TestLaws.{between_of}
use Rattle.network.specs.Threshold.{Gate, Net}
use Rattle.network.specs.declared.Board.{Board}
use Rattle.pmn_format.specs.Format.{Read, refused, done, check, and_then, byte_or, net_read, at_end, parse_gates, parse_outputs, parse_body}
use Rattle.pmn_format.specs.Format.{parse_counts, parse_board, parse_version, parse_file}
use Rattle.pmn_format.proofs.AtLaws.{byte_at, byte_end}
use Rattle.pmn_format.proofs.StepLaws.{refused≢done, done_inj, true_of}

-- ---- the mark and the version

-- their tests, and what follows them
abbrev mark_ok : List ℕ → Bool
mark_ok s = eqb (get_or s 0 0) 80 && (eqb (get_or s 1 0) 77 && eqb (get_or s 2 0) 78)

abbrev version_ok : List ℕ → Bool
version_ok s = between 1 2 (get_or s 3 0) && eqb (get_or s 4 0) 0

abbrev pub read_board : List ℕ → Read Board
read_board s = parse_board (get_or s 3 0) (drop 5 s)

mark_third : ℕ → ℕ → ℕ → List ℕ → Read Net
mark_third p m n l = check (eqb p 80 && (eqb m 77 && eqb n 78)) 1 (parse_version l)

mark_second : ℕ → ℕ → List ℕ → Read Net
mark_second p m l = byte_or 4 l (mark_third p m)

mark_first : ℕ → List ℕ → Read Net
mark_first p l = byte_or 4 l (mark_second p)

version_second : ℕ → ℕ → List ℕ → Read Net
version_second v w l = check (between 1 2 v && eqb w 0) 2 (and_then (parse_board v l) parse_counts)

version_first : ℕ → List ℕ → Read Net
version_first v l = byte_or 4 l (version_second v)

module _ (s : List ℕ) where
  file_tests : parse_file s ≡ check (leb 8 (length s)) 1 (byte_or 4 s mark_first)
  unfolding mark_first mark_second mark_third
  file_tests = refl

  pub head_short : length s < 8 → parse_file s ≡ refused 1
  head_short h = file_tests ∙ ap (λ (b : Bool). check b 1 (byte_or 4 s mark_first)) (lt-leb 8 (length s) h)

  module _ (h : 8 ≤ length s) where
    mark_test : parse_file s ≡ check (mark_ok s) 1 (parse_version (drop 3 s))
    unfolding mark_first mark_second mark_third
    mark_test =
        file_tests
        ∙ ap (λ (b : Bool). check b 1 (byte_or 4 s mark_first)) (le-leb 8 (length s) h)
        ∙ byte_at 4 0 s mark_first (omega arith)
        ∙ byte_at 4 1 s (mark_second (get_or s 0 0)) (omega arith)
        ∙ byte_at 4 2 s (mark_third (get_or s 0 0) (get_or s 1 0)) (omega arith)

    version_test : parse_version (drop 3 s) ≡ check (version_ok s) 2 (and_then (read_board s) parse_counts)
    unfolding version_first version_second
    version_test = byte_at 4 3 s version_first (omega arith) ∙ byte_at 4 4 s (version_second (get_or s 3 0)) (omega arith)

    pub head_mark : mark_ok s ≡ false → parse_file s ≡ refused 1
    head_mark e = mark_test ∙ rw e

    pub head_version : mark_ok s ≡ true → version_ok s ≡ false → parse_file s ≡ refused 2
    head_version e f = mark_test ∙ rw e (version_test ∙ rw f)

    pub head_known : mark_ok s ≡ true → version_ok s ≡ true → parse_file s ≡ and_then (read_board s) parse_counts
    head_known e f = mark_test ∙ rw e (version_test ∙ rw f)

    -- ---- the margins
    margin_second : ℕ → ℕ → List ℕ → Read Board
    margin_second on off l = check (leb 1 off) 3 (done (record { version = 2; on = on; off = off }) l)

    margin_first : ℕ → List ℕ → Read Board
    margin_first on l = byte_or 4 l (margin_second on)

    pub board_first : eqb (get_or s 3 0) 1 ≡ true → read_board s ≡ done (record { version = 1; on = 0; off = 1 }) (drop 5 s)
    board_first e = rw e

    -- those of version 2, by the test of the off margin
    pub board_second : {b : Bool} → eqb (get_or s 3 0) 1 ≡ false → leb 1 (get_or s 6 0) ≡ b
        → read_board s ≡ check b 3 (done (record { version = 2; on = get_or s 5 0; off = get_or s 6 0 }) (drop 7 s))
    unfolding margin_first margin_second
    board_second e f =
        ap (λ (x : Bool). cond x (done (record { version = 1; on = 0; off = 1 }) (drop 5 s)) (byte_or 4 (drop 5 s) margin_first)) e
        ∙ byte_at 4 5 s margin_first (omega arith)
        ∙ byte_at 4 6 s (margin_second (get_or s 5 0)) (omega arith)
        ∙ ap (λ (x : Bool). check x 3 (done (record { version = 2; on = get_or s 5 0; off = get_or s 6 0 }) (drop 7 s))) f

-- ---- the counts

-- one count, from 1 to most
abbrev pub parse_count : ℕ → List ℕ → Read ℕ
parse_count most l = byte_or 4 l (λ n m. check (between 1 most n) 3 (done n m))

count_then : {A : Type 0} (most : ℕ) (l : List ℕ) (k : ℕ → List ℕ → Read A)
    → byte_or 4 l (λ n m. check (between 1 most n) 3 (k n m)) ≡ and_then (parse_count most l) k
count_then most [] k = refl
count_then most (n ∷ l) k = elim (between 1 most n) as (λ b. check b 3 (k n l) ≡ and_then (check b 3 (done n l)) k) [ true ↦ refl | false ↦ refl ]

-- by its test
pub count_end : (most at : ℕ) (s : List ℕ) → length s ≤ at → parse_count most (drop at s) ≡ refused 4
count_end most at s h = byte_end 4 at s (λ n m. check (between 1 most n) 3 (done n m)) h

pub count_whole : {b : Bool} (most at : ℕ) (s : List ℕ) → at < length s → between 1 most (get_or s at 0) ≡ b
    → parse_count most (drop at s) ≡ check b 3 (done (get_or s at 0) (drop (at + 1) s))
count_whole most at s h e =
    byte_at 4 at s (λ n m. check (between 1 most n) 3 (done n m)) h ∙ ap (λ (x : Bool). check x 3 (done (get_or s at 0) (drop (at + 1) s))) e

-- a count that is read is within its limit
pub count_few : (most : ℕ) (l : List ℕ) (n : ℕ) (m : List ℕ) → parse_count most l ≡ done n m → n ≤ most
count_few most [] n m e = refused≢done e
count_few most (x ∷ l) n m e =
    let t = true_of (between 1 most x) 3 (done x l) n m e in
    let k = between_of 1 most x t.0 in
    let q = (done_inj t.1).0 in
    omega arith

counts_outputs : Board → ℕ → ℕ → List ℕ → Read Net
counts_outputs b i g m = byte_or 4 m (λ o l₃. check (between 1 16 o) 3 (parse_body b i g o l₃))

counts_gates : Board → ℕ → List ℕ → Read Net
counts_gates b i m = byte_or 4 m (λ g l₂. check (between 1 128 g) 3 (counts_outputs b i g l₂))

module _ (b : Board) (l : List ℕ) where
  counts_inputs : parse_counts b l ≡ and_then (parse_count 40 l) (counts_gates b)
  unfolding counts_gates counts_outputs
  counts_inputs = count_then 40 l (counts_gates b)

  pub inputs_refused : {code : ℕ} → parse_count 40 l ≡ refused code → parse_counts b l ≡ refused code
  inputs_refused e = counts_inputs ∙ ap (λ (r : Read ℕ). and_then r (counts_gates b)) e

  module _ (i : ℕ) (l₁ : List ℕ) (e : parse_count 40 l ≡ done i l₁) where
    inputs_on : parse_counts b l ≡ and_then (parse_count 128 l₁) (counts_outputs b i)
    unfolding counts_gates
    inputs_on = counts_inputs ∙ ap (λ (r : Read ℕ). and_then r (counts_gates b)) e ∙ count_then 128 l₁ (counts_outputs b i)

    pub gates_number_refused : {code : ℕ} → parse_count 128 l₁ ≡ refused code → parse_counts b l ≡ refused code
    gates_number_refused f = inputs_on ∙ ap (λ (r : Read ℕ). and_then r (counts_outputs b i)) f

    module _ (g : ℕ) (l₂ : List ℕ) (f : parse_count 128 l₁ ≡ done g l₂) where
      gates_on : parse_counts b l ≡ and_then (parse_count 16 l₂) (parse_body b i g)
      unfolding counts_outputs
      gates_on = inputs_on ∙ ap (λ (r : Read ℕ). and_then r (counts_outputs b i)) f ∙ count_then 16 l₂ (parse_body b i g)

      pub outputs_number_refused : {code : ℕ} → parse_count 16 l₂ ≡ refused code → parse_counts b l ≡ refused code
      outputs_number_refused k = gates_on ∙ ap (λ (r : Read ℕ). and_then r (parse_body b i g)) k

      pub counts_done : {o : ℕ} {l₃ : List ℕ} → parse_count 16 l₂ ≡ done o l₃ → parse_counts b l ≡ parse_body b i g o l₃
      counts_done k = gates_on ∙ ap (λ (r : Read ℕ). and_then r (parse_body b i g)) k

-- ---- the body: gates, outputs, and no byte after them

module _ (b : Board) (i g o : ℕ) (l : List ℕ) where
  body_end : List Gate → List ℕ → List ℕ → Read Net
  body_end gs os m = at_end (net_read b i gs os) m

  body_outputs : List Gate → List ℕ → Read Net
  body_outputs gs m = and_then (parse_outputs i g o [] m) (body_end gs)

  pub body_gates_refused : {code : ℕ} → parse_gates b i g [] l ≡ refused code → parse_body b i g o l ≡ refused code
  unfolding body_outputs body_end
  body_gates_refused e = ap (λ (r : Read (List Gate)). and_then r body_outputs) e

  module _ {gs : List Gate} {m : List ℕ} (e : parse_gates b i g [] l ≡ done gs m) where
    body_on : parse_body b i g o l ≡ body_outputs gs m
    unfolding body_outputs body_end
    body_on = ap (λ (r : Read (List Gate)). and_then r body_outputs) e

    pub body_outputs_refused : {code : ℕ} → parse_outputs i g o [] m ≡ refused code → parse_body b i g o l ≡ refused code
    unfolding body_outputs
    body_outputs_refused f = body_on ∙ ap (λ (r : Read (List ℕ)). and_then r (body_end gs)) f

    module _ {os rest : List ℕ} (f : parse_outputs i g o [] m ≡ done os rest) where
      body_ends : parse_body b i g o l ≡ body_end gs os rest
      unfolding body_outputs
      body_ends = body_on ∙ ap (λ (r : Read (List ℕ)). and_then r (body_end gs)) f

      pub body_tail : 0 < length rest → parse_body b i g o l ≡ refused 9
      unfolding body_end
      body_tail h = body_ends ∙ ap (body_end gs os) (drop-cons rest 0 0 h)

      pub body_done : length rest ≤ 0 → parse_body b i g o l ≡ done (net_read b i gs os) []
      unfolding body_end
      body_done h = body_ends ∙ ap (body_end gs os) (drop_of_length-le rest {i = 0} h)
