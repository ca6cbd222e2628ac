-- The lanes of an alley of files are the first 65,535 of them. Assumes nothing.
use Rattle.std.specs.Prelude.{◌≡◌, Bool, true, cond, List, [], ◌∷◌, ◌++◌, map, ℕ, zero, suc, ◌+◌, ◌*◌, ◌%◌, ◌/◌, ◌≤◌, ◌<◌, leb, length, take, drop}
use Rattle.std.proofs.Math.Path.{refl}
use Rattle.std.proofs.Common.{sym, ap, ◌∙◌, arith, le-leb, length-append}
use Rattle.std.proofs.Math.Seq.{take-append_seam, drop-append_seam}
use Rattle.basics.specs.Lists.{Each}
use Rattle.basics.specs.TestLaws.{cond_case}
use Rattle.alley_theory.specs.Alley.{Lane, whole, cut_short, lane_length, lanes_up_to, lanes}
use Rattle.alley_theory.specs.Claims.{alley_of, FirstLanes}

-- the lane at the front of an alley of files
front_lane : (n : ℕ) (file rest : List ℕ) → length file < 65536
    → lanes_up_to (suc n) (length file % 256 ∷ length file / 256 ∷ (file ++ rest)) ≡ whole file ∷ lanes_up_to n rest
unfolding lanes_up_to
front_lane n file rest h =
    let k = lane_length (length file % 256) (length file / 256) in
    let e : k ≡ length file = omega arith in
    let all = file ++ rest in
    let fits : leb (length file) (length all) ≡ true = le-leb (length file) (length all) (omega (arith, length-append file rest)) in
    ap (λ (m : ℕ). cond (leb m (length all)) (whole (take m all) ∷ lanes_up_to n (drop m all)) (cut_short ∷ [])) e
    ∙ ap (λ (b : Bool). cond b (whole (take (length file) all) ∷ lanes_up_to n (drop (length file) all)) (cut_short ∷ [])) fits
    ∙ (λ x. whole (take-append_seam file rest x) ∷ lanes_up_to n (drop-append_seam file rest x))

first_lanes : (n : ℕ) (files : List (List ℕ)) → Each (λ file. length file < 65536) files → lanes_up_to n (alley_of files) ≡ map whole (take n files)
unfolding alley_of
first_lanes zero files h = unfold lanes_up_to in refl
first_lanes (suc n) [] h = unfold lanes_up_to in refl
first_lanes (suc n) (file ∷ files) h = front_lane n file (alley_of files) h.0 ∙ ap (λ (l : List Lane). whole file ∷ l) (first_lanes n files h.1)

no_more : (n : ℕ) (s : List ℕ) → length (lanes_up_to n s) ≤ n
unfolding lanes_up_to
no_more zero s = omega arith
no_more (suc n) [] = omega arith
no_more (suc n) (low ∷ []) = omega arith
no_more (suc n) (low ∷ high ∷ s) =
    let k = no_more n (drop (lane_length low high) s) in
    cond_case (λ (l : List Lane). length l ≤ suc n) (leb (lane_length low high) (length s)) (λ t. omega arith) (λ t. omega arith)

pub lanes_claim : FirstLanes
unfolding lanes
lanes_claim = record { of_files = first_lanes 65535; at_most = no_more 65535 }
