-- Lanes: rows of masks, lanes that are all 0, and a row put into the lanes. Assumes nothing.
use Rattle.std.specs.Prelude.{◌≡◌, Bool, false, List, [], ◌≢◌, ℕ, ◌<◌, eqb, ℤ, pos, get_or, set, replicate}
use Rattle.std.proofs.Common.{sym, ap, ◌∙◌, subst, arith, eqb→eq, get_or-set_same, get_or-set_other}
use Rattle.std.proofs.Math.Path.{fun_ext}
use Rattle.std.proofs.Math.ListN.{length-set}
use Rattle.std.proofs.lemmas.List.{length-replicate, get_or-replicate}
use Rattle.basics.specs.Lists.{other}
use Rattle.basics.specs.TestLaws.{test_case, cond_case, other_ne}
use Rattle.network.specs.Threshold.{assign}
use Rattle.frame_lanes.specs.Lanes.{mask_of, is_on}
use Rattle.frame_lanes.specs.MaskLaws.{on_mask}
use Rattle.compare_lanes.specs.Lanes.{lane_bits, MaskRow, Masked, LanesPut}

-- ---- rows

-- the same bits by another name
pub mask_row_as : {b d : ℕ → Bool} {row : List ℤ} → MaskRow b row → ((f : ℕ) → f < 32 → b f ≡ d f) → MaskRow d row
mask_row_as h e = record { long = h.long; mask = λ f l. h.mask f l ∙ ap mask_of (e f l) }

-- the bits of a row are those of its masks
abbrev row_bits : List ℤ → ℕ → Bool
row_bits row f = is_on (get_or row f (pos 0))

row_bit : {b : ℕ → Bool} {row : List ℤ} → MaskRow b row → (f : ℕ) → f < 32 → row_bits row f ≡ b f
row_bit {b} h f l = ap is_on (h.mask f l) ∙ on_mask (b f)

row_own : {b : ℕ → Bool} {row : List ℤ} → MaskRow b row → MaskRow (row_bits row) row
row_own h = mask_row_as h λ f l. sym (row_bit h f l)

-- ---- all masks 0
blank_row : MaskRow (λ f. false) (replicate 32 (pos 0))
blank_row = record { long = length-replicate 32 (pos 0); mask = λ f l. get_or-replicate 32 f (pos 0) (pos 0) l }

pub masked_none : Masked (replicate 296 (replicate 32 (pos 0)))
unfolding lane_bits
masked_none = record {
  rows = length-replicate 296 (replicate 32 (pos 0));
  row = λ s l. subst (λ row. MaskRow (row_bits row) row) (sym (get_or-replicate 296 s (replicate 32 (pos 0)) [] l)) (row_own blank_row);
}

-- ---- a row put into the lanes
module _ (s : ℕ) {b : ℕ → Bool} {lanes : List (List ℤ)} {row : List ℤ} (m : Masked lanes) (l : s < 296) (h : MaskRow b row) where
  put_here : get_or (set lanes s row) s [] ≡ row
  put_here = get_or-set_same lanes s row [] (omega (arith, m.rows))

  put_other : (t : ℕ) → t ≢ s → get_or (set lanes s row) t [] ≡ get_or lanes t []
  put_other t n = get_or-set_other lanes s t row [] n

  put_row_at : (t : ℕ) → t < 296 → MaskRow (row_bits (get_or (set lanes s row) t [])) (get_or (set lanes s row) t [])
  unfolding lane_bits other
  put_row_at t k = test_case (eqb t s)
      (λ e. rw (eqb→eq t s e, put_here) (row_own h))
      (λ e. rw (put_other t (other_ne s t e)) (m.row t k))

  pub lanes_put : LanesPut s b lanes (set lanes s row)
  unfolding lane_bits assign other
  lanes_put = record {
    masked = record { rows = length-set lanes s row ∙ m.rows; row = put_row_at };
    bits = λ f k. fun_ext λ t. cond_case (λ v. is_on (get_or (get_or (set lanes s row) t []) f (pos 0)) ≡ v) (eqb t s)
        (λ e. rw (eqb→eq t s e, put_here) (row_bit h f k))
        (λ e. rw (put_other t (other_ne s t e)));
  }
