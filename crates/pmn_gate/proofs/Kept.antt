-- A gate whose feeds were read: it is within the limits, so that its margins can be tested, and what the test says of the read; the margins of
-- version 1 are kept by every gate. Assumes nothing.
use mathlib.Core.Path.{◌≡◌, refl, sym, ap, ◌∙◌, subst}
use mathlib.Core.Bool.{Bool, true, false}
use mathlib.Core.List.{List, []}
use Prim.Native.Nat.{ℕ, ◌≤◌}
use native.Mathlib.Omega.{arith}
use lib.Dec.{T}
use lib.IntN.{ℤ}
use lib.ListN.{length, get_or}
use mir.Syntax.{w8, w32}
use mir.Val.{Fits, SFits, to_z, of_z}
use mir.Facts.{to_z-of_z}
use Rattle.basics.specs.Lists.{Each}
use Rattle.gate_margins.specs.Tables.{OnScale}
use Rattle.network.specs.Threshold.{Feed, Gate}
use Rattle.network.specs.Limits.{in_scale, weight_ok, weights_of, keeps}
use Rattle.network.specs.Record.{gate_in, gate_record}
use Rattle.network.specs.PlaceLaws.{gate_in_gate_record}
use Rattle.network.specs.MarginLaws.{keeps_plain, on_scale_lem}
use Rattle.network.specs.declared.Board.{Board}
use Rattle.network.specs.declared.GateRecord.{GateRecord}
use Rattle.pmn_format.specs.Format.{Read, refused, done, check, and_then, parse_feeds, Bytes}
use Rattle.pmn_format.specs.Answered.{mapped}
use Rattle.pmn_format.proofs.AtLaws.{gate_kept, parse_kept}
use Rattle.pmn_format.proofs.AnsweredLaws.{Found, found}
use Rattle.pmn_format.proofs.LengthLaws.{bytes_of}
use Rattle.pmn_format.proofs.ScaleLaws.{of_scales}
use Rattle.pmn_format.proofs.ReadWriteLaws.{FeedsOf, feeds_of_lem}
use Rattle.pmn_gate.specs.GateAnswers.{gate_places}

-- the gate is read off the bytes l: its feed count and its threshold are within the limits, and its feeds are read
pub record Fed (own count : ℕ) (t : ℤ) (l : List ℕ) (gate : GateRecord) (after : List ℕ) : Type 0 where
  pub bytes : Bytes l
  pub few : count ≤ 16
  pub scale : T (in_scale t)
  pub feeds : done gate after ≡ mapped (gate_places t) (parse_feeds own count 0 [] l)

pub fed : {own count : ℕ} {t : ℤ} {l : List ℕ} {gate : GateRecord} {after : List ℕ} → SFits w32 t → ((i : ℕ) → Fits w8 (get_or l i 0))
    → (count ≤ 16) × T (in_scale t) → done gate after ≡ mapped (gate_places (to_z w32 (of_z w32 t))) (parse_feeds own count 0 [] l)
    → Fed own count t l gate after
fed {own} {count} {t} {l} {gate} {after} f small h e = record {
  bytes = bytes_of l (λ i. (small i).fits);
  few = h.0;
  scale = h.1;
  feeds = subst (λ (z : ℤ). done gate after ≡ mapped (gate_places z) (parse_feeds own count 0 [] l)) (to_z-of_z f) e;
}

module _ {own count : ℕ} {t : ℤ} {l : List ℕ} {gate : GateRecord} {after : List ℕ} (h : Fed own count t l gate after) where
  fs : Found (gate_places t) (parse_feeds own count 0 [] l) gate after
  fs = found (gate_places t) (parse_feeds own count 0 [] l) h.feeds

  -- the gate that was read
  gate_read : Gate
  gate_read = record { feeds = fs.what; threshold = t }

  -- its feeds
  feeds_read : FeedsOf own 0 count [] l fs.what after
  feeds_read = feeds_of_lem own count 0 [] l fs.what after h.bytes fs.reads

  few_read : length gate_read.feeds ≤ 16
  unfolding gate_read
  few_read = omega (arith, h.few, ap length feeds_read.all_is, feeds_read.count)

  gate_is : gate_in gate ≡ gate_read
  unfolding gate_read
  gate_is = ap gate_in fs.holds ∙ gate_in_gate_record gate_read few_read

  -- its margins can be tested
  pub row_scale : OnScale (weights_of (gate_in gate).feeds) gate.threshold
  unfolding gate_read gate_in
  row_scale =
      subst (λ (g : Gate). OnScale (weights_of g.feeds) g.threshold) (sym gate_is)
      (on_scale_lem gate_read few_read (of_scales gate_read h.scale (subst (Each (λ f. T (weight_ok f))) (sym feeds_read.all_is) feeds_read.scale)))

  -- what follows the feeds, by that test
  margins_then : (b : Board) {x : Bool} → keeps b (gate_in gate) ≡ x
      → mapped gate_record (parse_kept b own count t l) ≡ check x 24 (done gate after)
  unfolding gate_read
  margins_then b {x} e =
      ap (λ (r : Read (List Feed)). mapped gate_record (and_then r (gate_kept b t))) fs.reads
      ∙ ap (λ (x : Bool). mapped gate_record (check x 24 (done gate_read after))) (sym (ap (keeps b) gate_is) ∙ e)
      ∙ elim x as (λ y. mapped gate_record (check y 24 (done gate_read after)) ≡ check y 24 (done gate after)) [
        | true ↦ ap (λ (g : GateRecord). done g after) (sym fs.holds)
        | false ↦ refl
      ]

  pub margins_broken : (b : Board) → keeps b (gate_in gate) ≡ false → refused 24 ≡ mapped gate_record (parse_kept b own count t l)
  margins_broken b e = sym (margins_then b e)

  pub margins_kept : (b : Board) → keeps b (gate_in gate) ≡ true → done gate after ≡ mapped gate_record (parse_kept b own count t l)
  margins_kept b e = sym (margins_then b e)

  -- the margins of version 1
  pub margins_plain : (b : Board) → b.on ≡ 0 → b.off ≡ 1 → done gate after ≡ mapped gate_record (parse_kept b own count t l)
  margins_plain b on off = margins_kept b (keeps_plain b (gate_in gate) on off)
