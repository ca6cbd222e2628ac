-- The total of every alley file is the sum over the records read, and the sum of the lines printed. Assumes nothing.
use Rattle.std.specs.Prelude.{◌≡◌, true, false, cond, ℕ, zero, suc, ◌*◌, ◌≤◌, leb, length, take, drop}
use Rattle.std.proofs.Math.Path.{refl, ap}
use mathlib.Core.List.{List, [], ◌∷◌, map}
use Rattle.std.proofs.Common.{arith, eq-eqb, ne_eqb}
use Rattle.std.proofs.lemmas.List.{length-map}
use Rattle.basics.specs.Lists.{Each}
use Rattle.basics.specs.Refusals.{Answer, accepted, refused, bind}
use Rattle.network.specs.Threshold.{Net}
use Rattle.network.specs.declared.Network.{Network}
use Rattle.pmn_format.specs.Format.{Read, done, Bytes, parse_file}
use Rattle.pmn_format.proofs.CodeLaws.{refused_positive}
use Rattle.pmn_format.proofs.LengthLaws.{bytes_take, bytes_drop}
use Rattle.network_report.specs.Size.{reported}
use Rattle.pmn_reader.specs.Answers.{as_loaded, loaded}
use Rattle.pmn_opening.specs.Files.{as_answer, read_net}
use Rattle.alley_theory.specs.Alley.{Lane, whole, cut_short, lane_length, Size, size_of, lanes_up_to, lanes, lane_entry, lane_entries, size_counted}
use Rattle.alley_theory.specs.Alley.{total_size, sheet}
use Rattle.alley_theory.specs.Claims.{sum_of, records_of, TotalOfRecords, TotalOfLines}
use Rattle.alley_theory.specs.ReadBack.{lines_for}
use Rattle.alley_theory.proofs.EntryLaws.{EntryInRange, LaneBytes, fair_lane, fair_counted, read_size}
use Rattle.alley_theory.proofs.ReadBackLaws.{sheet_back, lines_gates, lines_cost}

-- ---- the lanes of bytes are of bytes, and not too many
lanes_bytes : (n : ℕ) (s : List ℕ) → Bytes s → Each LaneBytes (lanes_up_to n s)
unfolding lanes_up_to
lanes_bytes zero s b = tt
lanes_bytes (suc n) [] b = tt
lanes_bytes (suc n) (low ∷ []) b = (tt, tt)
lanes_bytes (suc n) (low ∷ high ∷ s) b =
    elim (leb (lane_length low high) (length s)) as
    (λ x. Each LaneBytes (cond x (whole (take (lane_length low high) s) ∷ lanes_up_to n (drop (lane_length low high) s)) (cut_short ∷ []))) [
      | true ↦ (bytes_take (lane_length low high) s b.1.1, lanes_bytes n (drop (lane_length low high) s) (bytes_drop (lane_length low high) s b.1.1))
      | false ↦ (tt, tt)
    ]

lanes_few : (n : ℕ) (s : List ℕ) → length (lanes_up_to n s) ≤ n
unfolding lanes_up_to
lanes_few zero s = omega arith
lanes_few (suc n) [] = omega arith
lanes_few (suc n) (low ∷ []) = omega arith
lanes_few (suc n) (low ∷ high ∷ s) =
    elim (leb (lane_length low high) (length s)) as
    (λ x. length (cond x (whole (take (lane_length low high) s) ∷ lanes_up_to n (drop (lane_length low high) s)) (cut_short ∷ [])) ≤ suc n)
    [ true ↦ omega (arith, lanes_few n (drop (lane_length low high) s)) | false ↦ omega arith ]

fair_lanes : (ls : List Lane) → Each LaneBytes ls → Each EntryInRange (map lane_entry ls)
fair_lanes [] h = tt
fair_lanes (l ∷ ls) h = (fair_lane l h.0, fair_lanes ls h.1)

total_small : (es : List (Answer Size)) → Each EntryInRange es → ((total_size es).gates ≤ 128 * length es) × ((total_size es).cost ≤ 2176000000 * length es)
unfolding total_size
total_small [] h = (omega arith, omega arith)
total_small (e ∷ es) h =
    let c = fair_counted e h.0 in
    let r = total_small es h.1 in
    (omega (arith, c.0, r.0), omega (arith, c.1, r.1))

-- ---- the records read
record SameTotals (ls : List Lane) : Type 0 where
  pub gates : (total_size (map lane_entry ls)).gates ≡ sum_of (map (λ r. (reported r).gates) (records_of ls))
  pub cost : (total_size (map lane_entry ls)).cost ≡ sum_of (map (λ r. (reported r).cost) (records_of ls))

module _ (ls : List Lane) (s : SameTotals ls) where
  -- a refused lane
  passed : (l : Lane) → size_counted (lane_entry l) ≡ record { gates = 0; cost = 0 } → records_of (l ∷ ls) ≡ records_of ls → SameTotals (l ∷ ls)
  unfolding total_size
  passed l z e = record {
    gates = omega (arith, ap (λ (f : Size). f.gates) z, s.gates, ap (λ (rs : List Network). sum_of (map (λ r. (reported r).gates) rs)) e);
    cost = omega (arith, ap (λ (f : Size). f.cost) z, s.cost, ap (λ (rs : List Network). sum_of (map (λ r. (reported r).cost) rs)) e);
  }

  -- a lane with a record
  added : (l : Lane) (r : Network) → size_counted (lane_entry l) ≡ record { gates = (reported r).gates; cost = (reported r).cost }
      → records_of (l ∷ ls) ≡ r ∷ records_of ls → SameTotals (l ∷ ls)
  unfolding total_size sum_of
  added l r z e = record {
    gates = omega (arith, ap (λ (f : Size). f.gates) z, s.gates, ap (λ (rs : List Network). sum_of (map (λ r. (reported r).gates) rs)) e);
    cost = omega (arith, ap (λ (f : Size). f.cost) z, s.cost, ap (λ (rs : List Network). sum_of (map (λ r. (reported r).cost) rs)) e);
  }

  one_more : (l : Lane) → LaneBytes l → SameTotals (l ∷ ls)
  unfolding records_of lane_entry size_counted
  one_more cut_short b = passed cut_short refl refl
  one_more (whole file) b = go (parse_file file) refl
    where
      go : (r : Read Net) → parse_file file ≡ r → SameTotals (whole file ∷ ls)
      go (Read.refused k) e = passed (whole file)
          (unfold read_net as_answer bind in ap (λ (r : Read Net). size_counted (bind (as_answer r) (λ N. accepted (size_of N)))) e)
          (unfold loaded as_loaded in
          rw (ne_eqb (as_loaded (parse_file file)).code 0
          (λ z. absurd (omega (arith, refused_positive file k e, ap (λ (r : Read Net). (as_loaded r).code) e, z)))))
      go (done N rest) e =
          let z : (loaded file).code ≡ 0 = unfold loaded as_loaded in ap (λ (r : Read Net). (as_loaded r).code) e in
          added (whole file) (loaded file).network (read_size file b z) (rw (eq-eqb (loaded file).code 0 z))

records_same : (ls : List Lane) → Each LaneBytes ls → SameTotals ls
records_same [] h = unfold total_size sum_of records_of in record { gates = refl; cost = refl }
records_same (l ∷ ls) h = one_more ls (records_same ls h.1) l h.0

pub total_of_records : (s : List ℕ) → Bytes s → TotalOfRecords s
unfolding lane_entries
total_of_records s b =
    let h = records_same (lanes s) (unfold lanes in lanes_bytes 65535 s b) in
    record { gates = h.gates; cost = h.cost }

-- ---- the lines printed
pub total_of_lines : (s : List ℕ) → Bytes s → TotalOfLines s
unfolding sheet lane_entries lanes
total_of_lines s b =
    let ls = lanes_up_to 65535 s in
    let es = map lane_entry ls in
    let fair = fair_lanes ls (lanes_bytes 65535 s b) in
    let few : length es ≤ 65535 = omega (arith, length-map ls lane_entry, lanes_few 65535 s) in
    let small = total_small es fair in
    record {
      said = record { lanes = lines_for 1 es; gates = (total_size es).gates; cost = (total_size es).cost };
      reads = sheet_back 1 es (total_size es) (omega arith) fair (omega (arith, small.0)) (omega (arith, small.1));
      each_lane = refl;
      gates = lines_gates 1 es;
      cost = lines_cost 1 es;
      total_gates = refl;
      total_cost = refl;
    }
