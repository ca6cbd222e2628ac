-- What a lane's entry can be: how large its numbers are, and what the read and the size report say of it. Assumes nothing.
use Rattle.std.specs.Prelude.{◌≡◌, refl, List}
use Rattle.std.proofs.Math.Path.{sym, ap}
use Rattle.std.proofs.Common.{◌∙◌}
use Prim.Native.Nat.{ℕ, zero, suc, ◌+◌, ◌≤◌, ◌<◌}
use native.Mathlib.Omega.{arith}
use Rattle.basics.specs.Refusals.{Answer, accepted, refused, bind}
use Rattle.network.specs.Threshold.{Net}
use Rattle.network.specs.declared.Network.{Network}
use Rattle.pmn_format.specs.Format.{Read, done, Bytes, parse_file}
use Rattle.pmn_format.proofs.CodeLaws.{refused_positive, refused_small}
use Rattle.pmn_format.proofs.ReadWriteLaws.{file_of_lem}
use Rattle.network_report.specs.Size.{report_of, reported}
use Rattle.network_report.proofs.ReportLaws.{report_layout, cost_small}
use Rattle.network_report.specs.declared.SizeReport.{SizeReport}
use Rattle.pmn_reader.specs.Answers.{loaded}
use Rattle.pmn_reader.specs.OpenLaws.{read_opened, loaded_net, opened_sound}
use Rattle.pmn_reader.specs.declared.Loaded.{Loaded}
use Rattle.pmn_opening.specs.Files.{as_answer, read_net}
use Rattle.pmn_opening.specs.Opening.{Opening}
use Rattle.pmn_opening.specs.OpeningLaws.{read_on, read_refused}
use Rattle.alley_theory.specs.Alley.{Lane, whole, cut_short, Size, size_of, lane_entry, size_counted}
use Rattle.alley_theory.specs.Answers.{as_entry, with_entry}
use Rattle.alley_theory.specs.Writes.{size_or_refusal, entry_in, Listable, EntryFor}
use Rattle.alley_theory.specs.declared.Entry.{Entry}
use Rattle.alley_theory.specs.declared.Totals.{Totals}

-- ---- a fair entry: a small size, or a refusal's number
abbrev SizeInRange : Answer Size → Type 0
SizeInRange (accepted f) = (f.gates ≤ 128) × (f.cost ≤ 2176000000)
SizeInRange (refused k) = (0 < k) × (k < 100)

pub record EntryInRange (a : Answer Size) : Type 0 where
  pub small : SizeInRange a

-- a lane of bytes
abbrev pub LaneBytes : Lane → Type 0
LaneBytes (whole file) = Bytes file
LaneBytes cut_short = Unit {0}

pub fair_lane : (l : Lane) → LaneBytes l → EntryInRange (lane_entry l)
unfolding lane_entry read_net as_answer bind size_of
fair_lane cut_short h = record { small = (omega arith, omega arith) }
fair_lane (whole file) h = go (parse_file file) refl
  where
    go : (r : Read Net) → parse_file file ≡ r → EntryInRange (bind (as_answer r) (λ N. accepted (size_of N)))
    go (Read.refused k) e = record { small = (refused_positive file k e, refused_small file k e) }
    go (done N rest) e =
        let s = (file_of_lem file N rest h e).sound in
        record { small = (s.few_gates.1, omega (arith, s.few_gates.1, cost_small N.inputs N.gates s.all_gates)) }

pub fair_counted : (a : Answer Size) → EntryInRange a → ((size_counted a).gates ≤ 128) × ((size_counted a).cost ≤ 2176000000)
unfolding size_counted
fair_counted (accepted f) h = h.small
fair_counted (refused k) h = (omega arith, omega arith)

-- ---- an entry as a value

-- and back
in_as : (a : Answer Size) → EntryInRange a → entry_in (as_entry a) ≡ a
unfolding as_entry entry_in size_or_refusal
in_as (accepted f) h = refl
in_as (refused zero) h = let p = h.small.0 in absurd (omega arith)
in_as (refused (suc k)) h = refl

as_counted : (a : Answer Size) → ((as_entry a).gates ≡ (size_counted a).gates) × ((as_entry a).cost ≡ (size_counted a).cost)
unfolding as_entry size_counted
as_counted (accepted f) = (refl, refl)
as_counted (refused k) = (refl, refl)

as_number : (a : Answer Size) → EntryInRange a → (as_entry a).code < 100
unfolding as_entry
as_number (accepted f) h = omega arith
as_number (refused k) h = h.small.1

pub entry_made : {e : Entry} (l : Lane) → LaneBytes l → e ≡ as_entry (lane_entry l) → EntryFor l e
entry_made l bytes d =
    let a = lane_entry l in
    let f = fair_lane l bytes in
    let b = in_as a f in
    rw d (record {
      is = b;
      listable = record {
        few_gates = omega (arith, (as_counted a).0, (fair_counted a f).0);
        small_cost = omega (arith, (as_counted a).1, (fair_counted a f).1);
        number = as_number a f;
        same = ap as_entry b;
      };
    })

-- by its code
by_refused : (n : ℕ) (f : Size) → (n ≡ 0 → ⊥) → size_or_refusal n f ≡ refused n
unfolding size_or_refusal
by_refused zero f h = absurd (h refl)
by_refused (suc n) f h = refl

module _ (e : Entry) where
  pub in_refused : (e.code ≡ 0 → ⊥) → entry_in e ≡ refused e.code
  unfolding entry_in
  in_refused h = by_refused e.code (record { gates = e.gates; cost = e.cost }) h

  pub in_size : e.code ≡ 0 → entry_in e ≡ accepted (record { gates = e.gates; cost = e.cost })
  unfolding entry_in size_or_refusal
  in_size h = rw h

  -- an entry that a lane can have is fair
  pub listable_fair : Listable e → EntryInRange (entry_in e)
  unfolding entry_in size_or_refusal
  listable_fair l = go e.code l.number
    where
      go : (n : ℕ) → n < 100 → EntryInRange (size_or_refusal n (record { gates = e.gates; cost = e.cost }))
      go zero h = record { small = (l.few_gates, l.small_cost) }
      go (suc n) h = record { small = (omega arith, h) }

-- ---- the totals with one lane more
module _ (t : Totals) (e : Entry) where
  pub with_refused : (e.code ≡ 0 → ⊥) → record { lanes = t.lanes + 1; gates = t.gates; cost = t.cost } ≡ with_entry t (entry_in e)
  unfolding with_entry size_counted
  with_refused h =
      let a : t.gates ≡ t.gates + 0 = omega arith in
      let b : t.cost ≡ t.cost + 0 = omega arith in
      ap (λ (x : ℕ). record { lanes = t.lanes + 1; gates = x; cost = t.cost }) a
      ∙ ap (λ (x : ℕ). record { lanes = t.lanes + 1; gates = t.gates + 0; cost = x }) b
      ∙ sym (ap (with_entry t) (in_refused e h))

  pub with_size : e.code ≡ 0 → record { lanes = t.lanes + 1; gates = t.gates + e.gates; cost = t.cost + e.cost } ≡ with_entry t (entry_in e)
  unfolding with_entry size_counted
  with_size h = sym (ap (with_entry t) (in_size e h))

-- ---- the read and the report
module _ {file : List ℕ} {k : ℕ} {r : Network} (o : Opening file 0 0 k r) where
  -- a file that is refused
  pub refused_file : (k ≡ 0 → ⊥) → as_entry (refused k) ≡ as_entry (lane_entry (whole file))
  unfolding lane_entry
  refused_file h = ap as_entry (sym (read_refused o _ h))

  -- a file that is read
  pub read_file : {s : SizeReport} → k ≡ 0 → s ≡ reported r → record { code = 0; gates = s.gates; cost = s.cost } ≡ as_entry (lane_entry (whole file))
  unfolding lane_entry as_entry size_of report_of
  read_file z d =
      let a = o.gives z in
      ap (λ (x : SizeReport). record { code = 0; gates = x.gates; cost = x.cost }) (d ∙ ap reported a.laid ∙ report_layout a.net a.sound)
      ∙ ap as_entry (sym (read_on a _))

-- gates and cost of a file that is read are those of its record's report
pub read_size : (file : List ℕ) → Bytes file → (loaded file).code ≡ 0
    → size_counted (lane_entry (whole file)) ≡ record { gates = (reported (loaded file).network).gates; cost = (reported (loaded file).network).cost }
unfolding size_counted lane_entry read_net as_answer bind size_of report_of
read_size file bytes z =
    let o = read_opened file z in
    let given = ap (λ (l : Loaded). reported l.network) (loaded_net file o) ∙ report_layout o.net (opened_sound file bytes o) in
    ap (λ (r : Read Net). size_counted (bind (as_answer r) (λ N. accepted (size_of N)))) o.reads
    ∙ sym (ap (λ (x : SizeReport). record { gates = x.gates; cost = x.cost }) given)
