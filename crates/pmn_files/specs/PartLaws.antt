-- The bytes of one gate of a file, by the call that finds them. Assumes nothing.
use Rattle.std.specs.Prelude.{◌≡◌, Bool, ℕ, ◌<◌, ◌≤◌, leb, drop}
use Rattle.std.proofs.Math.Path.{refl, sym, ap}
use Rattle.std.proofs.Common.{◌∙◌, arith, le-leb}
use Rattle.std.proofs.Math.Bool.{true, false}
use mathlib.Core.List.{List, [], ◌∷◌, ◌++◌}
use Rattle.std.proofs.lemmas.Bool.{lt-leb}
use Rattle.std.proofs.Math.ListN.{length}
use Rattle.basics.specs.Refusals.{Answer, accepted, refused, ◌else◌, checks, code_of, stored}
use Rattle.basics.specs.RefusalLaws.{checks_first, checks_next, checks_none}
use Rattle.network.specs.Threshold.{Net}
use Rattle.network.specs.Limits.{is_gate}
use Rattle.network.specs.Changes.{gate_at}
use Rattle.network.specs.declared.Network.{Network}
use Rattle.pmn_format.specs.Format.{Read}
use Rattle.pmn_format.specs.Part.{part_in, part_of_read, part_answer, as_part}
use Rattle.pmn_format.proofs.PartLaws.{part_stray, part_found}
use Rattle.pmn_format.proofs.LengthLaws.{gate_bytes_length}
use Rattle.pmn_opening.specs.Files.{room, length_of}
use Rattle.pmn_opening.specs.Places.{answer_of}
use Rattle.pmn_opening.specs.Opening.{FileOpen}
use Rattle.pmn_opening.specs.AnswerLaws.{left_two}
use Rattle.pmn_opening.specs.OpeningLaws.{open_on}
use Rattle.pmn_files.specs.Files.{part_out}

module _ {file : List ℕ} {r : Network} (lent : List ℕ) (a : FileOpen file (length lent) 1 r) (s : ℕ) where
  stray_empty : is_gate a.net s ≡ false → length (as_part (part_answer file s)) ≡ 0
  stray_empty t = ap (λ (x : Answer (List ℕ)). length (as_part x)) (part_stray file s a.net a.rest a.reads t)

  found_long : is_gate a.net s ≡ true → 5 ≤ length (as_part (part_answer file s))
  found_long t =
      let e = ap (λ (x : Answer (List ℕ)). length (as_part x)) (part_found file s a.net a.rest a.bytes a.reads t) in
      omega (arith, gate_bytes_length (gate_at a.net s))

  found_part : is_gate a.net s ≡ true → as_part (part_answer file s) ≡ part_in file a.net s
  unfolding part_answer
  found_part t =
      ap (λ (x : Read Net). as_part (part_of_read file s x)) a.reads
      ∙ ap as_part (checks_next (is_gate a.net s) 11 [] (accepted (part_in file a.net s)) t ∙ checks_none (accepted (part_in file a.net s)))

  module _ (out : List ℕ) {p : List ℕ} (e : p ≡ as_part (part_answer file s)) where
    -- an empty part: no gate has the signal
    pub part_none : length p ≡ 0 → part_out file s out lent ≡ refused 11
    unfolding part_out
    part_none l = go (is_gate a.net s) refl
      where
        go : (b : Bool) → is_gate a.net s ≡ b → part_out file s out lent ≡ refused 11
        go true t = absurd (omega (arith, ap length e, found_long t))
        go false t = open_on a _ ∙ checks_first (is_gate a.net s) 11 _ _ t

    -- any other is the gate's bytes
    part_some : (length p ≡ 0 → ⊥) → part_out file s out lent ≡ checks ((room (length p) out else 18) ∷ []) (accepted p)
    unfolding part_out
    part_some n = go (is_gate a.net s) refl
      where
        go : (b : Bool) → is_gate a.net s ≡ b → part_out file s out lent ≡ checks ((room (length p) out else 18) ∷ []) (accepted p)
        go true t =
            open_on a _ ∙ checks_next (is_gate a.net s) 11 _ _ t
            ∙ sym (ap (λ (q : List ℕ). checks ((room (length q) out else 18) ∷ []) (accepted q)) (e ∙ found_part t))
        go false t = absurd (n (ap length e ∙ stray_empty t))

    pub part_long : (length p ≡ 0 → ⊥) → length out < length p → part_out file s out lent ≡ refused 18
    unfolding room
    part_long n l = part_some n ∙ checks_first (leb (length p) (length out)) 18 [] (accepted p) (lt-leb (length p) (length out) l)

    pub part_fits : (length p ≡ 0 → ⊥) → length p ≤ length out → part_out file s out lent ≡ accepted p
    unfolding room
    part_fits n l = part_some n ∙ checks_next (leb (length p) (length out)) 18 [] (accepted p) (le-leb (length p) (length out) l) ∙ checks_none (accepted p)

-- bytes that were copied whole, and their number
pub part_left : {a : Answer (List ℕ)} {p : List ℕ} (out lent : List ℕ) → a ≡ accepted p
    → (0 ≡ code_of a) × ((p ++ drop (length p) out ≡ stored a out) × (stored (answer_of 0 (length p ∷ [])) lent ≡ stored (length_of a) lent))
unfolding code_of stored length_of answer_of
part_left out lent e = left_two e lent out
