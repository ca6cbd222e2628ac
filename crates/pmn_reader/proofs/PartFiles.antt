-- Where a gate is found in a file that was read. Assumes nothing.
use mathlib.Core.Path.{◌≡◌, sym, ap, ◌∙◌}
use mathlib.Core.Bool.{true, false}
use mathlib.Core.List.{List}
use Prim.Native.Nat.{ℕ, ◌-◌, ◌≤◌}
use native.Mathlib.Nat.{le_refl}
use native.Mathlib.Omega.{arith}
use Rattle.basics.specs.Refusals.{Answer, accepted}
use Rattle.basics.specs.TestLaws.{T_is}
use Rattle.network.specs.Limits.{is_gate, gate_signal}
use Rattle.network.specs.LimitLaws.{has_of}
use Rattle.network.specs.Record.{layout, nth_gate}
use Rattle.network.specs.Changes.{gate_at}
use Rattle.network.specs.declared.Network.{Network}
use Rattle.pmn_format.specs.Format.{refused, done, gate_bytes, parse_file, Bytes}
use Rattle.pmn_format.specs.Answered.{mapped}
use Rattle.pmn_format.specs.Part.{part_answer}
use Rattle.pmn_format.proofs.AnsweredLaws.{Found, found, failed}
use Rattle.pmn_format.proofs.ReadWriteLaws.{file_of_lem}
use Rattle.pmn_format.proofs.PartLaws.{GateFile, part_refused, part_stray, part_found, part_by_lem}
use Rattle.pmn_reader.specs.ReadAnswers.{PartAt}

-- a file that is refused
pub file_refused : (s : List ℕ) (x : ℕ) {k : ℕ} → refused k ≡ mapped layout (parse_file s) → part_answer s x ≡ Answer.refused k
file_refused s x {k} e = part_refused s x k (failed layout (parse_file s) e)

-- a file that was read
module _ (s : List ℕ) (x : ℕ) {r : Network} {m : List ℕ} (e : done r m ≡ mapped layout (parse_file s)) where
  file : Found layout (parse_file s) r m
  file = found layout (parse_file s) e

  test : is_gate file.what x ≡ gate_signal r.inputs r.gates x
  unfolding layout is_gate
  test = ap (λ (n : Network). gate_signal n.inputs n.gates x) (sym file.holds)

  -- no gate has the signal
  pub no_such_gate : gate_signal r.inputs r.gates x ≡ false → part_answer s x ≡ Answer.refused 11
  no_such_gate h = part_stray s x file.what m file.reads (test ∙ h)

  -- a gate has it
  module _ (bytes : Bytes s) (h : gate_signal r.inputs r.gates x ≡ true) where
    pub gate_above : r.inputs ≤ x
    unfolding layout
    gate_above =
        let g = has_of file.what x (T_is (is_gate file.what x) (test ∙ h)) in
        omega (arith, g, ap (λ (n : Network). n.inputs) file.holds)

    pub gate_found : PartAt s x (x - r.inputs)
    unfolding layout gate_at
    gate_found =
        let N = file.what in
        let i : r.inputs ≡ N.inputs = ap (λ (n : Network). n.inputs) file.holds in
        let g = has_of N x (T_is (is_gate N x) (test ∙ h)) in
        let at : GateFile s (x - r.inputs) = record { net = N; file = (file_of_lem s N m bytes file.reads).list; below = omega (arith, g, i) } in
        record {
          gate = at;
          answer = part_found s x N m bytes file.reads (test ∙ h)
              ∙ ap accepted (ap (λ (j : ℕ). gate_bytes (nth_gate N.gates (x - j))) (sym i) ∙ sym (part_by_lem s (x - r.inputs) at (x - r.inputs) (le_refl (x - r.inputs))));
        }
