-- Laws of the other version: the converted network is sound, converted twice it is itself, and its record is sound. Assumes nothing.
use Rattle.std.specs.Prelude.{◌≡◌, true, cond, ◌&&◌, ℕ, T, eqb}
use Rattle.std.proofs.Common.{ap, ◌∙◌, arith, eq-eqb, eqb→eq}
use Rattle.basics.specs.Lists.{between}
use Rattle.basics.specs.TestLaws.{is_true, is_false, T_is, T_and, and_T, or_T, or_case, test_case}
use Rattle.network.specs.Threshold.{Net}
use Rattle.network.specs.Limits.{board_ok, sound}
use Rattle.network.specs.LimitLaws.{of_sound}
use Rattle.network.specs.MarginLaws.{all_plain}
use Rattle.network.specs.Record.{net_of, spare_clear, sound_record}
use Rattle.network.specs.RecordLaws.{sound_net}
use Rattle.network.specs.Sound.{Sound}
use Rattle.network.specs.declared.Board.{Board}
use Rattle.network.specs.declared.Network.{Network}
use Rattle.pmn_format.proofs.BoardLaws.{board_kinds}
use Rattle.pmn_versions.specs.Versions.{convertible, other_version, converted}
use Rattle.pmn_versions.specs.OtherRecord.{other_record}

-- ---- boards

-- a board that can be converted has the margins of version 1
plain_margins : (b : Board) → T (board_ok b) → T (convertible b) → (b.on ≡ 0) × (b.off ≡ 1)
unfolding convertible
plain_margins b t c = board_kinds b t (λ v f g. (f, g)) (λ v f g.
    or_case (eqb b.version 1) (eqb b.on 0 && eqb b.off 1) c
    (λ k. let e = eqb→eq b.version 1 k in absurd (omega arith))
    (λ k. let m = T_and (eqb b.on 0) (eqb b.off 1) k in (eqb→eq b.on 0 m.0, eqb→eq b.off 1 m.1)))

other_by : (v on off : ℕ) → on ≡ 0 → off ≡ 1 → T (board_ok (other_version (record { version = v; on = on; off = off })))
unfolding board_ok other_version between
other_by v on off e f = rw (e, f)
    (test_case (eqb v 1) (λ t. rw (is_true (eqb v 1) t) tt) (λ t. rw (is_false (eqb v 1) t) tt))

other_ok : (b : Board) → T (board_ok b) → T (convertible b) → T (board_ok (other_version b))
other_ok b t c = let m = plain_margins b t c in other_by b.version b.on b.off m.0 m.1

-- it can be converted back
pub other_back : (b : Board) → T (board_ok b) → T (convertible b) → T (convertible (other_version b))
unfolding convertible other_version
other_back b t c =
    let m = plain_margins b t c in
    let on = eqb b.on 0 in
    let off = eqb b.off 1 in
    or_T (eqb (other_version b).version 1) (on && off) (and_T on off (T_is on (eq-eqb b.on 0 m.0)) (T_is off (eq-eqb b.off 1 m.1)))

other_twice : (b : Board) → T (board_ok b) → other_version (other_version b) ≡ b
unfolding other_version
other_twice b t =
    let e : cond (eqb (cond (eqb b.version 1) 2 1) 1) 2 1 ≡ b.version = board_kinds b t (λ v f g. rw v) (λ v f g. rw v) in
    λ x. record { version = e x; on = b.on; off = b.off }

-- ---- networks
module _ (N : Net) (s : Sound N) where
  pub converted_sound : T (convertible N.board) → Sound (converted N)
  unfolding converted other_version
  converted_sound c =
      let m = plain_margins N.board s.board_ok_lem c in
      record {
        board_ok_lem = other_ok N.board s.board_ok_lem c;
        few_inputs = s.few_inputs;
        few_gates = s.few_gates;
        few_outputs = s.few_outputs;
        all_gates = s.all_gates;
        all_keep = all_plain (other_version N.board) N.gates m.0 m.1;
        all_outputs = s.all_outputs;
      }

  pub converted_twice : converted (converted N) ≡ N
  unfolding converted
  converted_twice = λ x. record { board = other_twice N.board s.board_ok_lem x; inputs = N.inputs; gates = N.gates; outputs = N.outputs }

-- ---- a sound record that can be converted
module _ (r : Network) (t : sound_record r ≡ true) (c : convertible r.board ≡ true) where
  pub other_sound : sound_record (other_record r) ≡ true
  unfolding sound_record net_of spare_clear converted other_record
  other_sound =
      let other = other_record r in
      let s = sound_net r (T_is (sound_record r) t) in
      let spare = (T_and (sound (net_of r)) (spare_clear r) (T_is (sound_record r) t)).1 in
      is_true (sound_record other)
      (and_T (sound (net_of other)) (spare_clear other) (of_sound (net_of other) (converted_sound (net_of r) s (T_is (convertible r.board) c))) spare)

  -- with the other version it is sound
  pub with_sound : {q : Network} → q ≡ other_record r → sound_record q ≡ true
  with_sound e = ap sound_record e ∙ other_sound
