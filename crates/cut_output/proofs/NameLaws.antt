-- The signal that an output names, and the marks of the gates that it needs. Assumes nothing.
use mathlib.Core.Path.{◌≡◌, sym, ap, ◌∙◌, subst}
use mathlib.Core.Bool.{Bool, true, false}
use mathlib.Core.List.{List}
use Prim.Native.Nat.{ℕ, ◌+◌, ◌-◌, ◌<◌}
use native.Mathlib.Omega.{arith}
use lib.ListN.{length, get_or, take}
use lib.Seq.{ext_get_or, get_or-take}
use Rattle.basics.specs.TestLaws.{is_true, T_is}
use Rattle.network.specs.Limits.{is_gate}
use Rattle.network.specs.Sound.{Has, Sound}
use Rattle.network.specs.LimitLaws.{of_has}
use Rattle.network.specs.Record.{net_of, layout, sound_record}
use Rattle.network.specs.Places.{SoundGate}
use Rattle.network.specs.RecordLaws.{sound_net, count_gates, count_outputs, output_within, gate_number}
use Rattle.network.specs.declared.Network.{Network}
use Rattle.cut_theory.specs.Cut.{named, cut_by, cut_marks, cut_net}
use Rattle.cut_theory.proofs.RemoveLaws.{long_marks}
use Rattle.cut_theory.proofs.CutLaws.{named_has}
use Rattle.cut_marking.specs.Marking.{Needed}
use Rattle.cut_marking.specs.RecordLaws.{needed_marks}
use Rattle.cut_copying.specs.CopyingLaws.{marks_long}

module _ (r : Network) (whole : sound_record r ≡ true) (j : ℕ) (inside : j < r.outputs) where
  abbrev d : ℕ
  d = get_or r.drivers j 0

  net_sound : Sound (net_of r)
  net_sound = sound_net r (T_is (sound_record r) whole)

  -- the signal that output j names is a gate's
  driver_has : Has (net_of r) d
  unfolding named
  driver_has = subst (Has (net_of r)) (output_within r j inside) (named_has (net_of r) j net_sound (omega (arith, count_outputs r)))

  pub driver_gate : SoundGate r (get_or r.drivers j 0)
  driver_gate = record { sound = whole; gate = is_true (is_gate (net_of r) d) (of_has (net_of r) d driver_has) }

  -- the marked gates are those of the cut
  marks_cut : (marks : List Bool) (g : ℕ) → length marks ≡ 128 → g ≡ d - r.inputs → Needed r.fanins r.signals r.inputs g marks
      → take r.gates marks ≡ cut_marks (net_of r) d
  marks_cut marks g l e n =
      let at = gate_number r d driver_gate in
      let long = marks_long r whole marks l in
      let many = long_marks (net_of r) d net_sound driver_has in
      let c = count_gates r in
      let back : r.inputs + g ≡ d = omega (arith, at) in
      ext_get_or false (take r.gates marks) (cut_marks (net_of r) d) (long ∙ sym many) λ s h.
      get_or-take r.gates marks s false (omega (arith, long, c)) ∙ needed_marks r whole g (omega (arith, at)) marks n s (omega (arith, long, c))
      ∙ ap (λ (x : ℕ). get_or (cut_marks (net_of r) x) s false) back

  pub marked_cut : (marks : List Bool) (g : ℕ) → length marks ≡ 128 → g ≡ d - r.inputs → Needed r.fanins r.signals r.inputs g marks
      → layout (cut_by (net_of r) (take r.gates marks) d) ≡ layout (cut_net (net_of r) (named (net_of r) j))
  unfolding cut_net named
  marked_cut marks g l e n = ap (λ (ms : List Bool). layout (cut_by (net_of r) ms d)) (marks_cut marks g l e n)
      ∙ ap (λ (x : ℕ). layout (cut_net (net_of r) x)) (sym (output_within r j inside))
