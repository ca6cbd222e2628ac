-- The record's own refusal, then those of u and v, then the witness of the two gates by their distinct feeds. Assumes nothing.
use Rattle.std.proofs.Common.{sym, ap, ◌∙◌, subst, refl}
use Rattle.basics.specs.Refusals.{code_of}
use Rattle.refusals.specs.Numbers.{number_of}
use Rattle.refusals.specs.NumberLaws.{number_not_0}
use Rattle.pair_theory.specs.declared.Alignment.{Alignment}
use Rattle.network.specs.SoundLaws.{sound_board}
use Rattle.fold_merge.specs.CallLaws.{sound_gates, reads_in, edge_fits, edge_fair}
use Rattle.fold_witness.specs.Parts.{no_witness, WitnessOfAlignment}
use Rattle.fold_witness.specs.CallLaws.{witness_broken, witness_apart, witness_joined}
use Rattle.fold_witness.proofs.witness.Goals as goal

pub returns-then-not-is_sound : goal.returns-then-not-is_sound
returns-then-not-is_sound c =
    let a = c.args in
    witness_broken a.network (sym c.if-not-is_sound.ensures) a.u a.v a.k a.l c.none.ensures

pub test_edge-requires : goal.test_edge-requires
test_edge-requires c = sound_gates c.args.network (sym c.if-not-is_sound.ensures)

pub returns-in-Err : goal.returns-in-Err
unfolding code_of
returns-in-Err c =
    let a = c.args in
    let e = c.in-Err.refusal in
    witness_apart a.network (sym c.if-not-is_sound.ensures) a.u a.v (number_of e) c.in-Err.ensures (number_not_0 e) a.k a.l
    (c.none-in-Err.ensures ∙ ap no_witness c.number.ensures)

pub aligned_at-a-requires : goal.aligned_at-a-requires
unfolding code_of
aligned_at-a-requires c =
    let s = sym c.if-not-is_sound.ensures in
    record {
      sound_gates = sound_gates c.args.network s;
      reads_in = reads_in c.args.network s c.args.u c.args.v c.in_default.ensures;
      t = sound_board c.args.network s;
    }

pub witness_of-requires : goal.witness_of-requires
unfolding code_of
witness_of-requires c =
    edge_fair c.args.network (sym c.if-not-is_sound.ensures) c.args.u c.args.v c.in_default.ensures c.aligned_at-a.ensures

pub returns : goal.returns
unfolding code_of
returns c =
    let a = c.args in
    let s = sym c.if-not-is_sound.ensures in
    witness_joined a.network s a.u a.v 0 c.in_default.ensures refl (edge_fits a.network s a.u a.v c.in_default.ensures) a.k a.l
    (subst (λ (g : Alignment). WitnessOfAlignment g a.k a.l c.witness_of.result) c.aligned_at-a.ensures c.witness_of.ensures)
