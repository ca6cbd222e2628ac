-- The record's own refusal, then those of u and v, then the list of the two gates' distinct feeds. Assumes nothing.
use Rattle.std.proofs.Common.{sym, ap, ◌∙◌, refl}
use Rattle.basics.specs.Refusals.{refused, code_of}
use Rattle.refusals.specs.Numbers.{number_of}
use Rattle.refusals.specs.NumberLaws.{number_not_0}
use Rattle.network.specs.SoundLaws.{sound_board}
use Rattle.fold_merge.specs.CallLaws.{sound_gates, reads_in}
use Rattle.fold_feeds.specs.Feeds.{as_feeds}
use Rattle.fold_feeds.specs.Parts.{feeds_of_alignment}
use Rattle.fold_feeds.specs.CallLaws.{feeds_broken, feeds_apart, feeds_joined}
use Rattle.fold_feeds.proofs.distinct_feeds.Goals as goal

pub returns-then-not-is_sound : goal.returns-then-not-is_sound
returns-then-not-is_sound c = c.no_feeds.ensures ∙ sym (feeds_broken c.args.network (sym c.if-not-is_sound.ensures) c.args.u c.args.v)

pub test_edge-requires : goal.test_edge-requires
test_edge-requires c = sound_gates c.args.network (sym c.if-not-is_sound.ensures)

pub returns-in-Err : goal.returns-in-Err
unfolding code_of
returns-in-Err c =
    let a = c.args in
    let e = c.in-Err.refusal in
    c.no_feeds-in-Err.ensures ∙ ap (λ n. as_feeds (refused n)) c.number.ensures
    ∙ sym (feeds_apart a.network (sym c.if-not-is_sound.ensures) a.u a.v (number_of e) c.in-Err.ensures (number_not_0 e))

pub aligned_at-a-requires : goal.aligned_at-a-requires
unfolding code_of
aligned_at-a-requires c =
    let s = sym c.if-not-is_sound.ensures in
    record {
      sound_gates = sound_gates c.args.network s;
      reads_in = reads_in c.args.network s c.args.u c.args.v c.in_default.ensures;
      t = sound_board c.args.network s;
    }

pub returns : goal.returns
unfolding code_of
returns c =
    let a = c.args in
    feeds_joined a.network (sym c.if-not-is_sound.ensures) a.u a.v 0 c.in_default.ensures refl (c.listed.ensures ∙ ap feeds_of_alignment c.aligned_at-a.ensures)
