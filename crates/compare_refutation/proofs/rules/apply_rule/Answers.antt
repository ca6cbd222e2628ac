-- The bit of the gate is forced by the ends of its sums, or forces the feeds, for the decisions of its masks.
use Rattle.std.proofs.Common.{arith}
use Rattle.std.specs.Int.{w32}
use Rattle.basics.specs.SizeLaws.{read_back}
use Rattle.compare_theory.proofs.ReasonLaws.{own_clash, own_put, feeds_put}
use Rattle.compare_refutation.proofs.Turns.{forced_is, room_is}
use Rattle.compare_refutation.proofs.rules.apply_rule.Goals as goal

pub returns-then-known-lt2 : goal.returns-then-known-lt2
returns-then-known-lt2 c =
    let s = c.requires.summable in
    let ends = c.ends_of-ends.ensures in
    own_clash s c.requires.signal_bound ends c.forced_bit-own.result c.mask_for-mask.result (forced_is s ends c.forced_bit-own.ensures)
    c.mask_for-mask.ensures c.if-own-lt2.true c.if-known-lt2.true c.if-known-own.false

pub returns-then-own-lt2 : goal.returns-then-own-lt2
returns-then-own-lt2 c =
    let s = c.requires.summable in
    let ends = c.ends_of-ends.ensures in
    own_put s c.requires.signal_bound ends c.forced_bit-own.result c.mask_for-mask.result (forced_is s ends c.forced_bit-own.ensures) c.mask_for-mask.ensures

pub returns-then-settle_feeds : goal.returns-then-settle_feeds
returns-then-settle_feeds c =
    let s = c.requires.summable in
    let ends = c.ends_of-ends.ensures in
    let mask = c.mask_for-mask-2 in
    let room = read_back w32 c.room_of-room.type_inv (room_is s ends _ c.room_of-room.ensures.0) in
    feeds_put s c.requires.signal_bound ends mask.result 1 mask.ensures (λ e. omega arith) c.if-known-ge2.false room c.settle_feeds.ensures

pub returns-else-settle_feeds : goal.returns-else-settle_feeds
returns-else-settle_feeds c =
    let s = c.requires.summable in
    let ends = c.ends_of-ends.ensures in
    let mask = c.mask_for-mask-2 in
    let room = read_back w32 c.room_of-room.type_inv (room_is s ends _ c.room_of-room.ensures.0) in
    feeds_put s c.requires.signal_bound ends mask.result 0 mask.ensures (λ e. omega arith) c.if-known-ge2.false room c.settle_feeds.ensures
