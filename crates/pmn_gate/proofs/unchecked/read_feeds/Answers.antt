use Rattle.std.proofs.Common.{rules, arith, ◌≡◌, ◌∙◌, refl, w32, to_z, of_z, add-one}
use Rattle.std.proofs.lemmas.Result.{err_from_is_err_and}
use Rattle.pmn_gate.proofs.FeedsLoop.{feeds_start, feeds_bad, feeds_got, feeds_end}
use Rattle.pmn_gate.proofs.unchecked.read_feeds.Goals as goal

pub loop-i-init : goal.loop-i-init
loop-i-init c = let a = c.args in record { shape = (refl, refl); feeds = feeds_start a.bytes.now a.own a.fanin }

pub returns-in_err-feed : goal.returns-in_err-feed
returns-in_err-feed c =
    let p = err_from_is_err_and c.from_residual.result c.from_residual.ensures.1 in
    rw (p.1, p.2) (feeds_bad c.loop-i.invariant.feeds c.args.threshold (omega arith) c.in_err-feed.ensures)

pub loop-i-preserved : goal.loop-i-preserved
loop-i-preserved c =
    let f = c.in_ok-feed.feed in
    let e : to_z w32 (of_z w32 f.weight) ≡ f.weight = search rules in
    record {
      shape = c.loop-i.invariant.shape;
      feeds = rw (e, c.from-low.ensures, add-one f.signal) (feeds_got c.loop-i.invariant.feeds (omega arith) (omega arith) c.in_ok-feed.ensures);
    }

pub returns : goal.returns
returns c =
    let s = c.loop-i.invariant.shape in
    let e : to_z w32 (of_z w32 c.args.threshold) ≡ c.args.threshold = search rules in
    feeds_end c.loop-i.invariant.feeds (omega arith) s.0 (s.1 ∙ e)
