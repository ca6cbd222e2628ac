-- Past the first test k and l are on the dial. Assumes nothing.
use Rattle.std.proofs.Common.{◌≡◌, ℕ, true, sym}
use Rattle.basics.specs.TestLaws.{T_is}
use Rattle.pair_theory.specs.Alignments.{DialLimits}
use Rattle.fold_theory.specs.Merge.{on_dial}
use Rattle.fold_theory.proofs.PairLaws.{dial_of}
use Rattle.fold_merge.proofs.unchecked.merges.test_limits.Goals as goal

dial : (k l : ℕ) → true ≡ on_dial k → true ≡ on_dial l → DialLimits k l
dial k l a b = record { k_high = (dial_of k (T_is _ (sym a))).1; l_high = (dial_of l (T_is _ (sym b))).1 }

pub scale_fits-requires-clause-dial_limits : goal.scale_fits-requires-clause-dial_limits
scale_fits-requires-clause-dial_limits c = dial c.args.k c.args.l c.if-not-on_dial.ensures c.if-not-on_dial-2.ensures

pub merge_keeps-requires-clause-mergeable : goal.merge_keeps-requires-clause-mergeable
merge_keeps-requires-clause-mergeable c = record {
  searchable = record { few = c.if-a-gt16.false; fair = c.requires };
  dial = dial c.args.k c.args.l c.if-not-on_dial.ensures c.if-not-on_dial-2.ensures;
}
