-- Each array is moved down by one step, and has spare places after the others. Assumes nothing.
use Rattle.journal.specs.Journals.{without_newest}
use Rattle.journal_newest.proofs.unchecked.remove_newest.Goals as goal

pub returns : goal.returns
unfolding without_newest
returns c =
    λ x. record {
      count = c.saturating_sub-journal.ensures x;
      kinds = c.put_after.ensures x;
      signals = c.put_after-2.ensures x;
      fanins = c.put_after-3.ensures x;
      thresholds = c.put_after-4.ensures x;
      feeds = c.put_after-5.ensures x;
      weights = c.put_after-6.ensures x;
    }
