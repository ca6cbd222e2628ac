-- The answer says whether some member is the signal. Assumes nothing.
use Rattle.std.proofs.Common.{rules}
use Rattle.fold_readers.proofs.ReaderLaws.{has_is}
use Rattle.fold_readers.proofs.unchecked.has_signal.Goals as goal

pub returns : goal.returns
returns c = has_is c.any.result c.args.signals.now c.args.signal (search rules)
