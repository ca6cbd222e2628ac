-- The outputs are the first places of a list of signals. Assumes nothing.
use Rattle.std.proofs.Common.{arith, ◌∙◌}
use Rattle.fold_readers.proofs.ReaderLaws.{occurs_part}
use Rattle.fold_readers.proofs.unchecked.is_output.Goals as goal

pub returns : goal.returns
returns c = c.has_signal.ensures ∙ occurs_part c.args.network.now.drivers 0 c.args.network.now.outputs _ c.args.signal (omega arith) (omega arith)
