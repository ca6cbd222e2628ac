-- A gate reads a signal that stands among the places of its feeds. Assumes nothing.
use Rattle.std.proofs.Common.{arith, ◌∙◌, ◌*◌, sym, get_or}
use Rattle.fold_readers.proofs.ReaderLaws.{occurs_part, reads_places}
use Rattle.fold_readers.proofs.unchecked.reads_gate.Goals as goal

pub returns : goal.returns
returns c =
    let n = c.args.network.now in
    c.has_signal.ensures ∙ occurs_part n.signals (16 * c.args.g) (get_or n.fanins c.args.g 0) _ c.args.signal (omega arith) (omega arith)
    ∙ sym (reads_places n.fanins n.thresholds n.signals n.weights c.args.g c.args.signal)
