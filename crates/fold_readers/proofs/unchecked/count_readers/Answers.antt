-- The gates that read the signal are counted among all. Assumes nothing.
use Rattle.std.proofs.Common.{rules, arith, ◌∙◌}
use Rattle.std.proofs.lemmas.Iterator.{YieldsList-from_range}
use Rattle.std.proofs.lemmas.Iterator.Consumers.{YieldsList-from_filter, count_from_yields_List}
use Rattle.network.specs.Record.{gate_of}
use Rattle.fold_theory.specs.Merge.{reads}
use Rattle.fold_readers.proofs.ReaderLaws.{kept_places}
use Rattle.fold_readers.proofs.unchecked.count_readers.Goals as goal

pub returns : goal.returns
returns c =
    let n = c.args.network.now in
    count_from_yields_List c.filter.result c.count.result c.count.ensures.ran
    (YieldsList-from_filter _ (λ g. reads c.args.signal (gate_of n g)) (YieldsList-from_range 0 n.gates n.gates (cc) (omega arith)) c.filter.ensures.closure
    (λ x r q k. search rules))
    ∙ kept_places (reads c.args.signal) (gate_of n) 0 n.gates
