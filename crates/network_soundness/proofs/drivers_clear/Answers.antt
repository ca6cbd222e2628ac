-- Every place past the last output is tested. Assumes nothing.
use Rattle.std.proofs.Common.{rules, ◌∙◌, ◌-◌, arith, eqb, take, drop}
use borrow.Author.Tests.{tests}
use Rattle.std.proofs.lemmas.Iterator.{YieldsList-from_slice}
use Rattle.std.proofs.lemmas.Iterator.Search.{all_from_yields_List}
use Rattle.network.specs.Record.{driver_clear}
use Rattle.network_soundness.proofs.AllLaws.{all_rest}
use Rattle.network_soundness.proofs.drivers_clear.Goals as goal

pub returns : goal.returns
unfolding driver_clear
returns c =
    let r = c.args.network.now in
    all_from_yields_List (λ x. eqb x 0) _ _ c.all.result c.all.ensures.ran (YieldsList-from_slice (take (16 - r.outputs) (drop r.outputs r.drivers)) c.iter.ensures.rest) (λ x b q k. search (rules, tests))
    ∙ all_rest (λ x. eqb x 0) 0 r.outputs 16 r.drivers (omega arith) c.requires
