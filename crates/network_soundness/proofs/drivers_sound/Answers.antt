-- Every output is tested. Assumes nothing.
use Rattle.std.proofs.Common.{rules, ◌∙◌, arith, take}
use borrow.Author.Tests.{tests}
use Rattle.std.proofs.lemmas.Iterator.{YieldsList-from_slice}
use Rattle.std.proofs.lemmas.Iterator.Search.{all_from_yields_List}
use Rattle.network.specs.Limits.{gate_signal}
use Rattle.network_soundness.proofs.AllLaws.{all_first}
use Rattle.network_soundness.proofs.drivers_sound.Goals as goal

pub returns : goal.returns
returns c =
    let r = c.args.network.now in
    all_from_yields_List (gate_signal r.inputs r.gates) _ _ c.all.result c.all.ensures.ran (YieldsList-from_slice (take r.outputs r.drivers) c.iter.ensures.rest)
    (λ x b q k. search (rules, tests))
    ∙ all_first (gate_signal r.inputs r.gates) 0 r.outputs r.drivers (omega arith)
