-- Every gate is tested, with its signal. Assumes nothing.
use Rattle.std.proofs.Common.{rules, ◌∙◌, ◌+◌, arith}
use borrow.Author.Tests.{tests}
use Rattle.std.proofs.lemmas.Iterator.{YieldsList-from_range}
use Rattle.std.proofs.lemmas.Iterator.Search.{all_from_yields_List}
use Rattle.network.specs.Limits.{gate_ok}
use Rattle.network.specs.Record.{gate_of, no_gate}
use Rattle.basics.specs.AllLaws.{all_range}
use Rattle.network_soundness.proofs.AllLaws.{all_from_tab}
use Rattle.network_soundness.proofs.gates_sound.Goals as goal

pub returns : goal.returns
returns c =
    let r = c.args.network.now in
    all_from_yields_List (λ g. gate_ok (r.inputs + g) (gate_of r g)) _ _ c.all.result c.all.ensures.ran (YieldsList-from_range 0 r.gates r.gates (cc) (omega arith))
    (λ x b q k. search (rules, tests))
    ∙ all_range (λ g. gate_ok (r.inputs + g) (gate_of r g)) r.gates
    ∙ all_from_tab gate_ok r.inputs r.gates (gate_of r) no_gate
