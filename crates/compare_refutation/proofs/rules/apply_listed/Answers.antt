-- The rule of the gate's rows is one of the joint.
use Rattle.compare_theory.proofs.ReasonLaws.{of_gate}
use Rattle.compare_refutation.proofs.rules.apply_listed.Goals as goal

pub returns : goal.returns
returns c = of_gate c.if-joint-g.false c.apply_rule.ensures
