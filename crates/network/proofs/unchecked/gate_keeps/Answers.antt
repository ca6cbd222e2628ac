-- The first places' weights are the gate's. Assumes nothing.
use Rattle.std.proofs.Common.{◌≡◌, ◌∙◌, arith, length}
use Rattle.network.proofs.KeepLaws.{own_few, own_asked, own_answered}
use Rattle.network.proofs.unchecked.gate_keeps.Goals as goal

pub shared_ref_as_front-keeps_margins : goal.shared_ref_as_front-keeps_margins
shared_ref_as_front-keeps_margins c = own_few c.args.board c.args.gate c.from-count.result c.requires c.from-count.ensures

pub keeps_margins-requires : goal.keeps_margins-requires
keeps_margins-requires c =
    let long : length c.args.gate.weights ≡ 16 = omega arith in
    own_asked c.args.board c.args.gate c.from-count.result c.requires c.from-count.ensures long

pub returns : goal.returns
returns c =
    let long : length c.args.gate.weights ≡ 16 = omega arith in
    c.keeps_margins.ensures ∙ own_answered c.args.board c.args.gate c.from-count.result c.requires c.from-count.ensures long
