-- The margins of version 1 are kept by every gate. Assumes nothing.
use Rattle.std.proofs.Common.{sym, eqb, eqb→eq}
use Rattle.basics.specs.TestLaws.{T_is, T_and}
use Rattle.network.specs.MarginLaws.{places_plain}
use Rattle.network.proofs.unchecked.gates_keep.Goals as goal

pub returns-then-board : goal.returns-then-board
returns-then-board c =
    let r = c.args.network.now in
    let b = r.board in
    let t = T_and (eqb b.on 0) (eqb b.off 1) (T_is _ c.if-board.true) in
    sym (places_plain b r.fanins r.thresholds r.weights r.gates (eqb→eq b.on 0 t.0) (eqb→eq b.off 1 t.1))
