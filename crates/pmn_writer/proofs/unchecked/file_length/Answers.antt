use Rattle.std.proofs.Common.{◌≡◌, ◌∙◌, ◌<◌, get_or, get_or-take, arith}
use Rattle.pmn_format.specs.Lengths.{header_length}
use Rattle.pmn_format.proofs.BoardLaws.{header_long}
use Rattle.pmn_writer.specs.WritingLaws.{gates_length_none, gates_length_more}
use Rattle.pmn_writer.proofs.unchecked.file_length.Goals as goal

pub loop-fanin-init : goal.loop-fanin-init
loop-fanin-init c =
    let n = c.args.network.now in
    let e = gates_length_none n.fanins in
    let f : c.header_length-total.result ≡ header_length n.board = c.header_length-total.ensures in
    record { total = omega arith; bound = omega (arith, header_long n.board) }

pub loop-fanin-preserved : goal.loop-fanin-preserved
loop-fanin-preserved c =
    let n = c.args.network.now in
    let l = c.loop-fanin in
    let h : l.fanin-index < n.gates = omega arith in
    let f : c.from.result ≡ get_or n.fanins l.fanin-index 0 = c.from.ensures ∙ get_or-take n.gates n.fanins l.fanin-index 0 h in
    let e = gates_length_more n.fanins l.fanin-index in
    let m = c.requires.counted.few_feeds l.fanin-index h in
    record { total = omega arith; bound = omega arith }
