-- A prefix is as long as its end says. Assumes nothing.
use Rattle.std.proofs.Common.{length, sym, arith, length-take-le}
use Rattle.cases.proofs.lent.up_to.Statement.{statement}
use Rattle.cases.proofs.lent.up_to.Tie as tie

returns : tie.Need-returns-then-bytes-n
returns c = let xs = c.args.bytes.now in (omega arith, sym (length-take-le (length xs) xs (omega arith)))

returns_2 : tie.Need-returns-else-bytes-n
returns_2 c = let a = c.args in (c.if-bytes-n.false, sym (length-take-le a.n a.bytes.now c.if-bytes-n.false))

pub up_to_spec : {M : Type 1} → statement M
up_to_spec = tie.close (tie.spec returns returns_2)
