-- A prefix is as long as its end says. Assumes nothing.
use Rattle.std.proofs.Common.{length, sym, arith, length-take-le}
use Rattle.cases.proofs.lent.words_up_to.Statement.{statement}
use Rattle.cases.proofs.lent.words_up_to.Tie as tie

returns : tie.Need-returns-then-words-n
returns c = let xs = c.args.words.now in (omega arith, sym (length-take-le (length xs) xs (omega arith)))

returns_2 : tie.Need-returns-else-words-n
returns_2 c = let a = c.args in (c.if-words-n.false, sym (length-take-le a.n a.words.now c.if-words-n.false))

pub words_up_to_spec : {M : Type 1} → statement M
words_up_to_spec = tie.close (tie.spec returns returns_2)
