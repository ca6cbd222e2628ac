use Rattle.scorer_tally.specs.TallyLaws.{count_strike, count_spare, count_open}
use Rattle.scorer_tally.proofs.unchecked.frame_of.Goals as goal

pub returns-then-first-eq10 : goal.returns-then-first-eq10
returns-then-first-eq10 c =
    count_strike (record { one = c.felled_at-first.ensures; two = c.felled_at-second.ensures; three = c.felled_at-third.ensures })
    c.if-first-eq10.true

pub returns-then-first-second-eq10 : goal.returns-then-first-second-eq10
returns-then-first-second-eq10 c =
    count_spare (record { one = c.felled_at-first.ensures; two = c.felled_at-second.ensures; three = c.felled_at-third.ensures })
    c.if-first-eq10.false c.if-first-second-eq10.true

pub returns : goal.returns
returns c =
    count_open (record { one = c.felled_at-first.ensures; two = c.felled_at-second.ensures; three = c.felled_at-third.ensures })
    c.if-first-eq10.false c.if-first-second-eq10.false
