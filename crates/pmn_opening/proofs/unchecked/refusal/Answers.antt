-- By the two tests.
use Rattle.pmn_opening.specs.OpeningLaws.{opening_refused, opening_short, opening_enough}
use Rattle.pmn_opening.proofs.unchecked.refusal.Goals as goal

pub returns-then-code-ne0 : goal.returns-then-code-ne0
returns-then-code-ne0 c =
    let a = c.args in
    opening_refused a.file.now c.requires.by_index c.requires.read_value a.places a.needed c.if-code-ne0.true

pub returns-then-places-needed : goal.returns-then-places-needed
returns-then-places-needed c =
    let a = c.args in
    opening_short a.file.now c.requires.by_index c.requires.read_value a.places a.needed c.if-code-ne0.false c.if-places-needed.true

pub returns : goal.returns
returns c =
    let a = c.args in
    opening_enough a.file.now c.requires.by_index c.requires.read_value a.places a.needed c.if-code-ne0.false c.if-places-needed.false
