-- The row of the word is put.
use Rattle.compare_lanes.specs.LaneLaws.{lanes_put}
use Rattle.compare_lanes.proofs.unchecked.put_word.Goals as goal

pub returns : goal.returns
returns c = lanes_put c.args.i c.requires.masked c.requires.i_bound c.word_row.ensures
