use Rattle.pmn_reader.proofs.ReadLaws.{loaded_refused, loaded_done}
use Rattle.pmn_reader.proofs.read.Goals as goal

pub returns-in-Err : goal.returns-in-Err
returns-in-Err c = loaded_refused c.args.file.now c.in-Err.ensures.whole c.number.ensures c.in-Err.ensures.blank

pub returns-in_default : goal.returns-in_default
returns-in_default c = loaded_done c.args.file.now c.in_default.ensures.whole
