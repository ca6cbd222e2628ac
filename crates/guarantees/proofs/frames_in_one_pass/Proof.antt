-- By the law of the same matter. Assumes nothing.
use Rattle.guarantees.proofs.FrameLaws.{frames_claim}
use Rattle.guarantees.proofs.frames_in_one_pass.Statement.{statement}
use Rattle.guarantees.proofs.frames_in_one_pass.Tie as tie

returns : tie.Need-returns
returns c = frames_claim c.args.held

pub frames_in_one_pass_spec : {M : Type 1} → statement M
frames_in_one_pass_spec = tie.close (tie.spec returns)
