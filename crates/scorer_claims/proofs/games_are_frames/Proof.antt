-- By the law of games made of frames. Assumes nothing.
use Rattle.scorer_theory.proofs.GrammarLaws.{made_of_frames}
use Rattle.scorer_claims.proofs.games_are_frames.Statement.{statement}
use Rattle.scorer_claims.proofs.games_are_frames.Tie as tie

returns : tie.Need-returns
returns c = made_of_frames

pub games_are_frames_spec : {M : Type 1} → statement M
games_are_frames_spec = tie.close (tie.spec returns)
