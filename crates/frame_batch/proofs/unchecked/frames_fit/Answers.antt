-- Each frame is tested.
use Rattle.std.proofs.Common.{◌∙◌, rules, tests}
use Rattle.std.proofs.lemmas.Iterator.{YieldsList-from_slice}
use Rattle.std.proofs.lemmas.Iterator.Search.{all_from_yields_List}
use Rattle.network.specs.Threshold.{fits_frame}
use Rattle.frame_batch.proofs.RoomLaws.{all_is}
use Rattle.frame_batch.proofs.unchecked.frames_fit.Goals as goal

pub returns : goal.returns
returns c =
    all_from_yields_List (fits_frame c.args.inputs) _ _ _ c.all.ensures.ran (YieldsList-from_slice c.args.frames.now cc) (λ x b q k. search (rules, tests))
    ∙ all_is (fits_frame c.args.inputs) c.args.frames.now
