-- Laws of the refusals: their numbers, and how `?` hands one on. Assumes nothing.
use Rattle.std.specs.Prelude.{◌≡◌, ◌≢◌, Result, Err}
use Rattle.std.specs.Result.{IsErrAnd}
use Rattle.std.proofs.lemmas.Result.{err_from_is_err_and}
use Rattle.std.proofs.Common.{ap, ◌∙◌, arith}
use Rattle.refusals.specs.Numbers.{number_of}
use Rattle.refusals.specs.declared.Refusal.{Refusal}
use Rattle.refusals.specs.declared.Refusal.TheVariants.{ForeignMark, StrangeVersion, BadCount, CutShort, CrossedFeed, OffTheScale, TooWide, StrayOutput, Tail, LongFrame, NoSuchGate, NotAFeed, AgainstTheGrain, OffTheDial, Disagrees, NoPair, StillRead, ShortBuffer, UnlikeNetworks, BrokenRecord, NoSuchLine, EmptyJournal, UnsoundStep, BrokenMargin, MarginOfVersion2, FramesAndPlaces, FewerThanTenOutputs, BallAfterTheEnd, PinUpAgain}

-- no refusal has the number 0
pub number_not_0 : (e : Refusal) → number_of e ≢ 0
unfolding number_of
number_not_0 ForeignMark h = omega (arith, h)
number_not_0 StrangeVersion h = omega (arith, h)
number_not_0 BadCount h = omega (arith, h)
number_not_0 CutShort h = omega (arith, h)
number_not_0 CrossedFeed h = omega (arith, h)
number_not_0 OffTheScale h = omega (arith, h)
number_not_0 TooWide h = omega (arith, h)
number_not_0 StrayOutput h = omega (arith, h)
number_not_0 Tail h = omega (arith, h)
number_not_0 LongFrame h = omega (arith, h)
number_not_0 NoSuchGate h = omega (arith, h)
number_not_0 NotAFeed h = omega (arith, h)
number_not_0 AgainstTheGrain h = omega (arith, h)
number_not_0 OffTheDial h = omega (arith, h)
number_not_0 Disagrees h = omega (arith, h)
number_not_0 NoPair h = omega (arith, h)
number_not_0 StillRead h = omega (arith, h)
number_not_0 ShortBuffer h = omega (arith, h)
number_not_0 UnlikeNetworks h = omega (arith, h)
number_not_0 BrokenRecord h = omega (arith, h)
number_not_0 NoSuchLine h = omega (arith, h)
number_not_0 EmptyJournal h = omega (arith, h)
number_not_0 UnsoundStep h = omega (arith, h)
number_not_0 BrokenMargin h = omega (arith, h)
number_not_0 MarginOfVersion2 h = omega (arith, h)
number_not_0 FramesAndPlaces h = omega (arith, h)
number_not_0 FewerThanTenOutputs h = omega (arith, h)
number_not_0 BallAfterTheEnd h = omega (arith, h)
number_not_0 PinUpAgain h = omega (arith, h)

-- the refusal that a `?` hands on
pub handed_on : {A : Type 0} {m : Result A Refusal} {e : Refusal} → IsErrAnd m (λ y. y ≡ e) → m ≡ Err e
handed_on {m = m} w = let p = err_from_is_err_and m w in p.1 ∙ ap Err p.2
