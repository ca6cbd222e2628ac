use Rattle.std.specs.Prelude.{◌≡◌, refl, ◌+◌}
use Rattle.refusals.specs.Numbers.{number_of}
use Rattle.refusals.specs.declared.Refusal.{Refusal}
use Rattle.refusals.specs.declared.Refusal.TheVariants.{ForeignMark, StrangeVersion, BadCount, CutShort, CrossedFeed, OffTheScale, TooWide, StrayOutput, Tail, LongFrame, NoSuchGate, NotAFeed, AgainstTheGrain, OffTheDial, Disagrees, NoPair, StillRead, ShortBuffer, UnlikeNetworks, BrokenRecord, NoSuchLine, EmptyJournal, UnsoundStep, BrokenMargin, MarginOfVersion2, FramesAndPlaces, FewerThanTenOutputs, BallAfterTheEnd, PinUpAgain}
use Rattle.refusals.proofs.Refusal.number.Goals as goal

pub returns : goal.returns
unfolding number_of
returns c = by_case c.args.self
  where
    by_case : (e : Refusal) → denote.Enum.Declared.tag_of Rattle.refusals.specs.contracts.Refusal.the_type e + 1 ≡ number_of e
    by_case ForeignMark = refl
    by_case StrangeVersion = refl
    by_case BadCount = refl
    by_case CutShort = refl
    by_case CrossedFeed = refl
    by_case OffTheScale = refl
    by_case TooWide = refl
    by_case StrayOutput = refl
    by_case Tail = refl
    by_case LongFrame = refl
    by_case NoSuchGate = refl
    by_case NotAFeed = refl
    by_case AgainstTheGrain = refl
    by_case OffTheDial = refl
    by_case Disagrees = refl
    by_case NoPair = refl
    by_case StillRead = refl
    by_case ShortBuffer = refl
    by_case UnlikeNetworks = refl
    by_case BrokenRecord = refl
    by_case NoSuchLine = refl
    by_case EmptyJournal = refl
    by_case UnsoundStep = refl
    by_case BrokenMargin = refl
    by_case MarginOfVersion2 = refl
    by_case FramesAndPlaces = refl
    by_case FewerThanTenOutputs = refl
    by_case BallAfterTheEnd = refl
    by_case PinUpAgain = refl
