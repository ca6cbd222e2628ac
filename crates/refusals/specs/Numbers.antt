-- The numbers of the refusals, and the answer that a `Result` is. Nothing is proved here.
use Rattle.std.specs.Prelude.{ℕ, Result, Ok, Err}
use Rattle.basics.specs.Refusals.{Answer, accepted, refused}
use Rattle.refusals.specs.declared.Refusal.{Refusal}
use Rattle.refusals.specs.declared.Refusal.TheVariants.{ForeignMark, StrangeVersion, BadCount, CutShort, CrossedFeed, OffTheScale, TooWide, StrayOutput, Tail, LongFrame, NoSuchGate, NotAFeed, AgainstTheGrain, OffTheDial, Disagrees, NoPair, StillRead, ShortBuffer, UnlikeNetworks, BrokenRecord, NoSuchLine, EmptyJournal, UnsoundStep, BrokenMargin, MarginOfVersion2, FramesAndPlaces, FewerThanTenOutputs, BallAfterTheEnd, PinUpAgain}

-- the number of a refusal
unfoldable pub number_of : Refusal → ℕ
number_of ForeignMark = 1
number_of StrangeVersion = 2
number_of BadCount = 3
number_of CutShort = 4
number_of CrossedFeed = 5
number_of OffTheScale = 6
number_of TooWide = 7
number_of StrayOutput = 8
number_of Tail = 9
number_of LongFrame = 10
number_of NoSuchGate = 11
number_of NotAFeed = 12
number_of AgainstTheGrain = 13
number_of OffTheDial = 14
number_of Disagrees = 15
number_of NoPair = 16
number_of StillRead = 17
number_of ShortBuffer = 18
number_of UnlikeNetworks = 19
number_of BrokenRecord = 20
number_of NoSuchLine = 21
number_of EmptyJournal = 22
number_of UnsoundStep = 23
number_of BrokenMargin = 24
number_of MarginOfVersion2 = 25
number_of FramesAndPlaces = 26
number_of FewerThanTenOutputs = 27
number_of BallAfterTheEnd = 28
number_of PinUpAgain = 29

-- what a call gives, or the number of its refusal
abbrev pub as_answer : {A : Type 0} → Result A Refusal → Answer A
as_answer (Ok a) = accepted a
as_answer (Err e) = refused (number_of e)
