-- The card errors, of document 01 and of the bulletin: the number of each, and the first of several.
use Rattle.std.specs.Prelude.{ℕ, Bool, true, false, cond, List, [], ◌∷◌, Result, Ok, Err}
use Rattle.cards_request.specs.declared.CardError.{CardError}
use Rattle.cards_request.specs.declared.CardError.TheVariants.{
  NotPty,
  PtyMalformed,
  IdLength,
  WrongRush,
  WrongLength,
  WrongContent,
  WrongCount,
  NoFac,
  LaterFac,
  UnknownCard,
  OtherId,
  PmNumber,
  PmWrong,
  TalApart,
  TrnApart,
  FacMalformed,
  LongCode,
  UnknownCode,
  WrongEntry,
  TooMuchCore,
  NoIb,
  TalWrong,
  TalLong,
  TrnWrong,
  TrnLong,
  InSchedule,
  SamePriority,
  SameSequence,
  ScheduleFull,
}

abbrev pub error_number : CardError → ℕ
-- the group's first card isn't PTY
error_number NotPty = 25
-- PTY card malformed or over 14 fields
error_number PtyMalformed = 17
-- an ID of wrong length
error_number IdLength = 1
-- a wrong RUSH
error_number WrongRush = 28
-- any other wrong length
error_number WrongLength = 18
-- wrong content
error_number WrongContent = 17
-- count differs from the cards in the group; over 16 cards
error_number WrongCount = 20
-- second card absent or not FAC
error_number NoFac = 28
-- any later FAC
error_number LaterFac = 22
-- unknown types only
error_number UnknownCard = 3
-- any differing ID
error_number OtherId = 25
-- a PM card without a one-digit number
error_number PmNumber = 30
-- PM cards apart, malformed, digits not rising or text over 66
error_number PmWrong = 4
-- TAL cards apart
error_number TalApart = 23
-- TRN cards apart
error_number TrnApart = 24
-- FAC malformed
error_number FacMalformed = 12
-- a code of over two letters
error_number LongCode = 9
-- an unknown or empty code
error_number UnknownCode = 11
-- anything else in an entry
error_number WrongEntry = 13
-- IB plus DB over 28
error_number TooMuchCore = 14
-- no IB
error_number NoIb = 27
-- any other fault on TAL
error_number TalWrong = 5
-- TAL number too long
error_number TalLong = 6
-- any other fault on TRN
error_number TrnWrong = 7
-- TRN field too long
error_number TrnLong = 8
-- ID in the schedule and not suspended
error_number InSchedule = 26
-- same priority and precedence as a request there, and no sequence
error_number SamePriority = 31
-- same sequence as well
error_number SameSequence = 90
-- schedule full
error_number ScheduleFull = 91

-- nothing wrong, or what is
abbrev pub CardVerdict : Type 0
CardVerdict = Result (Unit {0}) CardError

-- nothing is wrong
abbrev pub good : CardVerdict → Bool
good (Ok u) = true
good (Err e) = false

-- an error where a test holds
abbrev pub error_if : Bool → CardError → CardVerdict
error_if b e = cond b (Err e) (Ok tt)

-- "the first answering" of two
abbrev pub or_else : CardVerdict → CardVerdict → CardVerdict
or_else (Ok u) v = v
or_else (Err e) v = Err e

-- "the first answering" of a list
abbrev pub first_of : List CardVerdict → CardVerdict
first_of [] = Ok tt
first_of (v ∷ vs) = or_else v (first_of vs)
