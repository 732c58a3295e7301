-- Document 01's table of refused calls, and what the requests of document 02 add to it: the number of each.
use Rattle.std.specs.Prelude.{ℕ}
use Rattle.numbers.specs.declared.Refusal.{Refusal}
use Rattle.numbers.specs.declared.Refusal.TheVariants.{
  OutOfRange,
  NoJob,
  NotTheJobs,
  NotLegal,
  PacketInUse,
  ChannelBusy,
  NothingStartable,
  NothingInProgress,
  WrongCompletion,
  BadDeck,
  NoRoom,
  WrongRequest,
  BadConfiguration,
  NoSuchRequest,
  JobRuns,
  UnknownMessage,
  NoPlaceFree,
  NoCandidates,
  NoAssignment,
  BeingReturned,
  NoGroup,
}

abbrev pub number_of : Refusal → ℕ
-- place, channel, unit, packet or function number out of range, or channel or unit not configured
number_of OutOfRange = 1
-- no job in that place, or it is closing
number_of NoJob = 2
-- unit or drum address not the job's
number_of NotTheJobs = 3
-- function not legal for the kind
number_of NotLegal = 4
-- packet listed, in progress or stopping
number_of PacketInUse = 5
-- start on a busy channel
number_of ChannelBusy = 6
-- start with nothing startable
number_of NothingStartable = 7
-- completion with nothing in progress
number_of NothingInProgress = 8
-- cut for a packet not stopping; failure code 00, 01, 16o, 17o or over 77o
number_of WrongCompletion = 9
-- deck too long or without termination card
number_of BadDeck = 11
-- card to write over 80 characters, or lent room too short
number_of NoRoom = 12
-- request to write against a field, entry, 14 or 27 rule
number_of WrongRequest = 13
-- bad configuration
number_of BadConfiguration = 14
-- release or delete: no such ID, or for release not suspended
number_of NoSuchRequest = 15
-- delete: the job runs or closes
number_of JobRuns = 16
-- unknown message word, or text after the last field (02, request 1)
number_of UnknownMessage = 17
-- selection: no place is free (02, request 2, which took 10 out of the table)
number_of NoPlaceFree = 18
-- selection: there are no candidates (02, request 2)
number_of NoCandidates = 19
-- selection: there are some, and none has an assignment (02, request 2)
number_of NoAssignment = 20
-- submission to a unit being returned, and a second return of it (02, request 5)
number_of BeingReturned = 21
-- no group with that ID in either deck (02, request 6)
number_of NoGroup = 22
