-- Every refusal's number has at most two digits. Assumes nothing.
use Prim.Native.Nat.{◌<◌}
use native.Mathlib.Omega.{arith}
use Rattle.numbers.specs.Refusals.{number_of}
use Rattle.numbers.specs.declared.Refusal.{Refusal}
use Rattle.numbers.specs.declared.Refusal.TheVariants.{
  OutOfRange,
  NoJob,
  NotTheJobs,
  NotLegal,
  PacketInUse,
  ChannelBusy,
  NothingStartable,
  NothingInProgress,
  WrongCompletion,
  BadDeck,
  NoRoom,
  WrongRequest,
  BadConfiguration,
  NoSuchRequest,
  JobRuns,
  UnknownMessage,
  NoPlaceFree,
  NoCandidates,
  NoAssignment,
  BeingReturned,
  NoGroup,
}

pub two_digits : (refusal : Refusal) → number_of refusal < 100
two_digits OutOfRange = omega arith
two_digits NoJob = omega arith
two_digits NotTheJobs = omega arith
two_digits NotLegal = omega arith
two_digits PacketInUse = omega arith
two_digits ChannelBusy = omega arith
two_digits NothingStartable = omega arith
two_digits NothingInProgress = omega arith
two_digits WrongCompletion = omega arith
two_digits BadDeck = omega arith
two_digits NoRoom = omega arith
two_digits WrongRequest = omega arith
two_digits BadConfiguration = omega arith
two_digits NoSuchRequest = omega arith
two_digits JobRuns = omega arith
two_digits UnknownMessage = omega arith
two_digits NoPlaceFree = omega arith
two_digits NoCandidates = omega arith
two_digits NoAssignment = omega arith
two_digits BeingReturned = omega arith
two_digits NoGroup = omega arith
