-- The state as the code holds it, and the one outcome of each call: what the rules say, with every byte determined.
use Rattle.std.specs.Prelude.{Result, ℕ, ◌≡◌, cond, ◌&&◌, ltb, Err, Ok}
use Rattle.numbers.specs.declared.Refusal.{Refusal}
use Rattle.packets.specs.declared.Status.{Status}
use Rattle.numbers.specs.declared.Refusal.TheVariants.{OutOfRange}
use Rattle.units.specs.State.{units_from}
use Rattle.packets.specs.Rules.{Call, Do, Take, accept, answer, refusal}
use Rattle.packets.specs.State.{State, packet_in}
use Rattle.packets.specs.declared.Act.TheVariants.{Submit, Start, Complete, End, Return, Mark}
use Rattle.packets.specs.declared.Answer.TheVariants.{Refused}
use Rattle.packets.specs.declared.Lists.{Lists}
use Rattle.packets.specs.declared.Acted.{Acted}
use Rattle.packets.specs.State.{Verdict}
use Rattle.packets_queue.specs.Padded.{Tidy, list_of, padded}

-- the state that the rules speak of
abbrev pub state_of : Lists → State
state_of r = record { channels = r.channels; codes = r.codes; units = r.units.of; jobs = r.jobs; queue = list_of r.list; moving = r.moving }

-- a state as the code holds it
abbrev pub lists_of : State → Lists
lists_of s = record {
  channels = s.channels;
  codes = s.codes;
  jobs = s.jobs;
  list = padded s.queue;
  moving = s.moving;
  units = units_from s.units;
}

-- the same where a call does not touch the list, whose bytes stay
abbrev pub keeping : Lists → State → Lists
keeping r s = record { channels = s.channels; codes = s.codes; jobs = s.jobs; list = r.list; moving = s.moving; units = units_from s.units }

-- a state as the code holds it, and with 0 past the list's packets
pub record Kept (s : State) (r : Lists) : Type 0 where
  pub is : r ≡ lists_of s
  pub tidy : Tidy r.list

-- what an accepted call leaves; a taking and a mark do not touch the list
abbrev pub leaves : Lists → Call → Lists
leaves r (Take j asg) = keeping r (accept (state_of r) (Take j asg))
leaves r (Do (Submit j p f c w)) = lists_of (accept (state_of r) (Do (Submit j p f c w)))
leaves r (Do (Start c)) = lists_of (accept (state_of r) (Do (Start c)))
leaves r (Do (Complete c how)) = lists_of (accept (state_of r) (Do (Complete c how)))
leaves r (Do (End j e)) = lists_of (accept (state_of r) (Do (End j e)))
leaves r (Do (Return j c u)) = lists_of (accept (state_of r) (Do (Return j c u)))
leaves r (Do (Mark c u m on)) = keeping r (accept (state_of r) (Do (Mark c u m on)))

-- an accepted call leaves and answers what the rules say; a refused one returns the number alone, and the state keeps
-- every byte
abbrev pub settled : Lists → Call → Verdict → Acted
settled r x (Ok u) = record { answer = answer (state_of r) x; lists = leaves r x }
settled r x (Err n) = record { answer = Refused n; lists = r }

-- the one outcome of a call
unfoldable pub outcome : Lists → Call → Acted
outcome r x = settled r x (refusal (state_of r) x)

-- READ A PACKET'S STATUS: "1 if p or k is out of range"; nothing changes
abbrev pub StatusAnswer : Type 0
StatusAnswer = Result Status Refusal

abbrev pub status_in : Lists → ℕ → ℕ → StatusAnswer
status_in lists place packet =
    cond (ltb place 16 && ltb packet 16) (Ok (packet_in lists.jobs place packet).status)
    (Err OutOfRange)
