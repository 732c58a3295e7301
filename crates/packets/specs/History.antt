-- A HISTORY of the request lists: where it begins, its calls with their answers, and the states that they lead to. A
-- reader has to believe this page.
use Rattle.std.specs.Prelude.{ℕ, ◌≡◌, Bool, true, false, List, [], ◌∷◌, replicate, None}
use Rattle.units.specs.State.{unit_in}
use Rattle.units.specs.declared.Holder.TheVariants.{Free}
use Rattle.units.specs.declared.Unit.{Unit as UnitState}
use Rattle.channels.specs.declared.Channel.{Channel}
use Rattle.packets.specs.Rules.{Call, step}
use Rattle.packets.specs.State.{State, blank, no_core}
use Rattle.packets.specs.declared.Answer.{Answer}
use Rattle.packets.specs.declared.Answer.TheVariants.{Closed, Completed, Done, Refused, Started}
use Rattle.packets.specs.declared.Job.{Job}
use Rattle.packets.specs.declared.JobState.TheVariants.{Empty}

-- ---- a fresh cell: nothing listed or moving, no job, and no unit held

abbrev pub empty_place : Job
empty_place = record { state = Empty; packets = replicate 16 blank; from = 0; words = 0; core = no_core }

unfoldable pub fresh : List Channel → ℕ → List (List UnitState) → State
fresh channels codes units =
    record {
      channels = channels;
      codes = codes;
      units = units;
      queue = [];
      moving = replicate 16 (record { motion = None });
      jobs = replicate 16 empty_place;
    }

abbrev pub NoneHeld : List (List UnitState) → Type 0
NoneHeld units = (c u : ℕ) → (unit_in units c u).holder ≡ Free

-- where a history begins: a fresh cell of some channels, codes and units, of which none is held
pub record Begins (s : State) : Type 0 where
  pub channels : List Channel
  pub codes : ℕ
  pub units : List (List UnitState)
  pub none : NoneHeld units
  pub is : s ≡ fresh channels codes units

-- ---- what is seen from outside: the calls and their answers

pub record Event : Type 0 where
  pub call : Call
  pub answer : Answer

abbrev pub is_accepted : Answer → Bool
is_accepted Done = true
is_accepted (Started b) = true
is_accepted (Completed j p r) = true
is_accepted (Closed j r) = true
is_accepted (Refused n) = false

-- calls one after the other, each answered so, lead from one state to another
abbrev pub Leads : State → List Event → State → Type 0
Leads s [] t = t ≡ s
Leads s (e ∷ l) t = (e.answer ≡ (step s e.call).answer) × Leads (step s e.call).state l t

-- A REACHED STATE: these calls, answered so, lead to it from where a history begins
pub record Reached (l : List Event) (s : State) : Type 0 where
  pub from : State
  pub begins : Begins from
  pub leads : Leads from l s

-- of each accepted call of a history, with the state before it and the one after it
abbrev pub Along : (State → Call → State → Type 0) → State → List Event → Type 0
Along P s [] = Unit {0}
Along P s (e ∷ l) =
    (is_accepted e.answer ≡ true → P s e.call (step s e.call).state) × Along P (step s e.call).state l
