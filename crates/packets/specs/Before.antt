-- With all 60 codes in the section everything is as document 01 had it before the section came: "A failure on a unit
-- other than the drum sets its interlock and ends that unit's listed packets with 01", whatever its code (request 5, by
-- which a completion may free its unit, is in both). And the section matters to completions alone. A reader has to
-- believe this page.
use Rattle.std.specs.Prelude.{ℕ, ◌+◌, ◌-◌, ◌^◌, ◌≤◌, ◌≡◌, Bool, true, false, cond, ◌&&◌, None, Ok, Some}
use Rattle.numbers.specs.declared.ChannelNumber.{ChannelNumber}
use Rattle.channels.specs.Channels.{sets_interlock}
use Rattle.packets.specs.Rules.{
  Call,
  Do,
  Take,
  accept,
  answer,
  broken,
  code_for,
  free_if_returning,
  leaving,
  over,
  refusal,
  return_if_done,
}
use Rattle.packets.specs.State.{State, is_unit, motion_on, packet_in}
use Rattle.packets.specs.declared.Act.TheVariants.{Submit, Start, Complete, End, Return, Mark}
use Rattle.packets.specs.declared.Answer.{Answer}
use Rattle.packets.specs.declared.Answer.TheVariants.{Completed, Done}
use Rattle.packets.specs.declared.How.{How}
use Rattle.packets.specs.declared.How.TheVariants.{Cut, Failed, Full}
use Rattle.packets.specs.State.{Motion}

-- all 60 codes set interlock: "02 to 77 octal and neither 16 nor 17"
abbrev pub AllListed : ℕ → Type 0
AllListed codes = (k : ℕ) → 0o02 ≤ k → k ≤ 0o77 → (k ≡ 0o16 → ⊥) → (k ≡ 0o17 → ⊥) → sets_interlock codes k ≡ true

-- such a section, as a word: every bit of 64 but those of 00, 01, 16o and 17o
abbrev pub all60 : ℕ
all60 = 2 ^ 64 - 1 - (2 ^ 0o00 + 2 ^ 0o01 + 2 ^ 0o16 + 2 ^ 0o17)

abbrev pub is_failure : How → Bool
is_failure Full = false
is_failure Cut = false
is_failure (Failed k) = true

-- "Document 01 had every failure set it"
abbrev pub finished_before : State → ℕ → How → ℕ → ℕ → State
finished_before s c how j p =
    let a = (packet_in s.jobs j p).at in
    cond (is_failure how && is_unit a) (broken (over s c j p (code_for how)) c a j) (over s c j p (code_for how))

abbrev pub completed_before : State → ℕ → How → Motion → State
completed_before s c how None = s
completed_before s c how (Some (j, p)) = free_if_returning (return_if_done j (finished_before s c how j p)) c (packet_in s.jobs j p).at

abbrev pub completes_before : State → ℕ → How → Motion → Answer
completes_before s c how None = Done
completes_before s c how (Some (j, p)) = Completed j p (leaving j (finished_before s c how j p))

-- a completion that is not refused leaves and answers the same as then
abbrev pub AsBefore : Type 0
AsBefore =
    (s : State) → AllListed s.codes → (c : ChannelNumber) (how : How) → refusal s (Do (Complete c how)) ≡ Ok tt
    → (accept s (Do (Complete c how)) ≡ completed_before s c.0 how (motion_on s c.0))
    × (answer s (Do (Complete c how)) ≡ completes_before s c.0 how (motion_on s c.0))

-- the same state with another section
abbrev pub with_codes : ℕ → State → State
with_codes codes s =
    record { channels = s.channels; codes = codes; units = s.units; jobs = s.jobs; queue = s.queue; moving = s.moving }

abbrev pub is_completion : Call → Bool
is_completion (Take j asg) = false
is_completion (Do (Submit j p f c w)) = false
is_completion (Do (Start c)) = false
is_completion (Do (Complete c how)) = true
is_completion (Do (End j e)) = false
is_completion (Do (Return j c u)) = false
is_completion (Do (Mark c u m on)) = false

-- and nothing else goes by the section: no refusal does, and what any other call leaves and answers does not
pub record OnlyCompletions : Type 0 where
  pub refusals : (codes : ℕ) (s : State) (x : Call) → refusal (with_codes codes s) x ≡ refusal s x
  pub leaves : (codes : ℕ) (s : State) (x : Call) → is_completion x ≡ false → accept (with_codes codes s) x ≡ with_codes codes (accept s x)
  pub answers : (codes : ℕ) (s : State) (x : Call) → is_completion x ≡ false → answer (with_codes codes s) x ≡ answer s x
