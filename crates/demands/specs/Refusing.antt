-- Which refusal a reply is, if it is one. A reader has to believe this page.
use Rattle.std.specs.Prelude.{Err, Ok}
use Rattle.std.proofs.Math.Option.{Option, none, some}
use Rattle.cell.specs.Calls.{Outcome}
use Rattle.numbers.specs.declared.Refusal.{Refusal}
use Rattle.packets.specs.declared.Answer.{Answer}
use Rattle.packets.specs.declared.Answer.TheVariants as Answers
use Rattle.lists.specs.Outcomes.{StatusAnswer}
use Rattle.cell_history.specs.History.{Chosen, Entered, Mistyped, Reply, Said, Shown}

abbrev pub of_outcome : Outcome → Option Refusal
of_outcome (Ok u) = none
of_outcome (Err n) = some n

abbrev pub of_answer : Answer → Option Refusal
of_answer Answers.Done = none
of_answer (Answers.Started b) = none
of_answer (Answers.Completed place packet leaving) = none
of_answer (Answers.Closed place leaving) = none
of_answer (Answers.Refused n) = some n

abbrev pub of_status : StatusAnswer → Option Refusal
of_status (Ok status) = none
of_status (Err n) = some n

-- the refusal that a reply is, if it is one; its number is `number_of`. A fault in a keyboard message's field is an
-- error of the bulletin's and none of these. What is told, and that nothing changes, is said by itself
-- (`Demands: mistyped`)
abbrev pub refusal_in : Reply → Option Refusal
refusal_in (Entered outcome) = of_outcome outcome
refusal_in (Chosen outcome selection) = of_outcome outcome
refusal_in (Said answer) = of_answer answer
refusal_in (Shown status) = of_status status
refusal_in (Mistyped fault) = none
