-- `cell::outcome_of` meets its contract. Assumes nothing.
use mathlib.Core.Path.{refl}
use Rattle.cell.proofs.outcome_of.Goals as goal

pub returns-in-NoPlace : goal.returns-in-NoPlace
returns-in-NoPlace c = rw c.in-NoPlace.is refl

pub returns-in-NoCandidates : goal.returns-in-NoCandidates
returns-in-NoCandidates c = rw c.in-NoCandidates.is refl

pub returns-in-Lacks : goal.returns-in-Lacks
returns-in-Lacks c = rw c.in-Lacks.is refl
