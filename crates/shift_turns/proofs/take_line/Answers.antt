-- `shift_turns::take_line` meets its contract: by the phase. Assumes nothing.
use mathlib.Core.Path.{refl}
use Rattle.shift_turns.proofs.TurnLaws.{silent}
use Rattle.shift_turns.proofs.take_line.Goals as goal

pub returns-in-Begins : goal.returns-in-Begins
returns-in-Begins c = rw c.in-Begins.is c.begins.ensures

pub returns-in-Talks : goal.returns-in-Talks
returns-in-Talks c = rw c.in-Talks.is (refl, c.talks.ensures)

pub returns-in-Gathers : goal.returns-in-Gathers
returns-in-Gathers c = rw c.in-Gathers.is c.gathers.ensures

pub returns-in-Passes : goal.returns-in-Passes
returns-in-Passes c = rw c.in-Passes.is (refl, c.passes.ensures)

pub returns-in-Over : goal.returns-in-Over
returns-in-Over c = rw c.in-Over.is (refl, silent c.turned.ensures)
