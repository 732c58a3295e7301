-- `cell::heed` meets its contract: each message does what its call does. Assumes nothing.
use mathlib.Core.Path.{ap, ◌∙◌}
use Rattle.cell.specs.Calls.{called}
use Rattle.cell.proofs.heed.Goals as goal

pub returns-in-Unknown : goal.returns-in-Unknown
returns-in-Unknown c = rw c.in-Unknown.is

pub returns-in-Wrong : goal.returns-in-Wrong
returns-in-Wrong c = rw c.in-Wrong.is

pub returns-in-Mark : goal.returns-in-Mark
returns-in-Mark c = c.called.ensures ∙ ap called c.mark_down.ensures ∙ rw c.in-Mark.is

pub returns-in-Release : goal.returns-in-Release
returns-in-Release c = c.called-in-Release.ensures ∙ ap called c.release.ensures ∙ rw c.in-Release.is

pub returns-in-Delete : goal.returns-in-Delete
returns-in-Delete c = c.called-in-Delete.ensures ∙ ap called c.delete.ensures ∙ rw c.in-Delete.is
