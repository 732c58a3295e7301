-- `board_units::put_line` meets its contract: nothing for a unit that is free and unmarked. Assumes nothing.
use mathlib.Core.Path.{sym, ◌∙◌}
use Rattle.text.proofs.RoomLaws.{puts-none}
use Rattle.board_units.specs.Units.{unit_line}
use Rattle.board_units.proofs.put_line.Goals as goal

pub returns-then-is_assignable : goal.returns-then-is_assignable
unfolding unit_line
returns-then-is_assignable c =
    rw (sym c.is_assignable.ensures ∙ c.if-is_assignable.true) (puts-none c.args.out.now)

pub returns : goal.returns
unfolding unit_line
returns c =
    rw (sym c.is_assignable.ensures ∙ c.if-is_assignable.false) c.put_state.ensures
