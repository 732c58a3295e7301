-- `shift_turns::closes` meets its contract: with a last line, or without. Assumes nothing.
use mathlib.Core.Path.{sym, ◌∙◌}
use borrow.Author.Tests.{eqb-true, eqb-false}
use Rattle.shift_turns.proofs.TurnLaws.{closes-none, closes-some}
use Rattle.shift_turns.proofs.closes.Goals as goal

pub returns-then-is_empty : goal.returns-then-is_empty
returns-then-is_empty c =
    closes-none c.args.shift.phase c.args.shift.cell c.args.rest.now c.args.room.now c.args.out.now _ c.close.result
    (eqb-true _ _ (sym c.is_empty.ensures ∙ c.if-is_empty.true)) c.close.ensures

pub returns : goal.returns
returns c =
    closes-some c.args.shift.phase c.args.shift.cell c.args.rest.now c.args.room.now _ c.args.out.now _ _ c.take_line-last.result
    c.close-2.result (eqb-false _ _ (sym c.is_empty.ensures ∙ c.if-is_empty.false)) c.take_line-last.ensures c.close-2.ensures
