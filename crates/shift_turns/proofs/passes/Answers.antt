-- `shift_turns::passes` meets its contract: by whether the card is the termination card. Assumes nothing.
use mathlib.Core.Path.{sym, ◌∙◌}
use Rattle.shift_turns.proofs.TurnLaws.{says, silent}
use Rattle.shift_turns.proofs.passes.Goals as goal

pub returns-then-is_last_card : goal.returns-then-is_last_card
returns-then-is_last_card c =
    rw (sym c.is_last_card.ensures ∙ c.if-is_last_card.true) (says c.turned.ensures c.put_refused.ensures.written)

pub returns : goal.returns
returns c = rw (sym c.is_last_card.ensures ∙ c.if-is_last_card.false) (silent c.turned-2.ensures)
