-- `shift_turns::fresh` meets its contract. Assumes nothing.
use mathlib.Core.Path.{ap, ◌∙◌}
use mathlib.Core.List.{List}
use Rattle.channels.specs.declared.Channel.{Channel}
use Rattle.channels.specs.Channels.{no_codes, no_down}
use Rattle.cell.specs.Calls.{fresh_cell}
use Rattle.cell.specs.declared.Cell.{Cell}
use Rattle.shift_turns.specs.Turns.{shift_of}
use Rattle.shift_turns.specs.declared.Phase.TheVariants as Phase'
use Rattle.shift_turns.proofs.fresh.Goals as goal

pub returns : goal.returns
returns c =
    ap (λ (x : Cell). shift_of (Phase'.Begins 0) x) (c.fresh.ensures
    ∙ ap (λ (l : List Channel). fresh_cell (record { channels = l; down = no_down; codes = no_codes })) c.no_channels.ensures)
