-- `cards_writing::put::put_entry` meets its contract, with and without a logical channel. Assumes nothing.
use mathlib.Core.Path.{sym, ◌∙◌}
use borrow.Author.Tests.{eq-eqb, ne_eqb}
use Rattle.text.proofs.RoomLaws.{puts-then}
use Rattle.cards_writing.specs.Writing.{channel_at, entry_text}
use Rattle.cards_writing.proofs.put.put_entry.Goals.{then-channel-ne0, else-channel-ne0}
use Rattle.cards_writing.proofs.put.put_entry.Goals as goal

pub returns : goal.returns
unfolding entry_text
returns c = elim c.if-channel-ne0.branch [
  | then-channel-ne0 w ↦
      rw (← c.code_at.ensures, ← c.channel_at-channel.ensures, ne_eqb c.channel_at-channel.result 0 w.if-channel-ne0.true)
      (puts-then c.put_code.ensures (puts-then w.put_decimal.ensures (puts-then (rw w.room-is at c.put_byte.ensures) c.put_decimal-2.ensures)))
  | else-channel-ne0 w ↦
      rw (← c.code_at.ensures, eq-eqb (channel_at c.args.k) 0 (sym c.channel_at-channel.ensures ∙ w.if-channel-ne0.false))
      (puts-then c.put_code.ensures (puts-then (rw w.room-is at c.put_byte.ensures) c.put_decimal-2.ensures))
]
