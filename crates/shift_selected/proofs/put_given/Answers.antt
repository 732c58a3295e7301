-- `shift_selected::put_given` meets its contract: a space and the unit where both tests hold, else nothing. Assumes
-- nothing.
use mathlib.Core.Path.{sym, ◌∙◌}
use Rattle.text.proofs.RoomLaws.{puts-none, puts-then}
use Rattle.shift_selected.specs.Selected.{given_text}
use Rattle.shift_selected.proofs.put_given.Goals.{else-is_of_kind-via-then-is_of_kind+else-is_to, else-is_of_kind-via-else-is_of_kind}
use Rattle.shift_selected.proofs.put_given.Goals as goal

pub returns-then-is_to : goal.returns-then-is_to
unfolding given_text
returns-then-is_to c =
    rw (sym c.is_of_kind.ensures ∙ c.if-is_of_kind.true, sym c.is_to.ensures ∙ c.if-is_to.true)
    (puts-then c.put_byte.ensures c.put_unit.ensures)

pub returns-else-is_of_kind : goal.returns-else-is_of_kind
unfolding given_text
returns-else-is_of_kind c = elim c.else-is_of_kind.branch [
  | else-is_of_kind-via-then-is_of_kind+else-is_to w ↦
      rw (sym c.is_of_kind.ensures ∙ w.if-is_of_kind.true, sym w.is_to.ensures ∙ w.if-is_to.false) (puts-none c.args.out.now)
  | else-is_of_kind-via-else-is_of_kind w ↦ rw (sym c.is_of_kind.ensures ∙ w.if-is_of_kind.false) (puts-none c.args.out.now)
]
