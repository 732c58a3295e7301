-- `shift_packets::reply` meets its contract: what the line says is what the request lists answered. Assumes nothing.
use mathlib.Core.Path.{ap, ◌∙◌}
use Rattle.text.proofs.RoomLaws.{none}
use Rattle.packets.specs.Rules.{Do}
use Rattle.packets.specs.declared.Act.{Act}
use Rattle.lists.specs.Outcomes.{outcome}
use Rattle.shift_packets.proofs.OnListsLaws.{told, other-line, gives_as}
use Rattle.shift_packets.proofs.reply.Goals as goal

pub returns-in-Do : goal.returns-in-Do
returns-in-Do c = rw c.in-Do.is
    (gives_as (c.act.ensures ∙ ap (λ (x : Act). outcome c.args.lists (Do x)) c.placed.ensures)
    c.with_answer.ensures)

pub returns-in-Status : goal.returns-in-Status
returns-in-Status c = rw (c.in-Status.is, ← c.status.ensures) c.with_status.ensures

pub returns-in_default : goal.returns-in_default
returns-in_default c =
    other-line c.args.lists c.args.call c.in_default.not-Do c.in_default.not-Status (told c.unchanged.ensures (none _ _))
