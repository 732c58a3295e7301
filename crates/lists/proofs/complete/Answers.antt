-- `lists::complete` meets its contract: the rules' outcome of a completion. Assumes nothing.
use mathlib.Core.Path.{refl, sym, ap, ◌∙◌}
use Rattle.units.specs.State.{units_from}
use Rattle.packets.proofs.ByNumber.{Complete}
use Rattle.lists.proofs.Calls.{relisted-is, refused-is}
use Rattle.lists.proofs.Full.{entries, places}
use Rattle.lists.proofs.Completes.{complete-verdict, complete-is, unchanged}
use Rattle.lists.proofs.complete.Goals as goal

pub returns-in-Err : goal.returns-in-Err
returns-in-Err c =
    refused-is c.args.lists (Complete c.args.channel.0 c.args.how) _
    (complete-verdict c.args.lists c.args.channel.0 c.args.how _ refl c.place_of-j.result c.packet_of-p.result c.place_of-j.ensures c.packet_of-p.ensures
    c.packet_in-q.result c.packet_in-q.ensures _ refl c.of_complete.result c.of_complete.ensures
    ∙ c.in-Err.is)

pub returns-then-is_changing : goal.returns-then-is_changing
returns-then-is_changing c =
    let full = entries c.args.lists _ c.well_formed.0 in
    complete-is c.args.lists c.args.channel.0 c.args.how _ refl c.place_of-j.result c.packet_of-p.result c.place_of-j.ensures c.packet_of-p.ensures
    c.packet_in-q.result c.packet_in-q.ensures (places c.args.lists _ c.well_formed.0)
    (complete-verdict c.args.lists c.args.channel.0 c.args.how _ refl c.place_of-j.result c.packet_of-p.result c.place_of-j.ensures c.packet_of-p.ensures
    c.packet_in-q.result c.packet_in-q.ensures _ refl c.of_complete.result c.of_complete.ensures
    ∙ c.in-Ok.is)
    c.idle-idle.result c.idle-idle.ensures c.is_breaking-breaking.result c.is_breaking-breaking.ensures c.over-over.result c.over-over.ensures c.relisted-left.result
    (relisted-is c.args.lists full _ _ _ c.relisted-left.ensures) c.units_of-free.result c.units_of-free.ensures

pub returns-else-is_changing : goal.returns-else-is_changing
returns-else-is_changing c =
    let full = entries c.args.lists _ c.well_formed.0 in
    complete-is c.args.lists c.args.channel.0 c.args.how _ refl c.place_of-j.result c.packet_of-p.result c.place_of-j.ensures c.packet_of-p.ensures
    c.packet_in-q.result c.packet_in-q.ensures (places c.args.lists _ c.well_formed.0)
    (complete-verdict c.args.lists c.args.channel.0 c.args.how _ refl c.place_of-j.result c.packet_of-p.result c.place_of-j.ensures c.packet_of-p.ensures
    c.packet_in-q.result c.packet_in-q.ensures _ refl c.of_complete.result c.of_complete.ensures
    ∙ c.in-Ok.is)
    c.idle-idle.result c.idle-idle.ensures c.is_breaking-breaking.result c.is_breaking-breaking.ensures c.over-over.result c.over-over.ensures c.relisted-left.result
    (relisted-is c.args.lists full _ _ _ c.relisted-left.ensures) c.args.lists.units
    (ap units_from (unchanged c.args.lists.units.of c.args.channel.0 c.place_of-j.result c.packet_in-q.result.at c.unit_where-unit.result
    c.unit_where-unit.ensures c.is_breaking-breaking.result c.over-over.result.done (sym c.is_changing.ensures ∙ c.if-is_changing.false)))
