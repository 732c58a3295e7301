-- `lists::return_unit` meets its contract: the rules' outcome of a return. Assumes nothing.
use mathlib.Core.Path.{refl, ◌∙◌}
use Rattle.packets.proofs.ByNumber.{Return}
use Rattle.lists.proofs.Calls.{relisted-is, refused-is}
use Rattle.lists.proofs.Full.{entries, places}
use Rattle.lists.proofs.Returns.{return-verdict, return-is}
use Rattle.lists.proofs.return_unit.Goals as goal

pub returns-in-Err : goal.returns-in-Err
returns-in-Err c =
    refused-is c.args.lists (Return c.args.place c.args.channel.0 c.args.unit.0) _
    (return-verdict c.args.lists c.args.place c.args.channel.0 c.args.unit.0 _ refl c.unit_at-was.result c.unit_at-was.ensures c.of_return.result
    c.of_return.ensures
    ∙ c.in-Err.is)

pub returns-in-Ok : goal.returns-in-Ok
returns-in-Ok c =
    let full = entries c.args.lists _ c.well_formed.0 in
    return-is c.args.lists c.args.place c.args.channel.0 c.args.unit.0 (places c.args.lists _ c.well_formed.0)
    (return-verdict c.args.lists c.args.place c.args.channel.0 c.args.unit.0 _ refl c.unit_at-was.result c.unit_at-was.ensures c.of_return.result
    c.of_return.ensures
    ∙ c.in-Ok.is)
    c.cut_at-changed.result c.cut_at-changed.ensures c.relisted-left.result (relisted-is c.args.lists full _ _ _ c.relisted-left.ensures) c.holder_of-holder.result
    c.holder_of-holder.ensures c.with_holder_at-back.result c.with_holder_at-back.ensures
