-- `lists::end` meets its contract: the rules' outcome of a job's end. Assumes nothing.
use mathlib.Core.Path.{refl, ◌∙◌}
use Rattle.packets.proofs.ByNumber.{End}
use Rattle.lists.proofs.Calls.{relisted-is, refused-is, end-verdict, end_is}
use Rattle.lists.proofs.Full.{entries, places}
use Rattle.lists.proofs.end.Goals as goal

pub returns-in-Err : goal.returns-in-Err
returns-in-Err c =
    refused-is c.args.lists (End c.args.place c.args.in_error) _
    (end-verdict c.args.lists c.args.place c.args.in_error c.of_end.result c.of_end.ensures ∙ c.in-Err.is)

pub returns-then-shut : goal.returns-then-shut
returns-then-shut c =
    let full = entries c.args.lists _ c.well_formed.0 in
    end_is c.args.lists c.args.place c.args.in_error (places c.args.lists _ c.well_formed.0)
    (end-verdict c.args.lists c.args.place c.args.in_error c.of_end.result c.of_end.ensures ∙ c.in-Ok.is)
    c.closed-shut.result c.closed-shut.ensures c.relisted-left.result (relisted-is c.args.lists full _ _ _ c.relisted-left.ensures) c.released-free.result
    (rw c.if-shut.true c.released-free.ensures)

pub returns-else-shut : goal.returns-else-shut
returns-else-shut c =
    let full = entries c.args.lists _ c.well_formed.0 in
    end_is c.args.lists c.args.place c.args.in_error (places c.args.lists _ c.well_formed.0)
    (end-verdict c.args.lists c.args.place c.args.in_error c.of_end.result c.of_end.ensures ∙ c.in-Ok.is)
    c.closed-shut.result c.closed-shut.ensures c.relisted-left.result (relisted-is c.args.lists full _ _ _ c.relisted-left.ensures) c.args.lists.units
    (rw c.if-shut.false refl)
