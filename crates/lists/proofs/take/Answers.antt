-- `lists::take` meets its contract: the rules' outcome of a taking. Assumes nothing.
use mathlib.Core.Path.{◌∙◌}
use Rattle.packets.specs.Rules.{Take}
use Rattle.lists.proofs.Calls.{refused-is, take-verdict, take-is}
use Rattle.lists.proofs.take.Goals as goal

pub returns-in-Err : goal.returns-in-Err
returns-in-Err c =
    refused-is c.args.lists (Take c.args.place c.args.assignment) _
    (take-verdict c.args.lists c.args.place c.args.assignment c.of_take.result c.of_take.ensures ∙ c.in-Err.is)

pub returns-in-Ok : goal.returns-in-Ok
returns-in-Ok c =
    take-is c.args.lists c.args.place c.args.assignment
    (take-verdict c.args.lists c.args.place c.args.assignment c.of_take.result c.of_take.ensures ∙ c.in-Ok.is)
    c.running-job.result c.running-job.ensures c.taken-held.result c.taken-held.ensures
