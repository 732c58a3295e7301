-- `lists::mark` meets its contract: the rules' outcome of a mark. Assumes nothing.
use mathlib.Core.Path.{◌∙◌}
use Rattle.packets.proofs.ByNumber.{Mark}
use Rattle.lists.proofs.Calls.{refused-is, mark-verdict, mark-is}
use Rattle.lists.proofs.mark.Goals as goal

pub returns-in-Err : goal.returns-in-Err
returns-in-Err c =
    refused-is c.args.lists (Mark c.args.channel.0 c.args.unit.0 c.args.mark c.args.on) _
    (mark-verdict c.args.lists c.args.channel.0 c.args.unit.0 c.args.mark c.args.on c.fitted_on-has.result c.fitted_on-has.ensures
    c.of_mark.result c.of_mark.ensures
    ∙ c.in-Err.is)

pub returns-in-Ok : goal.returns-in-Ok
returns-in-Ok c =
    mark-is c.args.lists c.args.channel.0 c.args.unit.0 c.args.mark c.args.on
    (mark-verdict c.args.lists c.args.channel.0 c.args.unit.0 c.args.mark c.args.on c.fitted_on-has.result c.fitted_on-has.ensures
    c.of_mark.result c.of_mark.ensures
    ∙ c.in-Ok.is)
    c.with_mark-marked.result c.with_mark-marked.ensures
