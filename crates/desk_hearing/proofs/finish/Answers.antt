-- `desk_hearing::finish` meets its contract: by what the next line would belong to. Assumes nothing.
use Rattle.desk_hearing.specs.Hearing.{standing}
use Rattle.desk_hearing.proofs.CallLaws.{answered-for, no-repair, no-day, no_line_lem, last_line}
use borrow.Author.Rules.{rules}
use Rattle.desk_hearing.proofs.finish.Goals as goal

pub returns-then-desk-eq0 : goal.returns-then-desk-eq0
returns-then-desk-eq0 c =
    no_line_lem (standing c.args.desk c.args.line.now c.args.repair.now c.args.day.now) c.in-Asks.is
    c.if-desk-eq0.true c.args.out.now

pub returns-in-GathersRepair : goal.returns-in-GathersRepair
returns-in-GathersRepair c =
    no-repair (standing c.args.desk c.args.line.now c.args.repair.now c.args.day.now) (search rules) c.put_refused.ensures
    c.in-GathersRepair.is

pub returns-in-GathersDay : goal.returns-in-GathersDay
returns-in-GathersDay c =
    no-day (standing c.args.desk c.args.line.now c.args.repair.now c.args.day.now) (search rules) c.put_refused-in-GathersDay.ensures
    c.in-GathersDay.is

pub returns-else-desk-eq0 : goal.returns-else-desk-eq0
returns-else-desk-eq0 c =
    last_line (standing c.args.desk c.args.line.now c.args.repair.now c.args.day.now) c.in-Asks.is c.if-desk-eq0.false
    (answered-for c.front.ensures c.front-first.ensures c.front-second.ensures c.put_answer.ensures)
