-- `desk_hearing::hear` meets its contract: by whether the line is whole, and what it belongs to. Assumes nothing.
use mathlib.Core.Path.{refl}
use borrow.Author.Tests.{not-true, not-false}
use Rattle.desk_hearing.specs.Hearing.{standing}
use Rattle.desk_hearing.proofs.CallLaws.{answered-for, as-heard, waits, of-repair, of-day, of-asks}
use Rattle.desk_hearing.proofs.hear.Goals as goal

pub returns-then-not-cut : goal.returns-then-not-cut
returns-then-not-cut c =
    as-heard c.what_was_heard.ensures (waits (standing c.args.desk c.args.line.now c.args.repair.now c.args.day.now)
    c.take_up-cut.ensures (not-true c.take_up-cut.result.whole c.if-not-cut.true) c.desk_of.ensures c.args.out.now)

pub returns-in-GathersRepair : goal.returns-in-GathersRepair
returns-in-GathersRepair c =
    as-heard c.what_was_heard-in-GathersRepair.ensures (of-repair (standing c.args.desk c.args.line.now c.args.repair.now c.args.day.now)
    c.take_up-cut.ensures (not-false c.take_up-cut.result.whole c.if-not-cut.false) c.front-whole.ensures c.in-GathersRepair.is c.put_card-n.ensures
    c.behind_card-next.ensures c.desk_of-in-GathersRepair.ensures c.args.out.now)

pub returns-in-GathersDay : goal.returns-in-GathersDay
returns-in-GathersDay c =
    as-heard c.what_was_heard-in-GathersDay.ensures (of-day (standing c.args.desk c.args.line.now c.args.repair.now c.args.day.now)
    c.take_up-cut.ensures (not-false c.take_up-cut.result.whole c.if-not-cut.false) c.front-whole.ensures c.in-GathersDay.is c.put_card-n-in-GathersDay.ensures
    c.behind_card-next-in-GathersDay.ensures c.desk_of-in-GathersDay.ensures c.args.out.now)

pub returns-in-Asks : goal.returns-in-Asks
returns-in-Asks c =
    as-heard c.what_was_heard-in-Asks.ensures (of-asks (standing c.args.desk c.args.line.now c.args.repair.now c.args.day.now)
    c.take_up-cut.ensures (not-false c.take_up-cut.result.whole c.if-not-cut.false) c.front-whole.ensures c.in-Asks.is
    (answered-for refl c.front-first.ensures c.front-second.ensures c.put_answer-at.ensures) c.desk_of-in-Asks.ensures)
