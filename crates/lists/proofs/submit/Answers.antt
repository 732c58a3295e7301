-- `lists::submit` meets its contract: the rules' outcome of a submission. Assumes nothing.
use mathlib.Core.Path.{refl, ◌∙◌}
use native.Mathlib.Omega.{arith}
use Rattle.packets.proofs.ByNumber.{Submit}
use Rattle.lists.proofs.Calls.{refused-is}
use Rattle.lists.proofs.Full.{entries, places}
use Rattle.lists.proofs.Submits.{submit-verdict, submit-is}
use Rattle.lists.proofs.submit.Goals as goal

pub returns-in-Err : goal.returns-in-Err
returns-in-Err c =
    refused-is c.args.lists (Submit c.args.place c.args.packet c.args.function c.args.channel.0 c.args.spot) _
    (submit-verdict c.args.lists c.args.place c.args.packet c.args.function c.args.channel.0 c.args.spot _ refl c.unit_where-unit.result
    (rw (← c.site_of-at.ensures) c.unit_where-unit.ensures) c.verdict.result c.verdict.ensures
    ∙ c.in-Err.is)

pub returns-then-unlocking : goal.returns-then-unlocking
returns-then-unlocking c =
    let full = entries c.args.lists _ c.well_formed.0 in
    submit-is c.args.lists c.args.place c.args.packet c.args.function c.args.channel.0 c.args.spot _ refl c.unit_where-unit.result
    (rw (← c.site_of-at.ensures) c.unit_where-unit.ensures) (places c.args.lists _ c.well_formed.0)
    (submit-verdict c.args.lists c.args.place c.args.packet c.args.function c.args.channel.0 c.args.spot _ refl c.unit_where-unit.result
    (rw (← c.site_of-at.ensures) c.unit_where-unit.ensures) c.verdict.result c.verdict.ensures
    ∙ c.in-Ok.is)
    c.is_unlocking-unlocking.result c.is_unlocking-unlocking.ensures c.job_after-changed.result c.job_after-changed.ensures c.list_of-left.result
    (c.list_of-left.ensures (omega (arith, full))) c.with_lock_at-open.result
    (rw (c.if-unlocking.true, ← c.site_of-at.ensures) c.with_lock_at-open.ensures)

pub returns-else-unlocking : goal.returns-else-unlocking
returns-else-unlocking c =
    let full = entries c.args.lists _ c.well_formed.0 in
    submit-is c.args.lists c.args.place c.args.packet c.args.function c.args.channel.0 c.args.spot _ refl c.unit_where-unit.result
    (rw (← c.site_of-at.ensures) c.unit_where-unit.ensures) (places c.args.lists _ c.well_formed.0)
    (submit-verdict c.args.lists c.args.place c.args.packet c.args.function c.args.channel.0 c.args.spot _ refl c.unit_where-unit.result
    (rw (← c.site_of-at.ensures) c.unit_where-unit.ensures) c.verdict.result c.verdict.ensures
    ∙ c.in-Ok.is)
    c.is_unlocking-unlocking.result c.is_unlocking-unlocking.ensures c.job_after-changed.result c.job_after-changed.ensures c.list_of-left.result
    (c.list_of-left.ensures (omega (arith, full))) c.args.lists.units (rw c.if-unlocking.false refl)
