-- `desk_show::seek` meets its contract: each group in turn, none before it has the ID. Assumes nothing.
use native.Mathlib.Omega.{arith}
use Rattle.desk_show.proofs.SeekLaws.{seek-start, seek-end, seek-over, seek-within, seek-turn, seek_found}
use Rattle.desk_show.proofs.seek.Goals as goal

pub loop-from-init : goal.loop-from-init
loop-from-init c = seek-start c.args.id.now c.args.cards.now

pub returns-then-n-eq0 : goal.returns-then-n-eq0
returns-then-n-eq0 c = seek-over c.loop-from.invariant c.first_group-group.ensures c.if-n-eq0.true

pub returns-then-opens_for : goal.returns-then-opens_for
returns-then-opens_for c =
    seek_found c.loop-from.invariant c.first_group-group.ensures c.if-n-eq0.false c.card_at.ensures
    c.opens_for.ensures c.if-opens_for.true

pub overflow_add-from : goal.overflow_add-from
overflow_add-from c =
    omega (arith, c.well_formed.1.0, seek-within c.loop-from.invariant c.first_group-group.ensures c.if-n-eq0.false)

pub loop-from-smaller : goal.loop-from-smaller
loop-from-smaller c =
    omega (arith, c.if-n-eq0.false, c.loop-from-test.true, seek-within c.loop-from.invariant c.first_group-group.ensures c.if-n-eq0.false)

pub loop-from-preserved : goal.loop-from-preserved
loop-from-preserved c =
    seek-turn c.loop-from.invariant c.first_group-group.ensures c.if-n-eq0.false c.card_at.ensures c.opens_for.ensures c.if-opens_for.false

pub returns : goal.returns
returns c = seek-end c.loop-from.invariant c.loop-from-test.false
