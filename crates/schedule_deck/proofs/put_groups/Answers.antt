-- `schedule_deck::put_groups` meets its contract. Assumes nothing.
use mathlib.Core.Path.{◌∙◌}
use native.Mathlib.Omega.{arith}
use Rattle.schedule_entering.proofs.Placing.{judged-good, judged-wrong, outline-follows}
use Rattle.schedule_deck.specs.declared.Progress.{Progress}
use Rattle.schedule_deck.proofs.Pieces.{group-read, tried-good, tried-bad, last-kept}
use Rattle.schedule_deck.proofs.InTurn.{groups-start, groups-turn, groups-meet, outline-meet, groups-over, groups-end, group-within}
use Rattle.schedule_deck.proofs.put_groups.Goals as goal
use Rattle.schedule_deck.proofs.put_groups.Goals.{then-is_good+then-is_good-2, then-is_good+else-is_good-2, else-is_good}

pub loop-from-init : goal.loop-from-init
loop-from-init c =
    (groups-start c.args.part.now c.args.out.now c.args.start, c.outline_of-outline.ensures)

pub returns-then-n-eq0 : goal.returns-then-n-eq0
returns-then-n-eq0 c =
    groups-over c.loop-from.invariant.0 c.first_group-group.ensures c.if-n-eq0.true

pub overflow_add-from : goal.overflow_add-from
overflow_add-from c =
    omega (arith, c.well_formed.1.0, group-within c.loop-from.invariant.0 c.first_group-group.ensures c.loop-from-test.true)

pub loop-from-smaller : goal.loop-from-smaller
loop-from-smaller c =
    omega (arith, group-within c.loop-from.invariant.0 c.first_group-group.ensures c.loop-from-test.true)

pub loop-from-preserved : goal.loop-from-preserved
loop-from-preserved c =
    let p : Progress = record { schedule = c.loop-from.schedule; shown = c.loop-from.shown; last = c.loop-from.last } in
    elim c.if-is_good.branch [
      | then-is_good+then-is_good-2 w ↦ (
        groups-meet w.out-is w.schedule-is w.last-is (groups-turn c.loop-from.invariant.0 c.first_group-group.ensures c.loop-from-test.true c.if-n-eq0.false
            (group-read p _ c.card_at.ensures c.shown_by-own.ensures c.read_group-reading.ensures
            (judged-good c.loop-from.schedule c.read_group-reading.result.request c.loop-from.invariant.1 w.judge-judged.ensures w.placed-next.ensures
            w.is_good-then-is_good.ensures w.if-is_good-2.true
            ∙ tried-good c.loop-from.schedule c.read_group-reading.result c.is_good.ensures w.if-is_good.true)
            w.last_by-good.ensures w.put_verdict.ensures)),
        outline-meet w.schedule-is w.outline-is
            (outline-follows c.loop-from.schedule c.read_group-reading.result.request c.loop-from.invariant.1 w.judge-judged.ensures w.placed-next.ensures),
      )
      | then-is_good+else-is_good-2 w ↦ (
        groups-meet w.out-is w.schedule-is w.last-is (groups-turn c.loop-from.invariant.0 c.first_group-group.ensures c.loop-from-test.true c.if-n-eq0.false
            (group-read p _ c.card_at.ensures c.shown_by-own.ensures c.read_group-reading.ensures
            (judged-wrong c.loop-from.schedule c.read_group-reading.result.request c.loop-from.invariant.1 w.judge-judged.ensures w.is_good-then-is_good.ensures w.if-is_good-2.false
            ∙ tried-good c.loop-from.schedule c.read_group-reading.result c.is_good.ensures w.if-is_good.true)
            w.last_by-good.ensures w.put_verdict.ensures)),
        outline-meet w.schedule-is w.outline-is c.loop-from.invariant.1,
      )
      | else-is_good w ↦ (
        groups-meet w.out-is w.schedule-is w.last-is (groups-turn c.loop-from.invariant.0 c.first_group-group.ensures c.loop-from-test.true c.if-n-eq0.false
            (group-read p _ c.card_at.ensures c.shown_by-own.ensures c.read_group-reading.ensures
            (tried-bad c.loop-from.schedule c.read_group-reading.result c.is_good.ensures w.if-is_good.false)
            (last-kept c.read_group-reading.result.verdict c.loop-from.last _ c.is_good.ensures w.if-is_good.false) w.put_verdict-else-is_good.ensures)),
        outline-meet w.schedule-is w.outline-is c.loop-from.invariant.1,
      )
    ]

pub returns : goal.returns
returns c = groups-end c.loop-from.invariant.0 c.loop-from-test.false
