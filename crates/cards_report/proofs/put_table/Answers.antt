-- `cards_report::put_table` meets its contract: the loop's invariant is `Goes`: whoever puts the lines
-- from here on has put all; they are whole lines of the table. Assumes nothing.
use Rattle.cards_report.proofs.TableLines.{size_is, line-turn, lines_end, no_table, all-table}
use mathlib.Core.Path.{refl}
use native.Mathlib.Omega.{arith}
use Rattle.cards_report.proofs.put_table.Goals as goal

pub returns-then-n-eq0 : goal.returns-then-n-eq0
returns-then-n-eq0 c =
    no_table c.args.further c.put_table-n.ensures refl c.if-n-eq0.true c.args.out.now

pub loop-from-init : goal.loop-from-init
loop-from-init c = (refl, λ after p. p)

pub overflow_add-from : goal.overflow_add-from
overflow_add-from c =
    let s = size_is c.args.further _ c.put_table-n.ensures.size in
    omega (arith, s.1, c.loop-from-test.true)

pub slice_bounds-put_bytes-end-in-loop-from : goal.slice_bounds-put_bytes-end-in-loop-from
slice_bounds-put_bytes-end-in-loop-from c =
    let s = size_is c.args.further _ c.put_table-n.ensures.size in
    omega (arith, c.put_table-n.ensures.long, s.0, s.1, c.loop-from.invariant.0, c.loop-from-test.true)

pub overflow_add-from-in-loop-from : goal.overflow_add-from-in-loop-from
overflow_add-from-in-loop-from c =
    let s = size_is c.args.further _ c.put_table-n.ensures.size in
    omega (arith, s.1, c.loop-from-test.true)

pub loop-from-smaller : goal.loop-from-smaller
loop-from-smaller c =
    omega (arith, c.loop-from-test.true)

pub loop-from-preserved : goal.loop-from-preserved
loop-from-preserved c =
    let s = size_is c.args.further _ c.put_table-n.ensures.size in (
      omega (arith, c.loop-from.invariant.0),
      line-turn _ _ c.loop-from.from s.0 c.loop-from.invariant.0 c.loop-from-test.true c.loop-from.invariant.1 c.put_byte-in-loop-from.ensures c.put_bytes-in-loop-from.ensures
          c.put_byte-in-loop-from-2.ensures,
    )

pub returns : goal.returns
returns c =
    all-table c.args.further c.put_table-n.ensures refl c.if-n-eq0.false c.put_bytes.ensures c.put_decimal.ensures c.put_byte.ensures
    (lines_end _ _ c.loop-from.from c.loop-from-test.false c.loop-from.invariant.1)
