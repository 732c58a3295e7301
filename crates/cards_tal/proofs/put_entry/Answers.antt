-- `cards_tal::put_entry` meets its contract: its name, a slash, its number. Assumes nothing.
use mathlib.Core.Path.{refl, sym}
use native.Mathlib.Omega.{arith}
use lib.Seq.{length-take-le}
use Rattle.cards_tal.proofs.TalLaws.{at_most, put-numberless, put-number}
use Rattle.cards_tal.proofs.put_entry.Goals as goal

pub slice_bounds-put_name-end : goal.slice_bounds-put_name-end
slice_bounds-put_name-end c = sym (length-take-le c.until-cut.result c.args.t.now (at_most c.args.t.now c.until-cut.result c.until-cut.ensures))

pub returns-then-cut-t : goal.returns-then-cut-t
returns-then-cut-t c = put-numberless c.args.t.now c.until-cut.result c.until-cut.ensures c.put_name.ensures c.put_byte.ensures c.put_decimal.ensures c.if-cut-t.true refl

pub overflow_add-cut : goal.overflow_add-cut
overflow_add-cut c = omega (arith, at_most c.args.t.now c.until-cut.result c.until-cut.ensures)

pub slice_bounds-number_of-count : goal.slice_bounds-number_of-count
slice_bounds-number_of-count c = omega (arith, at_most c.args.t.now c.until-cut.result c.until-cut.ensures)

pub slice_bounds-number_of-start : goal.slice_bounds-number_of-start
slice_bounds-number_of-start c = omega (arith, at_most c.args.t.now c.until-cut.result c.until-cut.ensures)

pub returns : goal.returns
returns c = put-number c.args.t.now c.until-cut.result c.until-cut.ensures c.put_name.ensures c.put_byte.ensures c.put_decimal-2.ensures c.number_of.ensures
