-- `cards_tal::entry_error` meets its contract: an entry is cut at its first slash. Assumes nothing.
use mathlib.Core.Path.{sym, ◌∙◌}
use native.Mathlib.Omega.{arith}
use lib.Seq.{length-take-le}
use Rattle.std.proofs.lemmas.Bool.Decides.{nat_tests}
use Rattle.cards_tal.proofs.TalLaws.{at_most, entry-uncut, entry-nameless, entry_named}
use Rattle.cards_tal.proofs.entry_error.Goals as goal

pub slice_bounds-is_name-end : goal.slice_bounds-is_name-end
slice_bounds-is_name-end c = sym (length-take-le c.until-at.result c.args.t.now (at_most c.args.t.now c.until-at.result c.until-at.ensures))

pub returns-then-at-t : goal.returns-then-at-t
returns-then-at-t c = grind (arith, nat_tests, entry-uncut, entry-nameless)

pub overflow_add-at : goal.overflow_add-at
overflow_add-at c = omega (arith, at_most c.args.t.now c.until-at.result c.until-at.ensures, c.if-at-t.false)

pub slice_bounds-number_error-count : goal.slice_bounds-number_error-count
slice_bounds-number_error-count c = omega (arith, at_most c.args.t.now c.until-at.result c.until-at.ensures, c.if-at-t.false)

pub slice_bounds-number_error-start : goal.slice_bounds-number_error-start
slice_bounds-number_error-start c = omega (arith, at_most c.args.t.now c.until-at.result c.until-at.ensures, c.if-at-t.false)

pub returns : goal.returns
returns c =
    c.number_error.ensures ∙ entry_named c.args.t.now c.until-at.result c.until-at.ensures c.if-at-t.false (sym c.is_name.ensures ∙ c.if-not-is_name.false)
