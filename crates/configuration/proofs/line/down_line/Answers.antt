-- `configuration::line::down_line` meets its contract: both numbers lie within the text. Assumes nothing.
use Rattle.std.proofs.Common.{◌≡◌, ◌∙◌, ap, drop, Some, arith}
use Rattle.std.proofs.lemmas.Grind.{common_steps}
use Rattle.configuration.specs.Lines.{up_to_15, down_line}
use Rattle.configuration.proofs.Told.{told, lent}
use Rattle.configuration.proofs.Within.{up_within, up_small}
use Rattle.configuration.proofs.line.down_line.Goals as goal

pub slice_bounds-up_to_15-count : goal.slice_bounds-up_to_15-count
slice_bounds-up_to_15-count c = up_within 32 c.args.s.now (omega arith) (told c.up_to_15.ensures c.in_ok-up_to_15.was)

pub slice_bounds-up_to_15-start : goal.slice_bounds-up_to_15-start
slice_bounds-up_to_15-start c = search (arith, up_within 32 c.args.s.now (omega arith) (told c.up_to_15.ensures c.in_ok-up_to_15.was))

pub returns : goal.returns
unfolding down_line
returns c =
    let p = told c.up_to_15.ensures c.in_ok-up_to_15.was in
    let q : up_to_15 10 (drop 3 c.args.s.now) ≡ Some c.in_ok-up_to_15-2.field-0 = told (c.up_to_15-2.ensures ∙ ap (up_to_15 10) (lent c.args.s.now 3)) c.in_ok-up_to_15-2.was in
    record {
      is = rw (p, q);
      fits = (up_small 32 c.args.s.now p, up_small 10 (drop 3 c.args.s.now) q, grind (arith, common_steps, up_within 10 (drop 3 c.args.s.now) (omega arith) q));
    }
