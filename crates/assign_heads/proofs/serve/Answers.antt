-- `assign_heads::serve` meets its contract: the choice and the giving make it together. Assumes nothing.
use Rattle.assign_channels.proofs.ChoiceLaws.{found-least, found_none}
use native.Mathlib.Omega.{arith}
use borrow.Author.Tests.{not-true, not-false}
use Rattle.assign_heads.proofs.ServingLaws.{owners-logical, chosen, lacking}
use borrow.Author.Rules.{rules}
use Rattle.assign_heads.proofs.serve.Goals as goal

pub returns-then-not-picks : goal.returns-then-not-picks
returns-then-not-picks c =
    lacking (omega arith) (search rules) c.free_counts-counts.ensures
    (found_none c.free_counts-counts.result c.args.wants c.choose-picks.result (not-true c.choose-picks.result.ok c.if-not-picks.true) c.choose-picks.ensures)

pub give-next-requires : goal.give-next-requires
give-next-requires c = owners-logical c.owners-own.ensures

pub returns : goal.returns
returns c =
    chosen (omega arith) (search rules) c.free_counts-counts.ensures
    (found-least c.free_counts-counts.result c.args.wants c.choose-picks.result (not-false c.choose-picks.result.ok c.if-not-picks.false)
    c.choose-picks.ensures)
    c.owners-own.ensures c.give-next.ensures
