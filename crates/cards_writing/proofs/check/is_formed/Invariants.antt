-- `cards_writing::check::is_formed` meets its contract. The loop's invariant: `over` says whether a blank was passed,
-- and nothing but blanks followed one. Assumes nothing.
use mathlib.Core.Path.{◌≡◌}
use mathlib.Core.Bool.{false}
use lib.ListN.{drop}
use Rattle.cards_writing.specs.Writing.{formed_from}
use Rattle.cards_writing.proofs.check.is_formed.Given as goal

abbrev pub invariant-loop-b : goal.invariant-loop-b
invariant-loop-b l = formed_from l.over (drop l.b-index l.name) ≡ formed_from false l.name
