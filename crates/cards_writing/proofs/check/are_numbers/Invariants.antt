-- `cards_writing::check::are_numbers` meets its contract. The loop's invariant: the numbers before slot k fit, so
-- whether all do is said by those from there on. Assumes nothing.
use mathlib.Core.Path.{◌≡◌}
use lib.ListN.{drop}
use Rattle.cards_fac.specs.Fac.{asks_of}
use Rattle.cards_writing.specs.Writing.{numbers_fit}
use Rattle.cards_writing.proofs.check.are_numbers.Given as goal

abbrev pub invariant-loop-k : goal.invariant-loop-k
invariant-loop-k l = numbers_fit l.k (drop l.k (asks_of l.f)) ≡ numbers_fit 0 (asks_of l.f)
