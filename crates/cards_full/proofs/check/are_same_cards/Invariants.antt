-- `cards_full::check::are_same_cards` meets its contract. The loop's invariant: all are the same exactly if those from k
-- on are. Assumes nothing.
use mathlib.Core.Path.{◌≡◌}
use lib.ListN.{drop}
use Rattle.cards_full.specs.Full.{same_cards}
use Rattle.cards_full.proofs.check.are_same_cards.Given as goal

abbrev pub invariant-loop-k : goal.invariant-loop-k
invariant-loop-k l = same_cards (drop l.k l.c) (drop l.k l.d) ≡ same_cards l.c l.d
