-- `cards_fac::facilities` meets its contract. The loop's invariant: no entry before index k is wrong, so what the card
-- asks for is what is asked for so far and by those from there on. Assumes nothing.
use Prim.Native.Nat.{◌≤◌}
use mathlib.Core.Path.{◌≡◌}
use lib.ListN.{drop}
use Rattle.cards_fields.specs.Fields.{fields}
use Rattle.cards_fac.specs.Fac.{nothing, asks_of, asked_of}
use Rattle.cards_fac.proofs.facilities.Given as goal

abbrev pub invariant-loop-k : goal.invariant-loop-k
invariant-loop-k l = (2 ≤ l.k) × (asked_of (asks_of l.asks) (drop l.k (fields l.card)) ≡ asked_of nothing (drop 2 (fields l.card)))
