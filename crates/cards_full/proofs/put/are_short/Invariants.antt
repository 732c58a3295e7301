-- `cards_full::put::are_short` meets its contract. The loop's invariant: all are short exactly if those from i on are.
-- Assumes nothing.
use Prim.Native.Nat.{ℕ, ◌+◌}
use mathlib.Core.Path.{◌≡◌}
use mathlib.Core.List.{List}
use lib.ListN.{length, take, drop}
use Rattle.cards_request.specs.Requests.{texts_in}
use Rattle.cards_full.specs.Full.{behind_id, short}
use Rattle.cards_full.proofs.put.are_short.Given as goal

abbrev pub invariant-loop-i : goal.invariant-loop-i
invariant-loop-i l =
    (id : List ℕ) → length id + 1 ≡ l.before
    → short (behind_id id (texts_in (drop l.i (take l.n l.cards)))) ≡ short (behind_id id (texts_in (take l.n l.cards)))
