-- `cards_writing::put::put_fields` meets its contract. The loop's invariant: whoever puts a comma and each field from
-- index k on, and the period, has put all. Assumes nothing.
use mathlib.Core.Path.{◌≡◌}
use lib.ListN.{length, drop}
use Rattle.text.proofs.RoomLaws.{Goes}
use Rattle.cards_fields.specs.Fields.{tail_text}
use Rattle.cards_writing.specs.Writing.{pty_fields, trimmed}
use Rattle.cards_writing.proofs.put.put_fields.Given as goal

abbrev pub invariant-loop-k : goal.invariant-loop-k
invariant-loop-k l =
    (l.count ≡ length (trimmed (pty_fields l.n l.r)))
    × Goes l.initial.room (tail_text (drop 1 (trimmed (pty_fields l.n l.r)))) l.room (tail_text (drop l.k (trimmed (pty_fields l.n l.r))))
