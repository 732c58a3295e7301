-- `board_units::put_state` meets its contract: one piece after the other. Assumes nothing.
use Prim.Native.Nat.{ℕ}
use mathlib.Core.Path.{◌≡◌, subst}
use mathlib.Core.Bool.{Bool}
use mathlib.Core.List.{List}
use Rattle.numbers.specs.Quoted.{bytes}
use Rattle.text.specs.declared.room.Room.{Room}
use Rattle.text.specs.Room.{Puts}
use Rattle.text.proofs.RoomLaws.{puts-then}
use Rattle.answer_pieces.specs.Pieces.{word_text}
use Rattle.board_units.specs.Units.{state_text}
use Rattle.board_units.proofs.put_state.Goals as goal

-- a word that is put by what a function answered, by what it promises
worded : {b d : Bool} {room after : Room} (word : List ℕ) → b ≡ d → Puts room (word_text b word) after → Puts room (word_text d word) after
worded {room = room} {after = after} word e h = subst (λ (x : Bool). Puts room (word_text x word) after) e h

pub returns : goal.returns
unfolding state_text
returns c =
    puts-then c.put_bytes.ensures (puts-then c.put_unit.ensures
    (puts-then c.put_holder.ensures (puts-then (worded (bytes " RETURNING") c.is_returning-returning.ensures c.put_word.ensures)
    (puts-then c.put_word-2.ensures (puts-then c.put_word-3.ensures
    (puts-then (worded (bytes " LOCKED") c.is_locked.ensures c.put_word-4.ensures) c.put_byte.ensures))))))
