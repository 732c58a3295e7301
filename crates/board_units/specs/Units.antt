-- The board's lines of units. "for each configured channel but the drum's and each unit, ascending, that isn't free and
-- unmarked: `UNIT cc/uu` and then, of these words, those that hold: `HELD p`, `DOWN`, `RESERVED`, `LOCKED` (interlock,
-- shown only while held)". "a unit being returned shows the word `RETURNING` directly behind `HELD p`" (02, request 5).
use Rattle.std.specs.Prelude.{ℕ, min, Bool, false, cond, List, [], ◌++◌, get_or}
use Rattle.numbers.specs.Quoted.{bytes}
use Rattle.text.specs.Writing.{decimal_text}
use Rattle.units.specs.State.{unit_in, is_free, is_returning, assignable}
use Rattle.units.specs.declared.Holder.{Holder}
use Rattle.units.specs.declared.Holder.TheVariants.{Free, Held, Returning}
use Rattle.units.specs.declared.Unit.{Unit}
use Rattle.channels.specs.Channels.{no_channel, units_of}
use Rattle.channels.specs.declared.Channel.{Channel}
use Rattle.answer_pieces.specs.Pieces.{unit_text, word_text, each}

-- ` HELD p`
abbrev pub held_text : ℕ → List ℕ
held_text place = bytes " HELD " ++ decimal_text place

-- who holds a unit; one that is being returned is held until then
abbrev pub holder_text : Holder → List ℕ
holder_text Free = []
holder_text (Held place) = held_text place
holder_text (Returning place) = held_text place

-- interlock, shown only while held
abbrev pub is_locked : Unit → Bool
is_locked unit = cond (is_free unit.holder) false unit.interlock

-- a unit and the words that hold of it
unfoldable pub state_text : ℕ → ℕ → Unit → List ℕ
state_text c u unit =
    bytes "UNIT "
    ++ (unit_text c u
    ++ (holder_text unit.holder
    ++ (word_text (is_returning unit.holder) (bytes " RETURNING")
    ++ (word_text unit.down (bytes " DOWN")
    ++ (word_text unit.reserved (bytes " RESERVED") ++ (word_text (is_locked unit) (bytes " LOCKED") ++ bytes "\n"))))))

-- the line of a unit that isn't free and unmarked
unfoldable pub unit_line : ℕ → ℕ → Unit → List ℕ
unit_line c u unit = cond (assignable unit) [] (state_text c u unit)

-- the lines of a channel's units, as many as it has, 16 at most; the drum has none
unfoldable pub channel_text : List (List Unit) → ℕ → Channel → List ℕ
channel_text grid c channel = each (λ u. unit_line c u (unit_in grid c u)) (min (units_of channel) 16)

-- THE LINES OF UNITS
abbrev pub units_text : List Channel → List (List Unit) → List ℕ
units_text channels grid = each (λ c. channel_text grid c (get_or channels c no_channel)) 16
