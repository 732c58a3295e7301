-- What reading groups, and entering a deck, leave in lent room and answer.
use Rattle.std.specs.Prelude.{◌≡◌, List, ℕ, Ok}
use Rattle.text.specs.Room.{Written, Whole, Puts}
use Rattle.text.specs.declared.room.Room.{Room}
use Rattle.schedule_list.specs.declared.Schedule.{Schedule}
use Rattle.schedule_deck.specs.Report.{begin, errors_from, end_from, notes_text, deck_text}
use Rattle.schedule_deck.specs.Report.{deck_notes, deck_schedule, deck_outcome}
use Rattle.schedule_deck.specs.declared.Progress.{Progress}
use Rattle.schedule_deck.specs.declared.Entered.{Entered}

-- all groups, after what was read before them, and from the room's index on
pub record ReadAll (room : Room) (start : Progress) (gs : List (List (List ℕ))) (after· : Room) (r : Progress) : Type 0 where
  pub text : Puts room (errors_from start gs) after·
  pub then : r ≡ end_from start gs

-- all groups of a deck that is not refused, with the last line
pub record Noted (room : List ℕ) (schedule : Schedule) (gs : List (List (List ℕ))) (after· : List ℕ) (r : Entered) : Type 0 where
  pub done : r.outcome ≡ Ok tt
  pub then : r.schedule ≡ (end_from (begin schedule) gs).schedule
  pub text : Written room 0 (notes_text schedule gs) after· r.at

-- A DECK REPORTED: what the deck program prints
pub record Reported (s room after· : List ℕ) (r : ℕ) : Type 0 where
  pub text : Whole (deck_text s) room after· r

-- A DECK ENTERED: each part of the answer, and the room
pub record DeckEntered (schedule : Schedule) (s room after· : List ℕ) (r : Entered) : Type 0 where
  pub outcome : r.outcome ≡ deck_outcome s
  pub then : r.schedule ≡ deck_schedule schedule s
  pub text : Whole (deck_notes schedule s) room after· r.at
