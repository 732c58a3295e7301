-- What is answered to a line that is a call on the request lists alone, and the lists then, without the cell around
-- them. Nothing on this page has to be believed: contracts cite it. crates/shift_reply/proofs/FollowedLaws shows that
-- with the schedule that follows it comes to the same as page Replies there.
use Rattle.std.specs.Prelude.{ℕ, ◌≡◌, Bool, true, false, List, []}
use Rattle.text.specs.Room.{Written}
use Rattle.packets.specs.Rules.{Do}
use Rattle.packets.specs.declared.Acted.{Acted}
use Rattle.packets.specs.declared.Answer.TheVariants as Answer'
use Rattle.packets.specs.declared.Lists.{Lists}
use Rattle.lists.specs.Outcomes.{outcome, status_in}
use Rattle.shift_script.specs.declared.Line.{Line}
use Rattle.shift_script.specs.declared.Line.TheVariants as Line'
use Rattle.shift_packets.specs.Texts.{answer_text, placed, status_answer_text}
use Rattle.shift_packets.specs.declared.Handled.{Handled}

-- whether a line is a call on the request lists: they say all that is answered to it
abbrev pub is_for_lists : Line → Bool
is_for_lists Line'.NoCall = false
is_for_lists Line'.Echo = false
is_for_lists Line'.Deck = false
is_for_lists Line'.Select = false
is_for_lists Line'.Board = false
is_for_lists (Line'.Do act) = true
is_for_lists Line'.Release = false
is_for_lists Line'.Delete = false
is_for_lists (Line'.Status place packet) = true
is_for_lists Line'.Key = false

-- ---- what a line leaves: the text from the room's start on, cut at its end, the call's answer, and the lists

-- this text, and this outcome
pub record Tells (text : List ℕ) (next : Acted) (room after : List ℕ) (r : Handled) : Type 0 where
  pub lists : r.lists ≡ next.lists
  pub answer : r.answer ≡ next.answer
  pub put : Written room 0 text after r.at

-- the outcome of a call, and the line of its answer
abbrev pub Gives : Acted → List ℕ → List ℕ → Handled → Type 0
Gives a room after r = Tells (answer_text a.answer) a room after r

-- nothing was done
abbrev pub nothing_done : Lists → Acted
nothing_done lists = record { lists = lists; answer = Answer'.Done }

-- a line that is no call on the lists: nothing is put and nothing changes
abbrev pub NotHere : Lists → List ℕ → List ℕ → Handled → Type 0
NotHere lists room after r = Tells [] (nothing_done lists) room after r

-- THE ANSWER TO A LINE THAT IS A CALL ON THE REQUEST LISTS
abbrev pub Handles : Lists → Line → List ℕ → List ℕ → Handled → Type 0
Handles lists Line'.NoCall room after r = NotHere lists room after r
Handles lists Line'.Echo room after r = NotHere lists room after r
Handles lists Line'.Deck room after r = NotHere lists room after r
Handles lists Line'.Select room after r = NotHere lists room after r
Handles lists Line'.Board room after r = NotHere lists room after r
Handles lists (Line'.Do act) room after r = Gives (outcome lists (Do (placed lists.channels act))) room after r
Handles lists Line'.Release room after r = NotHere lists room after r
Handles lists Line'.Delete room after r = NotHere lists room after r
Handles lists (Line'.Status place packet) room after r =
    Tells (status_answer_text (status_in lists place packet)) (nothing_done lists) room after r
Handles lists Line'.Key room after r = NotHere lists room after r
