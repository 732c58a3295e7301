-- A line that is a call on the request lists, answered from them alone, is answered as the page of replies says, with
-- the schedule that follows the answer. Assumes nothing.
use mathlib.Core.Path.{◌≡◌, sym, ap, ap₂, subst}
use mathlib.Core.Bool.{true, false≢true}
use mathlib.Core.List.{List}
use Prim.Native.Nat.{ℕ}
use Rattle.packets.specs.Rules.{Do}
use Rattle.packets.specs.declared.Act.{Act}
use Rattle.lists.specs.Outcomes.{outcome}
use Rattle.cell.specs.Calls.{cell_of, followed, acted}
use Rattle.cell.specs.declared.Cell.{Cell}
use Rattle.shift_script.specs.declared.Line.{Line}
use Rattle.shift_script.specs.declared.Line.TheVariants as Line'
use Rattle.shift_packets.specs.OnLists as OnLists
use Rattle.shift_packets.specs.OnLists.{is_for_lists, Handles}
use Rattle.shift_packets.specs.Texts.{placed}
use Rattle.shift_packets.specs.declared.Handled.{Handled}
use Rattle.shift_reply.specs.Followed.{followed_by, Followed}
use Rattle.shift_reply.specs.Replies.{Gives, Replies}
use Rattle.shift_reply.specs.declared.Replied.{Replied}

abbrev reply_of : Cell → Handled → Replied
reply_of cell h = record { cell = followed_by cell.schedule h; at = h.at }

-- the outcome of a call, with the schedule that follows
given : (cell : Cell) (x : Act) (room after : List ℕ) (h : Handled) → OnLists.Gives (outcome cell.lists (Do x)) room after h
    → Gives (acted cell x) room after (reply_of cell h)
unfolding acted
given cell x room after h g =
    record { cell = ap₂ cell_of (ap (followed cell.schedule) g.answer) g.lists; put = g.put }

-- what a line that is a call on the request lists leaves, with the schedule that follows, is its reply
pub followed-replies : (cell : Cell) (call : Line) (id line room after : List ℕ) (h : Handled) → is_for_lists call ≡ true
    → Handles cell.lists call room after h → Replies cell call id line room after (reply_of cell h)
followed-replies cell Line'.NoCall id line room after h e g = absurd (false≢true e)
followed-replies cell Line'.Echo id line room after h e g = absurd (false≢true e)
followed-replies cell Line'.Deck id line room after h e g = absurd (false≢true e)
followed-replies cell Line'.Select id line room after h e g = absurd (false≢true e)
followed-replies cell Line'.Board id line room after h e g = absurd (false≢true e)
followed-replies cell (Line'.Do act) id line room after h e g = given cell (placed cell.lists.channels act) room after h g
followed-replies cell Line'.Release id line room after h e g = absurd (false≢true e)
followed-replies cell Line'.Delete id line room after h e g = absurd (false≢true e)
followed-replies cell (Line'.Status p k) id line room after h e g =
    record { cell = ap₂ cell_of (ap (followed cell.schedule) g.answer) g.lists; put = g.put }
followed-replies cell Line'.Key id line room after h e g = absurd (false≢true e)

-- what such a line is said to leave is what its reply is
pub replies-followed : (cell : Cell) (call : Line) (id line room after : List ℕ) (r : Replied) → is_for_lists call ≡ true
    → Followed cell call room after r → Replies cell call id line room after r
replies-followed cell call id line room after r e f =
    subst (λ (q : Replied). Replies cell call id line room after q) (sym f.is)
    (followed-replies cell call id line room after f.handled e f.handles)
