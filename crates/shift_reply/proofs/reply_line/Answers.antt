-- `shift_reply::reply_line` meets its contract: what the line says is what was answered. Assumes nothing.
use mathlib.Core.Path.{refl}
use Rattle.text.proofs.RoomLaws.{none}
use Rattle.shift_reply.proofs.ReplyLaws.{shown, gives_as, keys-as}
use Rattle.shift_reply.proofs.FollowedLaws.{replies-followed}
use Rattle.shift_reply.proofs.reply_line.Goals as goal

pub returns-in-NoCall : goal.returns-in-NoCall
returns-in-NoCall c =
    rw c.in-NoCall.is c.no_call.ensures

pub returns-in-Echo : goal.returns-in-Echo
returns-in-Echo c =
    rw c.in-Echo.is c.echo.ensures

pub returns-in-Deck : goal.returns-in-Deck
returns-in-Deck c =
    rw c.in-Deck.is (shown c.unchanged.ensures (none c.args.out.now 0))

pub returns-in-Select : goal.returns-in-Select
returns-in-Select c = rw c.in-Select.is c.select.ensures

pub returns-in-Board : goal.returns-in-Board
returns-in-Board c = rw c.in-Board.is c.board.ensures

pub returns-in-Do : goal.returns-in-Do
returns-in-Do c =
    replies-followed c.args.cell c.args.said.line c.args.said.id c.args.line.now
    c.args.out.now _ _ (rw c.in-Do.is refl) c.on_lists.ensures

pub returns-in-Release : goal.returns-in-Release
returns-in-Release c =
    rw c.in-Release.is (gives_as c.release.ensures c.with_answer.ensures)

pub returns-in-Delete : goal.returns-in-Delete
returns-in-Delete c =
    rw c.in-Delete.is (gives_as c.delete.ensures c.with_answer-in-Delete.ensures)

pub returns-in-Status : goal.returns-in-Status
returns-in-Status c =
    replies-followed c.args.cell c.args.said.line c.args.said.id c.args.line.now
    c.args.out.now _ _ (rw c.in-Status.is refl) c.on_lists-in-Status.ensures

pub returns-in-Key : goal.returns-in-Key
returns-in-Key c =
    rw c.in-Key.is (keys-as c.args.cell c.message_in.ensures c.key.ensures)
