-- `cards_writing::put::put_field` meets its contract: the field of each arm. Assumes nothing.
use Rattle.text.proofs.RoomLaws.{puts-none}
use Rattle.cards_writing.specs.Writing.{pty_fields}
use Rattle.cards_writing.proofs.PutLaws.{no_field}
use Rattle.std.proofs.Common.{arith}
use Rattle.cards_writing.proofs.put.put_field.Goals as goal

pub returns-in-0 : goal.returns-in-0
unfolding pty_fields
returns-in-0 c = rw c.in-0.is c.put_name.ensures

pub returns-in-1 : goal.returns-in-1
unfolding pty_fields
returns-in-1 c = rw c.in-1.is c.put_bytes.ensures

pub returns-in-2 : goal.returns-in-2
unfolding pty_fields
returns-in-2 c = rw c.in-2.is c.put_decimal.ensures

pub returns-in-3 : goal.returns-in-3
unfolding pty_fields
returns-in-3 c = rw c.in-3.is c.put_mark.ensures

pub returns-in-4 : goal.returns-in-4
unfolding pty_fields
returns-in-4 c = rw c.in-4.is c.put_name-in-4.ensures

pub returns-in-5 : goal.returns-in-5
unfolding pty_fields
returns-in-5 c = rw c.in-5.is c.put_mark-in-5.ensures

pub returns-in-6 : goal.returns-in-6
unfolding pty_fields
returns-in-6 c = rw c.in-6.is c.put_mark-in-6.ensures

pub returns-in-7 : goal.returns-in-7
unfolding pty_fields
returns-in-7 c = rw c.in-7.is c.put_name-in-7.ensures

pub returns-in-8 : goal.returns-in-8
unfolding pty_fields
returns-in-8 c = rw c.in-8.is c.put_mark-in-8.ensures

pub returns-in-9 : goal.returns-in-9
unfolding pty_fields
returns-in-9 c = rw c.in-9.is c.put_priority.ensures

pub returns-in-10 : goal.returns-in-10
unfolding pty_fields
returns-in-10 c = rw c.in-10.is c.put_mark-in-10.ensures

pub returns-in-11 : goal.returns-in-11
unfolding pty_fields
returns-in-11 c = rw c.in-11.is c.put_decimal-in-11.ensures

pub returns-in-12 : goal.returns-in-12
unfolding pty_fields
returns-in-12 c = rw c.in-12.is c.put_mark-in-12.ensures

pub returns-in-13 : goal.returns-in-13
unfolding pty_fields
returns-in-13 c = rw c.in-13.is c.put_name-in-13.ensures

pub returns-in_default : goal.returns-in_default
returns-in_default c =
    rw (no_field c.args.n c.args.r c.args.k (omega arith)) (puts-none c.args.room.now)
