-- `board_units::put_holder` meets its contract, by cases on who holds the unit. Assumes nothing.
use Rattle.text.proofs.RoomLaws.{puts-none}
use Rattle.board_units.proofs.put_holder.Goals as goal

pub returns-in-Free : goal.returns-in-Free
returns-in-Free c =
    rw c.in-Free.is (puts-none c.args.out.now)
