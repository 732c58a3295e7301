-- `board_jobs::put_place` meets its contract, by cases on the place's state. Assumes nothing.
use Rattle.text.proofs.RoomLaws.{puts-none}
use Rattle.board_jobs.proofs.put_place.Goals as goal

pub returns-in-Empty : goal.returns-in-Empty
returns-in-Empty c =
    rw c.in-Empty.is (puts-none c.args.out.now)

pub returns-in-Running : goal.returns-in-Running
returns-in-Running c = rw c.in-Running.is c.put_job.ensures
