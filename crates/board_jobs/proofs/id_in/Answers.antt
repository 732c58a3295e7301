-- `board_jobs::id_in` meets its contract: the first entry in the place has the ID. Assumes nothing.
use Rattle.std.proofs.Common.{refl}
use Rattle.board_jobs.proofs.Searches.{id-by_find}
use Rattle.board_jobs.proofs.id_in.Goals as goal

pub returns-in-Some : goal.returns-in-Some
returns-in-Some c = id-by_find c.args.entries.now c.args.place (rw (← c.in-Some.ensures) refl)

pub returns-in-None : goal.returns-in-None
returns-in-None c = id-by_find c.args.entries.now c.args.place (rw (← c.in-None.ensures) refl)
