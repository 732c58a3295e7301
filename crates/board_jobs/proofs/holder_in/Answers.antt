-- `board_jobs::holder_in` meets its contract: the first place whose job holds the block. Assumes nothing.
use Rattle.board_jobs.proofs.Searches.{holder-by_position}
use Rattle.board_jobs.proofs.holder_in.Goals as goal

pub returns-in-Some : goal.returns-in-Some
returns-in-Some c = holder-by_position c.args.jobs c.args.block (rw (← c.in-Some.ensures) c.digit.ensures)

pub returns-in-None : goal.returns-in-None
returns-in-None c = holder-by_position c.args.jobs c.args.block (rw (← c.in-None.ensures) (λ i. 46))
