-- `shift_turns::opened` meets its contract: by what the text begins. Assumes nothing.
use Rattle.shift_turns.proofs.opened.Goals as goal

pub returns-in-More : goal.returns-in-More
returns-in-More c = rw c.in-More.is c.turned.ensures

pub returns-in-Good : goal.returns-in-Good
returns-in-Good c = rw (c.in-Good.is, ← c.fresh.ensures) c.turned-in-Good.ensures

pub returns-in-Bad : goal.returns-in-Bad
returns-in-Bad c = rw c.in-Bad.is c.turned-in-Bad.ensures
