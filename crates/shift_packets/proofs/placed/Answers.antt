-- `shift_packets::placed` meets its contract: only a submission goes elsewhere. Assumes nothing.
use Rattle.shift_packets.proofs.placed.Goals as goal

pub returns-in-Submit : goal.returns-in-Submit
returns-in-Submit c = rw (c.in-Submit.is, c.spot_on-there.ensures)
