-- `packets_queue::with_entry` meets its contract: room or no room. Assumes nothing.
use Rattle.std.proofs.Common.{arith}
use Rattle.packets_queue.proofs.Relist.{entry-full, entry-joins}
use Rattle.packets_queue.proofs.with_entry.Goals as goal

pub returns-then-next-lt256 : goal.returns-then-next-lt256
returns-then-next-lt256 c = entry-joins c.args.list c.requires c.args.e (omega arith)

pub returns-else-next-lt256 : goal.returns-else-next-lt256
returns-else-next-lt256 c = entry-full c.args.list c.requires c.args.e (omega arith)
