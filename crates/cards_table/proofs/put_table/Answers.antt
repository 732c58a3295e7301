-- `cards_table::put_table` meets its contract: the rows put are the table by place, and the room, lent as a slice, has
-- 660 bytes. Assumes nothing.
use native.Mathlib.Omega.{arith}
use Rattle.cards_table.proofs.TableLaws.{table-put}
use Rattle.cards_table.proofs.put_table.Goals as goal

pub returns : goal.returns
returns c = table-put c.args.further (omega arith) c.put_rows.ensures.written
