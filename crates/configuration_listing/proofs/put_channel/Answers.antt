-- `configuration_listing::put_channel` meets its contract: the channel's number, a space, its count and the line's
-- end, or nothing. Assumes nothing.
use Rattle.text.proofs.RoomLaws.{puts-none, puts-then}
use Rattle.configuration_listing.proofs.Lines.{channel-line, no_line}
use Rattle.configuration_listing.proofs.put_channel.Goals as goal

pub returns-then-is_listed : goal.returns-then-is_listed
returns-then-is_listed c =
    rw (channel-line c.args.configuration c.args.channel c.channel_at.ensures c.is_listed.ensures c.if-is_listed.true c.count_channel.ensures) at
    (puts-then c.put_two.ensures (puts-then c.put_byte.ensures (puts-then c.put_decimal.ensures c.put_byte-then-is_listed.ensures)))

pub returns-else-is_listed : goal.returns-else-is_listed
returns-else-is_listed c =
    rw (no_line c.args.configuration c.args.channel c.channel_at.ensures c.is_listed.ensures c.if-is_listed.false) at (puts-none c.args.room.now)
