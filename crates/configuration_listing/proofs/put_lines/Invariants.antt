-- `configuration_listing::put_lines` meets its contract. The loop's invariant is `Goes`: whoever puts the lines that
-- are left has put them all. Assumes nothing.
use Prim.Native.Nat.{◌-◌, ◌≤◌}
use Rattle.text.proofs.RoomLaws.{Goes}
use Rattle.configuration_listing.specs.Listing.{lines_from}
use Rattle.configuration_listing.proofs.put_lines.Given as goal

abbrev pub invariant-loop-c : goal.invariant-loop-c
invariant-loop-c l = (l.c ≤ 16) × Goes l.initial.room (lines_from l.configuration 16 0) l.room (lines_from l.configuration (16 - l.c) l.c)
