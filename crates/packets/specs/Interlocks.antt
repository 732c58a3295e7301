-- When a unit has interlock. An accepted call sets it if it is a failure there with one of "the codes that set
-- interlock", and clears it if it is 07 there or takes a job that gets the unit; no other call changes it. A reader has
-- to believe this page.
use Rattle.std.specs.Prelude.{ℕ, Bool, false, cond, ◌&&◌, ◌||◌, eqb, None, Some}
use Rattle.units.specs.State.{unit_in}
use Rattle.packets.specs.Rules.{Call, Do, Take, accept, is_trouble, site_of}
use Rattle.packets.specs.State.{State, held_by, motion_on, packet_in, same}
use Rattle.packets.specs.declared.Act.TheVariants.{Submit, Start, Complete, End, Return, Mark}
use Rattle.packets.specs.State.{Motion}
use Rattle.packets.specs.declared.Site.{Site}
use Rattle.packets.specs.declared.Site.TheVariants.{AtUnit}

-- unit u of channel c is the one at a on channel d; at an address of the drum there is none
abbrev pub is_that : ℕ → ℕ → ℕ → Site → Bool
is_that c u d a = eqb c d && same (AtUnit (record { 0 = u })) a

-- what moves on channel d is at unit u of channel c
abbrev pub carried_at : State → ℕ → Motion → ℕ → ℕ → Bool
carried_at s d None c u = false
carried_at s d (Some (j, p)) c u = is_that c u d (packet_in s.jobs j p).at

-- whether unit u of channel c has interlock after an accepted call
unfoldable pub interlock_after : State → Call → ℕ → ℕ → Bool
-- "its units without interlock": those that the job then has
interlock_after s (Take j asg) c u =
    cond (held_by (unit_in (accept s (Take j asg)).units c u).holder j) false (unit_in s.units c u).interlock
-- 07 clears it; 23 "doesn't touch interlock"
interlock_after s (Do (Submit j p f d w)) c u = cond (eqb f 0o07 && is_that c u d.0 (site_of w)) false (unit_in s.units c u).interlock
interlock_after s (Do (Start d)) c u = (unit_in s.units c u).interlock
-- "Any other failure code sets none", nor does any on the drum
interlock_after s (Do (Complete d how)) c u =
    (is_trouble s.codes how && carried_at s d.0 (motion_on s d.0) c u) || (unit_in s.units c u).interlock
interlock_after s (Do (End j e)) c u = (unit_in s.units c u).interlock
interlock_after s (Do (Return j d v)) c u = (unit_in s.units c u).interlock
interlock_after s (Do (Mark d v m on)) c u = (unit_in s.units c u).interlock
