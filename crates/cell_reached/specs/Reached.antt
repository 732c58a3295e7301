-- WHAT HOLDS OF EVERY REACHED CELL. Packets, request list and motions are in order; no two jobs hold the same words of
-- drum or blocks of core. A running or closing job holds exactly what it was given at its selection less what it has
-- returned. An empty place holds no unit. A reader has to believe this page.
use Rattle.std.specs.Prelude.{ℕ, List}
use Rattle.channels.specs.declared.Configuration.{Configuration}
use Rattle.packets.specs.Always.{Always}
use Rattle.packets.specs.Apart.{Apart, in_core}
use Rattle.packets.specs.Rules.{in_area}
use Rattle.packets_given.specs.Given.{AsGiven, AtItsArea}
use Rattle.cell.specs.declared.Cell.{Cell}
use Rattle.cell_history.specs.Told.{inside, told}
use Rattle.cell_history.specs.History.{Event, Reached}

pub record InOrder (es : List Event) (c : Cell) : Type 0 where
  -- listed packets are exactly those in the list, one packet moves per channel, and a listed or moving packet's
  -- unit is held by its job
  pub always : Always (inside c)
  -- no word of the drum, and no block of core, is two jobs'
  pub drum : Apart in_area (inside c)
  pub core : Apart in_core (inside c)
  -- a packet that is listed or moves on the drum is at an address of its job's area
  pub addresses : AtItsArea (inside c)
  -- what was given, by the reply to the last selection into each place, less what was returned, by the replies since then
  pub given : (place : ℕ) → AsGiven (told es) (inside c) place

abbrev pub Invariants : Type 0
Invariants = (configuration : Configuration) (es : List Event) (c : Cell) → Reached configuration es c → InOrder es c
