-- What the functions that keep the list say to each other, and whether a packet of it can start. Nothing here has to
-- be believed: Padded, and Rules of packets, say what comes out.
use Rattle.std.specs.Prelude.{ℕ, ◌≤◌, ◌<◌, ◌≡◌, Bool, false, cond, not, ◌&&◌, List, [], length, take, get_or, replicate, eqb, ltb}
use Rattle.units.specs.declared.Unit.{Unit as UnitState}
use Rattle.units.specs.State.{fresh_unit, unit_in}
use Rattle.packets.specs.State.{relist}
use Rattle.packets.specs.declared.Packet.{Packet}
use Rattle.packets.specs.declared.RequestList.{RequestList}
use Rattle.packets.specs.declared.Site.{Site}
use Rattle.packets.specs.declared.Site.TheVariants.{AtAddress, AtUnit}
use Rattle.packets_queue.specs.Padded.{Tidy, padded}

-- a number below 16
pub record Within (n r : ℕ) : Type 0 where
  pub is : r ≡ n
  pub small : r < 16

-- how many of these entries a list with this count has; a list has no more than 256
unfoldable pub size_of : List ℕ → ℕ → ℕ
size_of entries count = cond (ltb 256 (length entries)) 0 (cond (ltb (length entries) count) (length entries) count)

pub record Sized (entries : List ℕ) (count n : ℕ) : Type 0 where
  pub is : n ≡ size_of entries count
  pub few : n ≤ 256
  pub within : n ≤ length entries

-- the packets of the list of these entries and this count
abbrev pub listed : List ℕ → ℕ → List ℕ
listed entries count = take (size_of entries count) entries

-- that list without those packets of place j that are no longer listed
pub record Relisted (j : ℕ) (ps : List Packet) (old : List ℕ) (count : ℕ) (r : RequestList) : Type 0 where
  pub is : r ≡ padded (relist j ps (listed old count))
  pub tidy : Tidy r

-- the interlock of unit u of a channel with these units
abbrev pub lock_in : List UnitState → ℕ → Bool
lock_in row u = (get_or row u (fresh_unit false)).interlock

-- the interlock where a packet is
abbrev pub lock_at : List UnitState → Site → Bool
lock_at row (AtUnit u) = lock_in row u.0
lock_at row (AtAddress x) = false

-- the units of channel c, and their interlocks; units without interlock where the cell has no such channel
unfoldable pub row_in : List (List UnitState) → ℕ → List UnitState
row_in grid c = cond (ltb c 16) (get_or grid c []) (replicate 16 (fresh_unit false))

pub record RowOf (grid : List (List UnitState)) (c : ℕ) (row : List UnitState) : Type 0 where
  pub is : row ≡ row_in grid c
  pub locks : (u : ℕ) → lock_in row u ≡ (unit_in grid c u).interlock

-- a listed packet can start on channel c with these units
abbrev pub can_start : List UnitState → ℕ → Packet → Bool
can_start row c p = eqb p.channel.0 c && not (lock_at row p.at)
