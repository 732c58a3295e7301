-- What owning a value tells of the numbers and names in it: each is what its type lets it be. Assumes nothing.
use Prim.Native.Nat.{ℕ, ◌^◌, ◌≤◌, ◌<◌}
use mathlib.Core.Bool.{false}
use mathlib.Core.List.{List, []}
use native.Mathlib.Omega.{arith}
use mathlib.Core.Path.{◌≡◌}
use lib.ListN.{length, get_or}
use mir.Val.{Val}
use denote.Laws.{Is}
use denote.Struct.Field.{array_field, row_field}
use denote.Array.{Array}
use denote.Builtin.{u8}
use Rattle.numbers.specs.Limits.{most_requests}
use Rattle.schedule_entries.specs.Entries.{blank}
use Rattle.schedule_entries.specs.declared.Entry.{Entry}
use Rattle.schedule_entries.specs.contracts.Entry as Entry'
use Rattle.schedule_list.specs.declared.Schedule.{Schedule}
use Rattle.schedule_list.specs.contracts.Schedule as Schedule'
use Rattle.units.specs.State.{fresh_unit, unit_in}
use Rattle.units.specs.declared.Holder.{Holder}
use Rattle.units.specs.declared.Holder.TheVariants.{Free, Held, Returning}
use Rattle.units.specs.declared.Unit.{Unit as UnitState}
use Rattle.units.specs.declared.Units.{Units}
use Rattle.units.specs.contracts.Holder as Holder'
use Rattle.units.specs.contracts.Unit as Unit'
use Rattle.units.specs.contracts.Units as Units'
use Rattle.packets.specs.State.{Motion, no_job}
use Rattle.std.specs.Prelude.{None, Some}
use Rattle.packets.specs.declared.Lists.{Lists}
use Rattle.packets.specs.contracts.Job as Job'
use Rattle.packets.specs.contracts.Carrier as Carrier'
use Rattle.packets.specs.contracts.Lists as Lists'
use Rattle.cards_further.proofs.Elements.{Some as Owned, everywhere, everywhere_row, long_row}
use Rattle.board_lists.specs.Lines.{idle}
use Rattle.text.specs.Room.{Written}
use Rattle.text.proofs.RoomLaws.{fitted}
use Rattle.board.specs.Board.{board_text, Boarded}
use Rattle.board.proofs.Bounds.{ByteHolder, ByteMotion, InTypes, board-bound}

-- ---- the types in their turn
holder-byte : (h : Holder) → Owned Holder'.the_field h → ByteHolder h
holder-byte Free s = tt
holder-byte (Held p) s = s.1.1.1.1.1.0.1
holder-byte (Returning p) s = s.1.1.1.1.1.0.1

motion-bytes : (m : Motion) → Owned (row_field Carrier'.the_row) (record { motion = m }) → ByteMotion m
motion-bytes None s = tt
motion-bytes (Some (p, k)) s = (omega arith, omega arith)

unit-byte : (unit : UnitState) → Owned Unit'.the_field unit → ByteHolder unit.holder
unit-byte unit s = holder-byte unit.holder (s.1.0.0, s.1.1.1.0)

row-bytes : (row : List UnitState) → Owned (array_field Unit'.the_field 16) row → (u : ℕ) → ByteHolder (get_or row u (fresh_unit false)).holder
row-bytes row s u = everywhere Unit'.the_field 16 (λ unit. ByteHolder unit.holder) row s.0 s.1 unit-byte (fresh_unit false) tt u

-- the same of a unit and of a row of them by their own rows
unit_row-byte : (unit : UnitState) → Owned (row_field Unit'.the_row) unit → ByteHolder unit.holder
unit_row-byte unit s = holder-byte unit.holder (s.1.0.0, s.1.1.1.0)

row_row-bytes : (row : List UnitState) → Owned (row_field (Array Unit'.the_row 16)) row → (u : ℕ) → ByteHolder (get_or row u (fresh_unit false)).holder
row_row-bytes row s u = everywhere_row Unit'.the_row 16 (λ unit. ByteHolder unit.holder) row s.0 s.1 unit_row-byte (fresh_unit false) tt u

grid-bytes : (units : Units) (vs : List Val) → Is Units'.the_row units vs → (c u : ℕ) → ByteHolder (unit_in units.of c u).holder
unfolding unit_in
grid-bytes units vs p c =
    everywhere_row (Array Unit'.the_row 16) 16 (λ row. (u : ℕ) → ByteHolder (get_or row u (fresh_unit false)).holder) units.of p.0.0
    p.1.1.0 row_row-bytes [] (λ u. tt) c

short : (e : Entry) → Owned Entry'.the_field e → length e.request.id ≤ 6
short e s = let l : length e.request.id ≡ 6 = long_row u8 6 e.request.id _ s.1.1.1.0.1.1.0 in omega arith

short_row : (e : Entry) → Owned (row_field Entry'.the_row) e → length e.request.id ≤ 6
short_row e s = let l : length e.request.id ≡ 6 = long_row u8 6 e.request.id _ s.1.1.1.0.1.1.0 in omega arith

-- ---- and the whole
pub typed : (lists : Lists) (schedule : Schedule) (vs us : List Val) → Is Lists'.the_row lists vs → Is Schedule'.the_row schedule us
    → InTypes lists schedule
typed lists schedule vs us p q =
    let entries : length schedule.entries ≡ most_requests = long_row Entry'.the_row most_requests schedule.entries q.0.0 q.1.1.0 in
    let jobs = p.1.1.1.1.0 in
    let list = p.1.1.1.1.1.0 in
    let moving = p.1.1.1.1.1.1.0 in
    record {
      entries = omega arith;
      ids = everywhere_row Entry'.the_row most_requests (λ e. length e.request.id ≤ 6) schedule.entries _ q.1.1.0 short_row
          blank (omega arith);
      holders = grid-bytes lists.units _ p.1.1.1.1.1.1.1.0;
      areas = everywhere_row Job'.the_row 16 (λ j. (j.from < 2 ^ 32) × (j.words < 2 ^ 32)) lists.jobs _ jobs
          (λ j s. (s.1.1.1.1.1.0.1, s.1.1.1.1.1.1.0.1)) no_job (omega arith, omega arith);
      motions = everywhere_row Carrier'.the_row 16 (λ c. ByteMotion c.motion) lists.moving _ moving
          (λ c s. motion-bytes c.motion s) idle tt;
      queue = let l : length lists.list.entries ≡ 256 = long_row u8 256 lists.list.entries _ list.1.1.0 in omega arith;
      packets = everywhere_row u8 256 (λ e. e < 256) lists.list.entries _ list.1.1.0 (λ e s. s.1.1) 0 (omega arith);
    }

-- so a board that was put into a room of so many bytes stands there whole
pub boarded : {room after : List ℕ} {at r : ℕ} {lists : Lists} {schedule : Schedule} → InTypes lists schedule
    → Written room at (board_text lists schedule) after r → Boarded room at lists schedule after r
boarded {room} {after} {at} {r} {lists} {schedule} t w = record {
  text = w;
  whole = λ h.
      let f = fitted w (omega (arith, board-bound lists schedule t)) in
      (f.0, rw f.0 f.1);
}
