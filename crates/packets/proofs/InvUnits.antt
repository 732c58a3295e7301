-- A change of the units that keeps what is held keeps the invariant: interlocks and marks. Assumes nothing.
use Prim.Native.Nat.{ℕ}
use mathlib.Core.Path.{◌≡◌, refl}
use mathlib.Core.Bool.{Bool}
use mathlib.Core.List.{List}
use Rattle.units.specs.declared.Unit.{Unit as UnitState}
use Rattle.units.specs.declared.Mark.{Mark as UnitMark}
use Rattle.units.specs.declared.Mark.TheVariants.{Down, Reserved}
use Rattle.units.specs.State.{unit_in, unit_set, marked_unit}
use Rattle.packets.proofs.Inv.{EntryOk, Inv, Owned, Staying}
use Rattle.packets.specs.State.{State, lock, packet_in, packet_of, place_of, set_lock}
use Rattle.packets.proofs.Laws.{all-imp}
use Rattle.packets.specs.Rules.{marked}
use Rattle.packets.proofs.Sites.{holder-at, lock-holder}
use Rattle.packets.proofs.Store.{unit-keep}
use Rattle.packets.specs.declared.Packet.{Packet}
use Rattle.packets.specs.declared.Site.{Site}

module _ (s : State) (I : Inv s) (units : List (List UnitState))
    (same : (c u : ℕ) → (unit_in units c u).holder ≡ (unit_in s.units c u).holder) where
  abbrev reunit : State
  reunit = record { channels = s.channels; codes = s.codes; units = units; moving = s.moving; jobs = s.jobs; queue = s.queue }

  pub reunit-inv : Inv reunit
  reunit-inv =
      record {
        sizes = I.sizes;
        places = I.places;
        channels = I.channels;
        single = I.single;
        queued = all-imp (EntryOk s) (EntryOk reunit)
            (λ e k. record {
              listed = k.listed;
              running = k.running;
              owned = owned (place_of e) (packet_in s.jobs (place_of e) (packet_of e)) k.owned;
              staying = staying (packet_in s.jobs (place_of e) (packet_of e)) k.staying;
            })
            s.queue I.queued;
        motion = λ c i n e. record {
          going = (I.motion c i n e).going;
          channel = (I.motion c i n e).channel;
          alive = (I.motion c i n e).alive;
          owned = owned i (packet_in s.jobs i n) (I.motion c i n e).owned;
        };
        holders = λ c u i e. I.holders c u i (rw same at e);
      }
    where
      owned : (i : ℕ) (q : Packet) → Owned s i q → Owned reunit i q
      owned i q o = (o.0, λ d. rw (holder-at units s.units same q.channel.0 q.at) (o.1 d))

      staying : (q : Packet) → Staying s q → Staying reunit q
      staying q o = rw (holder-at units s.units same q.channel.0 q.at) o

pub lock-inv : (s : State) → Inv s → (c : ℕ) (a : Site) (b : Bool) → Inv (lock s c a b)
lock-inv s I c a b = reunit-inv s I (set_lock s.units c a b) (lock-holder s.units c a b)

pub mark-holder : (m : UnitMark) (on : Bool) (v : UnitState) → (marked_unit m on v).holder ≡ v.holder
mark-holder Down on v = refl
mark-holder Reserved on v = refl

pub marked-inv : (s : State) → Inv s → (c u : ℕ) (m : UnitMark) (on : Bool) → Inv (marked s c u m on)
marked-inv s I c u m on =
    reunit-inv s I (unit_set s.units c u (marked_unit m on (unit_in s.units c u)))
    (λ e w. unit-keep (λ (v : UnitState). v.holder) s.units c u (marked_unit m on (unit_in s.units c u)) e w
    (mark-holder m on (unit_in s.units c u)))
