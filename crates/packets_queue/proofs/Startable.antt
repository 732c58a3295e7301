-- Looking for the oldest packet that can start, on one channel's units. Assumes nothing.
use Prim.Native.Nat.{ℕ, ◌<◌}
use mathlib.Core.Path.{◌≡◌, refl, ap, sym, ◌∙◌}
use mathlib.Core.Bool.{Bool, false, not, ◌&&◌}
use mathlib.Core.List.{List, [], ◌∷◌}
use lib.ListN.{get_or, replicate}
use lib.Dec.{eqb}
use Rattle.std.proofs.Common.{ltb, arith}
use Rattle.std.proofs.lemmas.Bool.{ltb-true, ltb-false}
use Rattle.std.proofs.lemmas.List.{get_or_default, get_or_past}
use Rattle.numbers.proofs.Tests.{by_bool}
use borrow.Author.Tests.{le-ltb, lt-ltb}
use Rattle.numbers.proofs.Stores.{get_d-replicate-same}
use Rattle.units.specs.declared.Unit.{Unit as UnitState}
use Rattle.packets_queue.proofs.Relist.{entry-is}
use Rattle.units.specs.State.{Square, fresh_unit, unit_in}
use Rattle.units.proofs.StateLaws.{read_past}
use Rattle.numbers.specs.Elements.{find}
use Rattle.packets.specs.Rules.{startable_on}
use Rattle.packets.specs.State.{blank, job_in, packet_in, packet_of, place_of, unit_at}
use Rattle.packets.specs.declared.Job.{Job}
use Rattle.packets.specs.declared.Packet.{Packet}
use Rattle.packets.specs.declared.Site.{Site}
use Rattle.packets.specs.declared.Site.TheVariants.{AtAddress, AtUnit}
use Rattle.packets_queue.specs.Keeping.{RowOf, can_start, lock_at, row_in}

-- the packet of an entry can start
abbrev pub can_start_at : List UnitState → List Job → ℕ → ℕ → Bool
can_start_at row jobs c e = can_start row c (packet_in jobs (place_of e) (packet_of e))

-- as the code tests it
pub starts_is : (row : List UnitState) (jobs : List Job) (c e a : ℕ) → a ≡ place_of e
    → (r : Bool) → r ≡ can_start row c (get_or (job_in jobs a).packets (packet_of e) blank) → can_start_at row jobs c e ≡ r
starts_is row jobs c e a p r t = ap (λ (k : Packet). can_start row c k) (entry-is jobs e a p) ∙ sym t

find-same : (f g : ℕ → Bool) → ((e : ℕ) → f e ≡ g e) → (l : List ℕ) → find f l ≡ find g l
find-same f g k [] = refl
find-same f g k (x ∷ l) = rw (k x, find-same f g k l)

locks-at : (units : List (List UnitState)) (c : ℕ) (row : List UnitState) → RowOf units c row → (a : Site)
    → lock_at row a ≡ (unit_at units c a).interlock
locks-at units c row R (AtUnit u) = R.locks u.0
locks-at units c row R (AtAddress x) = refl

-- as the rules test it
pub found-is : (units : List (List UnitState)) (jobs : List Job) (c : ℕ) (row : List UnitState) → RowOf units c row → (l : List ℕ)
    → find (can_start_at row jobs c) l ≡ find (startable_on units jobs c) l
found-is units jobs c row R l =
    find-same (can_start_at row jobs c) (startable_on units jobs c)
    (λ e. ap (λ (b : Bool). eqb (packet_in jobs (place_of e) (packet_of e)).channel.0 c && not b)
    (locks-at units c row R (packet_in jobs (place_of e) (packet_of e)).at))
    l

-- where the cell has no such channel, no unit has an interlock
pub row_out : (units : List (List UnitState)) → Square units → (c : ℕ) → 15 < c → (row : List UnitState) → row ≡ replicate 16 (fresh_unit false)
    → RowOf units c row
unfolding row_in
row_out units s c h row e =
    record {
      is = e ∙ rw (le-ltb c 16 h);
      locks = λ a. rw (e, read_past units s c a h) (ap (λ (v : UnitState). v.interlock) (get_d-replicate-same 16 a (fresh_unit false)));
    }

pub row-in : (units : List (List UnitState)) (c : ℕ) → c < 16 → (row : List UnitState) → row ≡ get_or units c [] → RowOf units c row
unfolding unit_in row_in
row-in units c h row e = record { is = e ∙ rw (lt-ltb c 16 h); locks = λ a. rw e }

pub row-of : (units : List (List UnitState)) → Square units → (c : ℕ) (row : List UnitState)
    → row ≡ get_or units c (replicate 16 (fresh_unit false)) → RowOf units c row
row-of units s c row e =
    by_bool (ltb c 16)
    (λ t. let h = ltb-true c 16 t in
    row-in units c h row (e ∙ get_or_default units c (replicate 16 (fresh_unit false)) [] (omega (arith, s.channels))))
    (λ f. let h = ltb-false c 16 f in
    row_out units s c (omega arith) row (e ∙ get_or_past units c (replicate 16 (fresh_unit false)) (omega (arith, s.channels))))
