-- EVERY SCHEDULE THAT THE CALLS BUILD FROM THE EMPTY ONE IS ORDERLY: its IDs are distinct, its keys are distinct and
-- in selection order, it holds 64 requests at most, and it is the one value that holds them. Each call keeps that,
-- refused or not. Assumes nothing.
use Prim.Native.Nat.{ℕ}
use mathlib.Core.Path.{◌≡◌, refl, sym, ap, subst}
use mathlib.Core.Bool.{Bool, true, false, cond, ◌&&◌}
use mathlib.Core.List.{List, [], ◌∷◌}
use mathlib.Core.Option.{Option, none, some}
use native.Mathlib.Omega.{arith}
use lib.Dec.{leb}
use lib.ListN.{length}
use borrow.Author.Tests.{ltb-true, leb-false}
use Rattle.numbers.proofs.Tests.{by_bool}
use Rattle.numbers.specs.Elements.{any, find}
use Rattle.numbers.specs.Limits.{most_requests}
use Rattle.cards_request.specs.Errors.{error_if}
use Rattle.cards_request.proofs.ErrorLaws.{or_else_none}
use Rattle.cards_request.specs.declared.CardError.TheVariants.{InSchedule}
use Rattle.cards_request.specs.Errors.{CardVerdict}
use Rattle.std.specs.Prelude.{Ok, Err}
use Rattle.cards_request.specs.declared.Request.{Request}
use Rattle.schedule_entries.specs.Entries.{is_named, suspended, active, first_state}
use Rattle.schedule_entries.specs.declared.State.{State}
use Rattle.schedule_entries.specs.declared.State.TheVariants.{Waiting, Suspended, Running, Closing}
use Rattle.schedule_entries.specs.declared.Entry.{Entry}
use Rattle.schedule_list.specs.InSchedule.{in_schedule, schedule_of, removed, set_state, there, with_state, changed_at}
use Rattle.schedule_list.proofs.InScheduleLaws.{in-of}
use Rattle.schedule_list.specs.declared.Schedule.{Schedule}
use Rattle.schedule.specs.Calls.{released_by, deleted_by, taken, is_in, closing, returned_by}
use Rattle.schedule_entering.specs.Entering.{barred, clash_error, enter_error, entered, entering_by, entering}
use Rattle.schedule_entering.proofs.Clashes.{clash-clear}
use Rattle.schedule_orderly.specs.Orderly.{Call, after, after_all, Each, requests, Orderly, Sound}
use Rattle.schedule_orderly.proofs.ListLaws.{each-removed, orderly-removed, orderly-state, orderly-set}
use Rattle.schedule_orderly.proofs.ListLaws.{each-inserted, orderly-inserted, none-same, none_named}

-- the one value that holds orderly entries
sound-of : (es : List Entry) → Orderly es → Sound (schedule_of es)
sound-of es o =
    record { whole = ap schedule_of (sym (in-of es)); orderly = subst (λ (l : List Entry). Orderly l) (sym (in-of es)) o }

sound-either : (b : Bool) {s t : Schedule} → (b ≡ true → Sound s) → (b ≡ false → Sound t) → Sound (cond b s t)
sound-either true f g = f refl
sound-either false f g = g refl

module _ (s : Schedule) (d : Sound s) where
  sound-out : (p : Entry → Bool) → Sound (schedule_of (removed p (in_schedule s)))
  sound-out p = sound-of (removed p (in_schedule s)) (orderly-removed p (in_schedule s) d.orderly)

  sound-state : (p : Entry → Bool) (state : State) → Sound (schedule_of (set_state p state (in_schedule s)))
  sound-state p state = sound-of (set_state p state (in_schedule s)) (orderly-set p state (in_schedule s) d.orderly)

  sound-taken : (k place : ℕ) → Sound (taken s k place)
  unfolding changed_at
  sound-taken k place =
      sound-either (there k (in_schedule s))
      (λ t. sound-of (with_state k (Running place) (in_schedule s))
      (orderly-state k (Running place) (in_schedule s) (ltb-true k (length (in_schedule s)) t) d.orderly))
      (λ t. d)

  sound-closing : (place : ℕ) → Sound (closing s place)
  sound-closing place = sound-either (any (is_in place) (in_schedule s)) (λ t. sound-state (is_in place) (Closing place)) (λ t. d)

  sound-returned : (o : Option Entry) (place : ℕ) (x : Bool) → Sound (returned_by o s place x)
  sound-returned none place x = d
  sound-returned (some e) place x =
      sound-either (x && leb 1 e.request.sequence) (λ t. sound-state (is_in place) Suspended) (λ t. sound-out (is_in place))

  sound-released : (o : Option Entry) (id : List ℕ) → Sound (released_by o s id).schedule
  sound-released none id = d
  sound-released (some e) id = by_bool (suspended e.state) (λ t. rw t (sound-state (is_named id) Waiting)) (λ t. rw t d)

  sound-deleted : (o : Option Entry) (id : List ℕ) → Sound (deleted_by o s id).schedule
  sound-deleted none id = d
  sound-deleted (some e) id = by_bool (active e.state) (λ t. rw t d) (λ t. rw t (sound-out (is_named id)))

  -- a request that nothing bars
  orderly-entered : (r : Request) → enter_error (in_schedule s) r ≡ Ok tt → Orderly (entered (in_schedule s) r)
  unfolding enter_error
  orderly-entered r e =
      let others = removed (is_named r.id) (in_schedule s) in
      let c = clash-clear others r
      (or_else_none (error_if (barred (find (is_named r.id) (in_schedule s))) InSchedule) (clash_error others r) e).1 in
      orderly-inserted (record { request = r; state = first_state r }) others (none_named r (in_schedule s) d.orderly.names)
      (none-same r others c.0)
      (leb-false most_requests (length others) c.1) (orderly-removed (is_named r.id) (in_schedule s) d.orderly)

  sound-entering : (r : Request) (v : CardVerdict) → enter_error (in_schedule s) r ≡ v → Sound (entering_by v s r).schedule
  sound-entering r (Ok tt) e = sound-of _ (orderly-entered r e)
  sound-entering r (Err x) e = d

  pub sound-enter : (r : Request) → Sound (entering s r).schedule
  sound-enter r = sound-entering r (enter_error (in_schedule s) r) refl

  -- what holds of each request, and of the one that is to enter, holds of each then
  pub each-enter : (P : Request → Type 0) (r : Request) → P r → Each P (requests (in_schedule s))
      → Each P (requests (in_schedule (entering s r).schedule))
  each-enter P r p h = by (enter_error (in_schedule s) r)
    where
      by : (v : CardVerdict) → Each P (requests (in_schedule (entering_by v s r).schedule))
      by (Ok tt) =
          subst (λ (l : List Entry). Each P (requests l)) (sym (in-of (entered (in_schedule s) r)))
          (each-inserted P (record { request = r; state = first_state r }) (removed (is_named r.id) (in_schedule s)) p
          (each-removed P (is_named r.id) (in_schedule s) h))
      by (Err x) = h

  -- after each call
  pub sound-after : (c : Call) → Sound (after s c)
  unfolding after
  sound-after (Call.Enter r) = sound-enter r
  sound-after (Call.Release id) = sound-released (find (is_named id) (in_schedule s)) id
  sound-after (Call.Delete id) = sound-deleted (find (is_named id) (in_schedule s)) id
  sound-after (Call.Take k place) = sound-taken k place
  sound-after (Call.Close place) = sound-closing place
  sound-after (Call.Return place x) = sound-returned (find (is_in place) (in_schedule s)) place x

sound-all : (s : Schedule) (cs : List Call) → Sound s → Sound (after_all s cs)
unfolding after_all
sound-all s [] d = d
sound-all s (c ∷ cs) d = sound-all (after s c) cs (sound-after s d c)

-- the empty schedule
pub sound_empty : Sound (schedule_of [])
sound_empty = sound-of [] (record { names = tt; keys = tt; few = omega arith })

-- AFTER ANY CALLS
pub reachable : (cs : List Call) → Sound (after_all (schedule_of []) cs)
reachable cs = sound-all (schedule_of []) cs sound_empty
