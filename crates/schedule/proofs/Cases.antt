-- What the calls answer, by the tests that led there. Assumes nothing.
use Prim.Native.Nat.{ℕ, ◌≤◌, ◌<◌}
use mathlib.Core.Path.{◌≡◌, refl, sym, ap, ◌∙◌}
use mathlib.Core.Bool.{Bool, true, false}
use mathlib.Core.List.{List}
use native.Mathlib.Omega.{arith}
use lib.ListN.{length, get_or}
use borrow.Author.Tests.{lt-ltb, le-ltb, le-leb, lt-leb}
use Rattle.numbers.specs.declared.Refusal.TheVariants.{NoSuchRequest, JobRuns}
use Rattle.schedule_entries.specs.Entries.{suspended, active, blank}
use Rattle.schedule_entries.specs.declared.State.{State}
use Rattle.schedule_entries.specs.declared.State.TheVariants.{Waiting, Suspended, Closing}
use Rattle.schedule_entries.specs.declared.Entry.{Entry}
use Rattle.schedule_list.specs.InSchedule.{in_schedule, schedule_of, there, with_state, changed_at}
use Rattle.schedule_list.specs.Queries.{without}
use Rattle.schedule_list.proofs.InScheduleLaws.{at-any}
use Rattle.schedule_list.specs.declared.Schedule.{Schedule}
use Rattle.schedule.specs.Calls.{refused, done}
use Rattle.schedule.specs.Calls.{released, deleted, closing, returned}
use Rattle.schedule.specs.ByIndex.{of_name, of_job, released_at, deleted_at, returned_at}
use Rattle.schedule.proofs.ByIndexLaws.{released-at, deleted-at, closing_at, returned-at}

-- the calls at the index that was found
module _ (s : Schedule) (id : List ℕ) {k : ℕ} (f : k ≡ of_name id (in_schedule s)) where
  pub released-by : released_at k s ≡ released s id
  released-by = ap (λ (n : ℕ). released_at n s) f ∙ released-at s id

  pub deleted-by : deleted_at k s ≡ deleted s id
  deleted-by = ap (λ (n : ℕ). deleted_at n s) f ∙ deleted-at s id

module _ (s : Schedule) (place : ℕ) {k : ℕ} (f : k ≡ of_job place (in_schedule s)) where
  pub closing-by : changed_at k (Closing place) s ≡ closing s place
  closing-by = ap (λ (n : ℕ). changed_at n (Closing place) s) f ∙ closing_at s place

  pub returned-by : (x : Bool) → returned_at k s x ≡ returned s place x
  returned-by x = ap (λ (n : ℕ). returned_at n s x) f ∙ returned-at s place x

-- whether there is a request at an index
module _ (hs : List Entry) (k : ℕ) {n : ℕ} (size : n ≡ length hs) where
  pub here : k < n → there k hs ≡ true
  here h = lt-ltb k (length hs) (omega arith)

  pub gone : n ≤ k → there k hs ≡ false
  gone h = le-ltb k (length hs) (omega arith)

module _ (s : Schedule) (k : ℕ) {n : ℕ} (size : n ≡ length (in_schedule s)) where
  pub release-none : n ≤ k → refused NoSuchRequest s ≡ released_at k s
  unfolding released_at
  release-none h = rw (gone (in_schedule s) k size h)

  pub delete-none : n ≤ k → refused NoSuchRequest s ≡ deleted_at k s
  unfolding deleted_at
  delete-none h = rw (gone (in_schedule s) k size h)

  pub return-none : (x : Bool) → n ≤ k → s ≡ returned_at k s x
  unfolding returned_at
  return-none x h = rw (gone (in_schedule s) k size h)

  module _ (h : k < n) {e : Entry} (at : e ≡ get_or (in_schedule s) k blank) where
    state-is : (f : State → Bool) {b t : Bool} → b ≡ f e.state → b ≡ t → f (get_or (in_schedule s) k blank).state ≡ t
    state-is f p q = ap (λ (x : Entry). f x.state) (sym at) ∙ sym p ∙ q

    changed-is : (state : State) → changed_at k state s ≡ schedule_of (with_state k state (in_schedule s))
    unfolding changed_at
    changed-is state = rw (here (in_schedule s) k size h)

    pub release-yes : {b : Bool} → b ≡ suspended e.state → b ≡ true → done (changed_at k Waiting s) ≡ released_at k s
    unfolding released_at
    release-yes p q = rw (changed-is Waiting, here (in_schedule s) k size h, state-is suspended p q)

    pub release-no : {b : Bool} → b ≡ suspended e.state → b ≡ false → refused NoSuchRequest s ≡ released_at k s
    unfolding released_at
    release-no p q = rw (here (in_schedule s) k size h, state-is suspended p q)

    pub delete-runs : {b : Bool} → b ≡ active e.state → b ≡ true → refused JobRuns s ≡ deleted_at k s
    unfolding deleted_at
    delete-runs p q = rw (here (in_schedule s) k size h, state-is active p q)

    pub delete-yes : {b : Bool} → b ≡ active e.state → b ≡ false → done (schedule_of (without k (in_schedule s))) ≡ deleted_at k s
    unfolding deleted_at
    delete-yes p q = rw (here (in_schedule s) k size h, state-is active p q)

    sequence-is : (get_or (in_schedule s) k blank).request.sequence ≡ e.request.sequence
    sequence-is = ap (λ (x : Entry). x.request.sequence) (sym at)

    pub return-normal : (x : Bool) → x ≡ false → schedule_of (without k (in_schedule s)) ≡ returned_at k s x
    unfolding returned_at
    return-normal x p = rw (here (in_schedule s) k size h, p)

    pub return-suspends : (x : Bool) → x ≡ true → 1 ≤ e.request.sequence → changed_at k Suspended s ≡ returned_at k s x
    unfolding returned_at
    return-suspends x p q =
        rw (
          changed-is Suspended,
          here (in_schedule s) k size h,
          p,
          le-leb 1 (get_or (in_schedule s) k blank).request.sequence (omega (arith, sequence-is)),
        )

    pub return-removes : (x : Bool) → x ≡ true → e.request.sequence < 1 → schedule_of (without k (in_schedule s)) ≡ returned_at k s x
    unfolding returned_at
    return-removes x p q =
        rw (here (in_schedule s) k size h, p, lt-leb 1 (get_or (in_schedule s) k blank).request.sequence (omega (arith, sequence-is)))

  -- what stands at an index of the requests
  pub stands : {l : List Entry} (d : Entry) → l ≡ in_schedule s → k < n → get_or l k d ≡ get_or (in_schedule s) k blank
  stands d e h = ap (λ (l : List Entry). get_or l k d) e ∙ at-any (in_schedule s) k d blank (omega arith)

-- none was found
module _ (s : Schedule) (id : List ℕ) (h : length (in_schedule s) ≤ of_name id (in_schedule s)) where
  pub released-none : refused NoSuchRequest s ≡ released s id
  released-none = release-none s (of_name id (in_schedule s)) refl h ∙ released-at s id

  pub deleted-none : refused NoSuchRequest s ≡ deleted s id
  deleted-none = delete-none s (of_name id (in_schedule s)) refl h ∙ deleted-at s id

module _ (s : Schedule) (place : ℕ) (h : length (in_schedule s) ≤ of_job place (in_schedule s)) where
  unchanged : s ≡ changed_at (of_job place (in_schedule s)) (Closing place) s
  unfolding changed_at
  unchanged = rw (gone (in_schedule s) (of_job place (in_schedule s)) refl h)

  pub closing-none : s ≡ closing s place
  closing-none = unchanged ∙ closing_at s place

  pub returned-none : (x : Bool) → s ≡ returned s place x
  returned-none x = return-none s (of_job place (in_schedule s)) refl x h ∙ returned-at s place x
