-- THE CALLS BY INDEX ARE THE CALLS: by whether there is a request of the ID, or in the place. Assumes nothing.
use Prim.Native.Nat.{ℕ}
use mathlib.Core.Path.{◌≡◌, sym, ◌∙◌}
use mathlib.Core.Bool.{Bool}
use mathlib.Core.List.{List}
use lib.ListN.{length}
use borrow.Author.Tests.{ltb-true, ltb-false}
use Rattle.numbers.proofs.Tests.{by_bool}
use Rattle.schedule_entries.specs.Entries.{is_named}
use Rattle.schedule_entries.specs.declared.State.TheVariants.{Waiting, Suspended, Closing}
use Rattle.schedule_list.specs.InSchedule.{in_schedule, there, changed_at}
use Rattle.schedule_list.specs.declared.Schedule.{Schedule}
use Rattle.schedule_list.proofs.InScheduleLaws.{any-first}
use Rattle.schedule_list.proofs.IndexLaws.{find-here, find_none, removed-at, state-at}
use Rattle.schedule.specs.Calls.{released, deleted, is_in, closing, returned}
use Rattle.schedule.specs.ByIndex.{of_name, of_job, released_at, deleted_at, returned_at}

-- the request of an ID
module _ (s : Schedule) (id : List ℕ) where
  pub released-at : released_at (of_name id (in_schedule s)) s ≡ released s id
  unfolding released_at
  released-at =
      let es = in_schedule s in
      by_bool (there (of_name id es) es)
      (λ t. let h = ltb-true (of_name id es) (length es) t in rw (t, find-here (is_named id) es h, state-at (is_named id) Waiting es h))
      (λ t. rw (t, find_none (is_named id) es (ltb-false (of_name id es) (length es) t)))

  pub deleted-at : deleted_at (of_name id (in_schedule s)) s ≡ deleted s id
  unfolding deleted_at
  deleted-at =
      let es = in_schedule s in
      by_bool (there (of_name id es) es)
      (λ t. rw (t, find-here (is_named id) es (ltb-true (of_name id es) (length es) t), removed-at (is_named id) es))
      (λ t. rw (t, find_none (is_named id) es (ltb-false (of_name id es) (length es) t)))

-- the request whose job is in a place
module _ (s : Schedule) (place : ℕ) where
  pub closing_at : changed_at (of_job place (in_schedule s)) (Closing place) s ≡ closing s place
  unfolding changed_at
  closing_at =
      let es = in_schedule s in
      by_bool (there (of_job place es) es)
      (λ t. rw (t, sym (any-first (is_in place) es) ∙ t, state-at (is_in place) (Closing place) es (ltb-true (of_job place es) (length es) t)))
      (λ t. rw (t, sym (any-first (is_in place) es) ∙ t))

  pub returned-at : (x : Bool) → returned_at (of_job place (in_schedule s)) s x ≡ returned s place x
  unfolding returned_at
  returned-at x =
      let es = in_schedule s in
      by_bool (there (of_job place es) es)
      (λ t. let h = ltb-true (of_job place es) (length es) t in
      rw (t, find-here (is_in place) es h, state-at (is_in place) Suspended es h, removed-at (is_in place) es))
      (λ t. rw (t, find_none (is_in place) es (ltb-false (of_job place es) (length es) t)))
