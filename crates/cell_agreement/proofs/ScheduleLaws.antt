-- What the calls on the schedule do to the requests in each place: a deck, a release and a deletion nothing, since
-- they touch no request whose job runs or closes; a taking puts one into an empty place, a job's end lets it close
-- there, and a return takes it out of the place. Assumes nothing.
use Rattle.std.proofs.Common.{Err, Ok}
use Prim.Native.Nat.{ℕ, ◌≤◌, ◌<◌}
use mathlib.Core.Path.{◌≡◌, refl, sym, ap, subst, ◌∙◌}
use mathlib.Core.Bool.{Bool, true, false, cond, ◌&&◌}
use mathlib.Core.List.{List, [], ◌∷◌}
use lib.Dec.{eqb, leb}
use lib.ListN.{length, get_or-eq_default}
use borrow.Author.Tests.{eqb-true, eqb-false, ltb-true, ltb-false, lt-ltb, ne_eqb}
use Rattle.packets.proofs.Laws.{eqb-self}
use Rattle.numbers.specs.Quoted.{byte}
use Rattle.numbers.proofs.Tests.{both, by_bool, never}
use Rattle.numbers.specs.Elements.{find}
use Rattle.cards_fields.specs.Deck.{deck_end, deck_groups, DeckEnd}
use Rattle.cards_request.specs.Errors.{error_if, CardVerdict}
use Rattle.cards_request.proofs.ErrorLaws.{not_good, or_else_none}
use Rattle.cards_group.specs.Group.{read_group}
use Rattle.cards_request.specs.declared.CardError.TheVariants.{InSchedule}
use Rattle.cards_request.specs.declared.Request.{Request}
use Rattle.schedule_entries.specs.Entries.{active, blank, first_state, in_place, is_named, suspended, waiting}
use Rattle.schedule_entries.specs.declared.Entry.{Entry}
use Rattle.schedule_entries.specs.declared.State.{State}
use Rattle.schedule_entries.specs.declared.State.TheVariants.{Closing, Running, Suspended, Waiting}
use Rattle.schedule_list.specs.InSchedule.{changed_at, entry_at, in_schedule, removed, schedule_of, there, with_state}
use Rattle.schedule_list.specs.Queries.{without}
use Rattle.schedule_list.proofs.InScheduleLaws.{in-of}
use Rattle.schedule_list.proofs.IndexLaws.{removed-at}
use Rattle.schedule_list.specs.declared.Schedule.{Schedule}
use Rattle.schedule.specs.Calls.{closing, deleted, released, returned, taken}
use Rattle.schedule.specs.ByIndex.{deleted_at, of_job, of_name, released_at, returned_at}
use Rattle.schedule.specs.declared.Changed.{Changed}
use Rattle.schedule.proofs.ByIndexLaws.{closing_at, deleted-at, released-at, returned-at}
use Rattle.schedule_entering.specs.Entering.{barred, clash_error, enter_error, entered, entering_by}
use Rattle.schedule_entering.specs.Outlines.{barred_at}
use Rattle.schedule_entering.proofs.Clashes.{barred-at}
use Rattle.schedule_deck.specs.Report.{after, begin, deck_schedule, end_from, schedule_by, tried_by}
use Rattle.schedule_deck.specs.declared.Progress.{Progress}
use Rattle.cell_agreement.specs.Agreement.{states_in}
use Rattle.cell_agreement.proofs.StandingLaws.{changed-alone, changed-apart, changed-into, first-there, in_one, inserted-apart, without-alone, without-apart}

-- the states of the requests of a schedule in a place
abbrev pub seen : ℕ → Schedule → List State
seen j s = states_in j (in_schedule s)

seen_of : (j : ℕ) (es : List Entry) → seen j (schedule_of es) ≡ states_in j es
seen_of j es = ap (states_in j) (in-of es)

-- ---- states that are in no place

idle-nowhere : (j : ℕ) (x : State) → active x ≡ false → in_place j x ≡ false
idle-nowhere j Waiting e = refl
idle-nowhere j Suspended e = refl
idle-nowhere j (Running p) e = never refl e
idle-nowhere j (Closing p) e = never refl e

suspended-idle : (x : State) → suspended x ≡ true → active x ≡ false
suspended-idle Waiting e = refl
suspended-idle Suspended e = refl
suspended-idle (Running p) e = never e refl
suspended-idle (Closing p) e = never e refl

waiting-idle : (x : State) → waiting x ≡ true → active x ≡ false
waiting-idle Waiting e = refl
waiting-idle Suspended e = refl
waiting-idle (Running p) e = never e refl
waiting-idle (Closing p) e = never e refl

first-idle : (r : Request) → active (first_state r) ≡ false
first-idle r = by_bool (eqb r.rush (byte "S")) (λ t. rw t) (λ t. rw t)

-- ---- CALLS THAT TOUCH NO REQUEST IN A PLACE

module _ (j : ℕ) where
  -- a request that is not barred replaces a suspended one or none
  open-idle : (k : ℕ) (es : List Entry) → barred_at k es ≡ false → in_place j (entry_at es k).state ≡ false
  unfolding barred_at
  open-idle k es b =
      by_bool (suspended (entry_at es k).state)
      (λ t. idle-nowhere j (entry_at es k).state (suspended-idle (entry_at es k).state t))
      (λ t. by_bool (there k es) (λ u. never refl (rw (t, u) at b)) (λ u. out (ltb-false k (length es) u)))
    where
      out : length es ≤ k → in_place j (entry_at es k).state ≡ false
      out h = rw (get_or-eq_default es blank h)

  not-barred : (es : List Entry) (r : Request) → enter_error es r ≡ Ok tt → barred (find (is_named r.id) es) ≡ false
  unfolding enter_error
  not-barred es r e =
      let b = barred (find (is_named r.id) es) in
      by b (or_else_none (error_if b InSchedule) (clash_error (removed (is_named r.id) es) r) e).0
    where
      by : (b : Bool) → error_if b InSchedule ≡ Ok tt → b ≡ false
      by true e = not_good e
      by false e = refl

  kept-entering : (s : Schedule) (r : Request) (v : CardVerdict) → enter_error (in_schedule s) r ≡ v → seen j (entering_by v s r).schedule ≡ seen j s
  kept-entering s r (Ok u) e =
      let es = in_schedule s in
      let k = of_name r.id es in
      seen_of j (entered es r)
      ∙ inserted-apart j (record { request = r; state = first_state r }) (removed (is_named r.id) es) (idle-nowhere j (first_state r) (first-idle r))
      ∙ ap (states_in j) (removed-at (is_named r.id) es)
      ∙ without-apart j k es (open-idle k es (barred-at r.id es ∙ not-barred es r e))
  kept-entering s r (Err x) e = refl

  kept-tried : (v : CardVerdict) (s : Schedule) (r : Request) → seen j (tried_by v s r).schedule ≡ seen j s
  kept-tried (Ok u) s r = kept-entering s r (enter_error (in_schedule s) r) refl
  kept-tried (Err e) s r = refl

  kept-group : (p : Progress) (g : List (List ℕ)) → seen j (after p g).schedule ≡ seen j p.schedule
  unfolding after
  kept-group p g = kept-tried (read_group g).verdict p.schedule (read_group g).request

  kept-groups : (p : Progress) (gs : List (List (List ℕ))) → seen j (end_from p gs).schedule ≡ seen j p.schedule
  kept-groups p [] = refl
  kept-groups p (g ∷ gs) = kept-groups (after p g) gs ∙ kept-group p g

  -- a deck
  pub kept-deck : (s : Schedule) (deck : List ℕ) → seen j (deck_schedule s deck) ≡ seen j s
  kept-deck s deck = by (deck_end deck)
    where
      by : (end : DeckEnd) → seen j (schedule_by end s deck) ≡ seen j s
      by (Ok n) = kept-groups (begin s) (deck_groups deck)
      by (Err refusal) = refl

  -- a release
  kept-released_at : (k : ℕ) (s : Schedule) → seen j (released_at k s).schedule ≡ seen j s
  unfolding released_at
  kept-released_at k s =
      by_bool (there k (in_schedule s) && suspended (entry_at (in_schedule s) k).state)
      (λ t.
      let two = both (there k (in_schedule s)) (suspended (entry_at (in_schedule s) k).state) t in
      rw t
      (seen_of j (with_state k Waiting (in_schedule s))
      ∙ changed-apart j k Waiting (in_schedule s) (ltb-true k (length (in_schedule s)) two.0)
      (idle-nowhere j (entry_at (in_schedule s) k).state (suspended-idle (entry_at (in_schedule s) k).state two.1)) refl))
      (λ t. rw t)

  pub kept-released : (s : Schedule) (id : List ℕ) → seen j (released s id).schedule ≡ seen j s
  kept-released s id = ap (λ (r : Changed). seen j r.schedule) (sym (released-at s id)) ∙ kept-released_at (of_name id (in_schedule s)) s

  -- a deletion
  kept-deleted_at : (k : ℕ) (s : Schedule) → seen j (deleted_at k s).schedule ≡ seen j s
  unfolding deleted_at
  kept-deleted_at k s =
      by_bool (there k (in_schedule s))
      (λ t. by_bool (active (entry_at (in_schedule s) k).state)
      (λ u. rw (t, u))
      (λ u. rw (t, u) (seen_of j (without k (in_schedule s)) ∙ without-apart j k (in_schedule s) (idle-nowhere j (entry_at (in_schedule s) k).state u))))
      (λ t. rw t)

  pub kept-deleted : (s : Schedule) (id : List ℕ) → seen j (deleted s id).schedule ≡ seen j s
  kept-deleted s id = ap (λ (r : Changed). seen j r.schedule) (sym (deleted-at s id)) ∙ kept-deleted_at (of_name id (in_schedule s)) s

-- ---- CALLS THAT TOUCH ONE PLACE

-- in one place now these stand, in every other the same as before
abbrev pub Put : ℕ → List State → Schedule → Schedule → Type 0
Put place l s t = (i : ℕ) → seen i t ≡ cond (eqb i place) l (seen i s)

by_place : (place : ℕ) (l : List State) (s t : Schedule) → seen place t ≡ l → ((i : ℕ) → eqb i place ≡ false → seen i t ≡ seen i s) → Put place l s t
by_place place l s t e f i =
    by_bool (eqb i place) (λ q. rw q (rw (eqb-true i place q) e)) (λ q. rw q (f i q))

-- a state in its place, and in no other
other_place : (i place : ℕ) → eqb i place ≡ false → eqb place i ≡ false
other_place i place d = ne_eqb place i (λ q. eqb-false i place d (sym q))

seen-changed : (j k : ℕ) (x : State) (s : Schedule) → k < length (in_schedule s) → seen j (changed_at k x s) ≡ states_in j (with_state k x (in_schedule s))
unfolding changed_at
seen-changed j k x s h = rw (lt-ltb k (length (in_schedule s)) h) (seen_of j (with_state k x (in_schedule s)))

-- a waiting request is taken into an empty place
pub put-taken : (s : Schedule) (k place : ℕ) → k < length (in_schedule s) → waiting (entry_at (in_schedule s) k).state ≡ true → seen place s ≡ []
    → Put place (Running place ∷ []) s (taken s k place)
put-taken s k place h w e =
    let n : (j : ℕ) → in_place j (entry_at (in_schedule s) k).state ≡ false =
    λ j. idle-nowhere j (entry_at (in_schedule s) k).state (waiting-idle (entry_at (in_schedule s) k).state w) in
    by_place place (Running place ∷ []) s (taken s k place)
    (seen-changed place k (Running place) s h ∙ changed-into place k (Running place) (in_schedule s) h (n place) e ∙ rw (eqb-self place))
    (λ i d. seen-changed i k (Running place) s h ∙ changed-apart i k (Running place) (in_schedule s) h (n i) (other_place i place d))

-- the job of a place closes
pub put-closing : (s : Schedule) (place : ℕ) (y : State) → seen place s ≡ y ∷ [] → Put place (Closing place ∷ []) s (closing s place)
put-closing s place y e =
    let k = of_job place (in_schedule s) in
    let f = first-there place y [] (in_schedule s) e in
    subst (λ (t : Schedule). Put place (Closing place ∷ []) s t) (closing_at s place)
    (by_place place (Closing place ∷ []) s (changed_at k (Closing place) s)
    (seen-changed place k (Closing place) s f.0 ∙ changed-alone place k (Closing place) y (in_schedule s) f.0 f.1 e ∙ rw (eqb-self place))
    (λ i d. seen-changed i k (Closing place) s f.0
    ∙ changed-apart i k (Closing place) (in_schedule s) f.0 (in_one i place (entry_at (in_schedule s) k).state d f.1) (other_place i place d)))

-- the job of a place has returned
put-returned_at : (s : Schedule) (place k : ℕ) (y : State) (in_error : Bool) → k < length (in_schedule s)
    → in_place place (entry_at (in_schedule s) k).state ≡ true → seen place s ≡ y ∷ []
    → Put place [] s (returned_at k s in_error)
unfolding returned_at
put-returned_at s place k y in_error h f e =
    let es = in_schedule s in
    let n : (i : ℕ) → eqb i place ≡ false → in_place i (entry_at es k).state ≡ false = λ i d. in_one i place (entry_at es k).state d f in
    rw (lt-ltb k (length es) h)
    (by_bool (in_error && leb 1 (entry_at es k).request.sequence)
    (λ t. rw t (by_place place [] s (schedule_of (with_state k Suspended es))
    (seen_of place (with_state k Suspended es) ∙ changed-alone place k Suspended y es h f e)
    (λ i d. seen_of i (with_state k Suspended es) ∙ changed-apart i k Suspended es h (n i d) refl)))
    (λ t. rw t (by_place place [] s (schedule_of (without k es))
    (seen_of place (without k es) ∙ without-alone place k y es h f e)
    (λ i d. seen_of i (without k es) ∙ without-apart i k es (n i d)))))

pub put-returned : (s : Schedule) (place : ℕ) (y : State) (in_error : Bool) → seen place s ≡ y ∷ [] → Put place [] s (returned s place in_error)
put-returned s place y in_error e =
    let f = first-there place y [] (in_schedule s) e in
    subst (λ (t : Schedule). Put place [] s t) (returned-at s place in_error)
    (put-returned_at s place (of_job place (in_schedule s)) y in_error f.0 f.1 e)
