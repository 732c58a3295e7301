-- EVERY REQUEST IN A SCHEDULE THAT CALLS LEAD TO HAS AN ID OF 1-6 LETTERS OR DIGITS, and any other word is nobody's. A
-- deck enters what was read from cards, which breaks no rule, and no other call brings a request in or changes one. A
-- word without a space that had a request's ID would be the letters and digits of it. Assumes nothing.
use Rattle.std.proofs.Common.{Ok}
use Prim.Native.Nat.{ℕ, zero, suc, ◌+◌, ◌≤◌, ◌<◌}
use mathlib.Core.Path.{◌≡◌, refl, sym, ap, subst, ◌∙◌}
use mathlib.Core.Bool.{Bool, true, false, cond, ◌&&◌}
use mathlib.Core.List.{List, [], ◌∷◌, ◌++◌}
use mathlib.Core.Logic.{◌⊎◌, ⊎_elim}
use mathlib.Core.Option.{Option, none, some}
use native.Mathlib.Nat.{le_of_suc-le-suc}
use native.Mathlib.Numerals.{add-one}
use native.Mathlib.Omega.{arith}
use lib.Dec.{eqb, leb, ltb}
use lib.ListN.{length, get_or, take, drop, set}
use lib.Seq.{set_split, map-set_same}
use borrow.Author.Tests.{eqb-true, lt-ltb, ltb-false, ltb-true}
use Rattle.numbers.specs.Quoted.{byte}
use Rattle.numbers.proofs.Tests.{both, by_bool, never}
use Rattle.numbers.specs.Elements.{any, find}
use Rattle.text.specs.Class.{is_alnum, is_digit, is_letter}
use Rattle.words.specs.Words.{every, isnt, same}
use Rattle.words.proofs.WordLaws.{every-weaker, same-equal}
use Rattle.line_words.specs.Forms.{id_of}
use Rattle.channels.specs.declared.Configuration.{Configuration}
use Rattle.cards_fields.specs.Fields.{padded, spaceless}
use Rattle.cards_group.specs.Group.{read_full, read_group}
use Rattle.cards_request.specs.declared.Request.{Request}
use Rattle.cards_request.specs.Errors.{CardVerdict}
use Rattle.cards_round.specs.Allowed.{Name}
use Rattle.cards_round.proofs.AllowingFull.{full-allowed}
use Rattle.cards_round.proofs.Fits.{read-takes}
use Rattle.schedule_entries.specs.Entries.{active, blank, is_named, suspended}
use Rattle.schedule_entries.specs.declared.Entry.{Entry}
use Rattle.schedule_entries.specs.declared.State.{State}
use Rattle.schedule_entries.specs.declared.State.TheVariants as States
use Rattle.schedule_list.specs.InSchedule.{changed_at, in_schedule, removed, schedule_of, set_state, there, with_state}
use Rattle.schedule_list.proofs.InScheduleLaws.{in-of}
use Rattle.schedule_list.specs.declared.Schedule.{Schedule}
use Rattle.schedule.specs.Calls.{closing, deleted_by, is_in, released_by, returned_by, taken}
use Rattle.schedule_orderly.specs.Orderly.{Each, Sound, requests}
use Rattle.schedule_orderly.proofs.ListLaws.{each-removed}
use Rattle.schedule_deck.proofs.DeckLaws.{each-deck}
use Rattle.packets.specs.Rules as Rules
use Rattle.packets.specs.declared.Answer.{Answer}
use Rattle.packets.specs.declared.Answer.TheVariants as Answers
use Rattle.packets.specs.declared.Leaving.{Leaving}
use Rattle.packets.specs.declared.Leaving.TheVariants.{AfterError, AfterNormal, Stays}
use Rattle.packets.specs.declared.Lists.{Lists}
use Rattle.lists.specs.Outcomes.{outcome}
use Rattle.cell_selection.specs.Selecting as Selecting
use Rattle.cell_selection.specs.declared.Selection.{Selection}
use Rattle.cell.specs.Calls.{acted, followed, fresh_cell, left_by}
use Rattle.cell.specs.declared.Cell.{Cell}
use Rattle.cell_history.proofs.MeantLaws.{Plain, by-meant}
use Rattle.cell_history.proofs.Reaching.{by-history}
use Rattle.cell_history.specs.History.{Call, Deck, Delete, Do, Does, Event, Key, Reached, Release, Reply, Select, Status}
use Rattle.cell_agreement.proofs.SoundProof.{sound-always}
use Rattle.demands.proofs.Texts.{groups-alike}

-- ---- what holds of each request of a list, and of a schedule

module _ (P : Request → Type 0) where
  -- a state changes: the requests are the same
  each_set : (p : Entry → Bool) (state : State) (es : List Entry) → Each P (requests es) → Each P (requests (set_state p state es))
  unfolding set_state
  each_set p state [] h = h
  each_set p state (e ∷ es) h = by (p e) (each_set p state es h.1)
    where
      by : (b : Bool) → Each P (requests (set_state p state es))
          → Each P (requests (cond b (record { request = e.request; state = state } ∷ es) (e ∷ set_state p state es)))
      by true ih = h
      by false ih = (h.0, ih)

  each-state : (k : ℕ) (state : State) (es : List Entry) → k < length es → Each P (requests es) → Each P (requests (with_state k state es))
  unfolding with_state
  each-state k state es i h =
      let x : Entry = record { request = (get_or es k blank).request; state = state } in
      let e : take k es ++ (x ∷ drop (k + 1) es) ≡ set es k x = rw (add-one k) (sym (set_split es k x i)) in
      subst (λ (l : List Request). Each P l) (sym (ap requests e ∙ map-set_same (λ (f : Entry). f.request) es k x blank refl)) h

  abbrev EachIn : Schedule → Type 0
  EachIn s = Each P (requests (in_schedule s))

  each_of : (es : List Entry) → Each P (requests es) → EachIn (schedule_of es)
  each_of es h = subst (λ (l : List Entry). Each P (requests l)) (sym (in-of es)) h

  -- ---- the calls on a schedule
  module _ (s : Schedule) (h : EachIn s) where
    each-out : (p : Entry → Bool) → EachIn (schedule_of (removed p (in_schedule s)))
    each-out p = each_of (removed p (in_schedule s)) (each-removed P p (in_schedule s) h)

    each-put : (p : Entry → Bool) (state : State) → EachIn (schedule_of (set_state p state (in_schedule s)))
    each-put p state = each_of (set_state p state (in_schedule s)) (each_set p state (in_schedule s) h)

    each-taken : (k place : ℕ) → EachIn (taken s k place)
    unfolding changed_at
    each-taken k place =
        by_bool (there k (in_schedule s))
        (λ t. rw t (each_of (with_state k (States.Running place) (in_schedule s))
        (each-state k (States.Running place) (in_schedule s) (ltb-true k (length (in_schedule s)) t) h)))
        (λ t. rw t h)

    each-closing : (place : ℕ) → EachIn (closing s place)
    each-closing place = by_bool (any (is_in place) (in_schedule s)) (λ t. rw t (each-put (is_in place) (States.Closing place))) (λ t. rw t h)

    each-returned : (o : Option Entry) (place : ℕ) (x : Bool) → EachIn (returned_by o s place x)
    each-returned none place x = h
    each-returned (some e) place x =
        by_bool (x && leb 1 e.request.sequence) (λ t. rw t (each-put (is_in place) States.Suspended)) (λ t. rw t (each-out (is_in place)))

    each-released : (o : Option Entry) (id : List ℕ) → EachIn (released_by o s id).schedule
    each-released none id = h
    each-released (some e) id = by_bool (suspended e.state) (λ t. rw t (each-put (is_named id) States.Waiting)) (λ t. rw t h)

    each-deleted : (o : Option Entry) (id : List ℕ) → EachIn (deleted_by o s id).schedule
    each-deleted none id = h
    each-deleted (some e) id = by_bool (active e.state) (λ t. rw t h) (λ t. rw t (each-out (is_named id)))

    -- what follows a call on packets, jobs or marks
    each_left : (leaving : Leaving) (place : ℕ) (otherwise : Schedule) → EachIn otherwise → EachIn (left_by leaving s place otherwise)
    each_left Stays place otherwise o = o
    each_left AfterNormal place otherwise o = each-returned (find (is_in place) (in_schedule s)) place false
    each_left AfterError place otherwise o = each-returned (find (is_in place) (in_schedule s)) place true

    each-followed : (a : Answer) → EachIn (followed s a)
    each-followed Answers.Done = h
    each-followed (Answers.Started b) = h
    each-followed (Answers.Completed place packet leaving) = each_left leaving place s h
    each-followed (Answers.Closed place leaving) = each_left leaving place (closing s place) (each-closing place)
    each-followed (Answers.Refused n) = h

    each-select : (found : Bool) (lists : Lists) (selection : Selection) → EachIn (Selecting.left_by found s lists selection).0
    each-select true lists selection = each-taken selection.at selection.place
    each-select false lists selection = h

-- ---- the calls on the cell

abbrev Formed : Request → Type 0
Formed r = Name is_alnum 1 6 r.id

abbrev NamedIn : Cell → Type 0
NamedIn c = Each Formed (requests (in_schedule c.schedule))

-- what is read from cards breaks no rule
read-formed : (g : List (List ℕ)) → (read_group g).verdict ≡ Ok tt → Formed (read_group g).request
read-formed g e =
    let v = (read_full g).full in
    let a = groups-alike g in
    let w : read_full g ≡ record { verdict = Ok tt; full = v } = ap (λ (x : CardVerdict). record { verdict = x; full = v }) (a.0 ∙ e) in
    subst Formed a.1 (full-allowed v (read-takes g v w)).request.id

plain-named : (c d : Cell) (x : Call) (reply : Reply) → Plain x → Does c x reply d → Sound c.schedule → NamedIn c → NamedIn d
plain-named c d (Deck bytes) reply p h s n =
    subst NamedIn (sym h.2.1.1.1)
    (subst (λ (t : Schedule). EachIn Formed t) (sym h.2.1.0.deck.then) (each-deck Formed read-formed c.schedule bytes s n))
plain-named c d Select reply p h s n =
    let r = h.0 in
    subst NamedIn (sym h.1.1.1)
    (subst (λ (t : Schedule × Lists). EachIn Formed t.0) (sym h.1.0.takes.leaves)
    (each-select Formed c.schedule n (Selecting.is_job r.selection.choice) c.lists r.selection))
plain-named c d (Do x) reply p h s n =
    unfold acted in subst NamedIn (sym h.1) (each-followed Formed c.schedule n (outcome c.lists (Rules.Do x)).answer)
plain-named c d (Release id) reply p h s n =
    subst NamedIn (sym h.1) (each-released Formed c.schedule n (find (is_named id) (in_schedule c.schedule)) id)
plain-named c d (Delete id) reply p h s n =
    subst NamedIn (sym h.1) (each-deleted Formed c.schedule n (find (is_named id) (in_schedule c.schedule)) id)
plain-named c d (Status place packet) reply p h s n = subst NamedIn (sym h.1) n
plain-named c d (Key message) reply p h s n = absurd p

-- a message does what the call does that it is
named-does : (c d : Cell) (x : Call) (reply : Reply) → Does c x reply d → Sound c.schedule → NamedIn c → NamedIn d
named-does c d x reply h s n = by-meant (λ o. NamedIn d) c d reply (λ e. subst NamedIn (sym e) n) (λ y p k. plain-named c d y reply p k s n) x h

-- THE ID OF EVERY REQUEST
pub named-so : (configuration : Configuration) (es : List Event) (c : Cell) → Reached configuration es c
    → Each (λ r. Name is_alnum 1 6 r.id) (requests (in_schedule c.schedule))
named-so configuration es c r =
    by-history configuration NamedIn (λ d b. unfold fresh_cell schedule_of in subst NamedIn (sym b) tt)
    (λ before d h n e x reply k. named-does d e x reply k (sound-always configuration before d h) n) es c r

-- ---- words

-- a text without a space in a fixed width, and the blanks behind it dropped again
no-blanks : (w : ℕ) (t : List ℕ) → every (isnt (byte " ")) t ≡ true → length t ≤ w → spaceless (padded w t) ≡ t
no-blanks zero [] p h = refl
no-blanks zero (b ∷ t) p h = absurd (omega arith)
no-blanks (suc w) [] p h = no-blanks w [] refl (omega arith)
no-blanks (suc w) (b ∷ t) p h =
    let q = both (isnt (byte " ") b) (every (isnt (byte " ")) t) p in
    by_bool (eqb b (byte " "))
    (λ e. never q.0 (rw e refl))
    (λ e. rw e (ap (λ (l : List ℕ). b ∷ l) (no-blanks w t q.1 (le_of_suc-le-suc h))))

no-space : (b : ℕ) → is_alnum b ≡ true → isnt (byte " ") b ≡ true
unfolding is_alnum is_letter is_digit
no-space b h = by_bool (eqb b (byte " ")) (λ e. never (subst (λ (x : ℕ). is_alnum x ≡ true) (eqb-true b (byte " ") e) h) refl) (λ e. rw e refl)

-- a text of at most six bytes is the letters and digits of the ID that it writes, if that is one
is-text : (t : List ℕ) → every (isnt (byte " ")) t ≡ true → length t ≤ 6 → (n : Name is_alnum 1 6 (padded 6 t)) → t ≡ n.text
is-text t p h n =
    sym (no-blanks 6 t p h) ∙ ap spaceless n.is
    ∙ no-blanks 6 n.text (every-weaker is_alnum (isnt (byte " ")) no-space n.text n.each) n.long.1

module _ (word : List ℕ) (p : every (isnt (byte " ")) word ≡ true) where
  long-none : 6 < length word → Name is_alnum 1 6 (id_of word) → ⊥
  unfolding id_of
  long-none l n =
      let m : Name is_alnum 1 6 (padded 6 []) = rw (lt-ltb 6 (length word) l) at n in
      let e : length m.text ≡ 0 = sym (ap length (is-text [] refl (omega arith) m)) in
      omega (arith, m.long.0)

  other_none : every is_alnum word ≡ false → Name is_alnum 1 6 (id_of word) → ⊥
  unfolding id_of
  other_none f n =
      by_bool (ltb 6 (length word)) (λ t. long-none (ltb-true 6 (length word) t) n)
      (λ t.
      let m : Name is_alnum 1 6 (padded 6 word) = rw t at n in
      let e : word ≡ m.text = is-text word p (ltb-false 6 (length word) t) m in
      never (subst (λ (x : List ℕ). every is_alnum x ≡ true) (sym e) m.each) f)

none_has : (id : List ℕ) → (Name is_alnum 1 6 id → ⊥) → (es : List Entry) → Each Formed (requests es) → find (is_named id) es ≡ none
none_has id n [] h = refl
none_has id n (e ∷ es) h =
    by_bool (same e.request.id id)
    (λ t. absurd (n (subst (λ (x : List ℕ). Name is_alnum 1 6 x) (same-equal e.request.id id t) h.0)))
    (λ t. rw t (none_has id n es h.1))

-- ANY OTHER WORD IS NOBODY'S
pub nobody-so : (configuration : Configuration) (es : List Event) (c : Cell) → Reached configuration es c
    → (word : List ℕ) → every (isnt (byte " ")) word ≡ true → (6 < length word) ⊎ (every is_alnum word ≡ false)
    → find (is_named (id_of word)) (in_schedule c.schedule) ≡ none
nobody-so configuration es c h word p o =
    none_has (id_of word) (⊎_elim (long-none word p) (other_none word p) o) (in_schedule c.schedule) (named-so configuration es c h)
