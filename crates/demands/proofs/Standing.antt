-- DEMAND 1: after a refused call everything stands. By the kinds of call; an accepted call's answer is never a
-- refusal. Assumes nothing.
use Rattle.std.proofs.Common.{Err, None, Ok, Some}
use Prim.Native.Nat.{ℕ}
use mathlib.Core.Path.{◌≡◌, refl, sym, ap, subst, ◌∙◌}
use mathlib.Core.Bool.{Bool, false}
use mathlib.Core.List.{List, []}
use mathlib.Core.Option.{Option, none, some}
use lib.ListN.{drop}
use Rattle.numbers.proofs.Tests.{by_bool}
use Rattle.numbers.specs.declared.Refusal.{Refusal}
use Rattle.cards_fields.specs.Deck.{deck_end, DeckEnd}
use Rattle.schedule_entries.specs.Entries.{active, is_named, suspended}
use Rattle.schedule_entries.specs.declared.Entry.{Entry}
use Rattle.schedule_list.specs.InSchedule.{in_schedule}
use Rattle.schedule_list.specs.declared.Schedule.{Schedule}
use Rattle.schedule.specs.Calls.{deleted_by, released_by}
use Rattle.schedule.specs.declared.Changed.{Changed}
use Rattle.text.specs.Room.{Whole}
use Rattle.schedule_deck.specs.Report.{notes_by, outcome_by, schedule_by}
use Rattle.numbers.specs.Elements.{find}
use Rattle.packets.specs.Rules as Rules
use Rattle.packets.specs.State.{State, motion_on, Motion, Verdict}
use Rattle.packets.specs.declared.Act.{Act}
use Rattle.packets.specs.declared.Act.TheVariants as Act'
use Rattle.packets.specs.declared.How.{How}
use Rattle.packets.specs.declared.Lists.{Lists}
use Rattle.lists.specs.Outcomes.{outcome, settled, state_of}
use Rattle.cell_selection.specs.Selecting.{is_job, left_by}
use Rattle.cell_selection.specs.declared.Choice.{Choice}
use Rattle.cell_selection.specs.declared.Choice.TheVariants.{Job, NoPlace, NoCandidates, Lacks}
use Rattle.cell.specs.Calls.{acted, answer_of, cell_of, followed, outcome_of, Enters, SelectsIn}
use Rattle.cell.specs.declared.Cell.{Cell}
use Rattle.cell.specs.declared.DeckAnswer.{DeckAnswer}
use Rattle.cell.specs.declared.SelectAnswer.{SelectAnswer}
use Rattle.cell_history.proofs.MeantLaws.{Plain, by-meant}
use Rattle.cell_history.specs.History.{Call, Deck, Delete, Do, Does, Key, Release, Reply, Select, Status}
use Rattle.demands.specs.Refusing.{of_answer, of_outcome, refusal_in}

-- an option is not both
not_some : {A : Type 0} {x : A} → ◌≡◌ {A = Option A} none (some x) → ⊥
not_some {A} {x} e = subst (λ (o : Option A). is o) e tt
  where
    is : Option A → Type 0
    is none = Unit {0}
    is (some y) = ⊥

-- ---- the lists: an accepted call's answer is no refusal

begins-some : (s : State) (o : Option ℕ) (n : Refusal) → of_answer (Rules.begins s o) ≡ some n → ⊥
begins-some s none n e = not_some e
begins-some s (some x) n e = not_some e

completes-some : (s : State) (c : ℕ) (how : How) (m : Motion) (n : Refusal) → of_answer (Rules.completes s c how m) ≡ some n → ⊥
completes-some s c how None n e = not_some e
completes-some s c how (Some (j, p)) n e = not_some e

accepted : (s : State) (x : Rules.Call) (n : Refusal) → of_answer (Rules.answer s x) ≡ some n → ⊥
unfolding Rules.answer
accepted s (Rules.Take j asg) n e = not_some e
accepted s (Rules.Do (Act'.Submit j p f c w)) n e = not_some e
accepted s (Rules.Do (Act'.Start c)) n e = begins-some s (find (Rules.startable s c.0) s.queue) n e
accepted s (Rules.Do (Act'.Complete c how)) n e = completes-some s c.0 how (motion_on s c.0) n e
accepted s (Rules.Do (Act'.End j b)) n e = not_some e
accepted s (Rules.Do (Act'.Return j c u)) n e = not_some e
accepted s (Rules.Do (Act'.Mark c u m on)) n e = not_some e

acts-stand : (c : Cell) (x : Act) (n : Refusal) → of_answer (acted c x).answer ≡ some n → (acted c x).cell ≡ c
unfolding acted outcome
acts-stand c x n e = go (Rules.refusal (state_of c.lists) y) e
  where
    y : Rules.Call
    y = Rules.Do x

    go : (v : Verdict) → of_answer (settled c.lists y v).answer ≡ some n
        → cell_of (followed c.schedule (settled c.lists y v).answer) (settled c.lists y v).lists ≡ c
    go (Ok u) k = absurd (accepted (state_of c.lists) y n k)
    go (Err m) k = refl

-- ---- release and delete

module _ (c : Cell) (id : List ℕ) (n : Refusal) where
  abbrev back : Changed → Cell
  back r = cell_of r.schedule c.lists

  release-stands : (o : Option Entry) → of_answer (answer_of (released_by o c.schedule id).outcome) ≡ some n
      → back (released_by o c.schedule id) ≡ c
  release-stands none e = refl
  release-stands (some x) e = by_bool (suspended x.state) (λ t. absurd (not_some (rw t at e))) (λ t. rw t refl)

  delete-stands : (o : Option Entry) → of_answer (answer_of (deleted_by o c.schedule id).outcome) ≡ some n → back (deleted_by o c.schedule id) ≡ c
  delete-stands none e = refl
  delete-stands (some x) e = by_bool (active x.state) (λ t. rw t refl) (λ t. absurd (not_some (rw t at e)))

-- ---- a deck

deck-schedule : (end : DeckEnd) (s : Schedule) (bytes : List ℕ) (n : Refusal) → of_outcome (outcome_by end) ≡ some n → schedule_by end s bytes ≡ s
deck-schedule (Ok k) s bytes n e = absurd (not_some e)
deck-schedule (Err m) s bytes n e = refl

deck-notes : (end : DeckEnd) (s : Schedule) (bytes : List ℕ) (n : Refusal) → outcome_by end ≡ Err n → notes_by end s bytes ≡ []
deck-notes (Ok k) s bytes n e = absurd (not_some (ap of_outcome e))
deck-notes (Err m) s bytes n e = refl

deck-stands : (c : Cell) (bytes room after : List ℕ) (r : DeckAnswer) (n : Refusal) → Enters c bytes room after r
    → of_outcome r.outcome ≡ some n → r.cell ≡ c
deck-stands c bytes room after r n h e =
    let s : r.cell.schedule ≡ c.schedule =
    h.deck.then ∙ deck-schedule (deck_end bytes) c.schedule bytes n (sym (ap of_outcome h.deck.outcome) ∙ e) in
    let l : r.cell.lists ≡ c.lists = h.lists in
    λ i. record { schedule = s i; lists = l i }

-- the lent room: nothing is put
pub deck-lent : (c : Cell) (bytes room after : List ℕ) (r : DeckAnswer) (n : Refusal) → Enters c bytes room after r
    → r.outcome ≡ Err n → after ≡ room
deck-lent c bytes room after r n h e =
    let none : notes_by (deck_end bytes) c.schedule bytes ≡ [] = deck-notes (deck_end bytes) c.schedule bytes n (sym h.deck.outcome ∙ e) in
    let w : Whole [] room after r.at = rw none at h.deck.text in
    w.bytes ∙ ap (λ (k : ℕ). drop k room) w.ends

-- ---- selection

outcome-none : (x : Choice) (n : Refusal) → of_outcome (outcome_of x) ≡ some n → is_job x ≡ false
outcome-none Job n e = absurd (not_some e)
outcome-none NoPlace n e = refl
outcome-none NoCandidates n e = refl
outcome-none (Lacks part) n e = refl

select-stands : (c : Cell) (r : SelectAnswer) (n : Refusal) → SelectsIn c r → of_outcome r.outcome ≡ some n → r.cell ≡ c
select-stands c r n h e =
    let f : is_job r.selection.choice ≡ false = outcome-none r.selection.choice n (sym (ap of_outcome h.outcome) ∙ e) in
    let l : ◌≡◌ {A = Schedule × Lists} (r.cell.schedule, r.cell.lists) (c.schedule, c.lists) =
    h.takes.leaves ∙ ap (λ (b : Bool). left_by b c.schedule c.lists r.selection) f in
    λ i. record { schedule = (l i).0; lists = (l i).1 }

-- after a refused call that is no message the cell stands
plain-stands : (c d : Cell) (x : Call) (reply : Reply) (n : Refusal) → Plain x → Does c x reply d → refusal_in reply ≡ some n → d ≡ c
plain-stands c d (Deck bytes) reply n z h e =
    h.2.1.1.1 ∙ deck-stands c bytes h.0 h.1 h.2.0 n h.2.1.0 (sym (ap refusal_in h.2.1.1.0) ∙ e)
plain-stands c d Select reply n z h e = h.1.1.1 ∙ select-stands c h.0 n h.1.0 (sym (ap refusal_in h.1.1.0) ∙ e)
plain-stands c d (Do x) reply n z h e = h.1 ∙ acts-stand c x n (sym (ap refusal_in h.0) ∙ e)
plain-stands c d (Release id) reply n z h e =
    h.1 ∙ release-stands c id n (find (is_named id) (in_schedule c.schedule)) (sym (ap refusal_in h.0) ∙ e)
plain-stands c d (Delete id) reply n z h e =
    h.1 ∙ delete-stands c id n (find (is_named id) (in_schedule c.schedule)) (sym (ap refusal_in h.0) ∙ e)
plain-stands c d (Status j p) reply n z h e = h.1
plain-stands c d (Key message) reply n z h e = absurd z

-- AFTER A REFUSED CALL THE CELL STANDS
pub stands : (c d : Cell) (x : Call) (reply : Reply) (n : Refusal) → Does c x reply d → refusal_in reply ≡ some n → d ≡ c
stands c d x reply n h e = by-meant (λ o. d ≡ c) c d reply (λ s. s) (λ y z k. plain-stands c d y reply n z k e) x h
