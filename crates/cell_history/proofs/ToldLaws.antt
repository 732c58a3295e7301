-- WHAT IS TOLD OF A HISTORY leads the request lists, by the rules, from the state before it to the state after it. So all
-- that holds of any history of the rules holds of any history of the cell. Assumes nothing.
use Rattle.std.proofs.Common.{Ok}
use mathlib.Core.Path.{◌≡◌, refl, sym, ap, subst, ◌∙◌}
use mathlib.Core.Bool.{true, false}
use mathlib.Core.List.{List, [], ◌∷◌, ◌++◌, append_assoc, append-nil}
use Rattle.numbers.proofs.Tests.{by_bool, never}
use Rattle.cell.specs.Calls.{Outcome, acted, outcome_of}
use Rattle.schedule_list.specs.InSchedule.{in_schedule}
use Rattle.schedule_list.specs.declared.Schedule.{Schedule}
use Rattle.packets.specs.History as Lists
use Rattle.packets.proofs.Reaching as Lists'
use Rattle.packets.specs.Rules as Rules
use Rattle.packets.specs.State.{State, Verdict}
use Rattle.packets.specs.declared.Act.{Act}
use Rattle.packets.specs.declared.Answer.TheVariants.{Done}
use Rattle.packets.specs.declared.Lists.{Lists as Held}
use Rattle.lists.specs.Outcomes.{state_of}
use Rattle.lists.proofs.History.{outcome-is}
use Rattle.cell_selection.specs.Selecting.{SelectsBy, is_job, left_by, taking_of}
use Rattle.cell_selection.proofs.SelectingLaws.{is-selected, taking-granted}
use Rattle.cell_selection.specs.declared.Choice.{Choice}
use Rattle.cell_selection.specs.declared.Choice.TheVariants.{Job, NoPlace, NoCandidates, Lacks}
use Rattle.cell_selection.specs.declared.Selection.{Selection}
use Rattle.cell.specs.declared.Cell.{Cell}
use Rattle.cell_history.proofs.MeantLaws.{Plain, by-meant}
use Rattle.cell_history.specs.History.{Call, Deck, Delete, Do, Does, Event, Key, Leads, Release, Reply, Said, Select, Status}
use Rattle.cell_history.specs.Told.{done_as, inside, said, told, told_as, told_by, told_of}

-- ---- one call

acts-told : (c d : Cell) (x : Act) (reply : Reply) → reply ≡ Said (acted c x).answer → d ≡ (acted c x).cell
    → Lists.Leads (inside c) (said x reply) (inside d)
unfolding acted
acts-told c d x reply e f =
    let is = outcome-is c.lists (Rules.Do x) in
    subst (λ (r : Reply). Lists.Leads (inside c) (said x r) (inside d)) (sym e) (is.0, ap inside f ∙ is.1)

-- the taking of a selection is done
taking-done : (s : State) (r : Selection) → Rules.refusal s (taking_of r) ≡ Ok tt → (Rules.step s (taking_of r)).answer ≡ Done
unfolding Rules.step Rules.answer
taking-done s r g = ap (λ (v : Verdict). (Rules.decided s (taking_of r) v).answer) g

-- a job's outcome is done, and no other's
pub job-done : (x : Choice) → is_job x ≡ true → outcome_of x ≡ Ok tt
job-done Job t = refl
job-done NoPlace t = never t refl
job-done NoCandidates t = never t refl
job-done (Lacks part) t = never t refl

pub none_done : (x : Choice) (r : Selection) → is_job x ≡ false → done_as (outcome_of x) r ≡ []
none_done Job r t = never refl t
none_done NoPlace r t = refl
none_done NoCandidates r t = refl
none_done (Lacks part) r t = refl

-- a selection is a taking that is done, or nothing
select_told : (c : Cell) (r : Selection) (o : Outcome) (schedule : Schedule) (lists : Held) → o ≡ outcome_of r.choice
    → SelectsBy r.choice (in_schedule c.schedule) c.lists r
    → ◌≡◌ {A = Schedule × Held} (schedule, lists) (left_by (is_job r.choice) c.schedule c.lists r)
    → Lists.Leads (inside c) (done_as o r) (state_of lists)
select_told c r o schedule lists e h l =
    let left : state_of lists ≡ state_of (left_by (is_job r.choice) c.schedule c.lists r).1 =
    ap (λ (x : Schedule × Held). state_of x.1) l in
    by_bool (is_job r.choice)
    (λ t. let g = taking-granted c.schedule c.lists r (is-selected (in_schedule c.schedule) c.lists r r.choice t h) in
    subst (λ (p : Outcome). Lists.Leads (inside c) (done_as p r) (state_of lists)) (sym (e ∙ job-done r.choice t))
    (sym (taking-done (inside c) r g), (rw t at left) ∙ (outcome-is c.lists (taking_of r)).1))
    (λ t. subst (λ (m : List Lists.Event). Lists.Leads (inside c) m (state_of lists))
    (sym (ap (λ (p : Outcome). done_as p r) e ∙ none_done r.choice r t)) (rw t at left))

-- each call that is no message
plain-told : (c d : Cell) (x : Call) (reply : Reply) → Plain x → Does c x reply d → Lists.Leads (inside c) (told_as x reply) (inside d)
plain-told c d (Deck bytes) reply p h = ap inside h.2.1.1.1 ∙ ap state_of h.2.1.0.lists
plain-told c d Select reply p h =
    let r = h.0 in
    rw (h.1.1.0, h.1.1.1)
    (select_told c r.selection r.outcome r.cell.schedule r.cell.lists h.1.0.outcome h.1.0.takes.selects
    h.1.0.takes.leaves)
plain-told c d (Do x) reply p h = acts-told c d x reply h.0 h.1
plain-told c d (Release id) reply p h = ap inside h.1
plain-told c d (Delete id) reply p h = ap inside h.1
plain-told c d (Status place packet) reply p h = ap inside h.1
plain-told c d (Key message) reply p h = absurd p

-- WHAT IS TOLD OF A CALL, whatever the number of calls on the lists, leads from the lists before it to the lists after it
pub does-told : (c d : Cell) (x : Call) (reply : Reply) → Does c x reply d → Lists.Leads (inside c) (told_of x reply) (inside d)
does-told c d x reply h =
    by-meant (λ o. Lists.Leads (inside c) (told_by o reply) (inside d)) c d reply (ap inside) (λ y p k. plain-told c d y reply p k) x h

-- ---- a history

-- WHAT IS TOLD OF A HISTORY leads there too
pub leads-told : (c d : Cell) (es : List Event) → Leads c es d → Lists.Leads (inside c) (told es) (inside d)
leads-told c d [] h = ap inside h
leads-told c d (e ∷ es) h =
    Lists'.leads-append (inside c) (told_of e.call e.reply) (inside h.0) (told es) (inside d)
    (does-told c h.0 e.call e.reply h.1.0) (leads-told h.0 d es h.1.1)

-- of a history and one call more
pub told_more : (es : List Event) (x : Event) → told (es ++ (x ∷ [])) ≡ told es ++ told_of x.call x.reply
told_more [] x = append-nil (told_of x.call x.reply)
told_more (y ∷ es) x =
    ap (λ (r : List Lists.Event). told_of y.call y.reply ++ r) (told_more es x)
    ∙ sym (append_assoc (told_of y.call y.reply) (told es) (told_of x.call x.reply))
