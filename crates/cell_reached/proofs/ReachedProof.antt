-- EVERY REACHED CELL has what the page Reached says. Each selection is a taking that fits, so what the request lists' own
-- theorems say under that condition holds of every history of the cell. Assumes nothing.
use mathlib.Core.Path.{◌≡◌, sym, ap, subst, ◌∙◌}
use mathlib.Core.List.{List, [], ◌∷◌}
use Rattle.numbers.proofs.Tests.{by_bool}
use Rattle.cell.specs.Calls.{Outcome, outcome_of}
use Rattle.units.specs.State.{Square}
use Rattle.configuration_units.proofs.FreshLaws.{fresh-square}
use Rattle.schedule_list.specs.InSchedule.{in_schedule}
use Rattle.packets.proofs.AlwaysProof.{invariants}
use Rattle.packets.specs.Apart.{Fits, in_core}
use Rattle.packets.proofs.ApartProof.{disjoint}
use Rattle.packets.specs.History as Lists
use Rattle.packets.specs.History.{Along}
use Rattle.packets.proofs.Reaching.{along-append}
use Rattle.packets.specs.Rules as Rules
use Rattle.packets.specs.State.{State}
use Rattle.packets.specs.declared.Act.{Act}
use Rattle.packets_given.specs.Given.{Wants}
use Rattle.packets_given.proofs.DrumProof.{on-its-own-words}
use Rattle.packets_given.proofs.GivenProof.{holds-what-it-was-given}
use Rattle.cell_selection.specs.Selecting.{Selected, SelectsBy, is_job, taking_of}
use Rattle.cell_selection.proofs.SelectingLaws.{is-selected}
use Rattle.cell_selection.specs.declared.Selection.{Selection}
use Rattle.cell.specs.declared.Cell.{Cell}
use Rattle.cell_history.proofs.MeantLaws.{Plain, by-meant}
use Rattle.cell_history.proofs.Reaching.{fresh-inside, reached-lists}
use Rattle.cell_history.proofs.ToldLaws.{does-told, job-done, none_done}
use Rattle.cell_history.specs.Told.{done_as, inside, said, told, told_as, told_by, told_of}
use Rattle.cell_history.specs.History.{Call, Deck, Delete, Do, Does, Event, Key, Leads, Release, Reply, Select, Status}
use Rattle.cell_reached.proofs.Fitting.{area-fits, core-fits, units-fit}
use Rattle.cell_reached.specs.Reached.{Invariants}

-- a property of takings: any other call has it, and so has the taking of every selection
pub record OfTakings (P : State → Rules.Call → Type 0) : Type 0 where
  pub others : (s : State) (x : Act) → P s (Rules.Do x)
  pub selection : (c : Cell) (s : Selection) → Selected (in_schedule c.schedule) c.lists s → P (inside c) (taking_of s)

module _ (P : State → Rules.Call → Type 0) (T : OfTakings P) where
  -- each call that is told has it
  abbrev Each : State → List Lists.Event → Type 0
  Each s l = Along (λ before x after. P before x) s l

  select-each : (c : Cell) (s : Selection) (o : Outcome) → o ≡ outcome_of s.choice
      → SelectsBy s.choice (in_schedule c.schedule) c.lists s → Each (inside c) (done_as o s)
  select-each c s o e h =
      by_bool (is_job s.choice)
      (λ t. subst (λ (p : Outcome). Each (inside c) (done_as p s)) (sym (e ∙ job-done s.choice t))
      ((λ a. T.selection c s (is-selected (in_schedule c.schedule) c.lists s s.choice t h)), tt))
      (λ t. subst (λ (l : List Lists.Event). Each (inside c) l)
      (sym (ap (λ (p : Outcome). done_as p s) e ∙ none_done s.choice s t)) tt)

  plain-each : (c d : Cell) (x : Call) (reply : Reply) → Plain x → Does c x reply d → Each (inside c) (told_as x reply)
  plain-each c d (Deck bytes) reply p h = tt
  plain-each c d Select reply p h =
      rw h.1.1.0 (select-each c h.0.selection h.0.outcome h.1.0.outcome h.1.0.takes.selects)
  plain-each c d (Do x) reply p h =
      subst (λ (r : Reply). Each (inside c) (said x r)) (sym h.0) ((λ a. T.others (inside c) x), tt)
  plain-each c d (Release id) reply p h = tt
  plain-each c d (Delete id) reply p h = tt
  plain-each c d (Status j k) reply p h = tt
  plain-each c d (Key message) reply p h = absurd p

  -- a message is told as the call that it is
  does-each : (c d : Cell) (x : Call) (reply : Reply) → Does c x reply d → Each (inside c) (told_of x reply)
  does-each c d x reply h =
      by-meant (λ o. Each (inside c) (told_by o reply)) c d reply (λ e. tt) (λ y p k. plain-each c d y reply p k) x h

  leads-each : (c d : Cell) (es : List Event) → Leads c es d → Each (inside c) (told es)
  leads-each c d [] h = tt
  leads-each c d (e ∷ es) h =
      along-append (λ before x after. P before x) (inside c) (told_of e.call e.reply) (inside h.0) (told es)
      (does-told c h.0 e.call e.reply h.1.0) (does-each c h.0 e.call e.reply h.1.0)
      (leads-each h.0 d es h.1.1)

area-takings : OfTakings (Fits Rules.in_area)
area-takings =
    record { others = λ s x. tt; selection = λ c s d. area-fits (in_schedule c.schedule) c.lists s d }

core-takings : OfTakings (Fits in_core)
core-takings =
    record { others = λ s x. tt; selection = λ c s d. core-fits (in_schedule c.schedule) c.lists s d }

unit-takings : OfTakings Wants
unit-takings =
    record {
      others = λ s x. tt;
      selection = λ c s d k u h l w. units-fit (in_schedule c.schedule) c.lists s d k u h l w;
    }

-- EVERY REACHED CELL
pub every-cell : Invariants
every-cell configuration es c r =
    let lists = reached-lists configuration es c r in
    let apart = disjoint (told es) (inside c) lists in
    let square : Square (inside r.from).units =
    subst (λ (s : State). Square s.units) (sym (ap inside r.begins ∙ fresh-inside configuration))
    (unfold Lists.fresh in fresh-square configuration.down) in
    record {
      always = invariants (told es) (inside c) lists;
      drum = apart.0 (leads-each (Fits Rules.in_area) area-takings r.from c es r.leads);
      core = apart.1 (leads-each (Fits in_core) core-takings r.from c es r.leads);
      addresses = on-its-own-words (told es) (inside c) lists;
      given = holds-what-it-was-given (told es) (inside c) lists square (leads-each Wants unit-takings r.from c es r.leads);
    }
