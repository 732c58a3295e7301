-- THE LAWS OF REACHED CELLS: the one induction, what the request lists have reached there, and what a selection's answer
-- says. Assumes nothing.
use Rattle.std.proofs.Common.{Err, Ok}
use mathlib.Core.Path.{◌≡◌, refl, sym, ap, subst, ◌∙◌}
use mathlib.Core.Bool.{true}
use mathlib.Core.List.{List, [], ◌∷◌, ◌++◌}
use Rattle.cell.specs.Calls.{Outcome, fresh_cell, outcome_of}
use Rattle.numbers.specs.declared.Refusal.{Refusal}
use Rattle.channels.specs.declared.Configuration.{Configuration}
use Rattle.configuration_units.specs.Fresh.{fresh_units}
use Rattle.configuration_units.proofs.FreshLaws.{fresh-free}
use Rattle.schedule_list.specs.InSchedule.{in_schedule}
use Rattle.packets.specs.History as Lists
use Rattle.packets.specs.History.{fresh}
use Rattle.packets.proofs.Inv.{Inv}
use Rattle.packets.proofs.Steps as Lists'
use Rattle.packets.specs.Rules as Rules
use Rattle.lists.proofs.History.{state-of}
use Rattle.cell_selection.specs.Selecting.{Selected, Selects, is_job, taking_of}
use Rattle.cell_selection.proofs.SelectingLaws.{is-selected, taking-granted}
use Rattle.cell_selection.specs.declared.Choice.{Choice}
use Rattle.cell_selection.specs.declared.Choice.TheVariants.{Job, NoPlace, NoCandidates, Lacks}
use Rattle.cell_selection.specs.declared.Selection.{Selection}
use Rattle.cell.specs.declared.Cell.{Cell}
use Rattle.cell_history.proofs.ToldLaws.{does-told, leads-told}
use Rattle.cell_history.specs.Told.{inside, told}
use Rattle.cell_history.specs.History.{Begins, Call, Chosen, Does, Event, Leads, Reached, Reply, Select}

-- ---- one call more

pub leads-more : (c d e : Cell) (es : List Event) (x : Event) → Leads c es d → Does d x.call x.reply e → Leads c (es ++ (x ∷ [])) e
leads-more c d e [] x h k = (e, (subst (λ (m : Cell). Does m x.call x.reply e) h k, refl))
leads-more c d e (y ∷ es) x h k = (h.0, (h.1.0, leads-more h.0 d e es x h.1.1 k))

pub reached-more : (configuration : Configuration) (es : List Event) (c d : Cell) (x : Event) → Reached configuration es c
    → Does c x.call x.reply d → Reached configuration (es ++ (x ∷ [])) d
reached-more configuration es c d x r k =
    record { from = r.from; begins = r.begins; leads = leads-more r.from c d es x r.leads k }

-- ---- THE INDUCTION: what is so where a history begins, and after each call if it was so before it, is so of every
-- reached cell

module _ (configuration : Configuration) (P : Cell → Type 0) (first : (c : Cell) → Begins configuration c → P c)
    (more : (es : List Event) (c : Cell) → Reached configuration es c → P c → (d : Cell) (x : Call) (reply : Reply) → Does c x reply d → P d) where
  from-here : (before : List Event) (c : Cell) → Reached configuration before c → P c → (es : List Event) (d : Cell) → Leads c es d → P d
  from-here before c r p [] d h = subst P (sym h) p
  from-here before c r p (e ∷ es) d h =
      from-here (before ++ (e ∷ [])) h.0 (reached-more configuration before c h.0 e r h.1.0)
      (more before c r p h.0 e.call e.reply h.1.0) es d h.1.1

  pub by-history : (es : List Event) (c : Cell) → Reached configuration es c → P c
  by-history es c r =
      from-here [] r.from (record { from = r.from; begins = r.begins; leads = refl }) (first r.from r.begins) es c r.leads

-- ---- the request lists of a reached cell

pub fresh-inside : (configuration : Configuration)
    → inside (fresh_cell configuration) ≡ fresh configuration.channels configuration.codes (fresh_units configuration.down)
unfolding fresh_cell
fresh-inside configuration = state-of (fresh configuration.channels configuration.codes (fresh_units configuration.down))

-- they are reached by what is told
abbrev pub reached-lists : (configuration : Configuration) (es : List Event) (c : Cell) → Reached configuration es c
    → Lists.Reached (told es) (inside c)
reached-lists configuration es c r =
    record {
      from = inside r.from;
      begins = record {
        channels = configuration.channels;
        codes = configuration.codes;
        units = fresh_units configuration.down;
        none = fresh-free configuration.down;
        is = ap inside r.begins ∙ fresh-inside configuration;
      };
      leads = leads-told r.from c es r.leads;
    }

pub reached-inv : (configuration : Configuration) (es : List Event) (c : Cell) → Reached configuration es c → Inv (inside c)
reached-inv configuration es c r = Lists'.reached-inv (told es) (inside c) (reached-lists configuration es c r)

-- ---- selection's answer

pub chosen_is : {o p : Outcome} {s t : Selection} → Chosen o s ≡ Chosen p t → (o ≡ p) × (s ≡ t)
chosen_is {o} {p} {s} {t} e = (ap outcome e, ap selection e)
  where
    outcome : Reply → Outcome
    outcome (Chosen a b) = a
    outcome (Reply.Entered a) = o
    outcome (Reply.Said a) = o
    outcome (Reply.Shown a) = o
    outcome (Reply.Mistyped a) = o

    selection : Reply → Selection
    selection (Chosen a b) = b
    selection (Reply.Entered a) = s
    selection (Reply.Said a) = s
    selection (Reply.Shown a) = s
    selection (Reply.Mistyped a) = s

not_done : {n : Refusal} → ◌≡◌ {A = Outcome} (Err n) (Ok tt) → ⊥
not_done {n} e = subst (λ (o : Outcome). is o) e tt
  where
    is : Outcome → Type 0
    is (Ok u) = ⊥
    is (Err m) = Unit {0}

-- done is a job, and nothing else is
pub done-job : (x : Choice) → outcome_of x ≡ Ok tt → is_job x ≡ true
done-job Job e = refl
done-job NoPlace e = absurd (not_done e)
done-job NoCandidates e = absurd (not_done e)
done-job (Lacks part) e = absurd (not_done e)

pub found_of : (c d : Cell) (s : Selection) → Does c Select (Chosen (Ok tt) s) d → is_job s.choice ≡ true
found_of c d s h =
    let e = chosen_is h.1.1.0 in
    ap (λ (x : Selection). is_job x.choice) e.1 ∙ done-job h.0.selection.choice (sym h.1.0.outcome ∙ sym e.0)

pub selected-of : (c d : Cell) (s : Selection) → Does c Select (Chosen (Ok tt) s) d → Selected (in_schedule c.schedule) c.lists s
selected-of c d s h =
    let e = chosen_is h.1.1.0 in
    let w : Selects c.schedule c.lists s = subst (Selects c.schedule c.lists) (sym e.1) h.1.0.takes.selects in
    is-selected (in_schedule c.schedule) c.lists s s.choice (found_of c d s h) w

-- a selection is a taking that the lists accept
pub taking-of : (c d : Cell) (s : Selection) → Does c Select (Chosen (Ok tt) s) d
    → (Rules.refusal (inside c) (taking_of s) ≡ Ok tt) × (inside d ≡ (Rules.step (inside c) (taking_of s)).state)
taking-of c d s h = (
  taking-granted c.schedule c.lists s (selected-of c d s h),
  (does-told c d Select (Chosen (Ok tt) s) h).1,
)
