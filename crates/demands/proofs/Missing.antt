-- WHAT A REFUSED SELECTION SAYS, shown: 18, 19 and 20 each exactly when its sentence holds, with 20 the first
-- candidate's ID and the first part that it lacks, and nothing else. Assumes nothing.
use Rattle.std.proofs.Common.{Err, Ok}
use Prim.Native.Nat.{ℕ, ◌≤◌, ◌<◌}
use mathlib.Core.Path.{◌≡◌, refl, sym, ap, subst, ◌∙◌}
use mathlib.Core.List.{List}
use mathlib.Core.Logic.{inl, inr}
use native.Mathlib.Omega.{arith}
use lib.Dec.{ltb}
use borrow.Author.Tests.{ltb-false, ltb-true}
use Rattle.numbers.proofs.Tests.{by_bool}
use Rattle.numbers.specs.Refusals.{number_of}
use Rattle.cell.specs.Calls.{Outcome, outcome_of}
use Rattle.numbers.specs.declared.Refusal.{Refusal}
use Rattle.numbers.specs.declared.Refusal.TheVariants as Refusals
use Rattle.channels.specs.declared.Configuration.{Configuration}
use Rattle.schedule_list.specs.InSchedule.{in_schedule}
use Rattle.cell_selection.specs.Selecting.{AllHeld, NoCandidate, NoFit, Selects, SelectsBy, no_id, supply_in, unselected}
use Rattle.cell_selection.proofs.SelectingLaws.{not-both}
use Rattle.cell_selection.specs.declared.Choice.{Choice}
use Rattle.cell_selection.specs.declared.Choice.TheVariants.{Job, NoPlace, NoCandidates, Lacks}
use Rattle.cell_selection.specs.declared.Selection.{Selection}
use Rattle.cell.specs.declared.Cell.{Cell}
use Rattle.cell_history.specs.History.{Chosen, Does, Event, Reached, Select}
use Rattle.cell_history.proofs.Reaching.{chosen_is}
use Rattle.cell_agreement.proofs.SoundProof.{sound-always}
use Rattle.demands.specs.Demands.{Missing, RefusedSo}
use Rattle.demands.proofs.InOrder.{ahead}

-- what a selection's answer is: its outcome and its selection, as the contract has them
answer-of : (c d : Cell) (o : Outcome) (s : Selection) → Does c Select (Chosen o s) d
    → (o ≡ outcome_of s.choice) × Selects c.schedule c.lists s
answer-of c d o s h =
    let e = chosen_is h.1.1.0 in (
      e.0 ∙ h.1.0.outcome ∙ ap (λ (x : Selection). outcome_of x.choice) (sym e.1),
      subst (Selects c.schedule c.lists) (sym e.1) h.1.0.takes.selects,
    )

-- ---- the refusals are apart

abbrev number_in : Outcome → ℕ
number_in (Ok u) = 0
number_in (Err n) = number_of n

apart : {o p : Outcome} → o ≡ p → (number_in o ≡ number_in p → ⊥) → ⊥
apart e f = f (ap number_in e)

-- ---- each exactly when its sentence holds
module _ (c : Cell) (s : Selection) where
  abbrev Held : Type 0
  Held = AllHeld c.lists

  abbrev Idle : Type 0
  Idle = NoCandidate (in_schedule c.schedule)

  abbrev Unfit : Type 0
  Unfit = NoFit (in_schedule c.schedule) (supply_in c.lists)

  by-choice : (x : Choice) → SelectsBy x (in_schedule c.schedule) c.lists s → RefusedSo c (outcome_of x)
  by-choice Job h =
      let never_both = not-both (in_schedule c.schedule) c.lists s h in
      record {
        no_place = (λ e. absurd (apart e λ q. omega arith), λ f. absurd (never_both (inl f)));
        no_candidates = (λ e. absurd (apart e λ q. omega arith), λ f. absurd (never_both (inr (λ i k. absurd (f.1 i k)))));
        no_assignment = (λ e. absurd (apart e λ q. omega arith), λ f. absurd (never_both (inr f.1.1)));
        together = (λ f. absurd (f refl), λ f. absurd (never_both f));
      }
  by-choice NoPlace h =
      record {
        no_place = (λ e. h.0.0, λ f. refl);
        no_candidates = (λ e. absurd (apart e λ q. omega arith), λ f. absurd (f.0 h.0.0));
        no_assignment = (λ e. absurd (apart e λ q. omega arith), λ f. absurd (f.0 h.0.0));
        together = (λ f. inl h.0.0, λ f e. apart e λ q. omega arith);
      }
  by-choice NoCandidates h =
      record {
        no_place = (λ e. absurd (apart e λ q. omega arith), λ f. absurd (h.0.0 f));
        no_candidates = (λ e. (h.0.0, h.0.1.0), λ f. refl);
        no_assignment = (λ e. absurd (apart e λ q. omega arith), λ f. absurd (f.1.0 h.0.1.0));
        together = (λ f. inr (λ i k. absurd (h.0.1.0 i k)), λ f e. apart e λ q. omega arith);
      }
  by-choice (Lacks part) h =
      let some : Idle → ⊥ = λ n. n h.0.1.1.0 h.0.1.1.1.0.candidate in
      record {
        no_place = (λ e. absurd (apart e λ q. omega arith), λ f. absurd (h.0.0 f));
        no_candidates = (λ e. absurd (apart e λ q. omega arith), λ f. absurd (some f.1));
        no_assignment = (λ e. (h.0.0, (some, h.0.1.0)), λ f. refl);
        together = (λ f. inr h.0.1.0, λ f e. apart e λ q. omega arith);
      }

pub refused-so : (c d : Cell) (o : Outcome) (s : Selection) → Does c Select (Chosen o s) d → RefusedSo c o
refused-so c d o s h = let a = answer-of c d o s h in subst (RefusedSo c) (sym a.0) (by-choice c s s.choice a.1)

-- ---- what was missing

below : {i at : ℕ} → (i ≡ at → ⊥) → i ≤ at → i < at
below n l = omega arith

module _ (configuration : Configuration) (es : List Event) (c : Cell) (leads : Reached configuration es c) (s : Selection) where
  missing-by : (x : Choice) → s.choice ≡ x → Err Refusals.NoAssignment ≡ outcome_of x → SelectsBy x (in_schedule c.schedule) c.lists s
      → Missing c s
  missing-by Job t e h = absurd (apart e λ q. omega arith)
  missing-by NoPlace t e h = absurd (apart e λ q. omega arith)
  missing-by NoCandidates t e h = absurd (apart e λ q. omega arith)
  missing-by (Lacks part) t e h =
      let at = h.0.1.1.0 in
      let f = h.0.1.1.1.0 in
      record {
        at = at;
        candidate = f.candidate;
        first = λ i k n.
            by_bool (ltb at i)
            (λ p. ahead (in_schedule c.schedule) (sound-always configuration es c leads).orderly.keys at i (ltb-true at i p) k.0)
            (λ p. absurd (f.first i (below n (ltb-false at i p)) k));
        id = h.0.1.1.1.1;
        part = part;
        lacking = f.lacking;
        told = t;
      }

pub missing-so : (configuration : Configuration) (es : List Event) (c : Cell) → Reached configuration es c
    → (d : Cell) (s : Selection) → Does c Select (Chosen (Err Refusals.NoAssignment) s) d → Missing c s
missing-so configuration es c l d s h =
    let a = answer-of c d (Err Refusals.NoAssignment) s h in missing-by configuration es c l s s.choice refl a.0 a.1

-- ---- and nothing else
module _ (c : Cell) (s : Selection) where
  alone-by : (x : Choice) (n : Refusal) → Err n ≡ outcome_of x → SelectsBy x (in_schedule c.schedule) c.lists s
      → (s ≡ unselected x s.first) × ((n ≡ Refusals.NoAssignment → ⊥) → s.first ≡ no_id)
  alone-by Job n e h = absurd (let z : ◌≡◌ {A = ℕ} 0 1 = cc in omega arith)
  alone-by NoPlace n e h = (h.1, λ q. h.0.1)
  alone-by NoCandidates n e h = (h.1, λ q. h.0.1.1)
  alone-by (Lacks part) n e h = (h.1, λ q. absurd (q cc))

pub alone-so : (c d : Cell) (s : Selection) (n : Refusal) → Does c Select (Chosen (Err n) s) d
    → (outcome_of s.choice ≡ Err n) × ((s ≡ unselected s.choice s.first) × ((n ≡ Refusals.NoAssignment → ⊥) → s.first ≡ no_id))
alone-so c d s n h = let a = answer-of c d (Err n) s h in (sym a.0, alone-by c s s.choice n a.0 a.1)
