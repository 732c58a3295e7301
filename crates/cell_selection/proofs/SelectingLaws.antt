-- What selection's promise means: there is one outcome, it is refused exactly when no place is free or no candidate has
-- an assignment, and the taking that a selection makes is accepted by the lists. Assumes nothing.
use Rattle.std.specs.Prelude.{Option, Some, None, Ok}
use Prim.Native.Nat.{ℕ, ◌<◌}
use mathlib.Core.Path.{◌≡◌, refl, sym, ap, ◌∙◌}
use mathlib.Core.Bool.{true, false}
use mathlib.Core.List.{List}
use mathlib.Core.Logic.{◌⊎◌, inl, inr, ⊎_elim}
use native.Mathlib.Omega.{arith}
use borrow.Author.Tests.{lt-ltb}
use Rattle.numbers.proofs.Tests.{by_bool, never}
use Rattle.schedule_entries.specs.declared.Entry.{Entry}
use Rattle.schedule_list.specs.InSchedule.{in_schedule, entry_at}
use Rattle.schedule_list.specs.declared.Schedule.{Schedule}
use Rattle.assign.specs.Assignment.{Supply}
use Rattle.assign.specs.Parts.{Has, parts}
use Rattle.assign.proofs.FirstLaws.{first_one}
use Rattle.assign.proofs.ChosenLaws.{chosen-one}
use Rattle.assign.specs.declared.Assigned.{Assigned}
use Rattle.assign.specs.declared.Part.{Part}
use Rattle.packets.specs.Rules.{refusal}
use Rattle.packets.specs.declared.Lists.{Lists}
use Rattle.lists.specs.Outcomes.{state_of}
use Rattle.cell_taken.specs.Taken.{LowestFree}
use Rattle.cell_taken.proofs.TakenLaws.{lowest-one}
use Rattle.cell_selection.specs.Selecting.{AllHeld, FirstFit, FirstLacks, NoFit, Selected, Selects, SelectsBy, Takes, Unselected, is_job, left_by, supply_in, taking_of, unselected}
use Rattle.cell_selection.specs.declared.Choice.{Choice}
use Rattle.cell_selection.specs.declared.Choice.TheVariants.{Job, NoPlace, NoCandidates, Lacks}
use Rattle.cell_selection.specs.declared.Selection.{Selection}
use Rattle.cell_selection.specs.declared.Taking.{Taking}

-- ---- one outcome

-- neither of two numbers is below the other
level : {k m : ℕ} → (k < m → ⊥) → (m < k → ⊥) → k ≡ m
level f g = omega arith

module _ (es : List Entry) (supply : Supply) where
  -- a first fit is not found where none is
  fit-some : {k : ℕ} {a : Assigned} → FirstFit es supply k a → NoFit es supply → ⊥
  fit-some {k} {a} f n = n k f.candidate a f.chosen.is

  -- two first fits stand at one index
  fit_at : {k m : ℕ} {a b : Assigned} → FirstFit es supply k a → FirstFit es supply m b → k ≡ m
  fit_at {k} {m} {a} {b} f g =
      level (λ l. g.first k l f.candidate a f.chosen.is) (λ l. f.first m l g.candidate b g.chosen.is)

  fit-given : {k m : ℕ} {a b : Assigned} → k ≡ m → FirstFit es supply k a → FirstFit es supply m b → a ≡ b
  fit-given {k} {m} {a} {b} e f g = chosen-one supply (entry_at es m).request.facilities a b (rw (sym e) f.chosen) g.chosen

  -- the first candidate is one, and so is the first part that is lacking for it
  lacks-at : {k m : ℕ} {p q : Part} → FirstLacks es supply k p → FirstLacks es supply m q → k ≡ m
  lacks-at {k} {m} f g = level (λ l. g.first k l f.candidate) (λ l. f.first m l g.candidate)

  lacks-part : {k m : ℕ} {p q : Part} → k ≡ m → FirstLacks es supply k p → FirstLacks es supply m q → p ≡ q
  lacks-part {k} {m} {p} {q} e f g =
      ap part_of (first_one (Has supply (entry_at es m).request.facilities) parts (Some p) (Some q) (rw (sym e) f.lacking) g.lacking)
    where
      part_of : Option Part → Part
      part_of None = p
      part_of (Some x) = x

at-injective : {p q : ℕ} → Some p ≡ Some q → p ≡ q
at-injective {p} {q} e = ap (λ (f : Option ℕ). number f) e
  where
    number : Option ℕ → ℕ
    number (Some p) = p
    number None = 0

-- where a place is free not all are held
pub some-free : (lists : Lists) {place : ℕ} → LowestFree lists.jobs (Some place) → AllHeld lists → ⊥
some-free lists {place} l f = never l.1.0 (f place l.0)

module _ (es : List Entry) (lists : Lists) where
  -- a selection is made by a choice of a job, and by no other
  pub is-selected : (r : Selection) (c : Choice) → is_job c ≡ true → SelectsBy c es lists r → Selected es lists r
  is-selected r Job t s = s
  is-selected r NoPlace t s = never t refl
  is-selected r NoCandidates t s = never t refl
  is-selected r (Lacks part) t s = never t refl

  pub not_selected : (r : Selection) (c : Choice) → is_job c ≡ false → SelectsBy c es lists r
      → Unselected c es lists r.first × (r ≡ unselected c r.first)
  not_selected r Job t s = never refl t
  not_selected r NoPlace t s = s
  not_selected r NoCandidates t s = s
  not_selected r (Lacks part) t s = s

  -- what is refused: no place is free, or no candidate has an assignment
  pub why : (c : Choice) (id : List ℕ) → Unselected c es lists id → AllHeld lists ⊎ NoFit es (supply_in lists)
  why Job id a = absurd a
  why NoPlace id a = inl a.0
  why NoCandidates id a = inr (λ i c. absurd (a.1.0 i c))
  why (Lacks part) id a = inr a.1.0

  -- a selection and a refusal do not go together
  pub not-both : (r : Selection) → Selected es lists r → AllHeld lists ⊎ NoFit es (supply_in lists) → ⊥
  not-both r a b =
      ⊎_elim (some-free lists a.place)
      (λ n. fit-some es (supply_in lists) a.fit n) b

  -- two reasons are one
  same-why : (c d : Choice) (id jd : List ℕ) → Unselected c es lists id → Unselected d es lists jd → unselected c id ≡ unselected d jd
  same-why Job d id jd a b = absurd a
  same-why NoPlace Job id jd a b = absurd b
  same-why NoPlace NoPlace id jd a b = ap (unselected NoPlace) (a.1 ∙ sym b.1)
  same-why NoPlace NoCandidates id jd a b = absurd (b.0 a.0)
  same-why NoPlace (Lacks q) id jd a b = absurd (b.0 a.0)
  same-why NoCandidates Job id jd a b = absurd b
  same-why NoCandidates NoPlace id jd a b = absurd (a.0 b.0)
  same-why NoCandidates NoCandidates id jd a b = ap (unselected NoCandidates) (a.1.1 ∙ sym b.1.1)
  same-why NoCandidates (Lacks q) id jd a b = absurd (a.1.0 b.1.1.0 b.1.1.1.0.candidate)
  same-why (Lacks p) Job id jd a b = absurd b
  same-why (Lacks p) NoPlace id jd a b = absurd (a.0 b.0)
  same-why (Lacks p) NoCandidates id jd a b = absurd (b.1.0 a.1.1.0 a.1.1.1.0.candidate)
  same-why (Lacks p) (Lacks q) id jd a b =
      let e = lacks-at es (supply_in lists) a.1.1.1.0 b.1.1.1.0 in
      let f : p ≡ q = lacks-part es (supply_in lists) e a.1.1.1.0 b.1.1.1.0 in
      let g : id ≡ jd = a.1.1.1.1 ∙ ap (λ (i : ℕ). (entry_at es i).request.id) e ∙ sym b.1.1.1.1 in
      λ i. unselected (Lacks (f i)) (g i)

  both-selected : (r s : Selection) → r.choice ≡ s.choice → Selected es lists r → Selected es lists s → r ≡ s
  both-selected r s f a b =
      let k : r.at ≡ s.at = fit_at es (supply_in lists) a.fit b.fit in
      let p : r.place ≡ s.place = at-injective (lowest-one lists.jobs (Some r.place) (Some s.place) a.place b.place) in
      let g : r.assigned ≡ s.assigned = fit-given es (supply_in lists) k a.fit b.fit in
      let q : r.request ≡ s.request = a.request ∙ ap (λ (i : ℕ). (entry_at es i).request) k ∙ sym b.request in
      let n : r.first ≡ s.first = a.unnamed ∙ sym b.unnamed in
      λ i. record { choice = f i; first = n i; place = p i; at = k i; request = q i; assigned = g i }

  -- two choices of a job are one
  job_one : (c : Choice) → is_job c ≡ true → c ≡ Job
  job_one Job t = refl
  job_one NoPlace t = never t refl
  job_one NoCandidates t = never t refl
  job_one (Lacks part) t = never t refl

  one-by : (r s : Selection) → SelectsBy r.choice es lists r → SelectsBy s.choice es lists s → r ≡ s
  one-by r s a b =
      by_bool (is_job r.choice)
      (λ t. let x = is-selected r r.choice t a in
      by_bool (is_job s.choice) (λ u. both-selected r s (job_one r.choice t ∙ sym (job_one s.choice u)) x (is-selected s s.choice u b))
      (λ u. absurd (not-both r x (why s.choice s.first (not_selected s s.choice u b).0))))
      (λ t. let x = not_selected r r.choice t a in
      by_bool (is_job s.choice) (λ u. absurd (not-both s (is-selected s s.choice u b) (why r.choice r.first x.0)))
      (λ u. let y = not_selected s s.choice u b in x.1 ∙ same-why r.choice s.choice r.first s.first x.0 y.0 ∙ sym y.1))

-- TWO SELECTIONS ARE ONE, and leave the same
pub selects-one : (schedule : Schedule) (lists : Lists) (r s : Selection) → Selects schedule lists r → Selects schedule lists s → r ≡ s
selects-one schedule lists r s a b = one-by (in_schedule schedule) lists r s a b

pub takes_one : (schedule : Schedule) (lists : Lists) (r s : Taking) → Takes schedule lists r → Takes schedule lists s → r ≡ s
takes_one schedule lists r s a b =
    let e : r.selection ≡ s.selection = selects-one schedule lists r.selection s.selection a.selects b.selects in
    let l : ◌≡◌ {A = Schedule × Lists} (r.schedule, r.lists) (s.schedule, s.lists) =
    a.leaves ∙ ap (λ (x : Selection). left_by (is_job x.choice) schedule lists x) e ∙ sym b.leaves in
    let f : r.schedule ≡ s.schedule = ap (λ (x : Schedule × Lists). x.0) l in
    let g : r.lists ≡ s.lists = ap (λ (x : Schedule × Lists). x.1) l in
    λ i. record { selection = e i; schedule = f i; lists = g i }

-- ---- the lists accept the taking

pub taking-granted : (schedule : Schedule) (lists : Lists) (r : Selection) → Selected (in_schedule schedule) lists r
    → refusal (state_of lists) (taking_of r) ≡ Ok tt
unfolding refusal
taking-granted schedule lists r a = rw (lt-ltb r.place 16 a.place.0, a.place.1.0) refl
