-- THE JOB SELECTED IS THE FIRST IN ORDER, shown: the schedule stands in selection order in every cell that a
-- history leads to, so the first of its candidates is the first in order. Assumes nothing.
use Prim.Native.Nat.{ℕ, zero, suc, ◌≤◌, ◌<◌}
use mathlib.Core.Path.{◌≡◌, refl, sym, subst}
use mathlib.Core.Bool.{true, false}
use mathlib.Core.List.{List, [], ◌∷◌}
use native.Mathlib.Nat.{le_of_suc-le-suc}
use native.Mathlib.Omega.{arith}
use lib.Dec.{eqb, ltb}
use lib.ListN.{length, get_or, length-map, get_or-map}
use borrow.Author.Tests.{eq-eqb, eqb-false, eqb-true, le-ltb, ltb-false, ltb-true}
use Rattle.numbers.proofs.Tests.{by_bool, never}
use Rattle.channels.specs.declared.Configuration.{Configuration}
use Rattle.cards_request.specs.declared.Request.{Request}
use Rattle.schedule_entries.specs.Entries.{blank, key_of, precedes}
use Rattle.schedule_entries.specs.declared.Entry.{Entry}
use Rattle.schedule_entries.specs.declared.Key.{Key}
use Rattle.schedule_list.specs.InSchedule.{entry_at, in_schedule}
use Rattle.schedule_orderly.specs.Orderly.{Ahead, Each, Pairs, requests}
use Rattle.schedule_orderly.proofs.OrderLaws.{precedes-on}
use Rattle.cell_selection.specs.Selecting.{Candidate, HasNone, Selected, supply_in}
use Rattle.cell_selection.specs.declared.Selection.{Selection}
use Rattle.cell.specs.declared.Cell.{Cell}
use Rattle.cell_history.specs.History.{Event, Reached}
use Rattle.cell_agreement.proofs.SoundProof.{sound-always}

-- each of a list, and each two of it, by their indices
each_at : (P : Request → Type 0) (rs : List Request) (j : ℕ) (d : Request) → j < length rs → Each P rs → P (get_or rs j d)
each_at P [] j d h e = absurd (omega arith)
each_at P (r ∷ rs) zero d h e = e.0
each_at P (r ∷ rs) (suc j) d h e = each_at P rs j d (le_of_suc-le-suc h) e.1

pairs-at : (R : Request → Request → Type 0) (rs : List Request) (i j : ℕ) (d : Request) → i < j → j < length rs → Pairs R rs
    → R (get_or rs i d) (get_or rs j d)
pairs-at R [] i j d l h p = absurd (omega arith)
pairs-at R (r ∷ rs) i zero d l h p = absurd (omega arith)
pairs-at R (r ∷ rs) zero (suc j) d l h p = each_at (R r) rs j d (le_of_suc-le-suc h) p.0
pairs-at R (r ∷ rs) (suc i) (suc j) d l h p = pairs-at R rs i j d (le_of_suc-le-suc l) (le_of_suc-le-suc h) p.1

-- nothing precedes itself
not_itself : (k : Key) → precedes k k ≡ true → ⊥
unfolding precedes
not_itself k e =
    let a : precedes k k ≡ false =
    rw (eq-eqb k.letter k.letter refl, eq-eqb k.precedence k.precedence refl, le-ltb k.sequence k.sequence (omega arith))
    refl in
    never e a

-- the schedule stands in the order
module _ (es : List Entry) (keys : Pairs Ahead (requests es)) where
  pub ahead : (i j : ℕ) → i < j → j < length es → precedes (key_of (entry_at es i).request) (key_of (entry_at es j).request) ≡ true
  ahead i j l h =
      let f : Entry → Request = λ (e : Entry). e.request in
      let p : Ahead (get_or (requests es) i blank.request) (get_or (requests es) j blank.request) =
      pairs-at Ahead (requests es) i j blank.request l (subst (λ (n : ℕ). j < n) (sym (length-map es f)) h) keys in
      subst (λ (r : Request). precedes (key_of r) (key_of (entry_at es j).request) ≡ true) (get_or-map f es i blank)
      (subst (λ (r : Request). precedes (key_of (get_or (requests es) i blank.request)) (key_of r) ≡ true) (get_or-map f es j blank) p)

  before : (i k : ℕ) → i < length es → precedes (key_of (entry_at es i).request) (key_of (entry_at es k).request) ≡ true → i < k
  before i k h e =
      by_bool (ltb i k) (ltb-true i k)
      (λ t. by_bool (eqb i k)
      (λ q. absurd (not_itself (key_of (entry_at es k).request)
      (subst (λ (m : ℕ). precedes (key_of (entry_at es m).request) (key_of (entry_at es k).request) ≡ true) (eqb-true i k q) e)))
      (λ q. absurd (not_itself (key_of (entry_at es i).request)
      (precedes-on (key_of (entry_at es i).request) (key_of (entry_at es k).request) (key_of (entry_at es i).request) e
      (ahead k i (past (ltb-false i k t) (eqb-false i k q)) h)))))
    where
      past : k ≤ i → (i ≡ k → ⊥) → k < i
      past l n = omega arith

-- a candidate that comes before the job selected in the selection order has no assignment
pub first-in-order : (configuration : Configuration) (es : List Event) (c : Cell) → Reached configuration es c
    → (job : Selection) → Selected (in_schedule c.schedule) c.lists job
    → (i : ℕ) → Candidate (in_schedule c.schedule) i
    → precedes (key_of (entry_at (in_schedule c.schedule) i).request) (key_of job.request) ≡ true
    → HasNone (supply_in c.lists) (entry_at (in_schedule c.schedule) i).request
first-in-order configuration es c h job w i k e =
    let sound = sound-always configuration es c h in
    let f : precedes (key_of (entry_at (in_schedule c.schedule) i).request) (key_of (entry_at (in_schedule c.schedule) job.at).request) ≡ true =
    subst (λ (r : Request). precedes (key_of (entry_at (in_schedule c.schedule) i).request) (key_of r) ≡ true) w.request e in
    w.fit.first i (before (in_schedule c.schedule) sound.orderly.keys i job.at k.0 f) k
