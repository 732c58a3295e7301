-- Who holds a unit that is being returned: the completion there frees it, and through every other call it is held as it
-- was. Assumes nothing.
use Rattle.std.proofs.Common.{Err, Ok, Some}
use Prim.Native.Nat.{ℕ}
use mathlib.Core.Path.{◌≡◌, refl, sym, ap, ◌∙◌}
use mathlib.Core.Bool.{true, false, ◌&&◌}
use mathlib.Core.List.{List, [], ◌∷◌, ◌++◌}
use mathlib.Core.Option.{Option, none, some}
use lib.Dec.{eqb}
use borrow.Author.Tests.{eqb-true, ne_eqb, not-true}
use Rattle.numbers.proofs.Tests.{by_bool, never}
use Rattle.units.specs.State.{is_returning, marked_unit, unit_in}
use Rattle.units.specs.declared.Holder.TheVariants.{Free}
use Rattle.units.specs.declared.Unit.{Unit as UnitState}
use Rattle.packets.proofs.Reaching.{by-calls, event, reached-append}
use Rattle.packets.specs.History.{Event, Leads, Reached}
use Rattle.packets.proofs.Alone.{finish-keeps, submit-keeps}
use Rattle.packets.proofs.Handing.{held-unit, next, returning-taken, unit_site}
use Rattle.packets.proofs.Inv.{Inv}
use Rattle.packets.proofs.InvJobs.{held-once, held-taken, take-held}
use Rattle.packets.proofs.InvUnits.{mark-holder}
use Rattle.packets.proofs.InvStores.{motion-move}
use Rattle.packets.proofs.Laws.{all_split, and_left, and_right, eqb-self}
use Rattle.packets.proofs.Steps.{busy-of, none-moving, reached-inv}
use Rattle.packets.proofs.Store.{unit-keep, unit-release}
use Rattle.packets.proofs.Told.{assigns-to, completes-on, returns_of}
use Rattle.packets.proofs.Movers.{finished-motion}
use Rattle.packets.proofs.Waiting.{Waiting, Waits, reached-waits}
use Rattle.numbers.specs.Elements.{All, find}
use Rattle.packets.specs.Rules.{
  Call,
  Do,
  Take,
  accept,
  closed,
  decided,
  finished,
  is_done,
  refusal,
  return_if_done,
  startable,
  started,
  step,
}
use Rattle.packets.proofs.ByNumber.{Complete}
use Rattle.packets.specs.declared.Act.TheVariants as Act'
use Rattle.packets.specs.State.{State, freed_at, held_by, is_closing, motion_on, packet_in, state_in}
use Rattle.packets.specs.declared.How.{How}
use Rattle.packets.specs.declared.Site.{Site}
use Rattle.packets.specs.declared.Site.TheVariants.{AtAddress, AtUnit}
use Rattle.packets.specs.State.{Verdict}

-- ---- the completion there

-- a unit that is free or being returned is free when it is given back
back-free : (units : List (List UnitState)) (c u : ℕ) → (is_returning (unit_in units c u).holder ≡ false → (unit_in units c u).holder ≡ Free)
    → (unit_in (freed_at units c (unit_site u)) c u).holder ≡ Free
back-free units c u f =
    by_bool (is_returning (unit_in units c u).holder)
    (λ t. rw (t, held-unit units c u Free (returning-taken (unit_in units c u).holder t) c u, eqb-self c, eqb-self u))
    (λ t. rw t (f t))

-- all facilities of a job return: a unit that was being returned is, or is free
return-free : (s : State) (j c u : ℕ) → is_returning (unit_in s.units c u).holder ≡ true
    → is_returning (unit_in (return_if_done j s).units c u).holder ≡ false → (unit_in (return_if_done j s).units c u).holder ≡ Free
return-free s j c u e =
    by_bool (is_done s j)
    (λ d. rw (d, unit-release s.units j c u)
    (by_bool (held_by (unit_in s.units c u).holder j) (λ h. rw h (λ n. refl))
    (λ h. rw h (λ n. never {b = is_returning (unit_in s.units c u).holder} e n))))
    (λ d. rw d (λ n. never {b = is_returning (unit_in s.units c u).holder} e n))

pub completion-frees : (s : State) → Waits s → (c u : ℕ) (how : How) → refusal s (Complete c how) ≡ Ok tt
    → is_returning (unit_in s.units c u).holder ≡ true
    → (unit_in (accept s (Complete c how)).units c u).holder ≡ Free
unfolding accept
completion-frees s W c u how r e =
    let w = W c u e in
    let j = w.place in
    let p = w.packet in
    let s₁ = finished s c how j p in
    let e₁ : is_returning (unit_in s₁.units c u).holder ≡ true = ap is_returning (finish-keeps s c how j p c u) ∙ e in
    rw w.moves
    (ap (λ (a : Site). (unit_in (freed_at (return_if_done j s₁).units c a) c u).holder) w.at
    ∙ back-free (return_if_done j s₁).units c u (return-free s₁ j c u e₁))

-- ---- every other call

module _ (s : State) (I : Inv s) (W : Waits s) (c u : ℕ) (e : is_returning (unit_in s.units c u).holder ≡ true) where
  wait : Waiting s c u
  wait = W c u e

  -- the facilities of its job do not return before
  not_done : (s' : State) → motion_on s' c ≡ Some (wait.place, wait.packet) → is_done s' wait.place ≡ false
  not_done s' m =
      by_bool (is_done s' wait.place)
      (λ d. absurd (none-moving s' wait.place (not-true _ (and_right (is_closing (state_in s'.jobs wait.place)) _ d)) c wait.packet m))
      (λ d. d)

  return-keeps : (s' : State) (j : ℕ) → motion_on s' c ≡ Some (wait.place, wait.packet)
      → (unit_in s'.units c u).holder ≡ (unit_in s.units c u).holder
      → (unit_in (return_if_done j s').units c u).holder ≡ (unit_in s.units c u).holder
  return-keeps s' j m same =
      by_bool (is_done s' j)
      (λ d. rw (d, unit-release s'.units j c u, same)
      (by_bool (held_by (unit_in s.units c u).holder j)
      (λ h. let x : j ≡ wait.place = held-once (unit_in s.units c u).holder j wait.place h wait.held in
      never {b = is_done s' j} d (rw x (not_done s' m)))
      (λ h. rw h)))
      (λ d. rw d same)

  -- a unit of another channel that is given back
  back-keeps : (units : List (List UnitState)) (d : ℕ) (a : Site) → eqb c d ≡ false → unit_in (freed_at units d a) c u ≡ unit_in units c u
  back-keeps units d (AtAddress x) n = refl
  back-keeps units d (AtUnit v) n =
      by_bool (is_returning (unit_in units d v.0).holder)
      (λ t. rw (t, held-unit units d v.0 Free (returning-taken (unit_in units d v.0).holder t) c u, n))
      (λ t. rw t)

  accept-until : (x : Call) → refusal s x ≡ Ok tt → ((how : How) → x ≡ Complete c how → ⊥)
      → (unit_in (accept s x).units c u).holder ≡ (unit_in s.units c u).holder
  unfolding accept
  accept-until (Take j asg) r o =
      let k = assigns-to s j asg r in
      ap (λ (v : UnitState). v.holder) (take-held s I j k.0 k.1 asg c u wait.place wait.held)
  accept-until (Do (Act'.Submit j p f d w)) r o = submit-keeps s j p f d.0 w c u
  accept-until (Do (Act'.Start d)) r o = same (find (startable s d.0) s.queue)
    where
      same : (x : Option ℕ) → (unit_in (started s d.0 x).units c u).holder ≡ (unit_in s.units c u).holder
      same none = refl
      same (some x) = refl
  accept-until (Do (Act'.Complete d how)) r o =
      let m = completes-on s d.0 how r in
      let y = busy-of (motion_on s d.0) m.1 in
      let j = y.0 in
      let p = y.1 in
      let s₁ = finished s d.0 how j p in
      let apart : eqb c d.0 ≡ false = ne_eqb c d.0 (λ q. o how (ap (λ (n : ℕ). Complete n how) (sym q))) in
      let moves : motion_on s₁ c ≡ Some (wait.place, wait.packet) =
      finished-motion s d.0 how j p c ∙ motion-move s d.0 _ c (rw I.channels m.0) ∙ rw apart wait.moves in
      rw y.2
      (ap (λ (v : UnitState). v.holder) (back-keeps (return_if_done j s₁).units d.0 (packet_in s.jobs j p).at apart)
      ∙ return-keeps s₁ j moves (finish-keeps s d.0 how j p c u))
  accept-until (Do (Act'.End j b)) r o = return-keeps (closed s j b) j wait.moves refl
  accept-until (Do (Act'.Return j d v)) r o =
      let k = returns_of s j d.0 v.0 r in
      let h = held-unit s.units d.0 v.0 (next s I j d.0 v.0 k) (held-taken (unit_in s.units d.0 v.0).holder j k.held)
      c u in
      by_bool (eqb c d.0 && eqb u v.0)
      (λ t.
      let x : c ≡ d.0 = eqb-true c d.0 (and_left (eqb c d.0) _ t) in
      let y : u ≡ v.0 = eqb-true u v.0 (and_right (eqb c d.0) _ t) in
      never {b = is_returning (unit_in s.units c u).holder} e (rw (x, y) k.staying))
      (λ t. rw (h, t))
  accept-until (Do (Act'.Mark d v m on)) r o =
      unit-keep (λ (w : UnitState). w.holder) s.units d.0 v.0 (marked_unit m on (unit_in s.units d.0 v.0)) c u
      (mark-holder m on (unit_in s.units d.0 v.0))

  pub step_until : (x : Call) → ((how : How) → x ≡ Complete c how → ⊥) → (unit_in (step s x).state.units c u).holder ≡ (unit_in s.units c u).holder
  unfolding step
  step_until x o = go (refusal s x) refl
    where
      go : (n : Verdict) → refusal s x ≡ n → (unit_in (decided s x n).state.units c u).holder ≡ (unit_in s.units c u).holder
      go (Ok u) r = accept-until x r o
      go (Err n) r = refl

-- and through several
pub leads-until : (k : List Event) (s : State) → Reached k s → (c u : ℕ) → is_returning (unit_in s.units c u).holder ≡ true
    → (l : List Event) (t : State) → Leads s l t → All (λ (x : Event). (how : How) → x.call ≡ Complete c how → ⊥) l
    → (unit_in t.units c u).holder ≡ (unit_in s.units c u).holder
leads-until k s r c u e =
    by-calls s (λ l t. All Not l → (unit_in t.units c u).holder ≡ (unit_in s.units c u).holder) (λ o. refl)
    (λ l t d h x o. let p = all_split Not l (event t x ∷ []) o in
    let q = reached-append k s r l t d in
    step_until t (reached-inv (k ++ l) t q) (reached-waits (k ++ l) t q) c u (ap is_returning (h p.0) ∙ e) x p.1.0 ∙ h p.0)
  where
    Not : Event → Type 0
    Not x = (how : How) → x.call ≡ Complete c how → ⊥
