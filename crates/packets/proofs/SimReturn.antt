-- A unit that is given back, at a completion or by a return: the holding and its lone unit stay alike. Assumes nothing.
use Prim.Native.Nat.{ℕ}
use mathlib.Core.Path.{◌≡◌, refl, sym, ap, ◌∙◌}
use mathlib.Core.Bool.{true, false, not, cond, ◌&&◌}
use mathlib.Core.List.{List}
use lib.Dec.{eqb}
use borrow.Author.Tests.{eqb-true, eq-eqb, not-true}
use Rattle.numbers.proofs.Tests.{by_bool, never}
use Rattle.units.specs.State.{is_returning, unit_in}
use Rattle.units.specs.declared.Holder.{Holder}
use Rattle.units.specs.declared.Holder.TheVariants.{Free}
use Rattle.units.specs.declared.Unit.{Unit as UnitState}
use Rattle.packets.proofs.Handing.{held-unit, hold-interlock, next, returning-taken, returns-inside, swept-inv, unit_site}
use Rattle.packets.proofs.Inv.{Inv}
use Rattle.packets.proofs.InvJobs.{held-once, held-taken}
use Rattle.packets.proofs.Laws.{and_both, and_left, and_right}
use Rattle.packets.proofs.Sim.{Sim, is_its, lock_there, return_there, sim-sweep-away}
use Rattle.packets.proofs.SimRest.{Stays, sim-units-away, stays-free, stays-held}
use Rattle.packets.proofs.SimSweep.{at_unit, sim-halts}
use Rattle.packets.proofs.Sites.{same-is}
use Rattle.packets.proofs.There.{is-there, its_own, return-is, there-channel, there-kind, unit-held}
use Rattle.packets.proofs.Told.{Returns}
use Rattle.packets.specs.Demand.{Holding, Holds, is_there, there}
use Rattle.packets.specs.Lone.{Lone, asks_back, halts}
use Rattle.packets.specs.Rules.{cut, free_if_returning, handed_back, is_at, moves_at}
use Rattle.packets.specs.State.{State, held_by, is_running, motion_on, packet_in, set_holder, state_in, sweep, with_holder}
use Rattle.packets.specs.declared.Site.{Site}
use Rattle.packets.specs.declared.Site.TheVariants.{AtAddress, AtUnit}

-- ---- a completion gives the unit back

-- another holder leaves the interlock
hold-lock : (h : Holding) (units : List (List UnitState)) (c u : ℕ) (o : Holder) → lock_there h (set_holder units c (unit_site u) o) ≡ lock_there h units
hold-lock h units c u o = by_bool h.drum (λ d. rw d) (λ d. rw (d, hold-interlock units c u o h.channel h.unit))

pub sim-back : (h : Holding) (s : State) → Inv s → (l : Lone) → Sim h s l → (c : ℕ) (a : Site) → Sim h (free_if_returning s c a) l
sim-back h s I l S c (AtAddress x) = S
sim-back h s I l S c (AtUnit u) =
    by_bool (is_returning (unit_in s.units c u.0).holder)
    (λ t. rw t (sim-units-away h s I l S (set_holder s.units c (AtUnit u) Free) (stays t) (hold-lock h s.units c u.0 Free)))
    (λ t. rw t S)
  where
    stays : is_returning (unit_in s.units c u.0).holder ≡ true → Stays h (set_holder s.units c (AtUnit u) Free) s.units
    stays t =
        let e = held-unit s.units c u.0 Free (returning-taken (unit_in s.units c u.0).holder t) h.channel h.unit in
        by_bool h.drum
        (λ d. stays-held h (set_holder s.units c (AtUnit u) Free) s.units (λ n. never {b = h.drum} d n))
        (λ d. by_bool (eqb h.channel c && eqb h.unit u.0)
        (λ x. stays-free h (set_holder s.units c (AtUnit u) Free) s.units d (rw (e, x)))
        (λ x. stays-held h (set_holder s.units c (AtUnit u) Free) s.units (λ n. rw (e, x))))

-- ---- a return

module _ (h : Holding) (s : State) (I : Inv s) (H : Holds s h) (l : Lone) (S : Sim h s l) (j c u : ℕ) (k : Returns s j c u) where
  abbrev a : Site
  a = unit_site u

  abbrev then : Holder
  then = next s I j c u k

  unit-then : (d w : ℕ) → unit_in (set_holder s.units c (unit_site u) then) d w
      ≡ cond (eqb d c && eqb w u) (with_holder (unit_in s.units c u) then) (unit_in s.units d w)
  unit-then d w = held-unit s.units c u then (held-taken (unit_in s.units c u).holder j k.held) d w

  module _ (at_j : h.place ≡ j) (t : is_there h c a ≡ true) where
    -- it is a unit
    no-drum : h.drum ≡ false
    no-drum = not-true h.drum (sym (there-kind h c a t))

    -- the lone unit takes it: it is no piece of drum, its job runs, and it is not being returned
    pub takes-return : not h.drum && (not l.job_over && not l.returning) ≡ true
    takes-return =
        let x : is_running (state_in s.jobs h.place) ≡ true = rw at_j k.running in
        let y : l.job_over ≡ false = S.over ∙ rw x in
        let z : l.returning ≡ false = S.asked (its_own h s H) ∙ sym (return-is h s.units c a t) ∙ k.staying in
        and_both _ _ (ap not no-drum) (and_both _ _ (ap not y) (ap not z))

    -- all that the lone unit has is at the unit
    swept-sim : Sim h (sweep s j (is_at c a) cut) (halts (λ x. true) l)
    swept-sim =
        sim-halts h s I l S j (returns-inside s I j c u k) at_j (is_at c a) (λ x. true)
        (λ n y. sym (at_unit h c a (packet_in s.jobs h.place n) no-drum t y))

    -- as long as the job has it, it is being returned
    now-returning : is_its h (set_holder s.units c a then) ≡ true → true ≡ return_there h (set_holder s.units c a then)
    now-returning e =
        let x : eqb h.channel c ≡ true = eq-eqb h.channel c (sym (there-channel h c a t)) in
        let y : eqb h.unit u ≡ true =
        eq-eqb h.unit u (sym (eqb-true u h.unit (and_right (not h.drum) _ (and_right (eqb c h.channel) _ t)))) in
        let v : (unit_in (set_holder s.units c a then) h.channel h.unit).holder ≡ then = rw (unit-then h.channel h.unit, x, y) in
        let e' : held_by then h.place ≡ true = rw (no-drum, v) at e in
        rw (no-drum, v) (by_bool (moves_at s j c a (motion_on s c)) (λ m. rw m) (λ m. never {b = false} (rw m at e') refl))

    pub sim-returns : Sim h (handed_back s j c a) (asks_back (halts (λ x. true) l))
    sim-returns =
        let S₁ = swept-sim in
        record {
          order = S₁.order;
          table = S₁.table;
          moving = S₁.moving;
          lock = S₁.lock ∙ sym (hold-lock h s.units c u then);
          here = S₁.here;
          over = S₁.over;
          asked = now-returning;
        }

  module _ (away : eqb h.place j && is_there h c a ≡ false) where
    not_there : h.place ≡ j → is_there h c a ≡ true → ⊥
    not_there e t = never {b = eqb h.place j && is_there h c a} (and_both _ _ (eq-eqb h.place j e) t) away

    -- it is another unit
    other : h.drum ≡ false → eqb h.channel c && eqb h.unit u ≡ false
    other d =
        by_bool (eqb h.channel c && eqb h.unit u)
        (λ e. let x : h.channel ≡ c = eqb-true h.channel c (and_left (eqb h.channel c) _ e) in
        let y : h.unit ≡ u = eqb-true h.unit u (and_right (eqb h.channel c) _ e) in
        let z : held_by (unit_in s.units c u).holder h.place ≡ true = rw (x, y) at (unit-held h s H d) in
        absurd (not_there (held-once (unit_in s.units c u).holder h.place j z k.held) (is-there h c a d (sym x) (ap unit_site (sym y)))))
        (λ e. e)

    miss : (n : ℕ) → h.place ≡ j → there h (packet_in s.jobs h.place n) ≡ true → is_at c a (packet_in s.jobs h.place n) ≡ false
    miss n e y =
        let q = packet_in s.jobs h.place n in
        by_bool (is_at c a q)
        (λ z. absurd (not_there e (rw (
          eqb-true q.channel.0 c (and_left (eqb q.channel.0 c) _ z),
          same-is q.at a (and_right (eqb q.channel.0 c) _ z),
        ) at y)))
        (λ z. z)

    pub sim-returns-away : Sim h (handed_back s j c a) l
    sim-returns-away =
        sim-units-away h (sweep s j (is_at c a) cut) (swept-inv s I j c u k) l
        (sim-sweep-away h s I l S j (is_at c a) cut (returns-inside s I j c u k) refl miss)
        (set_holder s.units c a then)
        (stays-held h (set_holder s.units c a then) s.units (λ d. rw (unit-then h.channel h.unit, other d)))
        (hold-lock h s.units c u then)
