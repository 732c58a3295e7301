-- What is there, seen from a holding: its channel and its unit, its interlock, and what 23 is for. Assumes nothing.
use Prim.Native.Nat.{ℕ}
use mathlib.Core.Path.{◌≡◌, refl, sym, ap, ◌∙◌, subst}
use mathlib.Core.Bool.{Bool, true, false, not, ◌&&◌}
use mathlib.Core.List.{List}
use lib.Dec.{eqb, leb}
use borrow.Author.Tests.{eqb-true, not-true}
use Rattle.units.specs.declared.Unit.{Unit as UnitState}
use Rattle.numbers.proofs.Tests.{by_bool, never}
use Rattle.units.specs.State.{is_free, is_returning, unit_in}
use Rattle.packets.specs.Demand.{Holding, Holds, is_there, its_unit, target_of, word_at, word_of}
use Rattle.packets.proofs.InvJobs.{held-taken}
use Rattle.packets.proofs.Laws.{and_left, and_right, eqb-self}
use Rattle.packets.specs.Lone.{goes_to, meant}
use Rattle.packets.specs.Rules.{covers, site_of}
use Rattle.packets.proofs.Sim.{is_its, lock_there, return_there}
use Rattle.packets.proofs.Sites.{same-eq, same-is}
use Rattle.packets.proofs.Store.{unit-set}
use Rattle.packets.specs.State.{State, held_by, is_unit, set_lock, unit_at, with_lock}
use Rattle.packets.specs.declared.Site.{Site}
use Rattle.packets.specs.declared.Site.TheVariants.{AtAddress, AtUnit}
use Rattle.packets.specs.declared.Spot.{Spot}
use Rattle.packets.specs.declared.Spot.TheVariants.{OnDrum, OnUnit}

-- a unit that is held, off the drum
pub unit-held : (h : Holding) (s : State) → Holds s h → h.drum ≡ false → held_by (unit_in s.units h.channel h.unit).holder h.place ≡ true
unit-held h s H d = rw d at H.held

-- the channel and the unit of what is there, off the drum
pub there-channel : (h : Holding) (c : ℕ) (a : Site) → is_there h c a ≡ true → c ≡ h.channel
there-channel h c a t = eqb-true c h.channel (and_left (eqb c h.channel) _ t)

-- a holding is a unit exactly if what is there is at one
pub there-kind : (h : Holding) (c : ℕ) (a : Site) → is_there h c a ≡ true → is_unit a ≡ not h.drum
there-kind h c (AtUnit u) t = sym (and_left (not h.drum) _ (and_right (eqb c h.channel) _ t))
there-kind h c (AtAddress x) t = sym (ap not (and_right (eqb c h.channel) _ t))

pub there-unit : (h : Holding) (c : ℕ) (a : Site) → h.drum ≡ false → is_there h c a ≡ true → a ≡ its_unit h
there-unit h c (AtUnit u) d t =
    ap (λ (n : ℕ). AtUnit (record { 0 = n })) (eqb-true u.0 h.unit (and_right (not h.drum) _ (and_right (eqb c h.channel) _ t)))
there-unit h c (AtAddress x) d t = never {b = h.drum} (and_right (eqb c h.channel) _ t) d

pub is-there : (h : Holding) (c : ℕ) (a : Site) → h.drum ≡ false → c ≡ h.channel → a ≡ its_unit h → is_there h c a ≡ true
is-there h c a d p q = rw (q, p, d, eqb-self h.channel, eqb-self h.unit)

-- the interlock after a change at a unit that the holding isn't on
pub lock-away : (h : Holding) (units : List (List UnitState)) (c : ℕ) (a : Site) (b : Bool) → is_free (unit_at units c a).holder ≡ false
    → (h.drum ≡ false → h.channel ≡ c → a ≡ its_unit h → ⊥) → lock_there h (set_lock units c a b) ≡ lock_there h units
lock-away h units c (AtUnit u) b f away =
    by_bool h.drum
    (λ d. rw d)
    (λ d. rw (d, unit-set units c u.0 (with_lock (unit_in units c u.0) b) h.channel h.unit f)
    (by_bool (eqb h.channel c && eqb h.unit u.0)
    (λ t. absurd (away d (eqb-true h.channel c (and_left (eqb h.channel c) _ t))
    (ap (λ (n : ℕ). AtUnit (record { 0 = n })) (sym (eqb-true h.unit u.0 (and_right (eqb h.channel c) _ t))))))
    (λ t. rw t)))
lock-away h units c (AtAddress x) b f away = refl

pub lock-here : (h : Holding) (s : State) → Holds s h → (c : ℕ) (b : Bool) → h.drum ≡ false → h.channel ≡ c
    → lock_there h (set_lock s.units c (its_unit h) b) ≡ b
lock-here h s H c b d p =
    rw (
      d,
      unit-set s.units c h.unit (with_lock (unit_in s.units c h.unit) b) h.channel h.unit
          (held-taken (unit_in s.units c h.unit).holder h.place (rw (← p) (unit-held h s H d))),
      p,
      eqb-self c,
      eqb-self h.unit,
    )

-- the interlock of what is there
pub lock-is : (h : Holding) (units : List (List UnitState)) (c : ℕ) (a : Site) → is_there h c a ≡ true
    → (unit_at units c a).interlock ≡ lock_there h units
lock-is h units c a t =
    by_bool h.drum
    (λ d. rw d (on-drum a (there-kind h c a t ∙ ap not d)))
    (λ d. rw (d, there-channel h c a t) (ap (λ (x : Site). (unit_at units h.channel x).interlock) (there-unit h c a d t)))
  where
    on-drum : (a : Site) → is_unit a ≡ false → (unit_at units c a).interlock ≡ false
    on-drum (AtUnit u) e = never {b = true} refl e
    on-drum (AtAddress x) e = refl

-- whether what is there is being returned
pub return-is : (h : Holding) (units : List (List UnitState)) (c : ℕ) (a : Site) → is_there h c a ≡ true
    → is_returning (unit_at units c a).holder ≡ return_there h units
return-is h units c a t =
    by_bool h.drum
    (λ d. rw d (on-drum a (there-kind h c a t ∙ ap not d)))
    (λ d. rw (d, there-channel h c a t) (ap (λ (x : Site). is_returning (unit_at units h.channel x).holder) (there-unit h c a d t)))
  where
    on-drum : (a : Site) → is_unit a ≡ false → is_returning (unit_at units c a).holder ≡ false
    on-drum (AtUnit u) e = never {b = true} refl e
    on-drum (AtAddress x) e = refl

-- what is held is the job's
pub its_own : (h : Holding) (s : State) → Holds s h → is_its h s.units ≡ true
its_own h s H = by_bool h.drum (λ d. rw d) (λ d. rw d (unit-held h s H d))

-- a lone unit reads where a submission goes as the rules do
pub goes_to_lem : (w : Spot) → goes_to (target_of w) ≡ word_at (site_of w)
goes_to_lem (OnUnit u) = refl
goes_to_lem (OnDrum x h) = refl

-- words are in the order of the addresses
word-order : (x y : ℕ) → leb (word_of x) (word_of y) ≡ leb x y
unfolding word_of
word-order x y = refl

-- what 23 is for, of what is there
pub covers-meant : (h : Holding) (c : ℕ) (w : Spot) (d : ℕ) (a : Site) → is_there h c (site_of w) ≡ true → is_there h d a ≡ true
    → covers w a ≡ meant (target_of w) (word_at a)
covers-meant h c (OnUnit u) d a t y =
    let k = not-true h.drum (sym (there-kind h c (AtUnit u) t)) in
    same-eq a (AtUnit u) (there-unit h d a k y ∙ sym (there-unit h c (AtUnit u) k t))
covers-meant h c (OnDrum l m) d (AtUnit v) t y = refl
covers-meant h c (OnDrum l m) d (AtAddress x) t y = rw (word-order l x, word-order x m)

-- it is there, if it is for something there
pub covers-there : (h : Holding) (c : ℕ) (w : Spot) (a : Site) → covers w a ≡ true → is_there h c a ≡ true → is_there h c (site_of w) ≡ true
covers-there h c (OnUnit u) a e y = subst (λ (x : Site). is_there h c x ≡ true) (same-is a (AtUnit u) e) y
covers-there h c (OnDrum l m) (AtUnit v) e y = never {b = false} e refl
covers-there h c (OnDrum l m) (AtAddress x) e y = y
