-- Every accepted call is nothing to the lone unit of a holding, and then leaves the holding as it was; or it is a call of
-- the lone unit's own, which the lone unit takes, with the same step and the same start. Assumes nothing.
use Rattle.std.proofs.Common.{Ok, Some}
use Prim.Native.Nat.{ℕ}
use mathlib.Core.Path.{◌≡◌, refl, sym, ap, subst, ◌∙◌}
use mathlib.Core.Bool.{Bool, true, false, cond, ◌&&◌}
use mathlib.Core.List.{List, [], ◌∷◌, append-nil}
use lib.Dec.{eqb}
use borrow.Author.Tests.{eqb-true}
use Rattle.numbers.proofs.Tests.{by_bool}
use Rattle.packets.specs.Demand.{Holding, Holds, Seen, as_lone, is_there, start_in, start_there, there, when}
use Rattle.packets.proofs.Inv.{Inv, motion-busy}
use Rattle.packets.proofs.Laws.{and_both, and_left, and_right}
use Rattle.packets.specs.Lone.{Lone, LoneCall, lone_does, lone_run, lone_start, lone_starts, lone_step, lone_takes, lone_takes_all, start_by}
use Rattle.numbers.specs.Elements.{find}
use Rattle.packets.specs.Rules.{Call, Do, Take, accept, answer, is_wrong, refusal, site_of, startable}
use Rattle.packets.specs.declared.Act.TheVariants as Act'
use Rattle.packets.proofs.SeenLaws.{SeenOk}
use Rattle.packets.proofs.Sim.{Sim}
use Rattle.packets.proofs.SimEnd.{sim-assign-away, sim-complete, sim-complete-away, sim-end, sim-end-away, sim-mark, takes-complete, takes-end}
use Rattle.packets.proofs.SimStart.{on-channel, same_start, sim-start, sim-start-away, takes-start}
use Rattle.packets.proofs.SimSubmit.{eqb-flip, sim-submit, sim-submit-away, takes-submit}
use Rattle.packets.specs.State.{State, motion_on, packet_in, packet_of, place_of}
use Rattle.packets.proofs.Steps.{busy-of, find-some}
use Rattle.packets.proofs.Told.{assigns-to, completes-on, ends_of, returns_of, starts-on, submits}
use Rattle.packets.proofs.Handing.{unit_site}
use Rattle.packets.proofs.SimReturn.{sim-returns, sim-returns-away, takes-return}
use Rattle.packets.specs.declared.Answer.{Answer}

-- the lone unit takes these calls, makes the starts that the answer tells, and is then like the cell
pub record Follows (codes : ℕ) (h : Holding) (l : Lone) (xs : List LoneCall) (r : Answer) (s : State) : Type 0 where
  pub taken : lone_takes_all codes h.drum l xs ≡ true
  pub starts : start_there xs r ≡ lone_starts codes h.drum l xs
  pub sim : Sim h s (lone_run codes h.drum l xs)

-- the same of one call
record FollowsOne (codes : ℕ) (h : Holding) (l : Lone) (x : LoneCall) (r : Answer) (s : State) : Type 0 where
  taken : lone_takes h.drum l x ≡ true
  start : start_by l x ≡ start_in r
  sim : Sim h s (lone_does codes h.drum l x)

module _ (codes : ℕ) (h : Holding) (l : Lone) (r : Answer) (s : State) where
  pub follows-none : Sim h s l → Follows codes h l [] r s
  unfolding lone_takes_all lone_starts lone_run
  follows-none S = record { taken = refl; starts = refl; sim = S }

  follows-one : (x : LoneCall) → FollowsOne codes h l x r s → Follows codes h l (x ∷ []) r s
  unfolding lone_takes_all lone_starts lone_run lone_start lone_step
  follows-one x k =
      record {
        taken = and_both _ _ k.taken refl;
        starts = sym (append-nil _ ∙ ap (λ (b : Bool). cond b (start_by l x) []) k.taken ∙ k.start);
        sim = subst (λ (b : Bool). Sim h s (cond b (lone_does codes h.drum l x) l)) (sym k.taken) k.sim;
      }

  follows : (b : Bool) (x : LoneCall) → (b ≡ true → FollowsOne codes h l x r s) → (b ≡ false → Sim h s l)
      → Follows codes h l (when b x) r s
  follows true x acted away = follows-one x (acted refl)
  follows false x acted away = follows-none (away refl)

pub accepted-follows : (h : Holding) (s : State) → Inv s → Holds s h → (l : Lone) → Sim h s l → (t : Seen) → SeenOk h s t
    → (x : Call) → refusal s x ≡ Ok tt → Follows s.codes h l (as_lone h t x (answer s x)) (answer s x) (accept s x)
unfolding accept answer as_lone start_by lone_does lone_takes
accepted-follows h s I H l S t seen (Take j asg) r =
    let k = assigns-to s j asg r in
    follows-none s.codes h l _ _ (sim-assign-away h s I H l S j k.0 k.1 asg)
accepted-follows h s I H l S t seen (Do (Act'.Submit j p f c w)) r =
    let k = submits s j p f c.0 w r in
    follows s.codes h l _ _ (eqb j h.place && is_there h c.0 (site_of w)) _
    (λ e. let at_j : h.place ≡ j = sym (eqb-true j h.place (and_left (eqb j h.place) _ e)) in
    let y : is_there h c.0 (site_of w) ≡ true = and_right (eqb j h.place) _ e in
    record {
      taken = takes-submit h s I H l S j p f c.0 w k at_j y;
      start = refl;
      sim = sim-submit h s I H l S j p f c.0 w k at_j y;
    })
    (λ e. sim-submit-away h s I H l S j p f c.0 w k (rw (eqb-flip j h.place) at e))
accepted-follows h s I H l S t seen (Do (Act'.Start c)) r =
    let k = starts-on s c.0 r in
    let o = find-some (find (startable s c.0) s.queue) k.2 in
    let n = o.0 in
    let on-c = on-channel h s I H l S c.0 k.0 k.1 n o.1 in
    rw o.1
    (follows s.codes h l _ _ (eqb (place_of n) h.place && is_there h c.0 (packet_in s.jobs (place_of n) (packet_of n)).at) _
    (λ e. let at_n : place_of n ≡ h.place = eqb-true (place_of n) h.place (and_left (eqb (place_of n) h.place) _ e) in
    let y : there h (packet_in s.jobs h.place (packet_of n)) ≡ true = rw (← at_n, on-c) (and_right (eqb (place_of n) h.place) _ e) in
    record {
      taken = takes-start h s I H l S c.0 k.0 k.1 n o.1 at_n y;
      start = same_start h s I H l S c.0 k.0 k.1 n o.1 at_n y;
      sim = sim-start h s I H l S c.0 k.0 k.1 n o.1 at_n y;
    })
    (λ e. sim-start-away h s I H l S c.0 k.0 k.1 n o.1 (rw (eqb-flip h.place (place_of n), on-c) e)))
accepted-follows h s I H l S t seen (Do (Act'.Complete c how)) r =
    let k = completes-on s c.0 how r in
    let o = busy-of (motion_on s c.0) k.1 in
    let j = o.0 in
    let p = o.1 in
    let right : is_wrong (packet_in s.jobs j p).status how ≡ false = rw o.2 at k.2 in
    rw o.2
    (follows s.codes h l _ _ (eqb j h.place && t p) _
    (λ e. let at_j : h.place ≡ j = sym (eqb-true j h.place (and_left (eqb j h.place) _ e)) in
    let y : there h (packet_in s.jobs j p) ≡ true = rw at_j at ((seen p).0 (and_right (eqb j h.place) _ e)) in
    record {
      taken = takes-complete h s I H l S c.0 k.0 j p o.2 at_j y how right;
      start = refl;
      sim = sim-complete h s I H l S c.0 k.0 j p o.2 at_j y how;
    })
    (λ e. sim-complete-away h s I H l S c.0 k.0 j p o.2 (elsewhere j p o.2 e) how))
  where
    -- what was not seen there is not there, since it moves
    elsewhere : (j p : ℕ) → motion_on s c.0 ≡ Some (j, p) → eqb j h.place && t p ≡ false
        → eqb h.place j && there h (packet_in s.jobs j p) ≡ false
    elsewhere j p m e =
        rw (eqb-flip h.place j)
        (by_bool (eqb j h.place)
        (λ d. let x : j ≡ h.place = eqb-true j h.place d in
        let b = motion-busy (packet_in s.jobs h.place p).status (rw x at (I.motion c.0 j p m).going) in
        rw (d, x) (sym ((seen p).1 b) ∙ rw d at e))
        (λ d. rw d))
accepted-follows h s I H l S t seen (Do (Act'.End j e)) r =
    let k = ends_of s j e r in
    follows s.codes h l _ _ (eqb j h.place) _
    (λ d. let at_j : h.place ≡ j = sym (eqb-true j h.place d) in
    record { taken = takes-end h s I l S j e k at_j; start = refl; sim = sim-end h s I l S j e k at_j })
    (λ d. sim-end-away h s I l S j e k (rw (eqb-flip h.place j) d))
accepted-follows h s I H l S t seen (Do (Act'.Return j c u)) r =
    let k = returns_of s j c.0 u.0 r in
    follows s.codes h l _ _ (eqb j h.place && is_there h c.0 (unit_site u.0)) _
    (λ e. let at_j : h.place ≡ j = sym (eqb-true j h.place (and_left (eqb j h.place) _ e)) in
    let y : is_there h c.0 (unit_site u.0) ≡ true = and_right (eqb j h.place) _ e in
    record {
      taken = takes-return h s I H l S j c.0 u.0 k at_j y;
      start = refl;
      sim = sim-returns h s I H l S j c.0 u.0 k at_j y;
    })
    (λ e. sim-returns-away h s I H l S j c.0 u.0 k (rw (eqb-flip j h.place) at e))
accepted-follows h s I H l S t seen (Do (Act'.Mark c u m on)) r = follows-none s.codes h l _ _ (sim-mark h s I l S c.0 u.0 m on)
