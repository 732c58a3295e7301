-- That a live job holds exactly what it was given less what it has returned is shown call by call: a taking gives place j
-- what it wants and touches no unit of another place, a return of all facilities frees the units of place j alone, and
-- of the other calls only a return of one unit and the completion that it waits for change what a job holds: that unit.
-- Assumes nothing.
use Rattle.std.proofs.Common.{Err, Ok}
use Prim.Native.Nat.{ℕ, ◌<◌}
use mathlib.Core.Path.{◌≡◌, refl, sym, ap, ◌∙◌, subst}
use mathlib.Core.Bool.{Bool, true, false, not, cond, ◌&&◌}
use mathlib.Core.List.{List, [], ◌∷◌}
use mathlib.Core.Option.{Option, none, some}
use lib.ListN.{length}
use lib.Dec.{eqb}
use borrow.Author.Tests.{eqb-true, eqb-false, ne_eqb}
use Rattle.numbers.proofs.Stores.{get_d_set}
use Rattle.numbers.proofs.Tests.{by_bool, never}
use Rattle.units.specs.State.{Square, assignable, is_free, is_returning, unit_in}
use Rattle.units.specs.declared.Holder.{Holder}
use Rattle.units.specs.declared.Holder.TheVariants.{Free, Held, Returning}
use Rattle.units.specs.declared.Unit.{Unit as UnitState}
use Rattle.packets.specs.History.{Begins, Event, Leads, empty_place, fresh}
use Rattle.packets.proofs.Reaching.{along-split, by-calls, event, granted-accepted}
use Rattle.packets.proofs.Inv.{Inv, running-alive}
use Rattle.packets.proofs.InvJobs.{held-once}
use Rattle.packets.proofs.Laws.{and_left, and_right, eqb-self, get_d-set-keep}
use Rattle.numbers.specs.Elements.{find}
use Rattle.packets.specs.Rules.{
  Call,
  Do,
  Take,
  accept,
  answer,
  assigned,
  begun,
  closed,
  decided,
  finished,
  fresh_job,
  is_done,
  marked,
  refusal,
  return_if_done,
  returned,
  startable,
  started,
  step,
  submitted,
}
use Rattle.packets.specs.declared.Act.TheVariants as Act'
use Rattle.packets.specs.State.{State, held_by, is_closing, is_empty, job_in, motion_on, no_job, packet_in}
use Rattle.packets.specs.State.{release, set_state, state_in, take_unit, wanted, with_state}
use Rattle.packets.proofs.Steps.{busy-of, closing-not-running, fresh-state, reached-inv}
use Rattle.packets.proofs.Store.{alive-in, state-fresh, state-state, unit-release}
use Rattle.packets.proofs.Told.{assigns-to, completes-on, ends_of, returns_of}
use Rattle.packets.proofs.UnitLaws.{release-square, take-read, take-square}
use Rattle.packets.specs.declared.Answer.TheVariants.{Done, Refused}
use Rattle.packets.specs.declared.Assignment.{Assignment}
use Rattle.packets.specs.declared.JobState.TheVariants.{Empty, Running}
use Rattle.packets.specs.State.{Verdict}
use Rattle.packets_given.specs.Given.{
  Heads,
  HoldsWhatItWasGiven,
  Wanting,
  Wants,
  asked_by,
  asking,
  no_heads,
  taken_by,
  taking,
}
use Rattle.packets_given.proofs.Reckoning.{reckoned-append, refused-asks, refused-keeps}
use Rattle.packets_given.proofs.HeadLaws.{Alike, Has, Kept, exactly, has-asked, has_on, kept_back, kept-handed}
use Rattle.packets_given.proofs.SameLaws.{Same, same-begun, same-closed, same-finished, same-marked, same-submit, share}

-- ---- calls that leave what a job holds

kept_same : (given : ℕ → Option Assignment) (asked : ℕ → Heads) (s s' : State) → Same s s' → Kept given asked s → Kept given asked s'
kept_same given asked s s' S K =
    record {
      square = S.square K.square;
      live = λ i a.
          let k = K.live i (sym (S.empty i) ∙ a) in (
            k.0,
            k.1,
            has_on s s' i k.0 (asked i) (S.shares i)
                (λ c u h l. (ap (λ (x : Holder). held_by x i) (S.holders c u), λ x. ap is_returning (S.holders c u))) k.2,
          );
    }

-- ---- a return of all facilities

-- it frees the units of no other place
released-other : (v : UnitState) (i j : ℕ) → eqb i j ≡ false → Alike (release j v).holder v.holder i
released-other v i j d =
    by_bool (held_by v.holder j)
    (λ t. rw t (by_bool (held_by v.holder i) (λ b. absurd (eqb-false i j d (held-once v.holder i j b t)))
    (λ b. (sym b, λ x. never {b = false} x refl))))
    (λ t. rw t (refl, λ x. refl))

kept-returned : (given : ℕ → Option Assignment) (asked : ℕ → Heads) (s : State) (j : ℕ) → j < length s.jobs → Kept given asked s
    → Kept given asked (returned s j)
unfolding set_state
kept-returned given asked s j inside K =
    record {
      square = release-square s.units j K.square;
      live = λ i a.
          let b : is_empty (cond (eqb i j) Empty (state_in s.jobs i)) ≡ false = rw (state-state s.jobs j Empty i inside) at a in
          by_bool (eqb i j)
          (λ d. never {b = true} refl (rw d at b))
          (λ d. let k = K.live i (rw d at b) in (
            k.0,
            k.1,
            has_on s (returned s j) i k.0 (asked i)
                (get_d-set-keep share s.jobs j (with_state (job_in s.jobs j) Empty) i no_job refl)
                (λ c u h l. rw (unit-release s.units j c u) (released-other (unit_in s.units c u) i j d))
                k.2,
          ));
    }

kept-return : (given : ℕ → Option Assignment) (asked : ℕ → Heads) (s : State) (j : ℕ) → Kept given asked s → Kept given asked (return_if_done j s)
kept-return given asked s j K =
    by_bool (is_done s j)
    (λ e. let a = (closing-not-running (state_in s.jobs j) (and_left (is_closing (state_in s.jobs j)) _ e)).1 in
    rw e (kept-returned given asked s j (alive-in s.jobs j a) K))
    (λ e. rw e K)

-- ---- a taking

-- an empty place holds no unit
none-held : (s : State) → Inv s → (j : ℕ) → is_empty (state_in s.jobs j) ≡ true → (c u : ℕ) → held_by (unit_in s.units c u).holder j ≡ false
none-held s I j a c u =
    by_bool (held_by (unit_in s.units c u).holder j) (λ e. never {b = is_empty (state_in s.jobs j)} a (I.holders c u j e)) (λ e. e)

assignable-free : (v : UnitState) → assignable v ≡ true → is_free v.holder ≡ true
unfolding assignable
assignable-free v e = and_right (not v.reserved) _ (and_right (not v.down) _ e)

free-unheld : (h : Holder) (i : ℕ) → is_free h ≡ true → held_by h i ≡ false
free-unheld Free i e = refl
free-unheld (Held k) i e = never {b = false} e refl
free-unheld (Returning k) i e = never {b = false} e refl

-- a unit that is not held by place j is held by it after the taking exactly when it is wanted, if all that is
-- wanted is assignable; and it is not being returned
taken_own : (j : ℕ) (w : Bool) (v : UnitState) → (w ≡ true → assignable v ≡ true) → held_by v.holder j ≡ false
    → (held_by (take_unit j w v).holder j ≡ w) × (held_by (take_unit j w v).holder j ≡ true → is_returning (take_unit j w v).holder ≡ false)
taken_own j true v f n = rw (f refl) (eqb-self j, λ x. refl)
taken_own j false v f n = (n, λ x. never {b = held_by v.holder j} x n)

-- a taking gives no unit to another place, and takes none from it
taken-other : (i j : ℕ) → eqb i j ≡ false → (w : Bool) (v : UnitState) → Alike (take_unit j w v).holder v.holder i
taken-other i j d w v =
    by_bool (w && assignable v)
    (λ e. let n = ne_eqb j i (λ q. eqb-false i j d (sym q)) in
    rw e (n ∙ sym (free-unheld v.holder i (assignable-free v (and_right w (assignable v) e))), λ x. never {b = eqb j i} x n))
    (λ e. rw e (refl, λ x. refl))

-- a taking into another place is not this place's
taken-elsewhere : (i j : ℕ) (last : Option Assignment) (asg : Assignment) → eqb i j ≡ false → taken_by i last (Take j asg) Done ≡ last
unfolding taken_by
taken-elsewhere i j last asg d = ap (λ (b : Bool). cond b (some asg) last) d

module _ (given : ℕ → Option Assignment) (asked : ℕ → Heads) (s : State) (I : Inv s) (j : ℕ) (asg : Assignment) (small : j < 16)
    (none-there : is_empty (state_in s.jobs j) ≡ true)
    (wants : (c u : ℕ) → c < 16 → u < 16 → wanted asg c u ≡ true → assignable (unit_in s.units c u) ≡ true) (K : Kept given asked s) where
  job-after : (i : ℕ) → job_in (assigned s j asg).jobs i ≡ cond (eqb i j) (fresh_job asg) (job_in s.jobs i)
  job-after i = get_d_set s.jobs j (fresh_job asg) i no_job (rw I.places small)

  own : (heads : Heads) → ((c u : ℕ) → heads c u ≡ false) → Has (assigned s j asg) j asg heads
  own heads none-asked =
      record {
        shared = rw (job-after j, eqb-self j);
        unasked = λ c u h l e. rw (take-read s.units j (wanted asg) K.square c u h l)
            (taken_own j (wanted asg c u) (unit_in s.units c u) (wants c u h l) (none-held s I j none-there c u));
        known = λ c u h l e. never {b = heads c u} e (none-asked c u);
      }

  kept-taken : Kept (λ (i : ℕ). taken_by i (given i) (Take j asg) Done) (λ (i : ℕ). asked_by i (asked i) (Take j asg) Done) (assigned s j asg)
  unfolding taken_by asked_by
  kept-taken =
      record {
        square = take-square s.units j (wanted asg) K.square;
        live = λ i a.
            let b : is_empty (cond (eqb i j) Running (state_in s.jobs i)) ≡ false =
            rw (state-fresh s.jobs j asg i (rw I.places small)) at a in
            by_bool (eqb i j)
            (λ d. (
              asg,
              rw d,
              subst (λ (n : ℕ). Has (assigned s j asg) n asg (λ c u. cond (eqb i j) false (asked i c u))) (sym (eqb-true i j d))
                  (own (λ c u. cond (eqb i j) false (asked i c u)) (λ c u. rw d)),
            ))
            (λ d.
            let k = K.live i (rw d at b) in (
              k.0,
              taken-elsewhere i j (given i) asg d ∙ k.1,
              has-asked (assigned s j asg) i k.0 (asked i) (λ c u. cond (eqb i j) false (asked i c u)) (λ c u. rw d)
                  (has_on s (assigned s j asg) i k.0 (asked i) (rw (job-after i, d))
                  (λ c u h l. rw (take-read s.units j (wanted asg) K.square c u h l)
                  (taken-other i j d (wanted asg c u) (unit_in s.units c u)))
                  k.2),
            ));
      }

-- ---- every call

accept-kept : (given : ℕ → Option Assignment) (asked : ℕ → Heads) (s : State) → Inv s → (x : Call) → refusal s x ≡ Ok tt → Wants s x
    → Kept given asked s
    → Kept (λ (i : ℕ). taken_by i (given i) x (answer s x)) (λ (i : ℕ). asked_by i (asked i) x (answer s x)) (accept s x)
unfolding accept answer taken_by asked_by
accept-kept given asked s I (Take j asg) r f K =
    kept-taken given asked s I j asg (assigns-to s j asg r).0 (assigns-to s j asg r).1 f K
accept-kept given asked s I (Do (Act'.Submit j p f c w)) r k K =
    kept_same given asked s (submitted s j p f c.0 w) (same-submit s j p f c.0 w) K
accept-kept given asked s I (Do (Act'.Start c)) r k K = go (find (startable s c.0) s.queue)
  where
    go : (o : Option ℕ) → Kept given asked (started s c.0 o)
    go none = K
    go (some e) = kept_same given asked s (begun s c.0 e) (same-begun s c.0 e) K
accept-kept given asked s I (Do (Act'.Complete c how)) r k K =
    let o = busy-of (motion_on s c.0) (completes-on s c.0 how r).1 in
    let s₁ = finished s c.0 how o.0 o.1 in
    rw o.2
    (kept_back given asked (return_if_done o.0 s₁) c.0 (packet_in s.jobs o.0 o.1).at
    (kept-return given asked s₁ o.0 (kept_same given asked s s₁ (same-finished s c.0 how o.0 o.1) K)))
accept-kept given asked s I (Do (Act'.End j e)) r k K =
    let a = running-alive (state_in s.jobs j) (ends_of s j e r) in
    kept-return given asked (closed s j e) j (kept_same given asked s (closed s j e) (same-closed s j e a) K)
accept-kept given asked s I (Do (Act'.Return j c u)) r k K = kept-handed given asked s I j c.0 u.0 (returns_of s j c.0 u.0 r) K
accept-kept given asked s I (Do (Act'.Mark c u m on)) r k K =
    kept_same given asked s (marked s c.0 u.0 m on) (same-marked s c.0 u.0 m on) K

step_kept : (given : ℕ → Option Assignment) (asked : ℕ → Heads) (s : State) → Inv s → (x : Call)
    → (refusal s x ≡ Ok tt → Wants s x) → Kept given asked s
    → Kept (λ (i : ℕ). taken_by i (given i) x (step s x).answer) (λ (i : ℕ). asked_by i (asked i) x (step s x).answer) (step s x).state
step_kept given asked s I x f K = unfold step in go (refusal s x) refl
  where
    go : (v : Verdict) → refusal s x ≡ v
        → Kept (λ (i : ℕ). taken_by i (given i) x (decided s x v).answer) (λ (i : ℕ). asked_by i (asked i) x (decided s x v).answer)
        (decided s x v).state
    go (Ok u) r = accept-kept given asked s I x r (f r) K
    go (Err n) r =
        record {
          square = K.square;
          live = λ i a. let k = K.live i a in (
            k.0,
            refused-keeps i (given i) x n ∙ k.1,
            has-asked s i k.0 (asked i) (asked_by i (asked i) x (Refused n)) (refused-asks i (asked i) x n) k.2,
          );
        }

-- ---- over a history

-- the same gifts and requests
kept-eq : (given given' : ℕ → Option Assignment) (asked asked' : ℕ → Heads) (s : State) → ((i : ℕ) → given' i ≡ given i)
    → ((i : ℕ) → asked' i ≡ asked i) → Kept given asked s → Kept given' asked' s
kept-eq given given' asked asked' s e d K =
    record {
      square = K.square;
      live = λ i a. let k = K.live i a in (k.0, e i ∙ k.1, rw (d i) k.2);
    }

begins-kept : (s : State) → Begins s → Square s.units → Kept (λ (i : ℕ). none) (λ (i : ℕ). no_heads) s
begins-kept s b q =
    record {
      square = q;
      live = λ i a. never {b = is_empty (state_in s.jobs i)} (rw b.is (unfold fresh in ap is_empty (fresh-state 16 empty_place refl i))) a;
    }

module _ (from : State) (b : Begins from) (q : Square from.units) where
  reached-kept : (l : List Event) (s : State) → Leads from l s → Wanting from l → Kept (taking l) (asking l) s
  reached-kept =
      by-calls from (λ l s. Wanting from l → Kept (taking l) (asking l) s) (λ w. begins-kept from b q)
      (λ l s d K x w. let k = along-split (λ before y after. Wants before y) from l s (event s x ∷ []) d w in
      let I = reached-inv l s (record { from = from; begins = b; leads = d }) in
      kept-eq _ _ _ _ (step s x).state
      (λ i. reckoned-append (taken_by i) none l (event s x ∷ []))
      (λ i. reckoned-append (asked_by i) no_heads l (event s x ∷ []))
      (step_kept (taking l) (asking l) s I x (λ g. k.1.0 (granted-accepted s x g)) (K k.0)))

pub holds-what-it-was-given : HoldsWhatItWasGiven
holds-what-it-was-given l s r q w j =
    record {
      live = λ a. let k = (reached-kept r.from r.begins q l s r.leads w).live j a in
          (k.0, k.1, exactly l s r j k.0 k.2);
      empty = λ a c u. none-held s (reached-inv l s r) j a c u;
    }
