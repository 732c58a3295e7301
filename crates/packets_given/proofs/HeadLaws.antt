-- What a place has of the units, as its calls tell it: a unit whose return was not asked for is its own exactly when it
-- was given, one whose return was asked for is its own only while it is being returned. What a change of one unit leaves
-- of that, and that it is what the page says. Assumes nothing.
use Rattle.std.proofs.Common.{None, Some}
use Prim.Native.Nat.{ℕ, ◌<◌}
use mathlib.Core.Path.{◌≡◌, refl, sym, ap, ◌∙◌}
use mathlib.Core.Bool.{true, false, cond, ◌&&◌}
use mathlib.Core.List.{List}
use mathlib.Core.Logic.{◌⊎◌, inl, inr, ⊎_elim}
use mathlib.Core.Option.{Option, some}
use lib.Dec.{eqb}
use borrow.Author.Tests.{eqb-true, eq-eqb}
use Rattle.numbers.proofs.Tests.{by_bool, never}
use Rattle.units.specs.State.{Square, is_returning, unit_in}
use Rattle.units.specs.declared.Holder.{Holder}
use Rattle.units.specs.declared.Holder.TheVariants.{Free}
use Rattle.units.specs.declared.Unit.{Unit as UnitState}
use Rattle.packets.proofs.Handing.{held-unit, next, next-held, returning-taken, unit_site}
use Rattle.packets.proofs.Inv.{Inv, OwnedAt}
use Rattle.packets.proofs.InvJobs.{held-once, held-taken}
use Rattle.packets.proofs.Laws.{and_both, and_left, and_right, eqb-self, neither}
use Rattle.packets.proofs.Sites.{same-eq, same-is}
use Rattle.packets.proofs.Told.{Returns}
use Rattle.packets.proofs.Steps.{reached-inv}
use Rattle.packets.proofs.Waiting.{Waits, reached-waits}
use Rattle.packets.specs.History.{Event, Reached}
use Rattle.packets.specs.Rules.{cut, free_if_returning, handed_back, is_at, moves_at}
use Rattle.packets.proofs.ByNumber.{Return}
use Rattle.packets.specs.State.{State, freed_at, held_by, is_empty, job_in, motion_on, packet_in, state_in, wanted, with_holder}
use Rattle.packets.specs.declared.Answer.TheVariants.{Done}
use Rattle.packets.specs.declared.Assignment.{Assignment}
use Rattle.packets.specs.State.{Motion}
use Rattle.packets.specs.declared.Site.{Site}
use Rattle.packets.specs.declared.Site.TheVariants.{AtAddress, AtUnit}
use Rattle.packets_given.specs.Given.{Heads, HoldsExactly, asked_by, asking, has_returned, is_on, under_way}
use Rattle.packets_given.proofs.UnderWay.{told-moves}
use Rattle.packets_given.proofs.SameLaws.{Share, same-swept, share, squared}

-- ---- what is kept

-- an assignment's drum area and core
abbrev share_of : Assignment → Share
share_of asg = record { from = asg.from; words = asg.words; core = asg.core }

pub record Has (s : State) (i : ℕ) (asg : Assignment) (asked : Heads) : Type 0 where
  pub shared : share (job_in s.jobs i) ≡ share_of asg
  pub unasked : (c u : ℕ) → c < 16 → u < 16 → asked c u ≡ false
      → (held_by (unit_in s.units c u).holder i ≡ wanted asg c u)
      × (held_by (unit_in s.units c u).holder i ≡ true → is_returning (unit_in s.units c u).holder ≡ false)
  pub known : (c u : ℕ) → c < 16 → u < 16 → asked c u ≡ true
      → (wanted asg c u ≡ true) × (held_by (unit_in s.units c u).holder i ≡ true → is_returning (unit_in s.units c u).holder ≡ true)

-- the grid is 16 by 16, and each live job has what its place was last given, and has not returned
pub record Kept (given : ℕ → Option Assignment) (asked : ℕ → Heads) (s : State) : Type 0 where
  pub square : Square s.units
  pub live : (i : ℕ) → is_empty (state_in s.jobs i) ≡ false → (asg : Assignment) × (given i ≡ some asg) × Has s i asg (asked i)

-- what place i sees of a unit is as it was
abbrev pub Alike : Holder → Holder → ℕ → Type 0
Alike new old i = (held_by new i ≡ held_by old i) × (held_by new i ≡ true → is_returning new ≡ is_returning old)

-- of all units
pub has_on : (s s' : State) (i : ℕ) (asg : Assignment) (asked : Heads) → share (job_in s'.jobs i) ≡ share (job_in s.jobs i)
    → ((c u : ℕ) → c < 16 → u < 16 → Alike (unit_in s'.units c u).holder (unit_in s.units c u).holder i)
    → Has s i asg asked → Has s' i asg asked
has_on s s' i asg asked v e K =
    record {
      shared = v ∙ K.shared;
      unasked = λ c u h l a. let k = K.unasked c u h l a in let x = e c u h l in (x.0 ∙ k.0, λ y. x.1 y ∙ k.1 (sym x.0 ∙ y));
      known = λ c u h l a. let k = K.known c u h l a in let x = e c u h l in (k.0, λ y. x.1 y ∙ k.1 (sym x.0 ∙ y));
    }

-- the same units asked for
pub has-asked : (s : State) (i : ℕ) (asg : Assignment) (asked asked' : Heads) → ((c u : ℕ) → asked' c u ≡ asked c u) → Has s i asg asked
    → Has s i asg asked'
has-asked s i asg asked asked' e K =
    record {
      shared = K.shared;
      unasked = λ c u h l a. K.unasked c u h l (sym (e c u) ∙ a);
      known = λ c u h l a. K.known c u h l (sym (e c u) ∙ a);
    }

-- ---- a completion gives a unit back

-- each unit is as it was, or was being returned and is free
back-cases : (units : List (List UnitState)) (c : ℕ) (a : Site) (d w : ℕ)
    → ((unit_in (freed_at units c a) d w).holder ≡ (unit_in units d w).holder)
    ⊎ ((is_returning (unit_in units d w).holder ≡ true) × ((unit_in (freed_at units c a) d w).holder ≡ Free))
back-cases units c (AtAddress x) d w = inl refl
back-cases units c (AtUnit u) d w =
    by_bool (is_returning (unit_in units c u.0).holder)
    (λ t. let e = held-unit units c u.0 Free (returning-taken (unit_in units c u.0).holder t) d w in
    by_bool (eqb d c && eqb w u.0)
    (λ x. let p : d ≡ c = eqb-true d c (and_left (eqb d c) _ x) in
    let q : w ≡ u.0 = eqb-true w u.0 (and_right (eqb d c) _ x) in
    let r : is_returning (unit_in units d w).holder ≡ true = rw (p, q) t in
    rw (t, e, x) (inr (r, refl)))
    (λ x. rw (t, e, x) (inl refl)))
    (λ t. rw t (inl refl))

back-square : (units : List (List UnitState)) (c : ℕ) (a : Site) → Square units → Square (freed_at units c a)
back-square units c (AtAddress x) q = q
back-square units c (AtUnit u) q =
    by_bool (is_returning (unit_in units c u.0).holder)
    (λ t. rw t (squared units c u.0 (with_holder (unit_in units c u.0) Free) q)) (λ t. rw t q)

has-back : (s : State) (c : ℕ) (a : Site) (i : ℕ) (asg : Assignment) (asked : Heads) → Has s i asg asked → Has (free_if_returning s c a) i asg asked
has-back s c a i asg asked K =
    record {
      shared = K.shared;
      unasked = λ d w h l e.
          let k = K.unasked d w h l e in
          ⊎_elim
          (λ same. rw same k)
          (λ gone.
          let f : held_by (unit_in s.units d w).holder i ≡ false =
          by_bool (held_by (unit_in s.units d w).holder i)
          (λ t. never {b = is_returning (unit_in s.units d w).holder} gone.0 (k.1 t)) (λ t. t) in
          rw gone.1 (sym f ∙ k.0, λ x. never {b = false} x refl))
          (back-cases s.units c a d w);
      known = λ d w h l e.
          let k = K.known d w h l e in (
            k.0,
            λ x. ⊎_elim (λ same. rw same (k.1 (rw same at x))) (λ gone. never {b = false} (rw gone.1 at x) refl)
                (back-cases s.units c a d w),
          );
    }

pub kept_back : (given : ℕ → Option Assignment) (asked : ℕ → Heads) (s : State) (c : ℕ) (a : Site) → Kept given asked s
    → Kept given asked (free_if_returning s c a)
kept_back given asked s c a K =
    record {
      square = back-square s.units c a K.square;
      live = λ i b. let k = K.live i b in (k.0, k.1, has-back s c a i k.0 (asked i) k.2);
    }

-- ---- a return

module _ (given : ℕ → Option Assignment) (asked : ℕ → Heads) (s : State) (I : Inv s) (j d v : ℕ) (k : Returns s j d v) (K : Kept given asked s) where
  abbrev after : State
  after = handed_back s j d (unit_site v)

  unit-after : (c u : ℕ) → unit_in (handed_back s j d (unit_site v)).units c u
      ≡ cond (eqb c d && eqb u v) (with_holder (unit_in s.units d v) (next s I j d v k)) (unit_in s.units c u)
  unit-after c u = held-unit s.units d v (next s I j d v k) (held-taken (unit_in s.units d v).holder j k.held) c u

  -- another place sees nothing of it, and no place of any other unit
  alike : (i c u : ℕ) → eqb i j && (eqb c d && eqb u v) ≡ false
      → Alike (unit_in (handed_back s j d (unit_site v)).units c u).holder (unit_in s.units c u).holder i
  alike i c u n =
      by_bool (eqb c d && eqb u v)
      (λ t.
      let p : c ≡ d = eqb-true c d (and_left (eqb c d) _ t) in
      let q : u ≡ v = eqb-true u v (and_right (eqb c d) _ t) in
      let f : held_by (unit_in s.units d v).holder i ≡ false =
      by_bool (held_by (unit_in s.units d v).holder i)
      (λ x. never {b = eqb i j && (eqb c d && eqb u v)}
      (and_both _ _ (eq-eqb i j (held-once (unit_in s.units d v).holder i j x k.held)) t) n)
      (λ x. x) in
      let g : held_by (next s I j d v k) i ≡ false =
      by_bool (held_by (next s I j d v k) i) (λ x. never {b = held_by (unit_in s.units d v).holder i} (next-held s I j d v k i x) f) (λ x. x) in
      rw (unit-after c u, t, p, q) (g ∙ sym f, λ x. never {b = held_by (next s I j d v k) i} x g))
      (λ t. rw (unit-after c u, t) (refl, λ x. refl))

  -- the job itself: it was given the unit, and has it as long as it is being returned
  asked-now : (asg : Assignment) → Has s j asg (asked j) → d < 16 → v < 16
      → (wanted asg d v ≡ true) × (held_by (unit_in (handed_back s j d (unit_site v)).units d v).holder j ≡ true
      → is_returning (unit_in (handed_back s j d (unit_site v)).units d v).holder ≡ true)
  asked-now asg H h l =
      let e : (unit_in (handed_back s j d (unit_site v)).units d v).holder ≡ next s I j d v k = rw (unit-after d v, eqb-self d, eqb-self v) in (
        by_bool (asked j d v)
            (λ t. never {b = is_returning (unit_in s.units d v).holder} ((H.known d v h l t).1 k.held) k.staying)
            (λ t. sym (H.unasked d v h l t).0 ∙ k.held),
        λ x. let x' : held_by (next s I j d v k) j ≡ true = rw e at x in
            rw e (by_bool (moves_at s j d (unit_site v) (motion_on s d)) (λ t. rw t) (λ t. never {b = false} (rw t at x') refl)),
      )

  has-handed : (i : ℕ) (asg : Assignment) → Has s i asg (asked i) → Has after i asg (asked_by i (asked i) (Return j d v) Done)
  unfolding asked_by
  has-handed i asg H =
      record {
        shared = (same-swept s j (is_at d (unit_site v)) cut).shares i ∙ H.shared;
        unasked = λ c u h l e. let n = neither (eqb i j && (eqb c d && eqb u v)) (asked i c u) e in
            let x = alike i c u n.0 in
            let o = H.unasked c u h l n.1 in
            (x.0 ∙ o.0, λ y. x.1 y ∙ o.1 (sym x.0 ∙ y));
        known = λ c u h l e. by_bool (eqb i j && (eqb c d && eqb u v))
            (λ t. let a : i ≡ j = eqb-true i j (and_left (eqb i j) _ t) in
            let b = and_right (eqb i j) (eqb c d && eqb u v) t in
            let p : c ≡ d = eqb-true c d (and_left (eqb c d) _ b) in
            let q : u ≡ v = eqb-true u v (and_right (eqb c d) _ b) in
            rw (a, p, q) (asked-now asg (rw a at H) (rw p at h) (rw q at l)))
            (λ t. let x = alike i c u t in
            let o = H.known c u h l (rw t at e) in
            (o.0, λ y. x.1 y ∙ o.1 (sym x.0 ∙ y)));
      }

  pub kept-handed : Kept given (λ (i : ℕ). asked_by i (asked i) (Return j d v) Done) (handed_back s j d (unit_site v))
  kept-handed =
      record {
        square = squared s.units d v (with_holder (unit_in s.units d v) (next s I j d v k)) K.square;
        live = λ i a. let o = K.live i (sym ((same-swept s j (is_at d (unit_site v)) cut).empty i) ∙ a) in (o.0, o.1, has-handed i o.0 o.2);
      }

-- ---- what the page says

-- as long as a unit that is being returned waits for a packet, it is the job's exactly while one of the job moves there
module _ (s : State) (I : Inv s) (W : Waits s) (i c u : ℕ) where
  held-moves : held_by (unit_in s.units c u).holder i ≡ true → is_returning (unit_in s.units c u).holder ≡ true
      → moves_at s i c (unit_site u) (motion_on s c) ≡ true
  held-moves t r =
      let w = W c u r in
      let x : w.place ≡ i = held-once (unit_in s.units c u).holder w.place i w.held t in
      let m : motion_on s c ≡ Some (i, w.packet) = rw x at w.moves in
      let y : (packet_in s.jobs i w.packet).at ≡ unit_site u = rw x at w.at in
      rw (m, eqb-self i) (and_both _ _ (eq-eqb _ c (I.motion c i w.packet m).channel) (same-eq _ (unit_site u) y))

  moves-held : moves_at s i c (unit_site u) (motion_on s c) ≡ true → held_by (unit_in s.units c u).holder i ≡ true
  moves-held t = by-motion (motion_on s c) refl t
    where
      by-motion : (m : Motion) → motion_on s c ≡ m → moves_at s i c (unit_site u) m ≡ true → held_by (unit_in s.units c u).holder i ≡ true
      by-motion None e t = never {b = false} t refl
      by-motion (Some (j, p)) e t =
          let x : j ≡ i = eqb-true j i (and_left (eqb j i) _ t) in
          let e' : motion_on s c ≡ Some (i, p) = rw x at e in
          let y = and_right (eqb j i) (is_at c (unit_site u) (packet_in s.jobs i p)) t in
          let q = packet_in s.jobs i p in
          let o : OwnedAt s i c (unit_site u) =
          rw (
            eqb-true q.channel.0 c (and_left (eqb q.channel.0 c) _ y),
            same-is q.at (unit_site u) (and_right (eqb q.channel.0 c) _ y),
          ) at (I.motion c i p e').owned in
          o.1 refl

pub exactly : (l : List Event) (s : State) → Reached l s → (i : ℕ) (asg : Assignment) → Has s i asg (asking l i)
    → HoldsExactly s i asg (asking l i) (has_returned l i)
exactly l s r i asg H =
    record {
      from = ap (λ (x : Share). x.from) H.shared;
      words = ap (λ (x : Share). x.words) H.shared;
      core = ap (λ (x : Share). x.core) H.shared;
      units = λ c u h k. by_bool (asking l i c u)
          (λ t. let a = H.known c u h k t in
          rw (t, a.0) (by_bool (held_by (unit_in s.units c u).holder i)
          (λ x. x ∙ sym (rw (moving c u (held-moves s I W i c u x (a.1 x)))))
          (λ x. x ∙ sym (rw (resting c u x)))))
          (λ t. rw t ((H.unasked c u h k t).0 ∙ by_bool (wanted asg c u) (λ x. rw x) (λ x. rw x)));
      returning = λ c u h k x. by_bool (asking l i c u) (λ t. rw t ((H.known c u h k t).1 x)) (λ t. rw t ((H.unasked c u h k t).1 x));
    }
  where
    I : Inv s
    I = reached-inv l s r

    W : Waits s
    W = reached-waits l s r

    moving : (c u : ℕ) → moves_at s i c (unit_site u) (motion_on s c) ≡ true → is_on i u (under_way l c) ≡ true
    moving c u m = sym (told-moves l s r i c u) ∙ m

    resting : (c u : ℕ) → held_by (unit_in s.units c u).holder i ≡ false → is_on i u (under_way l c) ≡ false
    resting c u x =
        by_bool (is_on i u (under_way l c))
        (λ m. never {b = held_by (unit_in s.units c u).holder i} (moves-held s I W i c u (told-moves l s r i c u ∙ m)) x)
        (λ m. m)
