-- The two sweeps of the packets that are there: a failure's or 07's, and that of 23, a return or the job's end. The
-- holding and its lone unit stay alike. Assumes nothing.
use Prim.Native.Nat.{ℕ, ◌<◌}
use mathlib.Core.Path.{◌≡◌, refl, sym, ap, ◌∙◌}
use mathlib.Core.Bool.{Bool, true, false, cond}
use mathlib.Core.Option.{Option}
use lib.ListN.{length}
use borrow.Author.Tests.{eq-eqb}
use Rattle.numbers.proofs.Tests.{by_bool, never}
use Rattle.packets.specs.Demand.{Holding, is_there, there, word_at}
use Rattle.packets.proofs.Inv.{Inv}
use Rattle.packets.proofs.Laws.{and_both}
use Rattle.packets.specs.Lone.{Lone, Request, become, ends_with, fails, halts, in_use, stops}
use Rattle.packets.specs.Rules.{cut, failed, is_at}
use Rattle.packets.proofs.Sim.{Like, Sim, like-status, sim-sweep, use-busy}
use Rattle.packets.specs.State.{State, is_busy, packet_in, sweep, with_status}
use Rattle.packets.proofs.There.{there-channel, there-unit}
use Rattle.packets.proofs.Sites.{same-eq}
use Rattle.packets.proofs.Told.{cut-idle, failed-idle}
use Rattle.packets.specs.declared.Packet.{Packet}
use Rattle.packets.specs.declared.Site.{Site}
use Rattle.packets.specs.declared.Status.{Status}
use Rattle.packets.specs.declared.Status.TheVariants.{Blank, Ended, InProgress, Listed, Stopping}

-- ---- the two tables of statuses say the same

pub failed_ends : (x : Status) → ends_with 0o01 x ≡ failed x
failed_ends Blank = refl
failed_ends Listed = refl
failed_ends InProgress = refl
failed_ends Stopping = refl
failed_ends (Ended k) = refl

pub cut-stops : (x : Status) → stops (ends_with 0o16 x) ≡ cut x
cut-stops Blank = refl
cut-stops Listed = refl
cut-stops InProgress = refl
cut-stops Stopping = refl
cut-stops (Ended k) = refl

halted : {r : Request} {q : Packet} → Like r q → stops (ends_with 0o16 r.status) ≡ cut q.status
halted {r} {q} k = ap (λ (x : Status). stops (ends_with 0o16 x)) k.status ∙ cut-stops q.status

not-busy : (x : Status) → (is_busy x ≡ true → is_busy x ≡ false) → is_busy x ≡ false
not-busy x f = by_bool (is_busy x) f (λ e. e)

-- ---- the two sweeps

-- what a sweep leaves listed, in progress or stopping was so before
pub busy-before : (f : Status → Status) → ((x : Status) → is_busy x ≡ false → f x ≡ x) → (x : Status) → is_busy (f x) ≡ true → is_busy x ≡ true
busy-before f keeps x b = by_bool (is_busy x) (λ e. e) (λ e. rw (keeps x e) at b)

-- in the lone unit's words
use-before : (f : Status → Status) → ((x : Status) → is_busy x ≡ false → f x ≡ x) → (x y : Status) → y ≡ f x → in_use y ≡ true → in_use x ≡ true
use-before f keeps x y e u = use-busy x ∙ busy-before f keeps x (sym (use-busy (f x)) ∙ ap in_use (sym e) ∙ u)

-- what is there is at the holding's unit
pub at_unit : (h : Holding) (c : ℕ) (a : Site) (q : Packet) → h.drum ≡ false → is_there h c a ≡ true → there h q ≡ true → is_at c a q ≡ true
at_unit h c a q d t y =
    and_both _ _ (eq-eqb q.channel.0 c (there-channel h q.channel.0 q.at y ∙ sym (there-channel h c a t)))
    (same-eq q.at a (there-unit h q.channel.0 q.at d y ∙ sym (there-unit h c a d t)))

-- a packet that is halted, or not, on both sides: for one that is idle it makes no difference
halts-like : (b c : Bool) (r : Request) (q : Packet) → Like r q → (is_busy q.status ≡ true → b ≡ c)
    → Like (cond b (become r (stops (ends_with 0o16 r.status))) r) (with_status q (cond c (cut q.status) q.status))
halts-like true true r q k same = like-status k _ _ (halted k) (busy-before cut cut-idle q.status)
halts-like true false r q k same =
    let u = not-busy q.status (λ b. never {b = true} refl (same b)) in
    like-status k _ _ (halted k ∙ cut-idle q.status u) (λ b. b)
halts-like false true r q k same =
    let u = not-busy q.status (λ b. never {b = false} (same b) refl) in
    rw (cut-idle q.status u) k
halts-like false false r q k same = k

halts-use : (b : Bool) (r : Request) → in_use (cond b (become r (stops (ends_with 0o16 r.status))) r).status ≡ true → in_use r.status ≡ true
halts-use true r u = use-before cut cut-idle r.status _ (cut-stops r.status) u
halts-use false r u = u

module _ (h : Holding) (s : State) (I : Inv s) (l : Lone) (S : Sim h s l) (j : ℕ) (inside : j < length s.jobs) (at_j : h.place ≡ j) where
  abbrev its : ℕ → Packet
  its n = packet_in s.jobs h.place n

  -- a failure, or 07 under interlock, on the holding's unit
  pub sim-fails : (c : ℕ) (a : Site) → h.drum ≡ false → is_there h c a ≡ true → Sim h (sweep s j (is_at c a) failed) (fails l)
  sim-fails c a d t =
      sim-sweep h s I l S j (is_at c a) failed inside refl at_j _
      (λ n y. let k = S.table n y in
      rw (at_unit h c a (its n) d t y)
      (like-status k _ _ (ap (ends_with 0o01) k.status ∙ failed_ends (its n).status) (busy-before failed failed-idle (its n).status)))
      (λ n. use-before failed failed-idle (l.packets n).status _ (failed_ends (l.packets n).status))

  -- 23, a return or the job's end, for the same packets on both sides
  pub sim-halts : (test : Packet → Bool) (t : Option ℕ → Bool) → ((n : ℕ) → there h (its n) ≡ true → t (word_at (its n).at) ≡ test (its n))
      → Sim h (sweep s j test cut) (halts t l)
  sim-halts test t same =
      sim-sweep h s I l S j test cut inside refl at_j _
      (λ n y. let k = S.table n y in
      halts-like (t (l.packets n).word) (test (its n)) (l.packets n) (its n) k (λ b. ap t (k.word b) ∙ same n y))
      (λ n. halts-use (t (l.packets n).word) (l.packets n))
