-- The page Always holds of every reached state: from the invariant, from soundness and from what closing jobs have.
-- Assumes nothing.
use Prim.Native.Nat.{ℕ, ◌<◌}
use mathlib.Core.Path.{◌≡◌, refl, sym, subst}
use mathlib.Core.Bool.{true, false}
use mathlib.Core.List.{List, [], ◌∷◌}
use native.Mathlib.Omega.{arith}
use lib.Dec.{eqb}
use borrow.Author.Tests.{eqb-true}
use Rattle.numbers.proofs.Tests.{by_bool, never}
use Rattle.numbers.specs.declared.UnitNumber.{UnitNumber}
use Rattle.units.specs.State.{is_returning, unit_in}
use Rattle.packets.proofs.Closing.{Halts, reached-halts}
use Rattle.packets.specs.Always.{Always, Invariants, NoEarlyHandOver, packet_at}
use Rattle.packets.proofs.Inv.{EntryOk, Inv, OkEntry, Owned, OwnedAt, Staying, listed-busy, motion-busy, running-alive}
use Rattle.packets.specs.State.{in_motion, State, entry_of, held_by, is_busy, is_empty, is_listed, is_still, packet_of, place_of, state_in}
use Rattle.packets.proofs.InvStores.{entry-packet, entry_place}
use Rattle.numbers.specs.Elements.{All, any}
use Rattle.packets.proofs.Laws.{all-imp, and_left, and_right}
use Rattle.packets.specs.Rules.{is_at}
use Rattle.packets.proofs.Sound.{Sound, no_packet}
use Rattle.packets.proofs.SoundSteps.{reached-sound}
use Rattle.packets.proofs.Steps.{reached-inv}
use Rattle.packets.proofs.Store.{busy-in}
use Rattle.packets.proofs.Handing.{unit_site}
use Rattle.packets.proofs.Sites.{same-is}
use Rattle.packets.proofs.Movers.{Opened, reached-open}
use Rattle.packets.proofs.Waiting.{Waits, reached-waits}
use Rattle.packets.specs.declared.Packet.{Packet}
use Rattle.packets.specs.declared.Site.{Site}
use Rattle.packets.specs.declared.Site.TheVariants.{AtUnit}
use Rattle.packets.specs.declared.Status.{Status}
use Rattle.packets.specs.declared.Status.TheVariants.{Blank, Ended, InProgress, Listed, Stopping}

-- one of a list's elements has what all have
all_any : (P : ℕ → Type 0) (e : ℕ) (l : List ℕ) → All P l → any (eqb e) l ≡ true → P e
all_any P e [] h t = never {b = false} t refl
all_any P e (x ∷ l) h t =
    by_bool (eqb e x)
    (λ d. subst P (sym (eqb-true e x d)) h.0)
    (λ d. all_any P e l h.1 (rw d at t))

-- a busy packet is listed or moves
busy-either : (t : Status) → is_busy t ≡ true → is_listed t ≡ false → in_motion t ≡ true
busy-either Blank b l = b
busy-either Listed b l = never {b = true} refl l
busy-either InProgress b l = refl
busy-either Stopping b l = refl
busy-either (Ended k) b l = b

-- a unit that is owned is held
held_at : (s : State) (j c : ℕ) (a : Site) → OwnedAt s j c a → (u : UnitNumber) → a ≡ AtUnit u → held_by (unit_in s.units c u.0).holder j ≡ true
held_at s j c a o u e = let k : OwnedAt s j c (AtUnit u) = subst (λ (x : Site). OwnedAt s j c x) e o in k.1 refl

-- a packet at a unit, and the unit
stays : (s : State) (c u : ℕ) (q : Packet) → is_at c (unit_site u) q ≡ true → Staying s q → is_returning (unit_in s.units c u).holder ≡ false
stays s c u q t k =
    let x : q.channel.0 ≡ c = eqb-true q.channel.0 c (and_left (eqb q.channel.0 c) _ t) in
    let y : q.at ≡ unit_site u = same-is q.at (unit_site u) (and_right (eqb q.channel.0 c) _ t) in
    rw (x, y) at k

holds-always : (s : State) → Inv s → Sound s no_packet → Halts s → Opened s → Waits s → Always s
holds-always s I S H O W =
    record {
      moving = λ c j p e. ((I.motion c j p e).going, (I.motion c j p e).channel);
      movers = λ j p h. S.mover j p refl h;
      entries = all-imp (EntryOk s) (λ (e : ℕ). is_still s.jobs e ≡ true) (λ e k. k.listed) s.queue I.queued;
      members = λ j p h. S.member j p refl h;
      once = I.single;
      sites = λ j p b. (fact j p b).0.0;
      held = λ j p b u e. held_at s j (packet_at s j p).channel.0 (packet_at s j p).at (fact j p b).0 u e;
      live = λ j p b. (fact j p b).1;
      unlocked = λ j p m. O (packet_at s j p).channel.0 j p (S.mover j p refl m);
      closing = λ j c. (H j c).one;
      stopping = λ j p c m. (H j c).all p m;
      returning = λ c u e. let w = W c u e in (w.place, w.packet, w.held, w.moves, w.at, w.stopping);
      unlisted = λ c u e j p l. by_bool (is_at c (unit_site u) (packet_at s j p))
          (λ t. never {b = is_returning (unit_in s.units c u).holder} e (stays s c u (packet_at s j p) t (entry j p l).staying))
          (λ t. t);
    }
  where
    -- what is listed is in the list
    entry : (j p : ℕ) → is_listed (packet_at s j p).status ≡ true → OkEntry s j p
    entry j p l =
        let small : p < 16 = (let k = busy-in s.jobs j p (listed-busy (packet_at s j p).status l) in omega (arith, S.sixteen j)) in
        let k : OkEntry s (place_of (entry_of j p)) (packet_of (entry_of j p)) =
        all_any (EntryOk s) (entry_of j p) s.queue I.queued (S.member j p refl l) in
        rw (entry_place j p small, entry-packet j p small) at k

    -- of a packet that is listed, from the list; of one that moves, from its motion
    fact : (j p : ℕ) → is_busy (packet_at s j p).status ≡ true → Owned s j (packet_at s j p) × (is_empty (state_in s.jobs j) ≡ false)
    fact j p b =
        by_bool (is_listed (packet_at s j p).status)
        (λ l. let k = entry j p l in (k.owned, running-alive (state_in s.jobs j) k.running))
        (λ l.
        let k = I.motion (packet_at s j p).channel.0 j p (S.mover j p refl (busy-either (packet_at s j p).status b l)) in (k.owned, k.alive))

pub invariants : Invariants
invariants l s r = holds-always s (reached-inv l s r) (reached-sound l s r) (reached-halts l s r) (reached-open l s r) (reached-waits l s r)

pub no-early-hand-over : NoEarlyHandOver
no-early-hand-over l s r j p h u d = (invariants l s r).held j p (motion-busy (packet_at s j p).status h) u d
