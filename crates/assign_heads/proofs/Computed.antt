-- Serving that antt computes: it meets the contract of `serve`. Assumes nothing.
use Prim.Native.Nat.{ℕ, zero, suc, ◌+◌, ◌*◌, ◌/◌}
use mathlib.Core.Path.{◌≡◌, refl, sym, subst}
use mathlib.Core.Bool.{Bool, true, false, cond, ◌&&◌}
use mathlib.Core.List.{List}
use native.Mathlib.Omega.{arith}
use lib.Dec.{eqb, ltb}
use lib.ListN.{length, get_or, set}
use borrow.Author.Tests.{eqb-true, ltb-true, lt-ltb, eq-eqb}
use Rattle.numbers.proofs.Find.{Hit, hit, none, seek, First, first}
use Rattle.numbers.specs.Values.{values}
use Rattle.numbers.proofs.ValuesLaws.{values-at}
use Rattle.numbers.proofs.Tests.{by_bool, both}
use Rattle.numbers.specs.declared.LogicalChannel.{LogicalChannel}
use Rattle.numbers.specs.declared.ChannelNumber.{ChannelNumber}
use Rattle.assign_channels.specs.declared.Picks.{Picks}
use Rattle.assign_channels.specs.declared.ByChannel.{ByChannel}
use Rattle.assign_channels.specs.declared.ByLogical.{ByLogical}
use Rattle.assign_channels.specs.Choice.{by_channel, want, on, Answer}
use Rattle.assign_channels.specs.Greedy.{choose_of}
use Rattle.assign_channels.proofs.ChoiceLaws as Choice
use Rattle.assign_heads.specs.declared.Head.{Head}
use Rattle.assign_heads.specs.declared.Service.{Service}
use Rattle.assign_heads.specs.Sums.{how_many}
use Rattle.assign_heads.specs.Whose.{logical, free_at}
use Rattle.assign_heads.specs.Giving.{taker_of, less_of, OwnerIs, Owners, FreeCounts}
use Rattle.assign_heads.specs.GaveOut.{Logical, Gave, GaveOut}
use Rattle.assign_heads.proofs.GaveOutLaws.{gave-none, gave-over, gave_one, gave_all}
use Rattle.assign_heads.specs.Serving.{Serves}
use Rattle.assign_heads.proofs.ServingLaws.{owners-logical, chosen, lacking}

-- ---- counts
abbrev pub counts_of : List Bool → ByChannel
counts_of free = by_channel (values 16 (λ c. how_many 16 (λ u. free_at free (c * 16 + u))))

counts-are : (free : List Bool) → FreeCounts free (counts_of free)
counts-are free = record {
  long = refl;
  each = λ c h. values-at 16 (λ c. how_many 16 (λ u. free_at free (c * 16 + u))) c 0 h;
}

-- ---- owners
abbrev pub owned : ByLogical → List ChannelNumber → ℕ → ℕ → Bool
owned wants channels c l = ltb 0 l && (ltb l 16 && (ltb 0 (want wants l) && eqb (on channels l) c))

abbrev pub owner_at : Hit → ℕ
owner_at (hit l) = l
owner_at none = 0

abbrev pub owners_of : ByLogical → List ChannelNumber → List LogicalChannel
owners_of wants channels = values 16 (λ c. logical (owner_at (seek (owned wants channels c) 16 0)))

module _ (wants : ByLogical) (channels : List ChannelNumber) (c : ℕ) where
  owner_of : (h : Hit) → First (owned wants channels c) 16 0 h → OwnerIs wants channels c (owner_at h)
  owner_of (hit l) f =
      let p = both (ltb 0 l) (ltb l 16 && (ltb 0 (want wants l) && eqb (on channels l) c)) f.0 in
      let q = both (ltb l 16) (ltb 0 (want wants l) && eqb (on channels l) c) p.1 in
      let r = both (ltb 0 (want wants l)) (eqb (on channels l) c) q.1 in
      record {
        below = ltb-true l 16 q.0;
        asks = λ h. ltb-true 0 (want wants l) r.0;
        there = λ h. eqb-true (on channels l) c r.1;
        none = λ z m h k a e. omega (arith, ltb-true 0 l p.0);
      }
  owner_of none f = record {
    below = omega arith;
    asks = λ h. absurd (omega arith);
    there = λ h. absurd (omega arith);
    none = λ z l h k a e. f l (omega arith) (omega arith)
        (rw (lt-ltb 0 l h, lt-ltb l 16 k, lt-ltb 0 (want wants l) a, eq-eqb (on channels l) c e) refl);
  }

owners-are : (wants : ByLogical) (channels : List ChannelNumber) → Owners wants channels (owners_of wants channels)
owners-are wants channels = record {
  each = λ c h. subst (λ (o : LogicalChannel). OwnerIs wants channels c o.0)
      (sym (values-at 16 (λ d. logical (owner_at (seek (owned wants channels d) 16 0))) c (logical 0) h))
      (owner_of wants channels c (seek (owned wants channels c) 16 0) (first (owned wants channels c) 16 0));
}

-- ---- units, n of them from i on
unfoldable pub give_from : List Bool → List LogicalChannel → ℕ → ℕ → ByLogical → List Head → List Head
give_from free own zero i left heads = heads
give_from free own (suc n) i left heads =
    cond (free_at free i)
    (give_from free own n (i + 1) (less_of left (taker_of left (get_or own (i / 16) (logical 0))))
    (set heads i (record { to = taker_of left (get_or own (i / 16) (logical 0)) })))
    (give_from free own n (i + 1) left heads)

give-from : (free : List Bool) (own : List LogicalChannel) (wants : ByLogical) (before : List Head) → Logical own
    → (n i : ℕ) (left : ByLogical) (heads : List Head) → i + n ≡ 256
    → Gave free own wants before heads left i → GaveOut free own wants before (give_from free own n i left heads)
unfolding give_from
give-from free own wants before l zero i left heads e g = gave_all (omega arith) g
give-from free own wants before l (suc n) i left heads e g =
    by_bool (free_at free i)
    (λ t. rw t (give-from free own wants before l n (i + 1) (less_of left (taker_of left (get_or own (i / 16) (logical 0))))
    (set heads i (record { to = taker_of left (get_or own (i / 16) (logical 0)) })) (omega arith) (gave_one (omega arith) g t l)))
    (λ t. rw t (give-from free own wants before l n (i + 1) left heads (omega arith) (gave-over (omega arith) g t)))

-- ---- the whole
unfoldable pub service_of : List Bool → ByLogical → List Head → Picks → Service
service_of free wants before picks = cond picks.ok
    (record { ok = true; on = picks.on; heads = give_from free (owners_of wants picks.on) 256 0 wants before })
    (record { ok = false; on = picks.on; heads = before })

unfoldable pub serve_of : List Bool → ByLogical → List Head → Service
serve_of free wants before = service_of free wants before (choose_of (counts_of free) wants)

module _ (free : List Bool) (wants : ByLogical) (before : List Head) (units : length free ≡ 256) (size : length wants.0 ≡ 16)
    (wide : length before ≡ 256) where
  service-is : (p : Picks) (b : Bool) → p.ok ≡ b → Answer b (counts_of free) wants p.on → Serves free wants before (service_of free wants before p)
  unfolding service_of
  service-is p true e a =
      rw e
      (chosen units size (counts-are free) a (owners-are wants p.on)
      (give-from free (owners_of wants p.on) wants before (owners-logical (owners-are wants p.on)) 256 0 wants before (omega arith)
      (gave-none free (owners_of wants p.on) wants before wide size)))
  service-is p false e a = rw e (lacking units size (counts-are free) a)

  pub serve-answers : Serves free wants before (serve_of free wants before)
  unfolding serve_of
  serve-answers =
      service-is (choose_of (counts_of free) wants) (choose_of (counts_of free) wants).ok refl (Choice.chosen (counts_of free) wants refl size)
