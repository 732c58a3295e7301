-- What the definitions of Heads mean. Units that are given in ascending order serve every entry where the channels
-- have counts, and are the lowest; an assignment's channels are as Choice says; and the channels decide the lowest
-- units. Assumes nothing.
use Rattle.std.specs.Prelude.{Option}
use Prim.Native.Nat.{ℕ, ◌+◌, ◌*◌, ◌≤◌, ◌<◌, ◌/◌}
use mathlib.Core.Path.{◌≡◌, refl, sym, ap, ◌∙◌, subst}
use mathlib.Core.Bool.{Bool, true}
use mathlib.Core.List.{List}
use mathlib.Core.Logic.{⊎_elim}
use native.Mathlib.Nat.{eq-zero-or-pos, eq-or-lt_of_le}
use native.Mathlib.Omega.{arith}
use lib.ListN.{length, get_or}
use Rattle.numbers.proofs.Order.{le-or-lt}
use Rattle.numbers.specs.declared.LogicalChannel.{LogicalChannel}
use Rattle.numbers.specs.declared.ChannelNumber.{ChannelNumber}
use Rattle.assign_channels.specs.declared.ByChannel.{ByChannel}
use Rattle.assign_channels.specs.declared.ByLogical.{ByLogical}
use Rattle.assign_channels.specs.Choice.{count_at, want, on, total, Placed}
use Rattle.assign_channels.proofs.HallLaws.{channel-below}
use Rattle.assign_heads.specs.Sums.{sum_to, one, how_many}
use Rattle.assign_heads.proofs.SumsLaws.{sum-none, sum_same, sum_mono, sum-at, sum-add, one-le, passes-later}
use Rattle.assign_heads.specs.Heads.{is_to, is_given, Served, Lowest}
use Rattle.assign_heads.specs.Whose.{logical, free_at}
use Rattle.assign_heads.specs.Giving.{Owners, FreeCounts}
use Rattle.assign_heads.proofs.GivingLaws.{to-given}
use Rattle.assign_heads.specs.GaveOut.{Passed}
use Rattle.assign_heads.proofs.Counting.{free-below, counts-total, wants-total, given-once, given-most, by-entry, on-channel, only-channel}

-- ---- all units given
module _ (free : List Bool) (wants : ByLogical) (counts : ByChannel) (channels : List ChannelNumber) (own : List LogicalChannel)
    (to : ℕ → Option LogicalChannel) (left : ByLogical)
    (units : length free ≡ 256) (size : length wants.0 ≡ 16) (has : FreeCounts free counts) (placed : Placed counts wants channels)
    (owners : Owners wants channels own)
    (only : (i : ℕ) → is_given (to i) ≡ true → free_at free i ≡ true)
    (p : Passed (free_at free) (λ c. (get_or own c (logical 0)).0) (want wants) to left 256) where
  abbrev o : ℕ → ℕ
  o c = (get_or own c (logical 0)).0

  below : (i l : ℕ) → is_to l (to i) ≡ true → i < 256
  below i l t = omega (arith, free-below free i (only i (to-given (to i) l t)))

  owner : (i l : ℕ) → 1 ≤ l → is_to l (to i) ≡ true → (l ≡ o (i / 16)) × (i / 16 < 16)
  owner i l h t = let b = below i l t in (⊎_elim (λ e. e) (λ e. absurd (omega arith)) (p.whose i l b t), omega arith)

  known : (i l : ℕ) → 16 ≤ l → is_to l (to i) ≡ true → ⊥
  known i l h t = let w = owner i l (omega arith) t in omega (arith, w.0, (owners.each (i / 16) w.1).below)

  there : (i l : ℕ) → 1 ≤ l → is_to l (to i) ≡ true → i / 16 ≡ on channels l
  there i l h t =
      let w = owner i l h t in
      sym (ap (on channels) w.0 ∙ (owners.each (i / 16) w.1).there (omega (arith, w.0)))

  -- logical channel 0 has all: else every assignable unit is given, and there are enough
  none-left-0 : get_or left.0 0 0 ≡ 0
  none-left-0 =
      ⊎_elim (λ e. e)
      (λ h.
      let a = sum_mono 256 (λ i. one (free_at free i)) (λ i. one (is_given (to i))) (λ i k. one-le (λ f. p.some i k f h)) in
      let b = sum_mono 256 (λ i. one (is_given (to i))) (λ i. sum_to 16 (λ l. one (is_to l (to i)))) (λ i k. given-once (to i) (known i)) in
      let d = sum-add 16 (λ l. how_many 256 (λ i. is_to l (to i))) (λ l. get_or left.0 l 0) in
      let e = sum_same 16 (λ l. how_many 256 (λ i. is_to l (to i)) + get_or left.0 l 0) (want wants) p.counted in
      let f = sum-at 16 0 (λ l. get_or left.0 l 0) (omega arith) in
      absurd (omega (arith, by-entry to, wants-total wants size, counts-total has, placed.rest)))
      (eq-zero-or-pos (get_or left.0 0 0))

  -- the entry that has a channel is its owner
  owns : (l : ℕ) → 1 ≤ l → l < 16 → 1 ≤ want wants l → on channels l < 16 → o (on channels l) ≡ l
  owns l h k q b =
      let w = owners.each (on channels l) b in
      ⊎_elim (λ z. absurd (w.none z l h k q refl))
      (λ n. ⊎_elim
      (λ le. ⊎_elim (λ e. e) (λ lt. absurd (placed.own (o (on channels l)) l n lt k (w.asks n) q (w.there n))) (eq-or-lt_of_le le))
      (λ lt. absurd (placed.own l (o (on channels l)) h lt w.below q (w.asks n) (sym (w.there n))))
      (le-or-lt (o (on channels l)) l))
      (eq-zero-or-pos (o (on channels l)))

  -- an entry with a channel has all: else every assignable unit of the channel is given to it, and there are enough
  none_left : (l : ℕ) → 1 ≤ l → l < 16 → get_or left.0 l 0 ≡ 0
  none_left l h k =
      ⊎_elim (λ e. e)
      (λ m.
      let n = p.counted l k in
      let q : 1 ≤ want wants l = omega arith in
      let f = placed.fits l h k q in
      let b : on channels l < 16 = omega (arith, channel-below counts.0 (on channels l) 1 (omega arith) (omega arith), has.long) in
      let c = on channels l in
      let w = owns l h k q b in
      let s = sum_mono 16 (λ u. one (free_at free (c * 16 + u))) (λ u. one (is_to l (to (c * 16 + u)))) (λ u v. one-le (given c l w b m u v)) in
      absurd (omega (arith, has.each c b, on-channel to (λ i. is_to l (to i)) c b)))
      (eq-zero-or-pos (get_or left.0 l 0))
    where
      given : (c l : ℕ) → o c ≡ l → c < 16 → 1 ≤ get_or left.0 l 0 → (u : ℕ) → u < 16 → free_at free (c * 16 + u) ≡ true
          → is_to l (to (c * 16 + u)) ≡ true
      given c l w b m u v t =
          let d : (c * 16 + u) / 16 ≡ c = omega arith in
          let e : o ((c * 16 + u) / 16) ≡ l = ap o d ∙ w in
          subst (λ (x : ℕ). is_to x (to (c * 16 + u)) ≡ true) e
          (p.first (c * 16 + u) (omega arith) t (subst (λ (x : ℕ). 1 ≤ get_or left.0 x 0) (sym e) m))

  pub all-served : Served (free_at free) (want wants) (on channels) to
  all-served = record {
    only = only;
    all = λ l h. ⊎_elim (λ z.
        let e : get_or left.0 l 0 ≡ get_or left.0 0 0 = ap (λ (x : ℕ). get_or left.0 x 0) z in omega (arith, p.counted l h, none-left-0))
        (λ q. omega (arith, p.counted l h, none_left l q h)) (eq-zero-or-pos l);
    known = known;
    there = there;
    own = placed.own;
    none-0 = placed.none-0;
    none = placed.none;
  }

  pub all-lowest : Lowest (free_at free) to
  all-lowest = record {
    units = λ j i l h o t e f. p.units j i l h (below i l t) o t e f;
    rest = λ j i h t f. p.rest j i h (below i 0 t) t f;
  }

-- ---- an assignment's channels are as Choice says
module _ (free : List Bool) (wants : ByLogical) (counts : ByChannel) (channels : List ChannelNumber) (to : ℕ → Option LogicalChannel)
    (size : length wants.0 ≡ 16) (long : length channels ≡ 16) (has : FreeCounts free counts)
    (s : Served (free_at free) (want wants) (on channels) to) where
  count_at_lem : (l : ℕ) → 1 ≤ l → l < 16 → 1 ≤ want wants l → want wants l ≤ count_at counts (on channels l)
  count_at_lem l h k q =
      let c = on channels l in
      let a = only-channel to (λ i. is_to l (to i)) c (λ i t. s.there i l h t) in
      let m = sum_mono 16 (λ u. one (is_to l (to (c * 16 + u)))) (λ u. one (free_at free (c * 16 + u)))
      (λ u v. one-le (λ t. s.only (c * 16 + u) (to-given (to (c * 16 + u)) l t))) in
      let n = s.all l k in
      let b : c < 16 = channel-of in
      omega (arith, has.each c b)
    where
      channel-of : on channels l < 16
      channel-of =
          let n = s.all l k in
          let z : how_many 0 (λ i. is_to l (to i)) < how_many 256 (λ i. is_to l (to i)) = omega (arith, sum-none (λ i. one (is_to l (to i)))) in
          let r = passes-later 256 0 (λ i. is_to l (to i)) z in
          omega (arith, r.1.1.0, s.there r.0 l h r.1.1.1)

  rest : total wants.0 ≤ total counts.0
  rest =
      let a = sum_same 16 (λ l. how_many 256 (λ i. is_to l (to i))) (want wants) s.all in
      let b = sum_mono 256 (λ i. sum_to 16 (λ l. one (is_to l (to i)))) (λ i. one (free_at free i))
      (λ i k. omega (arith, given-most (to i), one-le (s.only i))) in
      omega (arith, by-entry to, wants-total wants size, counts-total has)

  pub served-placed : Placed counts wants channels
  served-placed = record { long = long; fits = count_at_lem; own = s.own; rest = rest; none-0 = s.none-0; none = s.none }
