-- The loops of `assignable_on` and `count`: one more unit looked at, one more channel counted; and the counts are
-- one list. Assumes nothing.
use Prim.Native.Nat.{ℕ, zero, suc, ◌+◌, ◌*◌, ◌≤◌, ◌<◌, ◌/◌, ◌%◌}
use mathlib.Core.Path.{◌≡◌, refl, sym, ap, ◌∙◌, subst}
use mathlib.Core.Bool.{Bool, cond, ◌&&◌}
use mathlib.Core.List.{List, []}
use mathlib.Core.Logic.{⊎_elim}
use native.Mathlib.Nat.{eq-or-lt_of_le}
use native.Mathlib.Omega.{arith}
use lib.Dec.{eqb, ltb}
use lib.ListN.{length, get_or, set, replicate, length-set, get_or-replicate}
use lib.Seq.{ext_get_or, get_or-set_same, get_or-set_other}
use borrow.Author.Tests.{eq-eqb, ne_eqb, eqb-true, eqb-false, le-ltb}
use Rattle.numbers.proofs.Tests.{by_bool}
use Rattle.numbers.specs.Kinds.{unit_kinds}
use Rattle.units.specs.declared.Unit.{Unit}
use Rattle.units.specs.State.{unit_in, assignable}
use Rattle.channels.specs.declared.Fitted.{Fitted}
use Rattle.channels.specs.declared.Channel.{Channel}
use Rattle.channels.specs.Channels.{no_channel, units_of}
use Rattle.assign_channels.specs.declared.ByChannel.{ByChannel}
use Rattle.assign_channels.specs.Choice.{by_channel, count_at}
use Rattle.assign_heads.specs.Sums.{one, how_many}
use Rattle.assign_heads.proofs.SumsLaws.{sum_same, sum-zero, sum-none, sum-front}
use Rattle.std.specs.Prelude.{Option, Some, None}
use Rattle.std.specs.List.{count_by, range_with_len}
use Rattle.std.proofs.lemmas.List.Sums.{sum_by-cons, count_by-le-length}
use Rattle.assign_free.specs.Assignable.{is_fitted, units_of_kind, is_free_of}
use Rattle.assign_counts.specs.declared.Counts.{Counts}
use Rattle.assign_counts.specs.Assignable.{count_on, counts_of, Counted, order_in, AssignableOn}

-- ---- the units of one channel
-- unit u is one of the first n and assignable
abbrev pub counts : List (List Unit) → ℕ → ℕ → ℕ → Bool
counts grid c n u = ltb u n && assignable (unit_in grid c u)

-- what passes of the k numbers from a on
passing : (test : ℕ → Bool) (a k : ℕ) → count_by test (range_with_len a k) ≡ how_many k (λ u. test (a + u))
passing test a zero = sym (sum-none (λ u. one (test (a + u))))
passing test a (suc k) =
    let e = sum-front k (λ u. one (test (a + u))) in
    let z : one (test (a + 0)) ≡ one (test a) = ap (λ (x : ℕ). one (test x)) (omega arith) in
    let f : how_many k (λ u. test (a + 1 + u)) ≡ how_many k (λ u. test (a + suc u)) =
    sum_same k (λ u. one (test (a + 1 + u))) (λ u. one (test (a + suc u))) (λ u h. ap (λ (x : ℕ). one (test x)) (omega arith)) in
    omega (arith, sum_by-cons (λ u. one (test u)) a (range_with_len (a + 1) k), passing test (a + 1) k, e, f, z)

pub few_seen : (grid : List (List Unit)) (c n : ℕ) → count_by (counts grid c n) (range_with_len 0 16) < 17
few_seen grid c n = omega (arith, count_by-le-length (counts grid c n) (range_with_len 0 16))

pub all_seen : (grid : List (List Unit)) (c n : ℕ) {count : ℕ} → count ≡ count_by (counts grid c n) (range_with_len 0 16) → AssignableOn grid c n count
all_seen grid c n e = record {
  is = e ∙ passing (counts grid c n) 0 16
      ∙ sum_same 16 (λ u. one (counts grid c n (0 + u))) (λ u. one (counts grid c n u)) (λ u h. ap (λ (x : ℕ). one (counts grid c n x)) (omega arith));
  few = omega (arith, e, few_seen grid c n);
}

-- ---- the channels
-- a channel is of the kind at a place exactly if that is the place of its kind
fitted-order : (f : Option Fitted) (order : ℕ) → order < unit_kinds → is_fitted order f ≡ eqb (order_in f) order
fitted-order None order h = sym (ne_eqb unit_kinds order (λ e. omega arith))
fitted-order (Some its) order h = refl

module _ (units : List (List Unit)) (channels : List Channel) (c : ℕ) where
  abbrev channel : Channel
  channel = get_or channels c no_channel

  -- the count of a channel's own kind
  own-count : {n order : ℕ} → order < unit_kinds → c < 16 → order ≡ order_in channel.has → AssignableOn units c (units_of channel) n
      → n ≡ count_on units channels order c
  unfolding is_free_of
  own-count {n} {order} h k e a =
      a.is ∙ sum_same 16 (λ u. one (counts units c (units_of channel) u)) (λ u. one (is_free_of units channels order (c * 16 + u))) each
    where
      its : units_of_kind order channel ≡ units_of channel
      its = ap (λ (b : Bool). cond b (units_of channel) 0) (fitted-order channel.has order h ∙ eq-eqb (order_in channel.has) order (sym e))

      each : (u : ℕ) → u < 16 → one (counts units c (units_of channel) u) ≡ one (is_free_of units channels order (c * 16 + u))
      each u l =
          let q : (c * 16 + u) / 16 ≡ c = omega arith in
          let r : (c * 16 + u) % 16 ≡ u = omega arith in
          rw (q, r, its) refl

  -- a channel has no unit of another kind
  no-count : {order : ℕ} → order < unit_kinds → c < 16 → (order_in channel.has ≡ order → ⊥) → 0 ≡ count_on units channels order c
  unfolding is_free_of
  no-count {order} h k d = sym (sum_same 16 (λ u. one (is_free_of units channels order (c * 16 + u))) (λ u. 0) each ∙ sum-zero 16)
    where
      its : units_of_kind order channel ≡ 0
      its = ap (λ (b : Bool). cond b (units_of channel) 0) (fitted-order channel.has order h ∙ ne_eqb (order_in channel.has) order d)

      each : (u : ℕ) → u < 16 → one (is_free_of units channels order (c * 16 + u)) ≡ 0
      each u l =
          let q : (c * 16 + u) / 16 ≡ c = omega arith in
          let r : (c * 16 + u) % 16 ≡ u = omega arith in
          rw (q, r, its, le-ltb u 0 (omega arith)) refl

-- the counts of a kind, by channel
abbrev row : List ByChannel → ℕ → ByChannel
row of order = get_or of order (by_channel [])

-- the channels below c are counted, those from c on are not yet
pub record Counting (units : List (List Unit)) (channels : List Channel) (of : List ByChannel) (c : ℕ) : Type 0 where
  pub high : c ≤ 16
  pub kinds : length of ≡ unit_kinds
  pub long : (order : ℕ) → order < unit_kinds → length (row of order).0 ≡ 16
  pub done : (order d : ℕ) → order < unit_kinds → d < c → count_at (row of order) d ≡ count_on units channels order d
  pub rest : (order d : ℕ) → order < unit_kinds → c ≤ d → d < 16 → count_at (row of order) d ≡ 0

abbrev none : ByChannel
none = by_channel (replicate 16 0)

pub start : (units : List (List Unit)) (channels : List Channel) → Counting units channels (replicate unit_kinds none) 0
start units channels = record {
  high = omega arith;
  kinds = refl;
  long = λ order h. ap (λ (x : ByChannel). length x.0) (blank order h);
  done = λ order d h k. absurd (omega arith);
  rest = λ order d h k l. ap (λ (x : ByChannel). count_at x d) (blank order h) ∙ get_or-replicate 16 d 0 0 l;
}
  where
    blank : (order : ℕ) → order < unit_kinds → row (replicate unit_kinds none) order ≡ none
    blank order h = get_or-replicate unit_kinds order none (by_channel []) h

module _ {units : List (List Unit)} {channels : List Channel} {of : List ByChannel} {c : ℕ} (small : c < 16) (m : Counting units channels of c) where
  -- what holds below c and at c holds below c + 1
  last : (P : ℕ → Type 0) → ((d : ℕ) → d < c → P d) → P c → (d : ℕ) → d < c + 1 → P d
  last P below here d h = ⊎_elim (λ e. subst P (sym e) here) (below d) (eq-or-lt_of_le (at_most d c h))
    where
      at_most : (d c : ℕ) → d < c + 1 → d ≤ c
      at_most d c h = omega arith

  -- a kind that the channel is not of
  other-kind : (order : ℕ) → order < unit_kinds → (order_in (get_or channels c no_channel).has ≡ order → ⊥)
      → (d : ℕ) → d < c + 1 → count_at (row of order) d ≡ count_on units channels order d
  other-kind order l q = last (λ (d : ℕ). count_at (row of order) d ≡ count_on units channels order d) (λ d k. m.done order d l k)
      (m.rest order c l (omega arith) small ∙ no-count units channels c l small q)

  -- a channel without units
  pub past : {next : List ByChannel} → unit_kinds ≤ order_in (get_or channels c no_channel).has → next ≡ of → Counting units channels next (c + 1)
  past {next} h e = subst (λ (x : List ByChannel). Counting units channels x (c + 1)) (sym e) (record {
    high = omega arith;
    kinds = m.kinds;
    long = m.long;
    done = λ order d l. other-kind order l (λ q. omega arith) d;
    rest = λ order d l k. m.rest order d l (omega arith);
  })

  -- one with units of its kind
  module _ {order n : ℕ} (is : order < unit_kinds) (e : order ≡ order_in (get_or channels c no_channel).has)
      (a : AssignableOn units c (units_of (get_or channels c no_channel)) n) where
    abbrev its : List ℕ
    its = set (row of order).0 c n

    abbrev stored : List ByChannel
    stored = set of order (by_channel its)

    own_row : row stored order ≡ by_channel its
    own_row = get_or-set_same of order (by_channel its) (by_channel []) (omega (arith, m.kinds))

    other_row : (other : ℕ) → (order ≡ other → ⊥) → row stored other ≡ row of other
    other_row other q = get_or-set_other of order other (by_channel its) (by_channel []) (λ r. q (sym r))

    -- what holds of the kind's own row and of the others holds of all
    by_row : (P : ℕ → ByChannel → Type 0) → P order (by_channel its)
        → ((other : ℕ) → (order ≡ other → ⊥) → other < unit_kinds → P other (row of other)) → (other : ℕ) → other < unit_kinds
        → P other (row stored other)
    by_row P own others other l =
        by_bool (eqb order other)
        (λ t. subst (λ (x : ℕ). P x (row stored x)) (eqb-true order other t) (subst (P order) (sym own_row) own))
        (λ t. subst (P other) (sym (other_row other (eqb-false order other t))) (others other (eqb-false order other t) l))

    own-done : (d : ℕ) → d < c + 1 → get_or its d 0 ≡ count_on units channels order d
    own-done = last (λ (d : ℕ). get_or its d 0 ≡ count_on units channels order d)
        (λ d k. get_or-set_other (row of order).0 c d n 0 (λ q. omega arith) ∙ m.done order d is k)
        (get_or-set_same (row of order).0 c n 0 (omega (arith, m.long order is)) ∙ own-count units channels c is small e a)

    all-stored : Counting units channels stored (c + 1)
    all-stored = record {
      high = omega arith;
      kinds = length-set of order (by_channel its) ∙ m.kinds;
      long = by_row (λ (other : ℕ) (x : ByChannel). length x.0 ≡ 16) (length-set (row of order).0 c n ∙ m.long order is)
          (λ other q l. m.long other l);
      done = λ other d l. by_row (λ (other : ℕ) (x : ByChannel). (d : ℕ) → d < c + 1 → count_at x d ≡ count_on units channels other d) own-done
          (λ other q l. other-kind other l (λ r. q (e ∙ r))) other l d;
      rest = λ other d l. by_row (λ (other : ℕ) (x : ByChannel). (d : ℕ) → c + 1 ≤ d → d < 16 → count_at x d ≡ 0)
          (λ d k b. get_or-set_other (row of order).0 c d n 0 (λ q. omega arith) ∙ m.rest order d is (omega arith) b)
          (λ other q l d k b. m.rest other d l (omega arith) b) other l d;
    }

    pub counted : {next : List ByChannel} → next ≡ stored → Counting units channels next (c + 1)
    counted {next} s = subst (λ (x : List ByChannel). Counting units channels x (c + 1)) (sym s) all-stored

pub end : {grid units : List (List Unit)} {channels : List Channel} {of : List ByChannel} {c : ℕ} → 16 ≤ c → grid ≡ units
    → Counting grid channels of c → Counted units channels (record { 0 = of })
end {grid} {units} {channels} {of} h e m =
    subst (λ (x : List (List Unit)). Counted x channels (record { 0 = of })) e
    (record { kinds = m.kinds; long = m.long; each = λ order c l k. m.done order c l (omega arith) })

-- ---- two answers are one
pub counted-one : (units : List (List Unit)) (channels : List Channel) (a b : Counts) → Counted units channels a → Counted units channels b → a ≡ b
counted-one units channels a b p q = λ i. record { 0 = all i }
  where
    rows : (order : ℕ) → order < unit_kinds → (counts_of a order).0 ≡ (counts_of b order).0
    rows order l = ext_get_or 0 (counts_of a order).0 (counts_of b order).0 (p.long order l ∙ sym (q.long order l)) λ c h.
        let k : c < 16 = omega (arith, p.long order l) in
        p.each order c l k ∙ sym (q.each order c l k)

    all : a.0 ≡ b.0
    all = ext_get_or (by_channel []) a.0 b.0 (p.kinds ∙ sym q.kinds) λ order h.
        let e = rows order (omega (arith, p.kinds)) in
        λ i. record { 0 = e i }
