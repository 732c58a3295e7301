-- One more kind served keeps what is known of the kinds before: no unit is of two kinds. One of which nothing is asked
-- for is served where it gets nothing. Assumes nothing.
use Rattle.std.specs.Prelude.{Option, Some, None}
use Rattle.numbers.specs.declared.LogicalChannel.{LogicalChannel}
use Prim.Native.Nat.{ℕ, zero, suc, ◌+◌, ◌≤◌, ◌<◌}
use mathlib.Core.Path.{◌≡◌, refl, sym, ap, ◌∙◌, subst}
use mathlib.Core.Bool.{Bool, true, false, cond}
use mathlib.Core.List.{List, [], ◌∷◌}
use mathlib.Core.Logic.{inl, inr, ⊎_elim}
use native.Mathlib.Nat.{eq-zero-or-pos}
use native.Mathlib.Omega.{arith}
use lib.Dec.{ltb}
use lib.ListN.{length, get_or, set, replicate, length-set, get_or-replicate, get_or-eq_default}
use lib.Seq.{get_or-set_other}
use borrow.Author.Tests.{ltb-true, ltb-false}
use Rattle.numbers.proofs.Tests.{by_bool, never}
use Rattle.numbers.proofs.Order.{one_more as all-below}
use Rattle.numbers.proofs.Stores.{stored, get_d-replicate-same}
use Rattle.numbers.specs.Kinds.{unit_kinds}
use Rattle.numbers.specs.declared.ChannelNumber.{ChannelNumber}
use Rattle.units.specs.declared.Unit.{Unit}
use Rattle.channels.specs.declared.Channel.{Channel}
use Rattle.assign_channels.specs.declared.ByLogical.{ByLogical}
use Rattle.assign_channels.specs.Choice.{channel, total, want, on, LexLe}
use Rattle.assign_channels.proofs.GreedyLaws.{total-none}
use Rattle.assign_heads.specs.declared.Head.{Head}
use Rattle.assign_heads.specs.Heads.{is_given, Served, Lowest}
use Rattle.assign_heads.specs.Whose.{free_at, blank}
use Rattle.assign_heads.specs.Serving as Serving
use Rattle.assign_heads.proofs.SumsLaws.{sum-zero}
use Rattle.assign_free.specs.Assignable.{is_free_of, FreeUnits}
use Rattle.assign_free.proofs.AssignableLaws.{marks, one-kind}
use Rattle.cards_request.specs.declared.Facilities.{Facilities}
use Rattle.assign.specs.declared.KindChannels.{KindChannels}
use Rattle.assign.specs.Assignment.{wants_of, no_channels}
use Rattle.assign.specs.Kinds.{Possible, KindDone, to_of, KindsDone, KindLacking}

-- functions that agree are one
same-function : {A : Type 0} {f g : ℕ → A} → ((i : ℕ) → f i ≡ g i) → f ≡ g
same-function h = λ j i. h i j

pub none_yet : (free : ℕ → ℕ → Bool) (asked : Facilities) → KindsDone free asked (replicate unit_kinds no_channels) (replicate 256 blank) 0
none_yet free asked = record {
  high = omega arith;
  count = refl;
  wide = refl;
  each = λ k h. absurd (omega arith);
  rest = λ kind h. get_d-replicate-same unit_kinds kind no_channels;
  only = λ i t. never t (ap (λ (x : Head). is_given x.to) (blanks i));
}
  where
    blanks : (i : ℕ) → get_or (replicate 256 blank) i blank ≡ blank
    blanks i =
        by_bool (ltb i 256) (λ t. get_or-replicate 256 i blank blank (ltb-true i 256 t))
        (λ t. get_or-eq_default (replicate 256 blank) blank {n = i} (ltb-false i 256 t))

module _ (units : List (List Unit)) (channels : List Channel) (asked : Facilities) (size : length channels ≡ 16) (order : ℕ)
    (more : order < unit_kinds) {free : List Bool} {wants : ByLogical}
    (has : FreeUnits units channels order free) (are : wants ≡ wants_of asked order) where
  abbrev free_of : ℕ → ℕ → Bool
  free_of = is_free_of units channels

  marked : (i : ℕ) → free_at free i ≡ free_of order i
  marked = marks units channels size has

  marks-are : free_at free ≡ free_of order
  marks-are = same-function marked

  -- what some assignment has, as the serving of the kind says it
  possible : {others : List ChannelNumber} → Possible free_of asked order others → Serving.Possible free wants others
  possible {others} p = record {
    long = p.long;
    to = p.to;
    served = subst (λ (w : ByLogical). Served (free_at free) (want w) (on others) p.to) (sym are)
        (subst (λ (f : ℕ → Bool). Served f (want (wants_of asked order)) (on others) p.to) (sym marks-are) p.served);
  }

  pub lacking : {before heads : List Head} {mine : List ChannelNumber} {named : List KindChannels} → Serving.Lacking free wants before mine heads
      → KindsDone free_of asked named before order → KindLacking free_of asked order
  lacking {named = named} l k = record {
    is-kind = more;
    before = λ kind h. let d = k.each kind h in ((get_or named kind no_channels).on, record { long = d.long; to = _; served = d.served });
    never = λ others p. l.never others (possible p);
  }

  module _ {before heads : List Head} {mine : List ChannelNumber} (c : Serving.Chosen free wants before mine heads) where
    -- the kind itself
    now-done : KindDone free_of asked order mine (to_of free_of order heads)
    now-done = record {
      long = c.long;
      served = subst (λ (w : ByLogical). Served (free_of order) (want w) (on mine) (to_of free_of order heads)) are
          (subst (λ (f : ℕ → Bool). Served f (want wants) (on mine) (λ i. cond (f i) (get_or heads i blank).to None)) marks-are c.served);
      least = λ others p. c.least others (possible p);
      lowest = subst (λ (f : ℕ → Bool). Lowest f (λ i. cond (f i) (get_or heads i blank).to None)) marks-are c.lowest;
    }

    -- a kind before
    kept : (kind : ℕ) → kind < order → to_of free_of kind before ≡ to_of free_of kind heads
    kept kind h = same-function λ i.
        by_bool (free_of kind i)
        (λ t. ap (λ (x : Head). cond (free_of kind i) x.to None) (sym (c.kept i (other i t))))
        (λ t. ap (λ (b : Bool). cond b (get_or before i blank).to None) t ∙ sym (ap (λ (b : Bool). cond b (get_or heads i blank).to None) t))
      where
        other : (i : ℕ) → free_of kind i ≡ true → free_at free i ≡ false
        other i t = by_bool (free_at free i) (λ u. absurd (omega (arith, one-kind units channels kind order i t (sym (marked i) ∙ u)))) (λ u. u)

    pub one_more : {named : List KindChannels} → KindsDone free_of asked named before order
        → KindsDone free_of asked (set named order (record { on = mine })) heads (order + 1)
    one_more {named} k = record {
      high = omega arith;
      count = length-set named order (record { on = mine }) ∙ k.count;
      wide = c.wide;
      each = stored (λ (kind : ℕ) (x : KindChannels). KindDone free_of asked kind x.on (to_of free_of kind heads)) named order unit_kinds
          (record { on = mine }) no_channels k.count more
          (λ kind h. subst (KindDone free_of asked kind (get_or named kind no_channels).on) (kept kind h) (k.each kind h)) now-done;
      rest = λ kind h. get_or-set_other named order kind (record { on = mine }) no_channels (λ e. omega arith) ∙ k.rest kind (omega arith);
      only = λ i t. by_bool (free_at free i) (λ u. (order, (omega arith, sym (marked i) ∙ u)))
          (λ u.
          let r = k.only i (sym (ap (λ (x : Head). is_given x.to) (c.kept i u)) ∙ t) in
          (r.0, (omega (arith, r.1.0), r.1.1)));
    }

-- the last kind was served
pub all_done : {free : ℕ → ℕ → Bool} {asked : Facilities} {channels : List KindChannels} {heads : List Head} {order : ℕ} → unit_kinds ≤ order
    → KindsDone free asked channels heads order → KindsDone free asked channels heads unit_kinds
all_done {free} {asked} {channels} {heads} {order} h k = subst (KindsDone free asked channels heads) (upto order h k.high) k
  where
    upto : (order : ℕ) → unit_kinds ≤ order → order ≤ unit_kinds → order ≡ unit_kinds
    upto order h l = omega arith

-- ---- a kind of which nothing is asked for
-- no list is lower than the one that names no channel
lex-zeros : (n : ℕ) (others : List ChannelNumber) → length others ≡ n → LexLe (replicate n (channel 0)) others
lex-zeros zero others e = tt
lex-zeros (suc n) [] e = absurd (omega arith)
lex-zeros (suc n) (c ∷ others) e =
    ⊎_elim (λ z. inr (sym z, lex-zeros n others (omega arith))) (λ p. inl p) (eq-zero-or-pos c.0)

not-given : (g : Option LogicalChannel) → is_given g ≡ false → g ≡ None
not-given None e = refl
not-given (Some l) e = never refl e

module _ (units : List (List Unit)) (channels : List Channel) (asked : Facilities) (order : ℕ) (more : order < unit_kinds)
    (none : total (wants_of asked order).0 ≡ 0)
    {named : List KindChannels} {heads : List Head} (k : KindsDone (is_free_of units channels) asked named heads order) where
  abbrev free : ℕ → Bool
  free = is_free_of units channels order

  -- none of its units is given
  unit_left : (i : ℕ) → None ≡ to_of (is_free_of units channels) order heads i
  unit_left i =
      by_bool (free i)
      (λ t. by_bool (is_given (get_or heads i blank).to)
      (λ g. let r = k.only i g in absurd (omega (arith, r.1.0, one-kind units channels r.0 order i r.1.1 t)))
      (λ g. sym (rw t (not-given (get_or heads i blank).to g))))
      (λ f. rw f)

  no-want : (l : ℕ) → want (wants_of asked order) l ≡ 0
  no-want l = total-none (wants_of asked order).0 none l

  untouched : Served free (want (wants_of asked order)) (on (replicate 16 (channel 0))) (λ i. None)
  untouched = record {
    only = λ i t. never t refl;
    all = λ l h. sum-zero 256 ∙ sym (no-want l);
    known = λ i l h t. never t refl;
    there = λ i l h t. never t refl;
    own = λ l m h g n w v e. absurd (omega (arith, no-want l));
    none-0 = refl;
    none = λ l h g w. no-channel l;
  }
    where
      no-channel : (l : ℕ) → on (replicate 16 (channel 0)) l ≡ 0
      no-channel l = ap (λ (c : ChannelNumber). c.0) (get_d-replicate-same 16 l (channel 0))

  unasked-done : KindDone (is_free_of units channels) asked order no_channels.on (to_of (is_free_of units channels) order heads)
  unasked-done = subst (KindDone (is_free_of units channels) asked order no_channels.on) (same-function unit_left) (record {
    long = refl;
    served = untouched;
    least = λ others p. lex-zeros 16 others p.long;
    lowest = record { units = λ j i l h g t. never t refl; rest = λ j i h t. never t refl };
  })

  -- it gets no channel and no unit, and is served so
  pub unasked : KindsDone (is_free_of units channels) asked named heads (order + 1)
  unasked = record {
    high = omega arith;
    count = k.count;
    wide = k.wide;
    each = all-below (λ (kind : ℕ). KindDone (is_free_of units channels) asked kind (get_or named kind no_channels).on
        (to_of (is_free_of units channels) kind heads))
        order k.each
        (subst (λ (x : KindChannels). KindDone (is_free_of units channels) asked order x.on (to_of (is_free_of units channels) order heads))
        (sym (k.rest order (omega arith))) unasked-done);
    rest = λ kind h. k.rest kind (omega arith);
    only = λ i t. let r = k.only i t in (r.0, (omega (arith, r.1.0), r.1.1));
  }

-- the same of lists that are these
pub as-stored : {free : ℕ → ℕ → Bool} {asked : Facilities} {order : ℕ} {channels named : List KindChannels} {heads given : List Head}
    → named ≡ channels → given ≡ heads
    → KindsDone free asked channels heads order → KindsDone free asked named given order
as-stored {free} {asked} {order} {channels} {named} {heads} {given} c h k =
    subst (λ (x : List KindChannels). KindsDone free asked x given order) (sym c)
    (subst (λ (x : List Head). KindsDone free asked channels x order) (sym h) k)

-- no number of a kind's entries is more than none
pub nothing-asked : (asked : Facilities) (wants : ByLogical) (order n : ℕ) → wants ≡ wants_of asked order → n ≡ total wants.0 → n ≤ 0
    → total (wants_of asked order).0 ≡ 0
nothing-asked asked wants order n e s h = sym (ap (λ (x : ByLogical). total x.0) e) ∙ sym s ∙ none n h
  where
    none : (n : ℕ) → n ≤ 0 → n ≡ 0
    none n h = omega arith
