-- One unit given: what the entry that takes it means for every entry. Assumes nothing.
use Rattle.std.specs.Prelude.{Option, Some, None}
use Prim.Native.Nat.{ℕ, ◌+◌, ◌-◌, ◌≤◌, ◌<◌}
use mathlib.Core.Path.{◌≡◌, refl, sym, ap, subst}
use mathlib.Core.Bool.{Bool, true, false}
use mathlib.Core.Logic.{◌⊎◌, inl, inr}
use native.Mathlib.Omega.{arith}
use lib.Dec.{eqb, ltb}
use lib.ListN.{length, get_or}
use lib.Seq.{get_or-set_same, get_or-set_other}
use borrow.Author.Tests.{ltb-true, ltb-false, eqb-true, eqb-false, eq-eqb}
use Rattle.numbers.proofs.Tests.{by_bool, never}
use Rattle.numbers.specs.declared.LogicalChannel.{LogicalChannel}
use Rattle.assign_channels.specs.declared.ByLogical.{ByLogical}
use Rattle.assign_heads.specs.Sums.{one}
use Rattle.assign_heads.specs.Heads.{is_to, is_given}
use Rattle.assign_heads.specs.Whose.{logical}
use Rattle.assign_heads.specs.Giving.{taker_of, less_of}

-- a unit goes to one entry only
pub to_one : (g : Option LogicalChannel) (l m : ℕ) → is_to l g ≡ true → is_to m g ≡ true → l ≡ m
to_one None l m p q = never p refl
to_one (Some k) l m p q = omega (arith, eqb-true k.0 l p, eqb-true k.0 m q)

pub to-given : (g : Option LogicalChannel) (l : ℕ) → is_to l g ≡ true → is_given g ≡ true
to-given None l p = never p refl
to-given (Some k) l p = refl

-- what the taker of a unit that is free or not means: `left` before, `after` then
pub record Took (free : Bool) (left : ByLogical) (o : ℕ) (g : Option LogicalChannel) (after : ByLogical) : Type 0 where
  -- it lacks one less
  pub less : (l : ℕ) → l < 16 → one (is_to l g) + get_or after.0 l 0 ≡ get_or left.0 l 0
  pub fewer : (l : ℕ) → get_or after.0 l 0 ≤ get_or left.0 l 0
  -- it is the channel's own or logical channel 0
  pub whose : (l : ℕ) → is_to l g ≡ true → (l ≡ o) ⊎ (l ≡ 0)
  -- and lacked a unit
  pub lacked : (l : ℕ) → is_to l g ≡ true → 1 ≤ get_or left.0 l 0
  -- while the own entry lacks a unit it is that one
  pub first : free ≡ true → 1 ≤ get_or left.0 o 0 → is_to o g ≡ true
  -- while logical channel 0 lacks a unit it is one
  pub some : free ≡ true → 1 ≤ get_or left.0 0 0 → is_given g ≡ true

module _ (left : ByLogical) (long : length left.0 ≡ 16) where
  -- taken by an entry that lacks a unit
  less-at : (m : LogicalChannel) → m.0 < 16 → 1 ≤ get_or left.0 m.0 0 → (l : ℕ) → l < 16
      → one (is_to l (Some m)) + get_or (less_of left (Some m)).0 l 0 ≡ get_or left.0 l 0
  less-at m b p l h =
      by_bool (eqb m.0 l)
      (λ t.
      let e : m.0 ≡ l = eqb-true m.0 l t in
      let s : get_or (less_of left (Some m)).0 m.0 0 ≡ get_or left.0 m.0 0 - 1 =
      get_or-set_same left.0 m.0 (get_or left.0 m.0 0 - 1) 0 (omega arith) in
      let a : get_or (less_of left (Some m)).0 m.0 0 ≡ get_or (less_of left (Some m)).0 l 0 = ap (λ (x : ℕ). get_or (less_of left (Some m)).0 x 0) e in
      let d : get_or left.0 m.0 0 ≡ get_or left.0 l 0 = ap (λ (x : ℕ). get_or left.0 x 0) e in
      let o : one (eqb m.0 l) ≡ 1 = ap one t in
      omega arith)
      (λ t.
      let o : one (eqb m.0 l) ≡ 0 = ap one t in
      omega (arith, get_or-set_other left.0 m.0 l (get_or left.0 m.0 0 - 1) 0 (λ e. eqb-false m.0 l t (sym e))))

  fewer-at : (m : LogicalChannel) (l : ℕ) → m.0 < 16 → get_or (less_of left (Some m)).0 l 0 ≤ get_or left.0 l 0
  fewer-at m l b =
      by_bool (eqb m.0 l)
      (λ t.
      let e : m.0 ≡ l = eqb-true m.0 l t in
      let s : get_or (less_of left (Some m)).0 m.0 0 ≡ get_or left.0 m.0 0 - 1 =
      get_or-set_same left.0 m.0 (get_or left.0 m.0 0 - 1) 0 (omega arith) in
      let a : get_or (less_of left (Some m)).0 m.0 0 ≡ get_or (less_of left (Some m)).0 l 0 = ap (λ (x : ℕ). get_or (less_of left (Some m)).0 x 0) e in
      let d : get_or left.0 m.0 0 ≡ get_or left.0 l 0 = ap (λ (x : ℕ). get_or left.0 x 0) e in
      omega arith)
      (λ t. omega (arith, get_or-set_other left.0 m.0 l (get_or left.0 m.0 0 - 1) 0 (λ e. eqb-false m.0 l t (sym e))))

  lacked-at : (m : LogicalChannel) (l : ℕ) → 1 ≤ get_or left.0 m.0 0 → is_to l (Some m) ≡ true → 1 ≤ get_or left.0 l 0
  lacked-at m l p t = subst (λ (x : ℕ). 1 ≤ get_or left.0 x 0) (eqb-true m.0 l t) p

  -- taken by none: it is not free, or none that may have it lacks a unit
  by-none : (o : ℕ) (free : Bool) → (free ≡ true → 1 ≤ get_or left.0 o 0 → ⊥) → (free ≡ true → 1 ≤ get_or left.0 0 0 → ⊥)
      → Took free left o None left
  by-none o free z y = record {
    less = λ l h. omega arith;
    fewer = λ l. omega arith;
    whose = λ l t. never t refl;
    lacked = λ l t. never t refl;
    first = λ f q. absurd (z f q);
    some = λ f q. absurd (y f q);
  }

  pub not_free : (o : ℕ) (free : Bool) → free ≡ false → Took free left o None left
  not_free o free e = by-none o free (λ f q. never f e) (λ f q. never f e)

  pub took : (own : LogicalChannel) → own.0 < 16 → Took true left own.0 (taker_of left own) (less_of left (taker_of left own))
  took own b =
      by_bool (ltb 0 (get_or left.0 own.0 0))
      (λ t. rw t (by-own (ltb-true 0 (get_or left.0 own.0 0) t)))
      (λ t. by_bool (ltb 0 (get_or left.0 0 0))
      (λ u. rw (t, u) (by_zero (ltb-false 0 (get_or left.0 own.0 0) t) (ltb-true 0 (get_or left.0 0 0) u)))
      (λ u. rw (t, u) (by-none own.0 true (λ f q. omega (arith, ltb-false 0 (get_or left.0 own.0 0) t))
      (λ f q. omega (arith, ltb-false 0 (get_or left.0 0 0) u)))))
    where
      by-own : 1 ≤ get_or left.0 own.0 0 → Took true left own.0 (Some own) (less_of left (Some own))
      by-own p = record {
        less = less-at own b p;
        fewer = λ l. fewer-at own l b;
        whose = λ l t. inl (sym (eqb-true own.0 l t));
        lacked = λ l. lacked-at own l p;
        first = λ f q. eq-eqb own.0 own.0 refl;
        some = λ f q. refl;
      }

      by_zero : get_or left.0 own.0 0 ≤ 0 → 1 ≤ get_or left.0 0 0 → Took true left own.0 (Some (logical 0)) (less_of left (Some (logical 0)))
      by_zero z p = record {
        less = less-at (logical 0) (omega arith) p;
        fewer = λ l. fewer-at (logical 0) l (omega arith);
        whose = λ l t. inr (sym (eqb-true 0 l t));
        lacked = λ l. lacked-at (logical 0) l p;
        first = λ f q. absurd (omega arith);
        some = λ f q. refl;
      }
