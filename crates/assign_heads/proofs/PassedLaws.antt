-- What is known when the units below i have been given, and that one more keeps it. Assumes nothing.
use Rattle.std.specs.Prelude.{Option}
use Rattle.numbers.specs.declared.LogicalChannel.{LogicalChannel}
use Prim.Native.Nat.{ℕ, ◌+◌, ◌≤◌, ◌<◌, ◌/◌}
use mathlib.Core.Path.{◌≡◌, sym, ap, ◌∙◌, subst}
use mathlib.Core.Bool.{Bool, true}
use mathlib.Core.Logic.{◌⊎◌, ⊎_elim}
use native.Mathlib.Numerals.{add-one}
use native.Mathlib.Omega.{arith}
use lib.ListN.{get_or}
use Rattle.numbers.proofs.Order.{one_more}
use Rattle.assign_channels.specs.declared.ByLogical.{ByLogical}
use Rattle.assign_heads.specs.Sums.{sum_to, one, how_many}
use Rattle.assign_heads.proofs.SumsLaws.{sum-suc, sum_same}
use Rattle.assign_heads.specs.Heads.{is_to, is_given}
use Rattle.assign_heads.proofs.GivingLaws.{Took}
use Rattle.assign_heads.specs.GaveOut.{Passed}

module _ {free : ℕ → Bool} {own want : ℕ → ℕ} {to : ℕ → Option LogicalChannel} {left : ByLogical} {i : ℕ} (p : Passed free own want to left i) where
  -- units from i on do not matter
  pub carried : (next : ℕ → Option LogicalChannel) → ((j : ℕ) → j < i → next j ≡ to j) → Passed free own want next left i
  carried next same = record {
    counted = λ l h. ap (λ (n : ℕ). n + get_or left.0 l 0)
        (sum_same i (λ j. one (is_to l (next j))) (λ j. one (is_to l (to j))) (λ j k. ap (λ (g : Option LogicalChannel). one (is_to l g)) (same j k)))
        ∙ p.counted l h;
    whose = λ j l h t. p.whose j l h (sym (ap (is_to l) (same j h)) ∙ t);
    first = λ j h f q. ap (is_to (own (j / 16))) (same j h) ∙ p.first j h f q;
    some = λ j h f q. ap is_given (same j h) ∙ p.some j h f q;
    units = λ j k l h m o t e f. ap (is_to l) (same j (omega arith)) ∙ p.units j k l h m o (sym (ap (is_to l) (same k m)) ∙ t) e f;
    rest = λ j k h m t f. ap is_given (same j (omega arith)) ∙ p.rest j k h m (sym (ap (is_to 0) (same k m)) ∙ t) f;
  }

  -- one more
  pub onward : {after : ByLogical} → Took (free i) left (own (i / 16)) (to i) after → Passed free own want to after (i + 1)
  onward {after} s = record {
    counted = λ l h.
        let e : how_many (i + 1) (λ j. is_to l (to j)) ≡ one (is_to l (to i)) + how_many i (λ j. is_to l (to j)) =
        ap (λ (n : ℕ). how_many n (λ j. is_to l (to j))) (add-one i) ∙ sum-suc i (λ j. one (is_to l (to j))) in
        omega (arith, s.less l h, p.counted l h);
    whose = λ j l. one_more (λ (x : ℕ). is_to l (to x) ≡ true → (l ≡ own (x / 16)) ⊎ (l ≡ 0)) i (λ x m. p.whose x l m) (s.whose l) j;
    first = one_more (λ (x : ℕ). free x ≡ true → 1 ≤ get_or after.0 (own (x / 16)) 0 → is_to (own (x / 16)) (to x) ≡ true) i
        (λ x m f q. p.first x m f (omega (arith, s.fewer (own (x / 16))))) (λ f q. s.first f (omega (arith, s.fewer (own (i / 16)))));
    some = one_more (λ (x : ℕ). free x ≡ true → 1 ≤ get_or after.0 0 0 → is_given (to x) ≡ true) i
        (λ x m f q. p.some x m f (omega (arith, s.fewer 0))) (λ f q. s.some f (omega (arith, s.fewer 0)));
    units = λ j k l h m o. one_more (λ (x : ℕ). j < x → is_to l (to x) ≡ true → j / 16 ≡ x / 16 → free j ≡ true → is_to l (to j) ≡ true) i
        (λ x n a t e f. p.units j x l a n o t e f) (λ a t e f. own-unit j l a o t e f) k m h;
    rest = λ j k h m. one_more (λ (x : ℕ). j < x → is_to 0 (to x) ≡ true → free j ≡ true → is_given (to j) ≡ true) i
        (λ x n a t f. p.rest j x a n t f) (λ a t f. p.some j a f (s.lacked 0 t)) k m h;
  }
    where
      -- a unit of the same channel before the one that its entry takes now
      own-unit : (j l : ℕ) → j < i → 1 ≤ l → is_to l (to i) ≡ true → j / 16 ≡ i / 16 → free j ≡ true → is_to l (to j) ≡ true
      own-unit j l h o t e f =
          let w : l ≡ own (i / 16) = ⊎_elim (λ q. q) (λ q. absurd (omega arith)) (s.whose l t) in
          let v : own (j / 16) ≡ l = ap own e ∙ sym w in
          subst (λ (x : ℕ). is_to x (to j) ≡ true) v (p.first j h f (subst (λ (x : ℕ). 1 ≤ get_or left.0 x 0) (sym v) (s.lacked l t)))

pub begun : (free : ℕ → Bool) (own : ℕ → ℕ) (to : ℕ → Option LogicalChannel) (left : ByLogical) → Passed free own (λ l. get_or left.0 l 0) to left 0
unfolding sum_to
begun free own to left = record {
  counted = λ l h. omega arith;
  whose = λ j l h t. absurd (omega arith);
  first = λ j h f q. absurd (omega arith);
  some = λ j h f q. absurd (omega arith);
  units = λ j k l h m o t e f. absurd (omega arith);
  rest = λ j k h m t f. absurd (omega arith);
}
