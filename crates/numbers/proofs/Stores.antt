-- A list after one store, and a loop that stores one entry after the other: what is known of those so far stays
-- known. Assumes nothing.
use Prim.Native.Nat.{ℕ, zero, suc, ◌+◌, ◌≤◌, ◌<◌}
use mathlib.Core.Path.{◌≡◌, refl, sym, subst, ◌∙◌}
use mathlib.Core.Bool.{cond}
use mathlib.Core.List.{List, map}
use native.Mathlib.Omega.{arith}
use lib.Dec.{eqb}
use lib.ListN.{length, get_or, set, replicate, length-set, length-map, get_or-map}
use lib.Seq.{get_or-set_same, get_or-set_other, ext_get_or}
use borrow.Author.Tests.{eqb-true, eqb-false}
use Rattle.numbers.proofs.Order.{one_more}
use Rattle.numbers.proofs.Tests.{by_bool}

module _ {A : Type 0} where
  -- a list read after a store within it
  pub get_d_set : (l : List A) (i : ℕ) (v : A) (k : ℕ) (d : A) → i < length l → get_or (set l i v) k d ≡ cond (eqb k i) v (get_or l k d)
  get_d_set l i v k d h =
      by_bool (eqb k i)
      (λ t. let e : k ≡ i = eqb-true k i t in rw (t, e) (get_or-set_same l i v d h))
      (λ f. rw f (get_or-set_other l i k v d (eqb-false k i f)))

  -- a list of one element alone has it everywhere, and is read so past its end
  pub get_d-replicate-same : (n k : ℕ) (a : A) → get_or (replicate n a) k a ≡ a
  get_d-replicate-same zero k a = refl
  get_d-replicate-same (suc n) zero a = refl
  get_d-replicate-same (suc n) (suc k) a = get_d-replicate-same n k a

-- one more of a list is stored: what is known of each below, and of the new one, is known of each
pub stored : {A : Type 0} (P : ℕ → A → Type 0) (l : List A) (c n : ℕ) (v z : A) → length l ≡ n → c < n → ((d : ℕ) → d < c → P d (get_or l d z)) → P c v
    → (d : ℕ) → d < c + 1 → P d (get_or (set l c v) d z)
stored P l c n v z e h before new =
    one_more (λ (d : ℕ). P d (get_or (set l c v) d z)) c
    (λ d q. subst (P d) (sym (get_or-set_other l c d v z (λ s. omega arith))) (before d q))
    (subst (P c) (sym (get_or-set_same l c v z (omega arith))) new)

-- ---- a loop that fills a list of n entries with a function's values

module _ {A : Type 0} (f : ℕ → A) (z : A) (n : ℕ) (start : List A) where
  -- the first i are filled, the others as they were at the start
  pub record Filled (out : List A) (i : ℕ) : Type 0 where
    pub high : i ≤ n
    pub wide : length out ≡ n
    pub each : (d : ℕ) → d < i → get_or out d z ≡ f d
    pub rest : (d : ℕ) → i ≤ d → get_or out d z ≡ get_or start d z

  pub fill_start : length start ≡ n → Filled start 0
  fill_start e = record { high = omega arith; wide = e; each = λ d h. absurd (omega arith); rest = λ d h. refl }

  module _ {out : List A} {i : ℕ} (k : Filled out i) (h : i < n) where
    -- one more is stored
    pub fill-turn : (v : A) → v ≡ f i → Filled (set out i v) (i + 1)
    fill-turn v e =
        record {
          high = omega arith;
          wide = length-set out i v ∙ k.wide;
          each = stored (λ (d : ℕ) (x : A). x ≡ f d) out i n v z k.wide h k.each e;
          rest = λ d l. get_or-set_other out i d v z (λ q. omega arith) ∙ k.rest d (omega arith);
        }

    -- one that is right already is passed by
    pub fill-pass : get_or start i z ≡ f i → Filled out (i + 1)
    fill-pass e =
        record {
          high = omega arith;
          wide = k.wide;
          each = one_more (λ (d : ℕ). get_or out d z ≡ f d) i k.each (k.rest i (omega arith) ∙ e);
          rest = λ d l. k.rest d (omega arith);
        }

-- a list filled with a value for each element of another is that list, each element changed
pub fill-map : {A B : Type 0} (g : B → A) (y : B) (z : A) (n : ℕ) (start out : List A) (l : List B) {i : ℕ} → g y ≡ z → length l ≡ n
    → Filled (λ d. g (get_or l d y)) z n start out i → n ≤ i → out ≡ map g l
fill-map g y z n start out l e s k h =
    ext_get_or z out (map g l) (k.wide ∙ sym (length-map l g ∙ s))
    λ d q. k.each d (omega (arith, k.wide)) ∙ sym (get_or-map g l d y) ∙ rw e
