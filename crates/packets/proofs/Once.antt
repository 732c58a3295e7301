-- Lists without repeats: what is kept of one is one, and n numbers below n are at most n. Assumes nothing.
use Prim.Native.Nat.{ℕ, zero, suc, ◌≤◌, ◌<◌}
use mathlib.Core.Path.{◌≡◌, refl, subst}
use mathlib.Core.Bool.{Bool, true, false, not}
use mathlib.Core.List.{List, [], ◌∷◌, ◌++◌}
use native.Mathlib.Omega.{arith}
use lib.ListN.{length}
use lib.Dec.{eqb}
use borrow.Author.Tests.{eqb-true, eqb-false, not-true}
use Rattle.numbers.proofs.Tests.{by_bool}
use Rattle.numbers.specs.Elements.{All, keep, Nodup}
use Rattle.packets.proofs.Laws.{all-imp, all_keep}

module _ {A : Type 0} (same : A → A → Bool) where
  pub nodup-keep : (f : A → Bool) (l : List A) → Nodup same l → Nodup same (keep f l)
  nodup-keep f [] h = tt
  nodup-keep f (x ∷ l) h =
      by_bool (f x)
      (λ e. rw e (
        all-imp (λ (y : A). (same y x ≡ false) × (f y ≡ true)) (λ (y : A). same y x ≡ false) (λ y k. k.0) (keep f l)
            (all_keep (λ (y : A). same y x ≡ false) f l h.0),
        nodup-keep f l h.1,
      ))
      (λ e. rw e (nodup-keep f l h.1))

  pub nodup-snoc : (l : List A) (z : A) → Nodup same l → All (λ (y : A). same z y ≡ false) l → Nodup same (l ++ (z ∷ []))
  nodup-snoc [] z h k = (tt, tt)
  nodup-snoc (x ∷ l) z h k = (snoc l h.0, nodup-snoc l z h.1 k.1)
    where
      snoc : (m : List A) → All (λ (y : A). same y x ≡ false) m → All (λ (y : A). same y x ≡ false) (m ++ (z ∷ []))
      snoc [] a = (k.0, tt)
      snoc (y ∷ m) a = (a.0, snoc m a.1)

-- ---- numbers without repeats

without : ℕ → ℕ → Bool
without n x = not (eqb x n)

all_without : (n : ℕ) (l : List ℕ) → All (λ (y : ℕ). eqb y n ≡ false) l → keep (without n) l ≡ l
unfolding without
all_without n [] h = refl
all_without n (x ∷ l) h = rw (h.0, all_without n l h.1)

one_less : (n : ℕ) (l : List ℕ) → Nodup eqb l → length l ≤ suc (length (keep (without n) l))
unfolding without
one_less n [] h = omega arith
one_less n (x ∷ l) h =
    by_bool (eqb x n)
    (λ e. rw e (rw (all_without n l (subst (λ (k : ℕ). All (λ (y : ℕ). eqb y k ≡ false) l) (eqb-true x n e) h.0)) (omega arith)))
    (λ e. let r = one_less n l h.1 in rw e (omega arith))

pub few : (n : ℕ) (l : List ℕ) → All (λ (x : ℕ). x < n) l → Nodup eqb l → length l ≤ n
unfolding without
few zero [] h d = omega arith
few zero (x ∷ l) h d = absurd (let z = h.0 in omega arith)
few (suc n) l h d =
    let r = few n (keep (without n) l) below (nodup-keep eqb (without n) l d) in
    let m = one_less n l d in
    omega arith
  where
    below : All (λ (x : ℕ). x < n) (keep (without n) l)
    below =
        all-imp (λ (x : ℕ). (x < suc n) × (without n x ≡ true)) (λ (x : ℕ). x < n)
        (λ x k. let z = eqb-false x n (not-true (eqb x n) k.1) in let y = k.0 in omega arith)
        (keep (without n) l) (all_keep (λ (x : ℕ). x < suc n) (without n) l h)
