-- Laws on sums and counts. Assumes nothing.
use Prim.Native.Nat.{ℕ, zero, suc, ◌+◌, ◌*◌, ◌≤◌, ◌<◌}
use mathlib.Core.Path.{◌≡◌, refl, sym, ap, ◌∙◌}
use mathlib.Core.Bool.{Bool, true}
use mathlib.Core.List.{List, [], ◌∷◌}
use mathlib.Core.Logic.{⊎_elim}
use native.Mathlib.Nat.{eq-or-lt_of_le}
use native.Mathlib.Omega.{arith}
use lib.ListN.{length, get_or}
use Rattle.numbers.proofs.Order.{le-or-lt, one_more}
use Rattle.numbers.proofs.Tests.{by_bool}
use Rattle.assign_channels.specs.Choice.{total}
use Rattle.assign_heads.specs.Sums.{sum_to, one, how_many}

pub sum-suc : (n : ℕ) (f : ℕ → ℕ) → sum_to (suc n) f ≡ f n + sum_to n f
unfolding sum_to
sum-suc n f = refl

pub sum-none : (f : ℕ → ℕ) → sum_to 0 f ≡ 0
unfolding sum_to
sum-none f = refl

pub sum_mono : (n : ℕ) (f g : ℕ → ℕ) → ((i : ℕ) → i < n → f i ≤ g i) → sum_to n f ≤ sum_to n g
unfolding sum_to
sum_mono zero f g h = omega arith
sum_mono (suc n) f g h = omega (arith, h n (omega arith), sum_mono n f g (λ i l. h i (omega arith)))

pub sum_same : (n : ℕ) (f g : ℕ → ℕ) → ((i : ℕ) → i < n → f i ≡ g i) → sum_to n f ≡ sum_to n g
unfolding sum_to
sum_same zero f g h = refl
sum_same (suc n) f g h = omega (arith, h n (omega arith), sum_same n f g (λ i l. h i (omega arith)))

pub sum-add : (n : ℕ) (f g : ℕ → ℕ) → sum_to n (λ i. f i + g i) ≡ sum_to n f + sum_to n g
unfolding sum_to
sum-add zero f g = refl
sum-add (suc n) f g = omega (arith, sum-add n f g)

pub sum-zero : (n : ℕ) → sum_to n (λ i. 0) ≡ 0
unfolding sum_to
sum-zero zero = refl
sum-zero (suc n) = omega (arith, sum-zero n)

pub sum-swap : (n m : ℕ) (h : ℕ → ℕ → ℕ) → sum_to n (λ i. sum_to m (h i)) ≡ sum_to m (λ j. sum_to n (λ i. h i j))
unfolding sum_to
sum-swap zero m h = sym (sum-zero m)
sum-swap (suc n) m h = ap (λ (x : ℕ). sum_to m (h n) + x) (sum-swap n m h) ∙ sym (sum-add m (h n) (λ j. sum_to n (λ i. h i j)))

-- one of the numbers is no more than all
pub sum-at : (n c : ℕ) (f : ℕ → ℕ) → c < n → f c ≤ sum_to n f
unfolding sum_to
sum-at zero c f h = absurd (omega arith)
sum-at (suc n) c f h = one_more (λ (x : ℕ). f x ≤ f n + sum_to n f) n (λ x l. omega (arith, sum-at n x f l)) (omega arith) c (omega arith)

-- and all, where the others are 0
pub sum-only : (n c : ℕ) (f : ℕ → ℕ) → ((i : ℕ) → i < n → (i ≡ c → ⊥) → f i ≡ 0) → sum_to n f ≤ f c
unfolding sum_to
sum-only zero c f h = omega arith
sum-only (suc n) c f h =
    ⊎_elim
    (λ l. ⊎_elim
    (λ e.
    let z = sum-zero n in
    let s = sum_same n f (λ i. 0) (λ i k. h i (omega arith) (λ q. omega arith)) in let a : f n ≡ f c = ap f e in omega arith)
    (λ k. omega (arith, h n (omega arith) (λ q. omega arith), sum-only n c f (λ i m. h i (omega arith))))
    (eq-or-lt_of_le l))
    (λ k. omega (arith, h n (omega arith) (λ q. omega arith), sum-only n c f (λ i m. h i (omega arith))))
    (le-or-lt n c)

-- a sum in two parts, and in parts of 16
pub sum-parts : (a b : ℕ) (f : ℕ → ℕ) → sum_to (a + b) f ≡ sum_to a f + sum_to b (λ u. f (a + u))
unfolding sum_to
sum-parts a zero f = let e : a + 0 ≡ a = omega arith in omega (arith, ap (λ (x : ℕ). sum_to x f) e)
sum-parts a (suc b) f = let e : a + suc b ≡ suc (a + b) = omega arith in omega (arith, ap (λ (x : ℕ). sum_to x f) e, sum-parts a b f)

pub sum_rows : (m : ℕ) (f : ℕ → ℕ) → sum_to (m * 16) f ≡ sum_to m (λ c. sum_to 16 (λ u. f (c * 16 + u)))
unfolding sum_to
sum_rows zero f = refl
sum_rows (suc m) f = ap (λ (x : ℕ). sum_to x f) (rows m) ∙ sum-parts (m * 16) 16 f ∙ omega (arith, sum_rows m f)
  where
    rows : (m : ℕ) → suc m * 16 ≡ m * 16 + 16
    rows m = omega arith

-- a list's numbers together
pub sum-front : (n : ℕ) (f : ℕ → ℕ) → sum_to (suc n) f ≡ f 0 + sum_to n (λ i. f (suc i))
unfolding sum_to
sum-front zero f = refl
sum-front (suc n) f = omega (arith, sum-front n f)

pub total-sum : (xs : List ℕ) → total xs ≡ sum_to (length xs) (λ i. get_or xs i 0)
unfolding sum_to
total-sum [] = refl
total-sum (x ∷ xs) = ap (λ (n : ℕ). x + n) (total-sum xs) ∙ sym (sum-front (length xs) (λ i. get_or (x ∷ xs) i 0))

-- more pass below more
pub grows : (a m : ℕ) (f : ℕ → Bool) → a ≤ m → how_many a f ≤ how_many m f
unfolding sum_to
grows a zero f h = let e : a ≡ 0 = omega arith in omega (arith, ap (λ (x : ℕ). how_many x f) e)
grows a (suc m) f h = ⊎_elim (λ e. omega (arith, ap (λ (x : ℕ). how_many x f) e)) (λ l. omega (arith, grows a m f (omega arith))) (eq-or-lt_of_le h)

-- where fewer pass below m than below n, one between passes
pub passes-later : (n m : ℕ) (f : ℕ → Bool) → how_many m f < how_many n f → (j : ℕ) × ((m ≤ j) × ((j < n) × (f j ≡ true)))
unfolding sum_to
passes-later zero m f h = absurd (omega arith)
passes-later (suc n) m f h =
    ⊎_elim
    (λ l. by_bool (f n) (λ t. (n, (l, (omega arith, t))))
    (λ e.
    let z : one (f n) ≡ 0 = ap one e in let r = passes-later n m f (omega arith) in (r.0, (r.1.0, (omega (arith, r.1.1.0), r.1.1.1)))))
    (λ l. absurd (omega (arith, grows (suc n) m f (omega arith))))
    (le-or-lt m n)

-- a test counts as many as another that agrees with it
pub one-le : {a b : Bool} → (a ≡ true → b ≡ true) → one a ≤ one b
one-le {a} {b} h =
    by_bool a (λ t. let e : one a ≡ 1 = ap one t in let f : one b ≡ 1 = ap one (h t) in omega arith)
    (λ t. let e : one a ≡ 0 = ap one t in omega arith)
