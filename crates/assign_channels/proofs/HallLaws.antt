-- Counting by thresholds: what taking a channel does to the counts, the channel that fits best, the exchange, and
-- that the test decides the condition. Assumes nothing.
use Prim.Native.Nat.{ℕ, zero, suc, ◌+◌, ◌≤◌, ◌<◌, suc-le-suc}
use mathlib.Core.Path.{◌≡◌, refl}
use mathlib.Core.Bool.{true, ◌||◌}
use mathlib.Core.Logic.{◌⊎◌, inl, inr, ⊎_elim}
use mathlib.Core.List.{List, [], ◌∷◌}
use native.Mathlib.Nat.{eq-zero-or-pos}
use native.Mathlib.Omega.{arith}
use lib.Dec.{leb, eqb}
use lib.ListN.{length, get_or, set}
use borrow.Author.Tests.{le-leb, lt-leb, leb-true, ne_eqb, eq-eqb}
use Rattle.numbers.proofs.Order.{le-or-lt}
use Rattle.numbers.proofs.Tests.{both}
use Rattle.assign_channels.specs.Greedy.{ge, cnt, Hall, tests_b, hall_b}

pub ge-yes : {t x : ℕ} → t ≤ x → ge t x ≡ 1
unfolding ge
ge-yes {t} {x} h = simp (le-leb t x h)

pub ge-no : {t x : ℕ} → x < t → ge t x ≡ 0
unfolding ge
ge-no {t} {x} h = simp (lt-leb t x h)

-- t ≤ x or not, with what `ge` then is
pub ge-cases : (t x : ℕ) → ((t ≤ x) × (ge t x ≡ 1)) ⊎ ((x < t) × (ge t x ≡ 0))
ge-cases t x = ⊎_elim (λ h. inl (h, ge-yes h)) (λ h. inr (h, ge-no h)) (le-or-lt t x)

-- taking a channel takes one from each count up to its units
pub cnt-set : (t : ℕ) → 1 ≤ t → (xs : List ℕ) (c : ℕ) → cnt t (set xs c 0) + ge t (get_or xs c 0) ≡ cnt t xs
cnt-set t p [] c = omega (arith, ge-no {t = t} {x = 0} p)
cnt-set t p (x ∷ xs) zero = omega (arith, ge-no {t = t} {x = 0} p)
cnt-set t p (x ∷ xs) (suc c) = omega (arith, cnt-set t p xs c)

-- a channel with n units is counted
cnt-some : (n : ℕ) → 1 ≤ n → (xs : List ℕ) (k : ℕ) → n ≤ get_or xs k 0 → 1 ≤ cnt n xs
cnt-some n p [] k h = absurd (omega arith)
cnt-some n p (x ∷ xs) zero h = omega (arith, ge-yes h)
cnt-some n p (x ∷ xs) (suc k) h = omega (arith, cnt-some n p xs k h)

-- fewer are at least t than at least n, and as many where none lies between
cnt-mono : (n t : ℕ) → n ≤ t → (xs : List ℕ) → cnt t xs ≤ cnt n xs
cnt-mono n t h [] = omega arith
cnt-mono n t h (x ∷ xs) =
    let i = cnt-mono n t h xs in
    ⊎_elim (λ a. ⊎_elim (λ b. omega arith) (λ b. omega arith) (ge-cases t x))
    (λ a. ⊎_elim (λ b. omega arith) (λ b. omega arith) (ge-cases t x)) (ge-cases n x)

cnt-same : (n t : ℕ) → n ≤ t → (xs : List ℕ) → ((k : ℕ) → n ≤ get_or xs k 0 → t ≤ get_or xs k 0) → cnt t xs ≡ cnt n xs
cnt-same n t h [] g = refl
cnt-same n t h (x ∷ xs) g =
    let i = cnt-same n t h xs (λ k. g (suc k)) in
    ⊎_elim (λ a. omega (arith, ge-yes (g 0 a.0))) (λ a. omega (arith, ge-no {t = t} {x = x} (omega arith))) (ge-cases n x)

-- the channel with the fewest units that are enough
pub record Best (n : ℕ) (xs : List ℕ) : Type 0 where
  pub at : ℕ
  pub fits : n ≤ get_or xs at 0
  pub best : (k : ℕ) → n ≤ get_or xs k 0 → get_or xs at 0 ≤ get_or xs k 0

here : (n x : ℕ) (xs : List ℕ) → n ≤ x → ((k : ℕ) → n ≤ get_or xs k 0 → x ≤ get_or xs k 0) → Best n (x ∷ xs)
here n x xs h g = record { at = 0; fits = h; best = all }
  where
    all : (k : ℕ) → n ≤ get_or (x ∷ xs) k 0 → x ≤ get_or (x ∷ xs) k 0
    all zero l = omega arith
    all (suc k) l = g k l

later : (n x : ℕ) (xs : List ℕ) (b : Best n xs) → (n ≤ x → get_or xs b.at 0 ≤ x) → Best n (x ∷ xs)
later n x xs b h = record { at = suc b.at; fits = b.fits; best = all }
  where
    all : (k : ℕ) → n ≤ get_or (x ∷ xs) k 0 → get_or xs b.at 0 ≤ get_or (x ∷ xs) k 0
    all zero l = h l
    all (suc k) l = b.best k l

pub best-fit : (n : ℕ) → 1 ≤ n → (xs : List ℕ) → 1 ≤ cnt n xs → Best n xs
best-fit n p [] h = absurd (omega arith)
best-fit n p (x ∷ xs) h =
    ⊎_elim
    (λ none. ⊎_elim (λ a. here n x xs a.0 (λ k l. absurd (omega (arith, cnt-some n p xs k l)))) (λ a. absurd (omega arith)) (ge-cases n x))
    (λ some.
    let b = best-fit n p xs some in
    ⊎_elim
    (λ l. ⊎_elim (λ a. here n x xs a.0 (λ k m. omega (arith, b.best k m))) (λ a. later n x xs b (λ q. absurd (omega arith))) (ge-cases n x))
    (λ l. later n x xs b (λ q. omega arith))
    (le-or-lt x (get_or xs b.at 0)))
    (eq-zero-or-pos (cnt n xs))

-- THE EXCHANGE: the condition still holds after the first count takes the channel that fits best
pub hall-step : (counts : List ℕ) (n : ℕ) (ns : List ℕ) → 1 ≤ n → Hall counts (n ∷ ns) → (b : Best n counts) → Hall (set counts b.at 0) ns
hall-step counts n ns q h b t p =
    let s = cnt-set t p counts b.at in
    let f = b.fits in
    ⊎_elim
    (λ low. ⊎_elim (λ g. omega (arith, h t p, ge-yes low)) (λ g. omega (arith, h t p, ge-yes low)) (ge-cases t (get_or counts b.at 0)))
    (λ high. ⊎_elim
    (λ g.
    let e = cnt-same n t (omega arith) counts (λ k l. omega (arith, b.best k l)) in
    omega (arith, h n q, ge-yes {t = n} {x = n} (omega arith), cnt-mono n t (omega arith) ns))
    (λ g. omega (arith, h t p))
    (ge-cases t (get_or counts b.at 0)))
    (le-or-lt t n)

-- a count that asks for nothing changes nothing
pub hall-zero : (counts ns : List ℕ) → Hall counts (0 ∷ ns) → Hall counts ns
hall-zero counts ns h t p = omega (arith, h t p)

-- ---- the test at the counts themselves decides the condition at every threshold
in_list : (xs : List ℕ) (k n : ℕ) → 1 ≤ n → n ≤ get_or xs k 0 → k < length xs
in_list [] k n p h = absurd (omega arith)
in_list (x ∷ xs) zero n p h = omega arith
in_list (x ∷ xs) (suc k) n p h = suc-le-suc (in_list xs k n p h)

pub channel-below : (xs : List ℕ) (k n : ℕ) → 1 ≤ n → n ≤ get_or xs k 0 → k < length xs
channel-below = in_list

-- what the tests of a part of the counts say
tests-at : (counts all ns : List ℕ) → tests_b counts all ns ≡ true → (i : ℕ) → 1 ≤ get_or ns i 0 → cnt (get_or ns i 0) all ≤ cnt (get_or ns i 0) counts
unfolding tests_b
tests-at counts all [] t i p = absurd (omega arith)
tests-at counts all (n ∷ ns) t zero p =
    let e = both (eqb n 0 || leb (cnt n all) (cnt n counts)) (tests_b counts all ns) t in
    leb-true (cnt n all) (cnt n counts) (rw (ne_eqb n 0 (λ z. omega arith)) at e.0)
tests-at counts all (n ∷ ns) t (suc i) p = tests-at counts all ns (both (eqb n 0 || leb (cnt n all) (cnt n counts)) (tests_b counts all ns) t).1 i p

pub hall-sound : (counts ns : List ℕ) → hall_b counts ns ≡ true → Hall counts ns
hall-sound counts ns t s p =
    ⊎_elim (λ none. omega arith)
    (λ some.
    let b = best-fit s p ns some in
    let w = get_or ns b.at 0 in
    omega (arith, cnt-same s w b.fits ns b.best, tests-at counts ns ns t b.at (omega (arith, b.fits)), cnt-mono s w b.fits counts))
    (eq-zero-or-pos (cnt s ns))

tests-complete : (counts all : List ℕ) → Hall counts all → (ns : List ℕ) → tests_b counts all ns ≡ true
unfolding tests_b
tests-complete counts all h [] = refl
tests-complete counts all h (n ∷ ns) =
    ⊎_elim (λ e. rw (eq-eqb n 0 e, tests-complete counts all h ns))
    (λ p. rw (ne_eqb n 0 (λ z. omega arith), le-leb (cnt n all) (cnt n counts) (h n p), tests-complete counts all h ns))
    (eq-zero-or-pos n)

pub hall-complete : (counts ns : List ℕ) → Hall counts ns → hall_b counts ns ≡ true
hall-complete counts ns h = tests-complete counts ns h ns
