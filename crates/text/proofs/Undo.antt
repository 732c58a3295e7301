-- Reading undoes writing: a number that was written, with no digit after it, is read as itself, and so is a
-- two-digit number. Assumes nothing.
use Prim.Native.Nat.{ℕ, zero, suc, ◌+◌, ◌-◌, ◌*◌, ◌/◌, ◌%◌, ◌^◌, ◌≤◌, ◌<◌}
use mathlib.Core.Path.{◌≡◌, refl, ap, ◌∙◌}
use mathlib.Core.Bool.{false}
use mathlib.Core.List.{List, [], ◌∷◌, ◌++◌, append_assoc}
use mathlib.Core.Logic.{⊎_elim}
use native.Mathlib.Nat.{eq-zero-or-pos, pow-suc}
use native.Mathlib.Omega.{arith}
use lib.ListN.{length, get_or, length-append}
use borrow.Author.Tests.{lt-ltb, le-leb, ne_eqb}
use Rattle.text.specs.Class.{is_digit}
use Rattle.text.proofs.ClassLaws.{is_digit_lem}
use Rattle.text.specs.Reading.{two_digits_of, digits_from, decimal_of}
use Rattle.text.specs.Writing.{two_text, decimal_text}
use Rattle.text.proofs.Tens.{one-digit, more-digits}
use Rattle.std.specs.Prelude.{Some}

-- two digits of a number below 100
pub two-undone : (n : ℕ) (rest : List ℕ) → n < 100 → two_digits_of (two_text n ++ rest) ≡ Some (n, 2)
unfolding two_digits_of
two-undone n rest h =
    let e : (48 + n / 10 - 48) * 10 + (48 + n % 10 - 48) ≡ n = omega arith in
    rw (is_digit_lem (n / 10) (omega arith), is_digit_lem (n % 10) (omega arith), e)

-- one digit is read on
on : (d more value count : ℕ) (rest : List ℕ) → d < 10
    → digits_from (more + 1) value count ((48 + d) ∷ rest) ≡ digits_from more (value * 10 + d) (count + 1) rest
unfolding digits_from
on d more value count rest h =
    let a : more + 1 - 1 ≡ more = omega arith in
    let b : value * 10 + (48 + d - 48) ≡ value * 10 + d = omega arith in
    rw (is_digit_lem d h, lt-ltb 0 (more + 1) (omega arith), a, b)

-- all digits of n are read, and then the rest
abbrev Reads : ℕ → ℕ → List ℕ → Type 0
Reads n more rest = digits_from (more + length (decimal_text n)) 0 0 (decimal_text n ++ rest) ≡ digits_from more n (length (decimal_text n)) rest

reads-one : (n more : ℕ) (rest : List ℕ) → n < 10 → Reads n more rest
reads-one n more rest h =
    let e : 0 * 10 + n ≡ n = omega arith in
    rw (one-digit n h) (on n more 0 0 rest h ∙ ap (λ (k : ℕ). digits_from more k 1 rest) e)

reads_more : (n more : ℕ) (rest : List ℕ) → 10 ≤ n → Reads (n / 10) (more + 1) ((48 + n % 10) ∷ rest) → Reads n more rest
reads_more n more rest h r =
    let front = decimal_text (n / 10) in
    let a : more + (length front + 1) ≡ more + 1 + length front = omega arith in
    let b : n / 10 * 10 + n % 10 ≡ n = omega arith in
    rw (more-digits n h, append_assoc, length-append, a)
    (r ∙ on (n % 10) more (n / 10) (length front) rest (omega arith) ∙ ap (λ (k : ℕ). digits_from more k (length front + 1) rest) b)

-- by cases on whether n has one digit, or more and one digit fewer is dealt with
by_digits : (P : ℕ → List ℕ → Type 0) → ((n : ℕ) (rest : List ℕ) → n < 10 → P n rest)
    → ((n : ℕ) (rest : List ℕ) → 10 ≤ n → P (n / 10) ((48 + n % 10) ∷ rest) → P n rest)
    → (most n : ℕ) (rest : List ℕ) → n ≤ most → P n rest
by_digits P one more zero n rest h = one n rest (omega arith)
by_digits P one more (suc most) n rest h =
    ⊎_elim
    (λ k. one n rest (omega arith))
    (λ k. more n rest (omega arith) (by_digits P one more most (n / 10) ((48 + n % 10) ∷ rest) (omega arith)))
    (eq-zero-or-pos (n - 9))

-- the first digit of a number that is not 0 is none
abbrev First : ℕ → List ℕ → Type 0
First n rest = 0 < n → (48 < get_or (decimal_text n ++ rest) 0 0) × (get_or (decimal_text n ++ rest) 0 0 ≤ 57)

first : (n : ℕ) (rest : List ℕ) → First n rest
first n rest =
    by_digits First
    (λ m s h k. rw (one-digit m h) (omega arith, omega arith))
    (λ m s h r k. rw (more-digits m h, append_assoc) (r (omega arith)))
    n n rest (omega arith)

-- below 10 to the k + 1 there are at most k + 1 digits
pub few-digits : (k n : ℕ) → n < 10 ^ suc k → length (decimal_text n) ≤ suc k
few-digits zero n h = rw (one-digit n (omega arith)) (omega arith)
few-digits (suc k) n h =
    ⊎_elim
    (λ e. rw (one-digit n (omega arith)) (omega arith))
    (λ e. let m : 10 ≤ n = omega arith in
    let r = few-digits k (n / 10) (omega (arith, h, pow-suc 10 (suc k))) in
    rw (more-digits n m, length-append) (omega arith))
    (eq-zero-or-pos (n - 9))

-- no digit comes
stopped : (more value count : ℕ) (rest : List ℕ) → is_digit (get_or rest 0 0) ≡ false → digits_from more value count rest ≡ Some (value, count)
unfolding digits_from
stopped more value count [] h = refl
stopped more value count (b ∷ bs) h = rw h

-- a number of at most seven digits
pub decimal-undone : (n : ℕ) (rest : List ℕ) → n < 10 ^ 7 → is_digit (get_or rest 0 0) ≡ false
    → decimal_of (decimal_text n ++ rest) ≡ Some (n, (length (decimal_text n)))
unfolding decimal_of is_digit
decimal-undone zero rest h e = rw (one-digit zero (omega arith)) (rw e)
decimal-undone (suc m) rest h e =
    let n = suc m in
    let s = decimal_text n ++ rest in
    let f = first n rest (omega arith) in
    let k = few-digits 6 n h in
    let l : 7 ≡ 7 - length (decimal_text n) + length (decimal_text n) = omega arith in
    let r = by_digits (λ n rest. (more : ℕ) → Reads n more rest) (λ n rest h more. reads-one n more rest h)
    (λ n rest h r more. reads_more n more rest h (r (more + 1))) n n rest (omega arith) (7 - length (decimal_text n)) in
    rw (le-leb 48 (get_or s 0 0) (omega arith), le-leb (get_or s 0 0) 57 (omega arith), ne_eqb (get_or s 0 0) 48 (λ q. omega arith))
    (ap (λ (k : ℕ). digits_from k 0 0 s) l ∙ r ∙ stopped (7 - length (decimal_text n)) n (length (decimal_text n)) rest e)
