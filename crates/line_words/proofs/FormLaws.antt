-- What the code's tests on a word come to, and its digits one further. Assumes nothing.
use Prim.Native.Nat.{ℕ, zero, suc, ◌+◌, ◌-◌, ◌*◌, ◌≤◌, ◌<◌}
use mathlib.Core.Path.{◌≡◌, refl, ap, ◌∙◌}
use mathlib.Core.Bool.{Bool, true, false, ◌&&◌}
use mathlib.Core.List.{List, [], ◌∷◌}
use native.Mathlib.Nat.{le_of_suc-le-suc, mul-le-mul_left}
use native.Mathlib.Omega.{arith}
use lib.Dec.{eqb, ltb, leb}
use lib.ListN.{length, get_or, drop, take, set, drop_of_length-le}
use lib.Seq.{take-suc, length-take-le}
use borrow.Author.Tests.{eqb-true, ltb-true, leb-true, lt-ltb, le-ltb, le-leb, lt-leb}
use Rattle.numbers.proofs.Tests.{by_bool, never, both}
use Rattle.numbers.specs.Quoted.{bytes}
use Rattle.text.specs.Class.{is_digit, is_letter}
use Rattle.text.proofs.ClassLaws.{digit-bounds}
use Rattle.words.specs.Words.{every, has, same}
use Rattle.words.proofs.WordLaws.{drop-step, every-weaker, tens}
use Rattle.cards_fields.specs.Fields.{padded}
use Rattle.cards_fields.proofs.FieldLaws.{set-padded}
use Rattle.line_words.specs.Forms.{digits, is_number, value_in, base_of, number_in, word_fits, id_of}
use Rattle.line_words.specs.declared.Base.{Base}
use Rattle.line_words.specs.declared.Base.TheVariants.{Decimal, Octal}

-- a byte of a text whose bytes all pass a test passes it
has-passes : (p : ℕ → Bool) (l : List ℕ) (b : ℕ) → every p l ≡ true → has l b ≡ true → p b ≡ true
has-passes p [] b e h = never h refl
has-passes p (x ∷ l) b e h =
    let q = both (p x) (every p l) e in
    by_bool (eqb b x) (λ t. ap p (eqb-true b x t) ∙ q.0) (λ t. has-passes p l b q.1 (rw t at h))

-- the digits of either base are digits
all_digits : (base : Base) → every is_digit (digits base) ≡ true
unfolding is_digit
all_digits Decimal = refl
all_digits Octal = refl

-- what a number is: not too short, not too long, and all digits
pub number_short : (base : Base) (s : List ℕ) → length s ≡ 0 → is_number base s ≡ false
unfolding is_number
number_short base s h = rw (le-ltb 0 (length s) (omega arith))

pub number-long : (base : Base) (s : List ℕ) → 9 < length s → is_number base s ≡ false
unfolding is_number
number-long base s h = rw (lt-ltb 0 (length s) (omega arith), lt-leb (length s) 9 h)

pub number_digits : (base : Base) (s : List ℕ) → (length s ≡ 0 → ⊥) → length s ≤ 9 → is_number base s ≡ every (has (digits base)) s
unfolding is_number
number_digits base s z h = rw (lt-ltb 0 (length s) (omega arith), le-leb (length s) 9 h)

pub record Number (s : List ℕ) : Type 0 where
  pub some : 0 < length s
  pub few : length s ≤ 9
  pub all : every is_digit s ≡ true

pub number_is : (base : Base) (s : List ℕ) → is_number base s ≡ true → Number s
unfolding is_number
number_is base s e =
    let p = both (ltb 0 (length s)) (leb (length s) 9 && every (has (digits base)) s) e in
    let q = both (leb (length s) 9) (every (has (digits base)) s) p.1 in
    record {
      some = ltb-true 0 (length s) p.0;
      few = leb-true (length s) 9 q.0;
      all = every-weaker (has (digits base)) is_digit (λ b. has-passes is_digit (digits base) b (all_digits base)) s q.1;
    }

pub no_number : (base : Base) (s : List ℕ) → is_number base s ≡ false → number_in base s ≡ 0
unfolding number_in
no_number base s e = rw e

pub number-value : (base : Base) (s : List ℕ) → is_number base s ≡ true → number_in base s ≡ value_in (base_of base) 0 s
unfolding number_in
number-value base s e = rw e

-- no base has more than ten digits
pub base-small : (base : Base) → base_of base ≤ 10
base-small Decimal = omega arith
base-small Octal = omega arith

-- one digit further
pub digit_at : (s : List ℕ) (i : ℕ) → every is_digit s ≡ true → i < length s → (48 ≤ get_or s i 0) × (get_or s i 0 ≤ 57)
digit_at [] i e h = absurd (omega arith)
digit_at (b ∷ s) zero e h = digit-bounds b (both (is_digit b) (every is_digit s) e).0
digit_at (b ∷ s) (suc i) e h = digit_at s i (both (is_digit b) (every is_digit s) e).1 (le_of_suc-le-suc h)

pub tens-most : (i k : ℕ) → tens i ≤ tens (i + k)
tens-most i zero = let e : i + 0 ≡ i = omega arith in rw e (omega arith)
tens-most i (suc k) = let e : i + suc k ≡ suc (i + k) = omega arith in rw e (omega (arith, tens-most i k))

pub tens-nine : (i k : ℕ) → i ≤ k → tens i ≤ tens k
tens-nine i k h = let e : i + (k - i) ≡ k = omega arith in rw e at (tens-most i (k - i))

pub value-step : (base : ℕ) (s : List ℕ) (i n : ℕ) → i < length s
    → value_in base n (drop i s) ≡ value_in base (n * base + (get_or s i 0 - 48)) (drop (i + 1) s)
value-step base s i n h = rw (drop-step s i h)

pub value-end : (base : ℕ) (s : List ℕ) (i n : ℕ) → length s ≤ i → value_in base n (drop i s) ≡ n
value-end base s i n h = rw (drop_of_length-le s h)

-- a number of i digits, times a base of at most ten
pub times : (n base : ℕ) → base ≤ 10 → n * base ≤ n * 10
times n base h = mul-le-mul_left n h

-- an ID
pub id-long : (s : List ℕ) → 6 < length s → id_of s ≡ padded 6 []
unfolding id_of
id-long s h = rw (lt-ltb 6 (length s) h)

pub id-short : (s : List ℕ) → length s ≤ 6 → id_of s ≡ padded 6 s
unfolding id_of
id-short s h = rw (le-ltb 6 (length s) h)

pub id-step : (s : List ℕ) (i : ℕ) → i < length s → set (padded 6 (take i s)) i (get_or s i 0) ≡ padded 6 (take (i + 1) s)
id-step s i h =
    let l : length (take i s) ≡ i = length-take-le i s (omega arith) in
    let e : i + 1 ≡ suc i = omega arith in
    rw (e, take-suc s i 0 h) (rw l at (set-padded 6 (take i s) (get_or s i 0)))

-- the number of one digit more stays below ten to their count
pub value-small : (n base d i : ℕ) → base ≤ 10 → n < tens i → d ≤ 9 → n * base + d < tens (i + 1)
value-small n base d i b h e = let k : i + 1 ≡ suc i = omega arith in rw k (omega (arith, times n base b))

-- a word held to a word of a form
module _ (form word : List ℕ) where
  pub fits-itself : is_letter (get_or form 0 0) ≡ true → same word form ≡ word_fits form word
  unfolding word_fits
  fits-itself l = rw l

  module _ (l : is_letter (get_or form 0 0) ≡ false) where
    pub fits-octal : same form (bytes "ff") ≡ true → is_number Octal word ≡ word_fits form word
    unfolding word_fits
    fits-octal f = rw (l, f)

    pub fits-id : same form (bytes "ff") ≡ false → same form (bytes "id") ≡ true → ltb 0 (length word) ≡ word_fits form word
    unfolding word_fits
    fits-id f i = rw (l, f, i)

    pub fits-decimal : same form (bytes "ff") ≡ false → same form (bytes "id") ≡ false → is_number Decimal word ≡ word_fits form word
    unfolding word_fits
    fits-decimal f i = rw (l, f, i)
