-- A number that is written is read as that number, in either base: one law for both, over what dividing by the base
-- does. Assumes nothing.
use Prim.Native.Nat.{ℕ, zero, suc, ◌+◌, ◌-◌, ◌*◌, ◌/◌, ◌%◌, ◌≤◌, ◌<◌}
use mathlib.Core.Path.{◌≡◌, ◌∙◌, sym, subst}
use mathlib.Core.Bool.{Bool, true}
use mathlib.Core.List.{List, [], ◌∷◌, ◌++◌}
use native.Mathlib.Nat.{le_of_suc-le-suc}
use native.Mathlib.Omega.{arith}
use lib.Dec.{ltb}
use lib.ListN.{length, length-append}
use borrow.Author.Tests.{ltb-true, ltb-false, lt-ltb, le-leb, eq-eqb, ne_eqb}
use Rattle.numbers.proofs.Tests.{by_bool, both}
use Rattle.text.specs.Class.{is_digit}
use Rattle.text.proofs.ClassLaws.{digit-bounds}
use Rattle.words.specs.Words.{every, has, isnt}
use Rattle.line_words.specs.declared.Base.{Base}
use Rattle.line_words.specs.declared.Base.TheVariants.{Decimal, Octal}
use Rattle.line_words.specs.Forms.{digits, is_number, value_in, base_of, number_in}
use Rattle.words.proofs.WordLaws.{every-weaker}
use Rattle.line_words.proofs.FormLaws.{number_is, number-value}
use Rattle.shift_script_form.specs.Written.{digits_in, number_text}
use Rattle.shift_script_form.proofs.SpacedLaws.{Plain}

-- what dividing by a base does
record Divides (b : ℕ) : Type 0 where
  some : 0 < b
  falls : (n : ℕ) → b ≤ n → n / b < n
  back : (n : ℕ) → n / b * b + n % b ≡ n
  rest : (n : ℕ) → n % b < b
  less : (n p : ℕ) → n < p * b → n / b < p

divides : (base : Base) → Divides (base_of base)
divides Decimal = record {
  some = omega arith;
  falls = λ n h. omega arith;
  back = λ n. omega arith;
  rest = λ n. omega arith;
  less = λ n p h. omega arith;
}
divides Octal = record {
  some = omega arith;
  falls = λ n h. omega arith;
  back = λ n. omega arith;
  rest = λ n. omega arith;
  less = λ n p h. omega arith;
}

-- the digits of a base stand in a row
abbrev run : ℕ → ℕ → List ℕ
run from zero = []
run from (suc k) = from ∷ run (suc from) k

has-run : (from k d : ℕ) → d < k → has (run from k) (from + d) ≡ true
has-run from zero d h = absurd (omega arith)
has-run from (suc k) zero h = rw (eq-eqb (from + 0) from (omega arith))
has-run from (suc k) (suc d) h =
    let e : from + suc d ≡ suc from + d = omega arith in
    rw (ne_eqb (from + suc d) from (λ z. omega arith))
    (subst (λ (n : ℕ). has (run (suc from) k) n ≡ true) (sym e) (has-run (suc from) k d (le_of_suc-le-suc h)))

has-digit : (base : Base) (d : ℕ) → d < base_of base → has (digits base) (48 + d) ≡ true
has-digit Decimal d h = has-run 48 10 d h
has-digit Octal d h = has-run 48 8 d h

every-last : (p : ℕ → Bool) (s : List ℕ) (b : ℕ) → every p s ≡ true → p b ≡ true → every p (s ++ (b ∷ [])) ≡ true
every-last p [] b e h = rw h
every-last p (x ∷ s) b e h = let q = both (p x) (every p s) e in rw (q.0, every-last p s b q.1 h)

value-last : (b m : ℕ) (s : List ℕ) (d : ℕ) → value_in b m (s ++ ((48 + d) ∷ [])) ≡ value_in b m s * b + d
value-last b m [] d = let e : 48 + d - 48 ≡ d = omega arith in rw e
value-last b m (x ∷ s) d = value-last b (m * b + (x - 48)) s d

-- b to the k + 1
abbrev limit : ℕ → ℕ → ℕ
limit b zero = b
limit b (suc k) = limit b k * b

module _ (base : Base) where
  b : ℕ
  b = base_of base

  value-digits : (most n : ℕ) → n ≤ most → value_in b 0 (digits_in b most n) ≡ n
  unfolding digits_in b
  value-digits zero n h = omega arith
  value-digits (suc most) n h =
      by_bool (ltb n (base_of base))
      (λ t. rw t (omega arith))
      (λ t. let l = (divides base).falls n (ltb-false n (base_of base) t) in
      let v = value-digits most (n / base_of base) (omega arith) in
      rw (t, value-last (base_of base) 0 (digits_in (base_of base) most (n / base_of base)) (n % base_of base), v) ((divides base).back n))

  all_digits : (most n : ℕ) → n ≤ most → every (has (digits base)) (digits_in b most n) ≡ true
  unfolding digits_in b
  all_digits zero n h = rw (has-digit base n (omega (arith, (divides base).some)))
  all_digits (suc most) n h =
      by_bool (ltb n (base_of base))
      (λ t. rw (t, has-digit base n (ltb-true n (base_of base) t)))
      (λ t. let l = (divides base).falls n (ltb-false n (base_of base) t) in
      rw t (every-last (has (digits base)) (digits_in (base_of base) most (n / base_of base)) (48 + n % base_of base)
      (all_digits most (n / base_of base) (omega arith)) (has-digit base (n % base_of base) ((divides base).rest n))))

  few-digits : (k most n : ℕ) → n < limit b k → length (digits_in b most n) ≤ suc k
  unfolding digits_in b
  few-digits k zero n h = omega arith
  few-digits zero (suc most) n h = rw (lt-ltb n (base_of base) h) (omega arith)
  few-digits (suc k) (suc most) n h =
      by_bool (ltb n (base_of base))
      (λ t. rw t (omega arith))
      (λ t. let l = few-digits k most (n / base_of base) ((divides base).less n (limit (base_of base) k) h) in
      rw (t, length-append (digits_in (base_of base) most (n / base_of base)) ((48 + n % base_of base) ∷ [])) (omega arith))

  some-digits : (most n : ℕ) → 1 ≤ length (digits_in b most n)
  unfolding digits_in b
  some-digits zero n = omega arith
  some-digits (suc most) n =
      by_bool (ltb n (base_of base))
      (λ t. rw t (omega arith))
      (λ t. rw (t, length-append (digits_in (base_of base) most (n / base_of base)) ((48 + n % base_of base) ∷ [])) (omega arith))

-- a word that writes a number
pub record Writes (base : Base) (n : ℕ) (word : List ℕ) : Type 0 where
  pub number : is_number base word ≡ true
  pub value : number_in base word ≡ n
  pub plain : Plain word
  pub short : length word ≤ 9

number-plain : (base : Base) (word : List ℕ) → is_number base word ≡ true → Plain word
number-plain base word e =
    every-weaker is_digit (isnt 32) (λ c d. let p = digit-bounds c d in rw (ne_eqb c 32 (λ z. omega arith))) word (number_is base word e).all

pub writes : (base : Base) (n : ℕ) → n < limit (base_of base) 8 → Writes base n (number_text base n)
unfolding b is_number
writes base n h =
    let w = number_text base n in
    let f = few-digits base 8 n n h in
    let s = some-digits base n n in
    let d : every (has (digits base)) w ≡ true = all_digits base n n (omega arith) in
    let i : is_number base w ≡ true = rw (lt-ltb 0 (length w) s, le-leb (length w) 9 f, d) in
    record { number = i; value = number-value base w i ∙ value-digits base n n (omega arith); plain = number-plain base w i; short = f }
