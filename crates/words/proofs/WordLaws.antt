-- A text from a position on, one byte further: what each test and the number then say; and texts that are the same.
-- Assumes nothing.
use Prim.Native.Nat.{ℕ, zero, suc, ◌+◌, ◌-◌, ◌*◌, ◌≤◌, ◌<◌}
use mathlib.Core.Path.{◌≡◌, refl, sym, ap, ◌∙◌}
use mathlib.Core.Bool.{Bool, true, false, cond, ◌&&◌, not}
use mathlib.Core.List.{List, [], ◌∷◌, ◌++◌}
use native.Mathlib.Nat.{lt_of_lt_of_le, add-zero, add-suc, le_refl}
use native.Mathlib.Numerals.{add-one}
use native.Mathlib.Omega.{arith}
use lib.Dec.{eqb}
use lib.ListN.{length, get_or, drop, take, drop_of_length-le}
use lib.Seq.{drop-cons, length-take-le}
use Rattle.std.specs.Prelude.{Option, unwrap_or, nat_lt}
use Rattle.std.specs.List.{prefix_len, position, position_or_len}
use borrow.Author.Tests.{eqb-true, eq-eqb, ne_eqb, le-ltb, lt-ltb, ltb-false}
use Rattle.numbers.proofs.Tests.{never, both, by_bool}
use Rattle.text.specs.Class.{is_digit}
use Rattle.text.proofs.ClassLaws.{digit-bounds}
use Rattle.words.specs.Words.{every, has, same, value, value_from, number_in, leading}

-- what is left at a position is the byte there and what is left after it
pub drop-step : (s : List ℕ) (i : ℕ) → i < length s → drop i s ≡ get_or s i 0 ∷ drop (i + 1) s
drop-step s i h = rw (add-one, drop-cons s i 0)

pub every-pass : (p : ℕ → Bool) (s : List ℕ) (i : ℕ) → i < length s → p (get_or s i 0) ≡ true → every p (drop i s) ≡ every p (drop (i + 1) s)
every-pass p s i h e = rw (drop-step s i h, e)

pub every-fail : (p : ℕ → Bool) (s : List ℕ) (i : ℕ) → i < length s → p (get_or s i 0) ≡ false → every p (drop i s) ≡ false
every-fail p s i h e = rw (drop-step s i h, e)

pub every-end : (p : ℕ → Bool) (s : List ℕ) (i : ℕ) → length s ≤ i → every p (drop i s) ≡ true
every-end p s i h = rw (drop_of_length-le s h)

-- bytes that pass a test pass one that asks less
pub every-weaker : (p q : ℕ → Bool) → ((b : ℕ) → p b ≡ true → q b ≡ true) → (s : List ℕ) → every p s ≡ true → every q s ≡ true
every-weaker p q w [] h = refl
every-weaker p q w (b ∷ s) h = let x = both (p b) (every p s) h in rw (w b x.0) (every-weaker p q w s x.1)

-- two texts of which every byte passes, one behind the other
pub every_append : (p : ℕ → Bool) (s t : List ℕ) → every p s ≡ true → every p t ≡ true → every p (s ++ t) ≡ true
every_append p [] t h g = g
every_append p (x ∷ s) t h g = let q = both (p x) (every p s) h in rw q.0 (every_append p s t q.1 g)

pub has-later : (l : List ℕ) (b i : ℕ) → i < length l → (b ≡ get_or l i 0 → ⊥) → has (drop i l) b ≡ has (drop (i + 1) l) b
has-later l b i h e = rw (drop-step l i h, ne_eqb b (get_or l i 0) e)

pub has_end : (l : List ℕ) (b i : ℕ) → length l ≤ i → has (drop i l) b ≡ false
has_end l b i h = rw (drop_of_length-le l h)

-- a text is the same as itself
pub same_self : (s : List ℕ) → same s s ≡ true
same_self [] = refl
same_self (x ∷ s) = rw (eq-eqb x x refl) (same_self s)

-- and texts that are the same are equal
pub same-equal : (s t : List ℕ) → same s t ≡ true → s ≡ t
same-equal [] [] e = refl
same-equal [] (y ∷ t) e = never refl (sym e)
same-equal (x ∷ s) [] e = never refl (sym e)
same-equal (x ∷ s) (y ∷ t) e =
    let p = both (eqb x y) (same s t) e in
    let a : x ≡ y = eqb-true x y p.0 in
    let b : s ≡ t = same-equal s t p.1 in
    cc

pub and-false : (b : Bool) → b && false ≡ false
and-false true = refl
and-false false = refl

pub same-long : (s t : List ℕ) → (length s ≡ length t → ⊥) → same s t ≡ false
same-long [] [] h = absurd (h refl)
same-long [] (y ∷ t) h = refl
same-long (x ∷ s) [] h = refl
same-long (x ∷ s) (y ∷ t) h = rw (same-long s t (λ e. h (ap suc e))) (and-false (eqb x y))

-- no number of i digits passes this
abbrev pub cap : ℕ → ℕ
cap zero = 0
cap (suc i) = cap i * 10 + 207

cap-grows : (i k : ℕ) → cap i ≤ cap (i + k)
cap-grows i zero = rw add-zero (le_refl (cap i))
cap-grows i (suc k) = rw add-suc (omega (arith, cap-grows i k))

pub cap-most : (i k : ℕ) → i ≤ k → cap i ≤ cap k
cap-most i k h = let e : i + (k - i) ≡ k = omega arith in rw e at (cap-grows i (k - i))

pub value-step : (s : List ℕ) (i n : ℕ) → i < length s → value_from n (drop i s) ≡ value_from (n * 10 + (get_or s i 0 - 48)) (drop (i + 1) s)
value-step s i n h = rw (drop-step s i h)

pub value-end : (s : List ℕ) (i n : ℕ) → length s ≤ i → value_from n (drop i s) ≡ n
value-end s i n h = rw (drop_of_length-le s h)

pub leading-front : (p : ℕ → Bool) (t : List ℕ) → take (length (leading p t)) t ≡ leading p t
leading-front p [] = refl
leading-front p (b ∷ t) = test (leading-front p t) (p b)
  where
    test : take (length (leading p t)) t ≡ leading p t → (x : Bool)
        → take (length (cond x (b ∷ leading p t) [])) (b ∷ t) ≡ cond x (b ∷ leading p t) []
    test ih true = ap (λ (l : List ℕ). b ∷ l) ih
    test ih false = refl

pub leading-most : (p : ℕ → Bool) (t : List ℕ) → length (leading p t) ≤ length t
leading-most p [] = omega arith
leading-most p (b ∷ t) = test (leading-most p t) (p b)
  where
    test : length (leading p t) ≤ length t → (x : Bool) → length (cond x (b ∷ leading p t) []) ≤ suc (length t)
    test ih true = omega arith
    test ih false = omega arith

-- how many lead: as many as std counts from the front, all of them within the text
pub leading-prefix : (p : ℕ → Bool) (t : List ℕ) → prefix_len p t ≡ length (leading p t)
leading-prefix p [] = refl
leading-prefix p (b ∷ t) = test (leading-prefix p t) (p b)
  where
    test : prefix_len p t ≡ length (leading p t) → (x : Bool) → cond x (1 + prefix_len p t) 0 ≡ length (cond x (b ∷ leading p t) [])
    test ih true = omega arith
    test ih false = refl

-- and as many as std takes
pub leading-taken : (p : ℕ → Bool) (t : List ℕ) → length (take (prefix_len p t) t) ≡ length (leading p t)
leading-taken p t =
    let e = leading-prefix p t in
    length-take-le (prefix_len p t) t (omega (arith, leading-most p t)) ∙ e

-- the place of the first byte that passes, the text's length if none does
pub place-or-end : (p : ℕ → Bool) (t : List ℕ) (r : Option ℕ) → r ≡ position p t → unwrap_or r (length t) ≡ length (leading (λ b. not (p b)) t)
place-or-end p t r e =
    let f : ℕ → Bool = λ b. not (p b) in
    let n = leading-prefix (λ b. not (p b)) t in
    by_bool (nat_lt (position_or_len p t) (length t))
    (λ h. rw (e, h) n)
    (λ h. let k : length t ≤ position_or_len p t = ltb-false (position_or_len p t) (length t) h in
    rw (e, h) (omega (arith, leading-most (λ b. not (p b)) t)))

-- a text of at most six digits, and a longer one
pub number_short : (s : List ℕ) → length s ≤ 6 → number_in s ≡ value s
unfolding number_in
number_short s h = rw (le-ltb 6 (length s) h)

pub number-long : (s : List ℕ) → 6 < length s → number_in s ≡ 0
unfolding number_in
number-long s h = rw (lt-ltb 6 (length s) h)

-- digits write a number below ten to their count
abbrev pub tens : ℕ → ℕ
tens zero = 1
tens (suc k) = tens k * 10

value-from-below : (j n : ℕ) (s : List ℕ) → n < tens j → every is_digit s ≡ true → value_from n s < tens (j + length s)
value-from-below j n [] h d = let e : j + 0 ≡ j = omega arith in rw e h
value-from-below j n (b ∷ s) h d =
    let p = both (is_digit b) (every is_digit s) d in
    let c = digit-bounds b p.0 in
    let e : j + suc (length s) ≡ suc j + length s = omega arith in
    rw e (value-from-below (suc j) (n * 10 + (b - 48)) s (omega arith) p.1)

tens-grow : (i k : ℕ) → tens i ≤ tens (i + k)
tens-grow i zero = rw add-zero (le_refl (tens i))
tens-grow i (suc k) = rw add-suc (omega (arith, tens-grow i k))

pub value-below : (k : ℕ) (s : List ℕ) → every is_digit s ≡ true → length s ≤ k → value s < tens k
value-below k s d h =
    let e : length s + (k - length s) ≡ k = omega arith in
    let z : 0 + length s ≡ length s = omega arith in
    let a : value s < tens (0 + length s) = value-from-below 0 0 s (omega arith) d in
    let b : tens (length s) ≤ tens (length s + (k - length s)) = tens-grow (length s) (k - length s) in
    lt_of_lt_of_le (rw z at a) (rw e at b)
