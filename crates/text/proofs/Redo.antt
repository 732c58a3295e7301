-- Writing undoes reading: what is read as a number is that number written, so no other text is read as it.
-- A number's digits are followed one by one, those before it written already. Assumes nothing.
use Prim.Native.Nat.{ℕ, suc, ◌+◌, ◌-◌, ◌*◌, ◌/◌, ◌%◌, ◌≤◌, ◌<◌}
use mathlib.Core.Path.{◌≡◌, refl, sym, ap, ◌∙◌}
use mathlib.Core.Bool.{true, ◌&&◌}
use mathlib.Core.List.{List, [], ◌∷◌, ◌++◌, append_assoc}
use mathlib.Core.Logic.{⊎_elim}
use native.Mathlib.Nat.{eq-zero-or-pos}
use native.Mathlib.Omega.{arith}
use lib.Dec.{eqb, ltb}
use lib.ListN.{length, get_or, drop, length-append}
use borrow.Author.Tests.{ltb-true, eqb-true, eqb-false}
use Rattle.numbers.proofs.Tests.{by_bool, both}
use Rattle.text.specs.Class.{is_digit}
use Rattle.text.proofs.ClassLaws.{digit-bounds}
use Rattle.text.specs.Reading.{two_digits_of, digits_from, decimal_of}
use Rattle.text.specs.Writing.{two_text, decimal_text}
use Rattle.text.proofs.Tens.{one-digit, more-digits}
use Rattle.std.specs.Prelude.{Option, Some, None}

-- a number that was read is not one that was not
pub not-wrong {ℓ} : {P : Type ℓ} {r : ℕ × ℕ} → None ≡ Some r → P
not-wrong e = let z : ◌≡◌ {A = ℕ} 0 1 = cc in absurd (omega arith)

-- what was read is one number, in one length
number_one : (r q : ℕ × ℕ) → Some r ≡ Some q → (r.0 ≡ q.0) × (r.1 ≡ q.1)
number_one r q e = let h : r ≡ q = cc in (ap (λ (p : ℕ × ℕ). p.0) h, ap (λ (p : ℕ × ℕ). p.1) h)

-- the byte of no text is no digit
none-digit : (s : List ℕ) → is_digit (get_or s 0 0) ≡ true → s ≡ get_or s 0 0 ∷ drop 1 s
none-digit [] e = let b = digit-bounds 0 e in absurd (omega arith)
none-digit (b ∷ s) e = refl

-- two digits
pub two-redone : (s : List ℕ) (n k : ℕ) → two_digits_of s ≡ Some (n, k) → (k ≡ 2) × (n < 100) × (s ≡ two_text n ++ drop 2 s)
unfolding two_digits_of
two-redone s n k e =
    by_bool (is_digit (get_or s 0 0) && is_digit (get_or s 1 0))
    (λ t. let p = both (is_digit (get_or s 0 0)) (is_digit (get_or s 1 0)) t in
    let i = number_one ((get_or s 0 0 - 48) * 10 + (get_or s 1 0 - 48), 2) (n, k) (rw t at e) in
    two s p.0 p.1 i.0 i.1)
    (λ f. not-wrong (rw f at e))
  where
    two : (s : List ℕ) → is_digit (get_or s 0 0) ≡ true → is_digit (get_or s 1 0) ≡ true → (get_or s 0 0 - 48) * 10 + (get_or s 1 0 - 48) ≡ n → 2 ≡ k
        → (k ≡ 2) × (n < 100) × (s ≡ two_text n ++ drop 2 s)
    two [] p q m l = let b = digit-bounds 0 p in absurd (omega arith)
    two (a ∷ []) p q m l = let b = digit-bounds 0 q in absurd (omega arith)
    two (a ∷ b ∷ s) p q m l =
        let c = digit-bounds a p in
        let d = digit-bounds b q in
        let x : a ≡ 48 + n / 10 = omega arith in
        let y : b ≡ 48 + n % 10 = omega arith in
        (sym l, omega arith, cc)

-- a decimal number that was read: the text starts with it written, in k digits, at most seven
pub record Decimal (s : List ℕ) (n k : ℕ) : Type 0 where
  pub long : k ≡ length (decimal_text n)
  pub few : k ≤ 7
  pub same : s ≡ decimal_text n ++ drop k s

-- what reading digits on finds: the digits before, and the rest, are the whole number and the rest after it
record On (more value count : ℕ) (s : List ℕ) (n k : ℕ) : Type 0 where
  on : count ≤ k
  few : k ≤ count + more
  same : decimal_text value ++ s ≡ decimal_text n ++ drop (k - count) s
  long : length (decimal_text n) ≡ length (decimal_text value) + (k - count)

ended : (more value count : ℕ) (s : List ℕ) (n k : ℕ) → ◌≡◌ {A = Option (ℕ × ℕ)} (Some (value, count)) (Some (n, k)) → On more value count s n k
ended more value count s n k e =
    let i = number_one (value, count) (n, k) e in
    let a : value ≡ n = i.0 in
    let b : count ≡ k = i.1 in
    let d : k - count ≡ 0 = omega arith in
    record { on = omega arith; few = omega arith; same = rw (d, a) refl; long = rw (d, a) (omega arith) }

digits-on : (more value count : ℕ) (s : List ℕ) (n k : ℕ) → 0 < value → digits_from more value count s ≡ Some (n, k) → On more value count s n k
unfolding digits_from
digits-on more value count [] n k h e = ended more value count [] n k e
digits-on more value count (b ∷ s) n k h e =
    by_bool (is_digit b)
    (λ t. by_bool (ltb 0 more)
    (λ u. further (digit-bounds b t) (ltb-true 0 more u)
    (digits-on (more - 1) (value * 10 + (b - 48)) (count + 1) s n k (omega arith) (rw (t, u) at e)))
    (λ u. not-wrong (rw (t, u) at e)))
    (λ f. ended more value count (b ∷ s) n k (rw f at e))
  where
    further : (48 ≤ b) × (b ≤ 57) → 0 < more → On (more - 1) (value * 10 + (b - 48)) (count + 1) s n k → On more value count (b ∷ s) n k
    further d m r =
        let v = value * 10 + (b - 48) in
        let x : v / 10 ≡ value = omega arith in
        let y : 48 + v % 10 ≡ b = omega arith in
        let w : decimal_text v ≡ decimal_text value ++ (b ∷ []) = more-digits v (omega arith) ∙ cc (ap decimal_text x) in
        let j : k - count ≡ suc (k - (count + 1)) = omega (arith, r.on) in
        let l : length (decimal_text v) ≡ length (decimal_text value) + 1 = ap length w ∙ length-append (decimal_text value) (b ∷ []) in
        let z : (decimal_text value ++ (b ∷ [])) ++ s ≡ decimal_text n ++ drop (k - (count + 1)) s = sym (ap (λ (q : List ℕ). q ++ s) w) ∙ r.same in
        record {
          on = omega (arith, r.on);
          few = omega (arith, r.few);
          same = rw j (sym (append_assoc (decimal_text value) (b ∷ []) s) ∙ z);
          long = omega (arith, r.long, r.on);
        }

-- the first digit, and those after it
digits-redone : (s : List ℕ) (n k : ℕ) → is_digit (get_or s 0 0) ≡ true → (get_or s 0 0 ≡ 48 → ⊥) → digits_from 7 0 0 s ≡ Some (n, k) → Decimal s n k
unfolding digits_from
digits-redone [] n k t z e = let b = digit-bounds 0 t in absurd (omega arith)
digits-redone (b ∷ s) n k t z e =
    let d = digit-bounds b t in
    let p : 0 < b - 48 = pos d (λ q. z q) in
    let r = digits-on 6 (0 * 10 + (b - 48)) 1 s n k (omega arith) (rw t at e) in
    let v : 0 * 10 + (b - 48) ≡ b - 48 = omega arith in
    let x : 48 + (b - 48) ≡ b = omega arith in
    let w : decimal_text (0 * 10 + (b - 48)) ≡ b ∷ [] = one-digit (0 * 10 + (b - 48)) (omega arith) ∙ cc in
    let l : length (decimal_text (0 * 10 + (b - 48))) ≡ 1 = ap length w in
    let j : k ≡ suc (k - 1) = omega (arith, r.on) in
    let y : b ∷ s ≡ decimal_text n ++ drop (k - 1) s = sym (ap (λ (q : List ℕ). q ++ s) w) ∙ r.same in
    record { long = omega (arith, r.long, r.on); few = omega (arith, r.few); same = rw j y }
  where
    pos : (48 ≤ b) × (b ≤ 57) → (b ≡ 48 → ⊥) → 0 < b - 48
    pos d z = ⊎_elim (λ q. absurd (z (omega arith))) (λ q. q) (eq-zero-or-pos (b - 48))

pub decimal-redone : (s : List ℕ) (n k : ℕ) → decimal_of s ≡ Some (n, k) → Decimal s n k
unfolding decimal_of
decimal-redone s n k e =
    by_bool (is_digit (get_or s 0 0))
    (λ t. by_bool (eqb (get_or s 0 0) 48)
    (λ u. by_bool (is_digit (get_or s 1 0))
    (λ v. not-wrong (rw (t, u, v) at e))
    (λ v. let f : get_or s 0 0 ≡ 48 = eqb-true (get_or s 0 0) 48 u in
    let i = number_one (0, 1) (n, k) (rw (t, u, v) at e) in
    let a : 0 ≡ n = i.0 in
    let b : 1 ≡ k = i.1 in
    let o = one-digit 0 (omega arith) in
    let w : s ≡ 48 ∷ drop 1 s = none-digit s t ∙ cc in
    record { long = rw (← a, ← b, o) refl; few = omega arith; same = rw (← a, ← b, o) w }))
    (λ u. digits-redone s n k t (eqb-false (get_or s 0 0) 48 u) (rw (t, u) at e)))
    (λ t. not-wrong (rw t at e))
