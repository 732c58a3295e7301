-- Written cards read back: what stands between commas and a period, of letters, digits, hyphens, slashes and asterisks, is
-- taken apart where it was put together; and written numbers. Assumes nothing.
use Prim.Native.Nat.{ℕ, zero, suc, ◌+◌, ◌-◌, ◌*◌, ◌/◌, ◌%◌, ◌≤◌, ◌<◌}
use mathlib.Core.Path.{◌≡◌, refl, ap, ◌∙◌}
use mathlib.Core.Bool.{Bool, true, false, ◌||◌}
use mathlib.Core.List.{List, [], ◌∷◌, ◌++◌, append-nil}
use mathlib.Core.Logic.{⊎_elim}
use native.Mathlib.Nat.{eq-zero-or-pos}
use native.Mathlib.Omega.{arith}
use lib.Dec.{eqb}
use lib.ListN.{length}
use borrow.Author.Tests.{ne_eqb, eqb-true, lt-leb}
use Rattle.numbers.specs.Quoted.{byte}
use Rattle.numbers.proofs.Tests.{by_bool, never, both}
use Rattle.numbers.specs.Limits.{card_length}
use Rattle.text.specs.Class.{is_digit, is_letter, is_alnum}
use Rattle.text.proofs.ClassLaws.{is_digit_lem, digit-bounds}
use Rattle.text.specs.Writing.{decimal_text}
use Rattle.text.proofs.Tens.{one-digit, more-digits}
use Rattle.words.specs.Words.{passes, every, has, value, value_from}
use Rattle.words.specs.declared.Class.TheVariants.{Hyphened}
use Rattle.words.proofs.WordLaws.{every_append}
use Rattle.words.specs.Lines.{lf}
use Rattle.words.proofs.LineLaws.{NoLf}
use Rattle.cards_fields.specs.Fields.{fields, onto, card_byte, closed, malformed, tail_text, card_text}
use Rattle.cards_fields.proofs.FieldLaws.{fields-period, fields-comma, fields-other, by_form}

-- letters, digits, hyphens, slashes and asterisks
abbrev pub plain : ℕ → Bool
plain b = passes Hyphened b || (eqb b (byte "/") || eqb b (byte "*"))

-- none of which is a mark that ends a field, a blank or LF, and all of which may stand on a card
pub record Clean (b : ℕ) : Type 0 where
  pub period : b ≡ 46 → ⊥
  pub comma : b ≡ 44 → ⊥
  pub blank : b ≡ 32 → ⊥
  pub feed : b ≡ lf → ⊥
  pub may : card_byte b ≡ true

pub clean : (b : ℕ) → plain b ≡ true → Clean b
unfolding is_alnum is_letter is_digit card_byte
clean b h = record {
  period = λ e. never {b = plain 46} (rw e at h) refl;
  comma = λ e. never {b = plain 44} (rw e at h) refl;
  blank = λ e. never {b = plain 32} (rw e at h) refl;
  feed = λ e. never {b = plain 10} (rw e at h) refl;
  may = stands;
}
  where
    stands : card_byte b ≡ true
    stands =
        by_bool (is_alnum b) (λ a. rw a)
        (λ a. by_bool (eqb b 45) (λ e. let i = eqb-true b 45 e in rw i)
        (λ n. by_bool (eqb b 47) (λ e. let i = eqb-true b 47 e in rw i)
        (λ m. by_bool (eqb b 42) (λ e. let i = eqb-true b 42 e in rw i) (λ o. never h (rw (a, n, m, o))))))

pub alnum-plain : (b : ℕ) → is_alnum b ≡ true → plain b ≡ true
alnum-plain b h = rw h

pub digit-plain : (b : ℕ) → is_digit b ≡ true → plain b ≡ true
unfolding is_alnum
digit-plain b h = by_bool (is_letter b) (λ e. rw e) (λ e. rw (e, h))

pub letter-plain : (b : ℕ) → is_letter b ≡ true → plain b ≡ true
unfolding is_alnum
letter-plain b h = rw h

pub hyphened-plain : (b : ℕ) → passes Hyphened b ≡ true → plain b ≡ true
hyphened-plain b h = rw h

pub listed_plain : (ls : List ℕ) → every plain ls ≡ true → (b : ℕ) → has ls b ≡ true → plain b ≡ true
listed_plain [] p b h = never h refl
listed_plain (x ∷ ls) p b h =
    let q = both (plain x) (every plain ls) p in
    by_bool (eqb b x) (λ e. rw (eqb-true b x e) q.0) (λ e. listed_plain ls q.1 b (rw e at h))

-- fields of such bytes
abbrev pub AllPlain : List (List ℕ) → Type 0
AllPlain [] = Unit {0}
AllPlain (f ∷ fs) = (every plain f ≡ true) × AllPlain fs

pub in-front : (f s g : List ℕ) (gs : List (List ℕ)) → every plain f ≡ true → fields s ≡ g ∷ gs → fields (f ++ s) ≡ (f ++ g) ∷ gs
in-front [] s g gs h e = e
in-front (b ∷ f) s g gs h e =
    let q = both (plain b) (every plain f) h in
    let c = clean b q.0 in
    fields-other (f ++ s) c.period c.comma c.blank ∙ ap (onto b) (in-front f s g gs q.1 e)

-- THE FIELDS OF A WRITTEN CARD ARE THE FIELDS THAT WERE WRITTEN
pub fields_back : (f : List ℕ) (fs : List (List ℕ)) → AllPlain (f ∷ fs) → fields (card_text (f ∷ fs)) ≡ f ∷ fs
fields_back f [] p = in-front f (46 ∷ []) [] [] p.0 (fields-period [] refl) ∙ ap (λ (l : List ℕ). l ∷ []) (append-nil f)
fields_back f (g ∷ fs) p =
    in-front f (tail_text (g ∷ fs)) [] (fields (card_text (g ∷ fs))) p.0 (fields-comma (card_text (g ∷ fs)) refl)
    ∙ ap (λ (l : List ℕ). l ∷ fields (card_text (g ∷ fs))) (append-nil f)
    ∙ ap (λ (l : List (List ℕ)). f ∷ l) (fields_back g fs p.1)

closed-front : (f s : List ℕ) → every plain f ≡ true → closed false (f ++ s) ≡ closed false s
closed-front [] s h = refl
closed-front (b ∷ f) s h =
    let q = both (plain b) (every plain f) h in
    let c = clean b q.0 in
    rw (c.may, ne_eqb b 46 c.period) (closed-front f s q.1)

closed-mark : (s : List ℕ) → (closed false (46 ∷ []) ≡ true) × (closed false (44 ∷ s) ≡ closed false s)
unfolding card_byte is_alnum is_letter is_digit
closed-mark s = (refl, refl)

card-closed : (f : List ℕ) (fs : List (List ℕ)) → AllPlain (f ∷ fs) → closed false (card_text (f ∷ fs)) ≡ true
card-closed f [] p = closed-front f (46 ∷ []) p.0 ∙ (closed-mark []).0
card-closed f (g ∷ fs) p = closed-front f (tail_text (g ∷ fs)) p.0 ∙ (closed-mark (card_text (g ∷ fs))).1 ∙ card-closed g fs p.1

-- a written card of at most 80 characters is not malformed
pub card-good : (f : List ℕ) (fs : List (List ℕ)) → AllPlain (f ∷ fs) → length (card_text (f ∷ fs)) ≤ card_length
    → malformed (card_text (f ∷ fs)) ≡ false
card-good f fs p l = by_form (card_text (f ∷ fs)) true l (card-closed f fs p)

no-lf-front : (f s : List ℕ) → every plain f ≡ true → NoLf s → NoLf (f ++ s)
no-lf-front [] s h n = n
no-lf-front (b ∷ f) s h n = let q = both (plain b) (every plain f) h in ((clean b q.0).feed, no-lf-front f s q.1 n)

-- and has no LF
pub card-line : (f : List ℕ) (fs : List (List ℕ)) → AllPlain (f ∷ fs) → NoLf (card_text (f ∷ fs))
card-line f [] p = no-lf-front f (46 ∷ []) p.0 ((λ e. omega arith), tt)
card-line f (g ∷ fs) p = no-lf-front f (tail_text (g ∷ fs)) p.0 ((λ e. omega arith), card-line g fs p.1)

-- ---- numbers

-- a number: by whether it has one digit, or more and one digit fewer is dealt with
by_digits : (P : ℕ → Type 0) → ((n : ℕ) → n < 10 → P n) → ((n : ℕ) → 10 ≤ n → P (n / 10) → P n) → (most n : ℕ) → n ≤ most → P n
by_digits P one more zero n h = one n (omega arith)
by_digits P one more (suc most) n h =
    ⊎_elim (λ k. one n (omega arith)) (λ k. more n (omega arith) (by_digits P one more most (n / 10) (omega arith))) (eq-zero-or-pos (n - 9))

value-last : (m : ℕ) (s : List ℕ) (b : ℕ) → value_from m (s ++ (b ∷ [])) ≡ value_from m s * 10 + (b - 48)
value-last m [] b = refl
value-last m (x ∷ s) b = value-last (m * 10 + (x - 48)) s b

pub number-back : (n : ℕ) → value (decimal_text n) ≡ n
number-back n =
    by_digits (λ n. value (decimal_text n) ≡ n)
    (λ n h. rw (one-digit n h) (omega arith))
    (λ n h ih. rw (more-digits n h, value-last 0 (decimal_text (n / 10)) (48 + n % 10), ih) (omega arith))
    n n (omega arith)

pub number_digits : (n : ℕ) → every is_digit (decimal_text n) ≡ true
number_digits n =
    by_digits (λ n. every is_digit (decimal_text n) ≡ true)
    (λ n h. rw (one-digit n h, is_digit_lem n h))
    (λ n h ih. rw (more-digits n h) (every_append is_digit (decimal_text (n / 10)) ((48 + n % 10) ∷ []) ih (rw (is_digit_lem (n % 10) (omega arith)))))
    n n (omega arith)

pub digit-no-letter : (b : ℕ) → is_digit b ≡ true → is_letter b ≡ false
unfolding is_letter
digit-no-letter b h = let d = digit-bounds b h in rw (lt-leb 65 b (omega arith))
