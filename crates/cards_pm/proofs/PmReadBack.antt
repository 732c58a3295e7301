-- A WRITTEN PM CARD is read as it was meant, and what is written says what it was written from. Assumes nothing.
use Prim.Native.Nat.{ℕ, ◌+◌, ◌-◌, ◌≤◌}
use mathlib.Core.Path.{◌≡◌, refl, sym, ap, ◌∙◌}
use mathlib.Core.Bool.{Bool, true, false}
use mathlib.Core.List.{List, [], ◌∷◌, ◌++◌, append-nil, append_assoc}
use native.Mathlib.Omega.{arith}
use lib.Dec.{eqb}
use lib.ListN.{length, get_or, take, drop, length-append}
use lib.Seq.{drop-append-add, take_at}
use borrow.Author.Tests.{ne_eqb, le-ltb}
use Rattle.numbers.specs.Quoted.{byte, bytes}
use Rattle.numbers.proofs.Tests.{never, both, or-true}
use Rattle.numbers.specs.Limits.{card_length, pm_length}
use Rattle.text.specs.Class.{is_digit, is_letter, is_alnum}
use Rattle.text.proofs.ClassLaws.{is_digit_lem}
use Rattle.words.specs.Words.{every, has, same, isnt, leading}
use Rattle.words.specs.Lines.{lf}
use Rattle.words.proofs.WordLaws.{every-weaker, every_append}
use Rattle.words.proofs.LineLaws.{NoLf, no-lf-tested}
use Rattle.cards_fields.specs.Fields.{fields, field, card_byte}
use Rattle.cards_fields.proofs.FieldLaws.{fields-comma}
use Rattle.cards_fields.proofs.CardLaws.{plain, clean, digit-plain, letter-plain, in-front}
use Rattle.cards_pm.specs.Pm.{is_pm, numbered, digit_of, body, behind_comma, letters, pm_malformed, pm_fault, pm_text}
use Rattle.cards_pm.specs.Sheets.{Sheet, Proper, sheet_of}

-- ---- a card whole, and what one that was read holds

-- the card whole: "`ID,PM` digit `,` text `.`"
abbrev pub card_of : List ℕ → Sheet → List ℕ
card_of id s = id ++ (byte "," ∷ sheet_of s)

-- what a card that was read holds
abbrev pub sheet_in : List ℕ → Sheet
sheet_in card = record { digit = digit_of card - byte "0"; letters = letters card }

-- ---- what is written says what it was written from

-- THE TEXT of a written card is all behind `PMn,` but for the last
pub sheet-letters : (s : Sheet) → take (length (sheet_of s) - 5) (drop 4 (sheet_of s)) ≡ s.letters
sheet-letters s = take_at s.letters (bytes ".") (length (sheet_of s) - 5) (omega (arith, length-append s.letters (bytes ".")))

alike : {d e : ℕ} {l m : List ℕ} → d ≡ e → l ≡ m → ◌≡◌ {A = Sheet} (record { digit = d; letters = l }) (record { digit = e; letters = m })
alike {d} {e} {l} {m} p q = ap (λ (x : ℕ). record { digit = x; letters = l }) p ∙ ap (λ (x : List ℕ). record { digit = e; letters = x }) q

-- A WRITTEN CARD leaves one digit and one text
pub sheet-one : (s t : Sheet) → sheet_of s ≡ sheet_of t → s ≡ t
sheet-one s t e =
    let a : byte "0" + s.digit ≡ byte "0" + t.digit = ap (λ (l : List ℕ). get_or l 2 0) e in
    let d : s.digit ≡ t.digit = omega (arith, a) in
    let l : s.letters ≡ t.letters = sym (sheet-letters s) ∙ ap (λ (l : List ℕ). take (length l - 5) (drop 4 l)) e ∙ sheet-letters t in
    alike d l

-- ---- a written card read

-- a text that ends with a period
last-period : (s : List ℕ) → has (s ++ (46 ∷ [])) 46 ≡ true
last-period [] = refl
last-period (x ∷ s) = rw (last-period s) (or-true (eqb 46 x))

body-last : (s : List ℕ) → body (s ++ (46 ∷ [])) ≡ s
body-last [] = refl
body-last (b ∷ s) = rw (last-period s) (ap (λ (l : List ℕ). b ∷ l) (body-last s))

-- what stands before the first of a byte, and behind a comma
leading-to : (p : ℕ → Bool) (f : List ℕ) (b : ℕ) (s : List ℕ) → every p f ≡ true → p b ≡ false → leading p (f ++ (b ∷ s)) ≡ f
leading-to p [] b s h n = rw n
leading-to p (x ∷ f) b s h n = let q = both (p x) (every p f) h in rw q.0 (ap (λ (l : List ℕ). x ∷ l) (leading-to p f b s q.1 n))

behind-first : (f s : List ℕ) → every (isnt 44) f ≡ true → behind_comma (f ++ (44 ∷ s)) ≡ s
behind-first f s h =
    ap (λ (l : List ℕ). drop (length l + 1) (f ++ (44 ∷ s))) (leading-to (isnt 44) f 44 s h refl) ∙ drop-append-add f (44 ∷ s) 1

isnt-true : (a b : ℕ) → (b ≡ a → ⊥) → isnt a b ≡ true
isnt-true a b n = rw (ne_eqb b a n)

-- LF is no character of a card
card-byte-line : (b : ℕ) → card_byte b ≡ true → isnt lf b ≡ true
unfolding card_byte is_alnum is_letter is_digit
card-byte-line b h = isnt-true lf b (λ e. never {b = card_byte 10} (rw e at h) refl)

marks-stand : (card_byte 44 ≡ true) × ((card_byte 80 ≡ true) × ((card_byte 77 ≡ true) × (card_byte 46 ≡ true)))
unfolding card_byte is_alnum is_letter is_digit
marks-stand = (refl, (refl, (refl, refl)))

pm-letters : (is_letter 80 ≡ true) × (is_letter 77 ≡ true)
unfolding is_letter
pm-letters = (refl, refl)

-- A WRITTEN CARD, READ
pub record ReadBack (id : List ℕ) (s : Sheet) : Type 0 where
  pub id-is : field (card_of id s) 0 ≡ id
  pub type-is : field (card_of id s) 1 ≡ byte "P" ∷ byte "M" ∷ (byte "0" + s.digit) ∷ []
  pub other-type : (a : ℕ) (w : List ℕ) → (byte "P" ≡ a → ⊥) → same (field (card_of id s) 1) (a ∷ w) ≡ false
  pub pm : is_pm (card_of id s) ≡ true
  pub number : numbered (card_of id s) ≡ true
  pub digit-is : digit_of (card_of id s) ≡ byte "0" + s.digit
  pub letters-are : letters (card_of id s) ≡ s.letters
  pub text-is : pm_text (card_of id s) ≡ sheet_of s
  pub sheet-is : sheet_in (card_of id s) ≡ s
  pub line : NoLf (card_of id s)
  pub good : length (card_of id s) ≤ card_length → pm_fault (card_of id s) ≡ false

module _ (id : List ℕ) (s : Sheet) (named : every plain id ≡ true) (p : Proper s) where
  pub digit : is_digit (48 + s.digit) ≡ true
  digit = is_digit_lem s.digit (omega (arith, p.one))

  kind-plain : every plain (80 ∷ 77 ∷ (48 + s.digit) ∷ []) ≡ true
  kind-plain = rw (letter-plain 80 pm-letters.0, letter-plain 77 pm-letters.1, digit-plain (48 + s.digit) digit)

  -- its fields
  two : fields (card_of id s) ≡ id ∷ fields (sheet_of s)
  two =
      in-front id (44 ∷ sheet_of s) [] (fields (sheet_of s)) named (fields-comma (sheet_of s) refl)
      ∙ ap (λ (l : List ℕ). l ∷ fields (sheet_of s)) (append-nil id)

  three : fields (sheet_of s) ≡ (80 ∷ 77 ∷ (48 + s.digit) ∷ []) ∷ fields (s.letters ++ (46 ∷ []))
  three =
      in-front (80 ∷ 77 ∷ (48 + s.digit) ∷ []) (44 ∷ (s.letters ++ (46 ∷ []))) [] (fields (s.letters ++ (46 ∷ []))) kind-plain
      (fields-comma (s.letters ++ (46 ∷ [])) refl)

  id-field : field (card_of id s) 0 ≡ id
  id-field = ap (λ (l : List (List ℕ)). get_or l 0 []) two

  kind-field : field (card_of id s) 1 ≡ 80 ∷ 77 ∷ (48 + s.digit) ∷ []
  kind-field = ap (λ (l : List (List ℕ)). get_or l 1 []) two ∙ ap (λ (l : List (List ℕ)). get_or l 0 []) three

  -- its body
  fronted : card_of id s ≡ (id ++ (44 ∷ 80 ∷ 77 ∷ (48 + s.digit) ∷ 44 ∷ s.letters)) ++ (46 ∷ [])
  fronted = sym (append_assoc id (44 ∷ 80 ∷ 77 ∷ (48 + s.digit) ∷ 44 ∷ s.letters) (46 ∷ []))

  body_is : body (card_of id s) ≡ id ++ (44 ∷ 80 ∷ 77 ∷ (48 + s.digit) ∷ 44 ∷ s.letters)
  body_is = ap body fronted ∙ body-last (id ++ (44 ∷ 80 ∷ 77 ∷ (48 + s.digit) ∷ 44 ∷ s.letters))

  behind-id : behind_comma (body (card_of id s)) ≡ 80 ∷ 77 ∷ (48 + s.digit) ∷ 44 ∷ s.letters
  behind-id =
      ap behind_comma body_is
      ∙ behind-first id (80 ∷ 77 ∷ (48 + s.digit) ∷ 44 ∷ s.letters)
      (every-weaker plain (isnt 44) (λ b h. isnt-true 44 b (clean b h).comma) id named)

  behind-kind : behind_comma (behind_comma (body (card_of id s))) ≡ s.letters
  behind-kind =
      ap behind_comma behind-id ∙ behind-first (80 ∷ 77 ∷ (48 + s.digit) ∷ []) s.letters
      (every-weaker plain (isnt 44) (λ b h. isnt-true 44 b (clean b h).comma) (80 ∷ 77 ∷ (48 + s.digit) ∷ []) kind-plain)

  letters-is : letters (card_of id s) ≡ s.letters
  unfolding letters
  letters-is = behind-kind

  digit-of-is : digit_of (card_of id s) ≡ 48 + s.digit
  unfolding digit_of
  digit-of-is = ap (λ (l : List ℕ). get_or l 2 32) kind-field

  -- each of its characters may stand on a card
  may : (b : ℕ) → plain b ≡ true → card_byte b ≡ true
  may b h = (clean b h).may

  pub stands : every card_byte (card_of id s) ≡ true
  stands =
      every_append card_byte id (44 ∷ sheet_of s) (every-weaker plain card_byte may id named)
      (rw (marks-stand.0, marks-stand.1.0, marks-stand.1.1.0, may (48 + s.digit) (digit-plain (48 + s.digit) digit))
      (every_append card_byte s.letters (46 ∷ []) p.stands (rw marks-stand.1.1.1)))

  tail : drop (length (body (card_of id s)) + 1) (card_of id s) ≡ []
  tail =
      ap (λ (l : List ℕ). drop (length (body (card_of id s)) + 1) l) fronted
      ∙ ap (λ (l : List ℕ). drop (length l + 1) ((id ++ (44 ∷ 80 ∷ 77 ∷ (48 + s.digit) ∷ 44 ∷ s.letters)) ++ (46 ∷ []))) body_is
      ∙ drop-append-add (id ++ (44 ∷ 80 ∷ 77 ∷ (48 + s.digit) ∷ 44 ∷ s.letters)) (46 ∷ []) 1

  period : has (card_of id s) 46 ≡ true
  period = ap (λ (l : List ℕ). has l 46) fronted ∙ last-period (id ++ (44 ∷ 80 ∷ 77 ∷ (48 + s.digit) ∷ 44 ∷ s.letters))

  comma : has (behind_comma (body (card_of id s))) 44 ≡ true
  comma = ap (λ (l : List ℕ). has l 44) behind-id ∙ or-true (eqb 44 (48 + s.digit))

  well-formed : length (card_of id s) ≤ card_length → pm_malformed (card_of id s) ≡ false
  unfolding pm_malformed
  well-formed h = rw (le-ltb card_length (length (card_of id s)) h, stands, period, tail, comma)

  faultless : length (card_of id s) ≤ card_length → pm_fault (card_of id s) ≡ false
  unfolding pm_fault
  faultless h = rw (well-formed h, letters-is, le-ltb pm_length (length s.letters) p.short)

  pub read_back : ReadBack id s
  unfolding is_pm pm_text
  read_back = record {
    id-is = id-field;
    type-is = kind-field;
    other-type = λ a w n. rw (kind-field, ne_eqb 80 a n);
    pm = rw kind-field;
    number = rw (kind-field, digit);
    digit-is = digit-of-is;
    letters-are = letters-is;
    text-is = rw (digit-of-is, letters-is);
    sheet-is = alike (let k : 48 + s.digit - 48 ≡ s.digit = omega arith in ap (λ (n : ℕ). n - 48) digit-of-is ∙ k) letters-is;
    line = no-lf-tested (card_of id s) (every-weaker card_byte (isnt lf) card-byte-line (card_of id s) stands);
    good = faultless;
  }
