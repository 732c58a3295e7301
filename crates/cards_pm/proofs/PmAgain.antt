-- A PM CARD THAT WAS READ holds a digit and a text that can be written, no longer than it was. Assumes nothing.
use Prim.Native.Nat.{ℕ, zero, suc, ◌+◌, ◌-◌, ◌≤◌, ◌<◌}
use mathlib.Core.Path.{◌≡◌, refl, sym, ap, ◌∙◌}
use mathlib.Core.Bool.{Bool, true, false, ◌&&◌, not}
use mathlib.Core.List.{List, [], ◌∷◌, ◌++◌}
use native.Mathlib.Omega.{arith}
use lib.Dec.{eqb, ltb}
use lib.ListN.{length, get_or, take, drop, length-append, length-drop}
use borrow.Author.Tests.{eqb-true, eqb-false, ne_eqb, ltb-true, ltb-false, not-false}
use Rattle.numbers.specs.Quoted.{byte, bytes}
use Rattle.numbers.proofs.Tests.{by_bool, never, both}
use Rattle.numbers.specs.Limits.{card_length, pm_length}
use Rattle.text.specs.Class.{is_digit}
use Rattle.text.proofs.ClassLaws.{digit-bounds}
use Rattle.words.specs.Words.{every, has, isnt, leading}
use Rattle.cards_fields.specs.Fields.{field, card_byte, pieces, up_to_period, raw_field}
use Rattle.cards_fields.proofs.FieldLaws.{spaceless-short}
use Rattle.cards_fields.proofs.PartLaws.{pieces_more, pieces-last}
use Rattle.cards_fields.proofs.SpaceLaws.{raw-spaceless}
use Rattle.cards_pm.specs.Pm.{numbered, digit_of, body, behind_comma, letters, pm_malformed, pm_fault, pm_text}
use Rattle.cards_pm.specs.Sheets.{Proper, sheet_of}
use Rattle.cards_pm.proofs.PmLaws.{body-none, body-shorter, body-front}
use Rattle.cards_fields.proofs.RoundLaws.{neither}
use Rattle.cards_pm.proofs.PmReadBack.{sheet_in}

-- parts of a text of which every character passes
every_drop : (q : ℕ → Bool) (n : ℕ) (s : List ℕ) → every q s ≡ true → every q (drop n s) ≡ true
every_drop q zero s h = h
every_drop q (suc n) [] h = refl
every_drop q (suc n) (b ∷ s) h = every_drop q n s (both (q b) (every q s) h).1

every_take : (q : ℕ → Bool) (n : ℕ) (s : List ℕ) → every q s ≡ true → every q (take n s) ≡ true
every_take q zero s h = refl
every_take q (suc n) [] h = refl
every_take q (suc n) (b ∷ s) h = let r = both (q b) (every q s) h in rw r.0 (every_take q n s r.1)

-- a text with more behind it has no fewer characters before its first comma, nor between its first two
lead-grows : (q : ℕ → Bool) (s t : List ℕ) → length (leading q s) ≤ length (leading q (s ++ t))
lead-grows q [] t = omega arith
lead-grows q (b ∷ s) t = by_bool (q b) (λ e. rw e (omega (arith, lead-grows q s t))) (λ e. rw e (omega arith))

behind-here : (b : ℕ) (s : List ℕ) → eqb b 44 ≡ true → behind_comma (b ∷ s) ≡ s
behind-here b s e = rw e

behind-on : (b : ℕ) (s : List ℕ) → eqb b 44 ≡ false → behind_comma (b ∷ s) ≡ behind_comma s
behind-on b s e = let k : suc (length (leading (isnt 44) s)) + 1 ≡ suc (length (leading (isnt 44) s) + 1) = omega arith in rw (e, k)

behind-grows : (s t : List ℕ) → length (leading (isnt 44) (behind_comma s)) ≤ length (leading (isnt 44) (behind_comma (s ++ t)))
behind-grows [] t = omega arith
behind-grows (b ∷ s) t =
    by_bool (eqb b 44)
    (λ e. rw (behind-here b s e, behind-here b (s ++ t) e) (lead-grows (isnt 44) s t))
    (λ e. rw (behind-on b s e, behind-on b (s ++ t) e) (behind-grows s t))

-- the first two pieces
first-size : (s : List ℕ) → length (get_or (pieces 44 s) 0 []) ≤ length (leading (isnt 44) s)
first-size s =
    by_bool (ltb (length (leading (isnt 44) s)) (length s))
    (λ t. rw (pieces_more 44 s (ltb-true (length (leading (isnt 44) s)) (length s) t)) (omega arith))
    (λ t. rw (pieces-last 44 s (ltb-false (length (leading (isnt 44) s)) (length s) t)) (ltb-false (length (leading (isnt 44) s)) (length s) t))

second-size : (s : List ℕ) → length (get_or (pieces 44 s) 1 []) ≤ length (leading (isnt 44) (behind_comma s))
second-size s =
    by_bool (ltb (length (leading (isnt 44) s)) (length s))
    (λ t.
    let k : suc (length (leading (isnt 44) s)) ≡ length (leading (isnt 44) s) + 1 = omega arith in
    rw (pieces_more 44 s (ltb-true (length (leading (isnt 44) s)) (length s) t), k) (first-size (behind_comma s)))
    (λ t. rw (pieces-last 44 s (ltb-false (length (leading (isnt 44) s)) (length s) t)) (omega arith))

-- what stands before the first period begins what stands before the last
body-begins : (s : List ℕ) → body s ≡ up_to_period s ++ drop (length (up_to_period s)) (body s)
body-begins [] = refl
body-begins (b ∷ s) =
    by_bool (eqb b 46) (λ e. rw e)
    (λ e. by_bool (has s 46)
    (λ h. rw (e, h) (ap (λ (l : List ℕ). b ∷ l) (body-begins s)))
    (λ h. rw (e, h) (ap (λ (l : List ℕ). b ∷ l) (rw (body-none s h) at (body-begins s)))))

-- a field has no more characters than the part of the card that it is read from
field-first : (card : List ℕ) → length (field card 0) ≤ length (leading (isnt 44) (body card))
field-first card =
    let g : length (leading (isnt 44) (up_to_period card)) ≤ length (leading (isnt 44) (body card)) =
    rw (body-begins card) (lead-grows (isnt 44) (up_to_period card) (drop (length (up_to_period card)) (body card))) in
    omega (arith, g, first-size (up_to_period card), spaceless-short (raw_field card 0), ap length (raw-spaceless card 0))

field-second : (card : List ℕ) → length (field card 1) ≤ length (leading (isnt 44) (behind_comma (body card)))
field-second card =
    let g : length (leading (isnt 44) (behind_comma (up_to_period card))) ≤ length (leading (isnt 44) (behind_comma (body card))) =
    rw (body-begins card) (behind-grows (up_to_period card) (drop (length (up_to_period card)) (body card))) in
    omega (arith, g, second-size (up_to_period card), spaceless-short (raw_field card 1), ap length (raw-spaceless card 1))

-- a text with a comma: what stands before it, the comma, and what stands behind it
lead-shorter : (s : List ℕ) → has s 44 ≡ true → length (leading (isnt 44) s) < length s
lead-shorter [] h = never h refl
lead-shorter (b ∷ s) h =
    by_bool (eqb b 44) (λ e. rw e (omega arith))
    (λ e. rw e (let i : has s 44 ≡ true = later e in omega (arith, lead-shorter s i)))
  where
    later : eqb b 44 ≡ false → has s 44 ≡ true
    later e = let n : eqb 44 b ≡ false = ne_eqb 44 b (λ q. eqb-false b 44 e (sym q)) in rw n at h

has_some : (s : List ℕ) (b : ℕ) → has s b ≡ true → 1 ≤ length s
has_some [] b h = never h refl
has_some (x ∷ s) b h = omega arith

behind-length : (s : List ℕ) → length (behind_comma s) ≡ length s - (length (leading (isnt 44) s) + 1)
behind-length s = length-drop (length (leading (isnt 44) s) + 1) s

third-same : (t : List ℕ) → length t ≡ 3 → get_or t 2 0 ≡ get_or t 2 32
third-same [] h = absurd (omega (arith, h))
third-same (x ∷ []) h = absurd (omega (arith, h))
third-same (x ∷ y ∷ []) h = absurd (omega (arith, h))
third-same (x ∷ y ∷ z ∷ t) h = refl

-- A CARD THAT WAS READ, WRITTEN: as what it holds, and no longer than it was
pub record Held (card : List ℕ) : Type 0 where
  pub proper : Proper (sheet_in card)
  pub digit-is : digit_of card ≡ byte "0" + (sheet_in card).digit
  pub text-is : pm_text card ≡ sheet_of (sheet_in card)
  pub no_longer : length (pm_text card) + 1 + length (field card 0) ≤ length card

module _ (card : List ℕ) (number : numbered card ≡ true) (good : pm_fault card ≡ false) where
  kept : (pm_malformed card ≡ false) × (ltb pm_length (length (letters card)) ≡ false)
  unfolding pm_fault
  kept = neither (pm_malformed card) (ltb pm_length (length (letters card))) good

  form : (every card_byte card ≡ true) × ((has card 46 ≡ true) × (has (behind_comma (body card)) 44 ≡ true))
  unfolding pm_malformed
  form =
      let a = neither (ltb card_length (length card))
      (not (every card_byte card && (has card 46
      && (every (has (bytes " ")) (drop (length (body card) + 1) card) && has (behind_comma (body card)) 44))))
      kept.0 in
      let b = not-false (every card_byte card
      && (has card 46 && (every (has (bytes " ")) (drop (length (body card) + 1) card) && has (behind_comma (body card)) 44)))
      a.1 in
      let c = both (every card_byte card)
      (has card 46 && (every (has (bytes " ")) (drop (length (body card) + 1) card) && has (behind_comma (body card)) 44)) b in
      let d = both (has card 46) (every (has (bytes " ")) (drop (length (body card) + 1) card) && has (behind_comma (body card)) 44) c.1 in
      let e = both (every (has (bytes " ")) (drop (length (body card) + 1) card)) (has (behind_comma (body card)) 44) d.1 in
      (c.0, (d.0, e.1))

  numbers : (length (field card 1) ≡ 3) × (is_digit (digit_of card) ≡ true)
  unfolding digit_of
  numbers =
      let q = both (eqb (length (field card 1)) 3) (is_digit (get_or (field card 1) 2 0)) number in
      let l = eqb-true (length (field card 1)) 3 q.0 in
      (l, ap is_digit (sym (third-same (field card 1) l)) ∙ q.1)

  letters-stand : every card_byte (letters card) ≡ true
  unfolding letters
  letters-stand =
      let b : every card_byte (body card) ≡ true =
      ap (every card_byte) (sym (body-front card)) ∙ every_take card_byte (length (body card)) card form.0 in
      every_drop card_byte (length (leading (isnt 44) (behind_comma (body card))) + 1) (behind_comma (body card))
      (every_drop card_byte (length (leading (isnt 44) (body card)) + 1) (body card) b)

  room : length (letters card) + 6 + length (field card 0) ≤ length card
  unfolding letters
  room =
      omega (
        arith,
        body-shorter card form.1.0,
        behind-length (body card),
        behind-length (behind_comma (body card)),
        has_some (behind_comma (body card)) 44 form.1.1,
        lead-shorter (behind_comma (body card)) form.1.1,
        field-first card,
        field-second card,
        numbers.0,
      )

  pub held : Held card
  unfolding pm_text
  held =
      let b = digit-bounds (digit_of card) numbers.1 in
      let d : digit_of card ≡ 48 + (digit_of card - 48) = omega (arith, b) in
      record {
        proper = record { one = omega (arith, b); short = ltb-false pm_length (length (letters card)) kept.1; stands = letters-stand };
        digit-is = d;
        text-is = ap (λ (n : ℕ). 80 ∷ 77 ∷ n ∷ 44 ∷ (letters card ++ (46 ∷ []))) d;
        no_longer = omega (arith, room, length-append (letters card) (46 ∷ []));
      }
