-- The words of a message one piece further, and its digits: what the code's two loops keep. And what the tests on a
-- word and a field come to. Assumes nothing.
use Prim.Native.Nat.{ℕ, zero, suc, min, ◌+◌, ◌-◌, ◌*◌, ◌≤◌, ◌<◌}
use mathlib.Core.Path.{◌≡◌, refl, sym, ap, ◌∙◌}
use mathlib.Core.Bool.{Bool, true, false}
use mathlib.Core.List.{List, [], ◌∷◌}
use native.Mathlib.Omega.{arith}
use lib.Dec.{eqb, ltb, leb}
use lib.ListN.{length, get_or, drop, take, length-drop}
use lib.Seq.{length-take-le}
use borrow.Author.Tests.{eq-eqb, ne_eqb, lt-ltb, le-ltb, le-leb, lt-leb, ltb-true, leb-true, leb-false}
use Rattle.numbers.proofs.Tests.{by_bool}
use Rattle.text.specs.Class.{is_digit}
use Rattle.words.specs.Words.{every, same, value, value_from}
use Rattle.words.proofs.WordLaws.{value-step}
use Rattle.cards_fields.proofs.DeckLaws.{part-is}
use Rattle.line_words.specs.Forms as Forms
use Rattle.line_words.proofs.SplitLaws.{Word}
use Rattle.cards_fields.proofs.FieldLaws.{rest-is}
use Rattle.keyboard.specs.Messages.{filled, is_message, number_field, message_words}
use Rattle.std.specs.Prelude.{Ok, Err}
use Rattle.keyboard.specs.declared.Fault.{Fault}
use Rattle.keyboard.specs.declared.Fault.TheVariants.{NoLength, NotADigit}

-- ---- words

filled-some : (w : List ℕ) (ws : List (List ℕ)) → 0 < length w → filled (w ∷ ws) ≡ w ∷ filled ws
filled-some w ws h = rw (lt-ltb 0 (length w) h)

filled_none : (w : List ℕ) (ws : List (List ℕ)) → length w ≤ 0 → filled (w ∷ ws) ≡ filled ws
filled_none w ws h = rw (le-ltb 0 (length w) h)

-- the words from a position on
abbrev pub from : List ℕ → ℕ → List (List ℕ)
from s at = filled (Forms.words_of (drop at s))

module _ (s : List ℕ) (at len left : ℕ) (w : Word s at len) where
  long : length (take len (drop at s)) ≡ len
  long = length-take-le len (drop at s) (omega (arith, w.most, length-drop at s))

  pub at_here : 0 < len → left ≡ 0 → take (at + len - at) (drop at s) ≡ get_or (from s at) left []
  at_here h z = part-is s at len ∙ rw (w.first, filled-some (take len (drop at s)) w.rest (omega (arith, long)), z)

  -- a word passed, or a piece that is none: the word asked for is the one at `next` of those behind it
  pub passed : (next : ℕ) → 0 < len → (left ≡ 0 → ⊥) → next ≡ left - 1 → get_or (filled w.rest) next [] ≡ get_or (from s at) left []
  passed next h n e = rw (w.first, filled-some (take len (drop at s)) w.rest (omega (arith, long)), e) (later left n)
    where
      later : (k : ℕ) → (k ≡ 0 → ⊥) → get_or (filled w.rest) (k - 1) [] ≡ get_or (take len (drop at s) ∷ filled w.rest) k []
      later zero n = absurd (n refl)
      later (suc k) n = let p : suc k - 1 ≡ k = omega arith in rw p

  pub passed_none : (next : ℕ) → len ≤ 0 → next ≡ left → get_or (filled w.rest) next [] ≡ get_or (from s at) left []
  passed_none next h e = rw (w.first, filled_none (take len (drop at s)) w.rest (omega (arith, long)), e)

  -- there are no more, or they are those behind the space
  module _ (next : ℕ) (is : get_or (filled w.rest) next [] ≡ get_or (from s at) left []) where
    pub at_none : at + len ≡ length s → [] ≡ get_or (from s at) left []
    at_none e = none next ∙ ap (λ (ws : List (List ℕ)). get_or (filled ws) next []) (sym (w.last (omega arith))) ∙ is
      where
        none : (k : ℕ) → ◌≡◌ {A = List ℕ} [] (get_or [] k [])
        none zero = refl
        none (suc k) = refl

    pub at-later : (at + len ≡ length s → ⊥) → get_or (from s (at + len + 1)) next [] ≡ get_or (from s at) left []
    at-later n = ap (λ (ws : List (List ℕ)). get_or (filled ws) next []) (sym (w.more (omega (arith, w.most)))) ∙ is

-- ---- digits

-- a number only grows by the digits behind it
pub value_grows : (n : ℕ) (s : List ℕ) → n ≤ value_from n s
value_grows n [] = omega arith
value_grows n (b ∷ s) = omega (arith, value_grows (n * 10 + (b - 48)) s)

-- one digit further, and where the number is past 15
module _ (s : List ℕ) (i n : ℕ) (is : value_from n (drop i s) ≡ value s) (h : i < length s) where
  pub value_on : value_from (n * 10 + (get_or s i 0 - 48)) (drop (i + 1) s) ≡ value s
  value_on = sym (value-step s i n h) ∙ is

  pub value-over : 15 < n * 10 + (get_or s i 0 - 48) → 16 ≡ min (value s) 16
  value-over k = omega (arith, value_grows (n * 10 + (get_or s i 0 - 48)) (drop (i + 1) s), value_on)

pub suc-leb : (a b : ℕ) → leb (suc a) (suc b) ≡ leb a b
suc-leb a b =
    by_bool (leb a b)
    (λ t. le-leb (suc a) (suc b) (omega (arith, leb-true a b t)) ∙ sym t)
    (λ t. lt-leb (suc a) (suc b) (omega (arith, leb-false a b t)) ∙ sym t)

-- no word is empty, so that the word at an index is empty just where there are at most so many
pub no_more : (ws : List (List ℕ)) (k : ℕ) → eqb (length (get_or (filled ws) k [])) 0 ≡ leb (length (filled ws)) k
no_more [] zero = refl
no_more [] (suc k) = sym (le-leb 0 (suc k) (omega arith))
no_more (w ∷ ws) k = by_bool (ltb 0 (length w)) (λ t. rw t (here k t (no_more ws))) (λ t. rw t (no_more ws k))
  where
    here : (k : ℕ) → ltb 0 (length w) ≡ true → ((j : ℕ) → eqb (length (get_or (filled ws) j [])) 0 ≡ leb (length (filled ws)) j)
        → eqb (length (get_or (w ∷ filled ws) k [])) 0 ≡ leb (suc (length (filled ws))) k
    here zero t ih = ne_eqb (length w) 0 (λ z. omega (arith, ltb-true 0 (length w) t)) ∙ sym (lt-leb (suc (length (filled ws))) 0 (omega arith))
    here (suc k) t ih = ih k ∙ sym (suc-leb (length (filled ws)) k)

-- the message word, and the words behind it
module _ (s mc first : List ℕ) (most : ℕ) (is : first ≡ get_or (message_words s) 0 []) where
  pub other_word : same first mc ≡ false → false ≡ is_message mc most (message_words s)
  unfolding is_message
  other_word e = rw (← is, e)

  pub this-word : same first mc ≡ true → (after : List ℕ) → after ≡ get_or (message_words s) most []
      → eqb (length after) 0 ≡ is_message mc most (message_words s)
  unfolding is_message message_words
  this-word e after a = ap (λ (w : List ℕ). eqb (length w) 0) a ∙ no_more (Forms.words_of s) most ∙ rw (← is, e)

-- ---- fields

-- what stands behind a field's letter
abbrev behind : List ℕ → List ℕ
behind field = take (length field - 1) (drop 1 field)

module _ (letter : ℕ) (large : Fault) (field : List ℕ) where
  pub field-short : length field ≤ 1 → Err NoLength ≡ number_field letter large field
  unfolding number_field
  field-short h = rw (le-leb (length field) 1 h)

  module _ (h : 1 < length field) (first : ℕ) (is : first ≡ get_or field 0 0) where
    pub field-other : (first ≡ letter → ⊥) → Err NoLength ≡ number_field letter large field
    unfolding number_field
    field-other n = rw (lt-leb (length field) 1 h, ← is, ne_eqb first letter n)

    module _ (e : first ≡ letter) where
      digits_are : (b : Bool) → every is_digit (behind field) ≡ b → every is_digit (drop 1 field) ≡ b
      digits_are b k = ap (every is_digit) (sym (rest-is field 1)) ∙ k

      pub field-nondigit : every is_digit (behind field) ≡ false → Err NotADigit ≡ number_field letter large field
      unfolding number_field
      field-nondigit k = rw (lt-leb (length field) 1 h, ← is, eq-eqb first letter e, digits_are false k)

      module _ (k : every is_digit (behind field) ≡ true) (n : ℕ) (m : n ≡ min (value (behind field)) 16) where
        small : n ≡ min (value (drop 1 field)) 16
        small = m ∙ ap (λ (s : List ℕ). min (value s) 16) (rest-is field 1)

        pub field-large : 15 < n → Err large ≡ number_field letter large field
        unfolding number_field
        field-large l =
            rw (
              lt-leb (length field) 1 h,
              ← is,
              eq-eqb first letter e,
              digits_are true k,
              lt-ltb 15 (value (drop 1 field)) (omega (arith, small)),
            )

        pub field_is : n ≤ 15 → Ok n ≡ number_field letter large field
        unfolding number_field
        field_is l =
            let v : n ≡ value (drop 1 field) = omega (arith, small) in
            rw (lt-leb (length field) 1 h, ← is, eq-eqb first letter e, digits_are true k, le-ltb 15 (value (drop 1 field)) (omega arith)) (ap (λ (m : ℕ). Ok m) v)
