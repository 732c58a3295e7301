-- READING UNDOES WRITING, and an unknown message is found first: what the page Typed says. A written message is words
-- with a space before each but the first, and two digits are a number. Assumes nothing.
use Prim.Native.Nat.{ℕ, suc, ◌+◌, ◌/◌, ◌%◌, ◌≤◌, ◌<◌}
use mathlib.Core.Path.{◌≡◌, refl, sym, ap, ◌∙◌}
use mathlib.Core.Bool.{Bool, true, false, not, ◌||◌}
use mathlib.Core.List.{List, [], ◌∷◌, ◌++◌}
use native.Mathlib.Omega.{arith}
use lib.Dec.{eqb, leb}
use lib.ListN.{length, get_or}
use borrow.Author.Tests.{eq-eqb, ne_eqb, le-leb, le-ltb, lt-ltb, not-true}
use Rattle.numbers.proofs.Tests.{by_bool, never, both, or-false}
use Rattle.numbers.specs.Quoted.{bytes}
use Rattle.text.specs.Class.{is_digit}
use Rattle.text.specs.Writing.{two_text}
use Rattle.words.specs.Words.{every, isnt, same, value}
use Rattle.line_words.specs.Forms as Forms
use Rattle.line_words.specs.Forms.{IsWord}
use Rattle.words.proofs.WordLaws.{same-equal}
use Rattle.keyboard.proofs.MessageLaws.{suc-leb}
use Rattle.keyboard.specs.Messages.{channel_then, is_message, message_of, number_field, on_request, on_unit, read_message, saying, message_words}
use Rattle.keyboard.specs.Typed.{FirstOfAll, ReadBack, fields_of, known, unit_text, within}
use Rattle.keyboard.specs.declared.Asked.{Asked}
use Rattle.keyboard.specs.declared.Asked.TheVariants.{Unknown, Wrong, Mark, Release, Delete}
use Rattle.std.specs.Prelude.{Result, Ok, Err}
use Rattle.keyboard.specs.declared.Fault.{Fault}
use Rattle.keyboard.specs.declared.Word.{Word as MessageWord}
use Rattle.keyboard.specs.declared.Word.TheVariants.{Dwn, Avl, Sel, Del}

-- ---- the words of a written message

abbrev Plain : List ℕ → Type 0
Plain s = every (isnt 32) s ≡ true

no-space : (b : ℕ) (s : List ℕ) → Plain (b ∷ s) → (eqb b 32 ≡ false) × Plain s
no-space b s p = let q = both (isnt 32 b) (every (isnt 32) s) p in (not-true (eqb b 32) q.0, q.1)

-- a plain text is one word, and before a space it is the first
one : (s : List ℕ) → Plain s → Forms.words_of s ≡ s ∷ []
unfolding Forms.words_of
one [] p = refl
one (b ∷ s) p = let q = no-space b s p in rw (q.0, one s q.1)

first : (s t : List ℕ) → Plain s → Forms.words_of (s ++ (32 ∷ t)) ≡ s ∷ Forms.words_of t
unfolding Forms.words_of
first [] t p = refl
first (b ∷ s) t p = let q = no-space b s p in rw (q.0, first s t q.1)

last_word : (s : List ℕ) → 0 < length s → Plain s → message_words s ≡ s ∷ []
unfolding message_words
last_word s h p = rw (one s p, lt-ltb 0 (length s) h)

next_word : (s t : List ℕ) → 0 < length s → Plain s → message_words (s ++ (32 ∷ t)) ≡ s ∷ message_words t
unfolding message_words
next_word s t h p = rw (first s t p, lt-ltb 0 (length s) h)

-- ---- a field of two digits

module _ (n : ℕ) (h : n ≤ 15) where
  digit : (d : ℕ) → d ≤ 9 → (is_digit (48 + d) ≡ true) × (isnt 32 (48 + d) ≡ true)
  unfolding is_digit
  digit d k = (rw (le-leb 48 (48 + d) (omega arith), le-leb (48 + d) 57 (omega arith)), rw (ne_eqb (48 + d) 32 (λ e. omega arith)))

  tens : n / 10 ≤ 9
  tens = omega arith

  ones : n % 10 ≤ 9
  ones = omega arith

  field_plain : (letter : ℕ) → isnt 32 letter ≡ true → Plain (letter ∷ two_text n)
  field_plain letter l = rw (l, (digit (n / 10) tens).1, (digit (n % 10) ones).1)

  two-value : value (two_text n) ≡ n
  two-value = omega arith

  field_back : (letter : ℕ) (large : Fault) → number_field letter large (letter ∷ two_text n) ≡ Ok n
  unfolding number_field
  field_back letter large =
      rw (eq-eqb letter letter refl, (digit (n / 10) tens).0, (digit (n % 10) ones).0, two-value, le-ltb 15 n h)

-- ---- READ BACK

unit-words : (mc : List ℕ) (c u : ℕ) → 0 < length mc → Plain mc → c ≤ 15 → u ≤ 15
    → message_words (mc ++ unit_text c u) ≡ mc ∷ (67 ∷ two_text c) ∷ (85 ∷ two_text u) ∷ []
unit-words mc c u l p h k =
    next_word mc ((67 ∷ two_text c) ++ (32 ∷ (85 ∷ two_text u))) l p
    ∙ ap (λ (ws : List (List ℕ)). mc ∷ ws)
    (next_word (67 ∷ two_text c) (85 ∷ two_text u) (omega arith) (field_plain c h 67 refl)
    ∙ ap (λ (ws : List (List ℕ)). (67 ∷ two_text c) ∷ ws) (last_word (85 ∷ two_text u) (omega arith) (field_plain u k 85 refl)))

unit-back : (word : MessageWord) (on : Bool) (mc : List ℕ) (c u : ℕ) → c ≤ 15 → u ≤ 15
    → on_unit word on (mc ∷ (67 ∷ two_text c) ∷ (85 ∷ two_text u) ∷ []) ≡ Mark (record { 0 = c }) (record { 0 = u }) on
unfolding on_unit
unit-back word on mc c u h k = rw (field_back c h 67, field_back u k 85)

request-words : (mc id : List ℕ) → 0 < length mc → Plain mc → IsWord id → message_words (mc ++ (32 ∷ id)) ≡ mc ∷ id ∷ []
request-words mc id l p w = next_word mc id l p ∙ ap (λ (ws : List (List ℕ)). mc ∷ ws) (last_word id w.some w.plain)

request-back : (word : MessageWord) (call : Asked) (mc id : List ℕ) → IsWord id → on_request word call (mc ∷ id ∷ []) ≡ call
unfolding on_request
request-back word call mc id w = rw (ne_eqb (length id) 0 (λ e. omega (arith, w.some)))

pub read_back : ReadBack
unfolding message_of is_message
read_back Unknown id h = absurd h
read_back (Wrong word fault) id h = absurd h
read_back (Mark channel unit true) id h =
    rw (
      h.0,
      unit-words (bytes "DWN") channel.0 unit.0 (omega arith) refl h.1 h.2,
      unit-back Dwn true (bytes "DWN") channel.0 unit.0 h.1 h.2,
    )
read_back (Mark channel unit false) id h =
    rw (
      h.0,
      unit-words (bytes "AVL") channel.0 unit.0 (omega arith) refl h.1 h.2,
      unit-back Avl false (bytes "AVL") channel.0 unit.0 h.1 h.2,
    )
read_back Release id h = rw (request-words (bytes "SEL") id (omega arith) refl h, request-back Sel Release (bytes "SEL") id h)
read_back Delete id h = rw (request-words (bytes "DEL") id (omega arith) refl h, request-back Del Delete (bytes "DEL") id h)

-- ---- unknown messages

abbrev pub is_known : Asked → Bool
is_known Unknown = false
is_known (Wrong word fault) = true
is_known (Mark channel unit on) = true
is_known Release = true
is_known Delete = true

known-unit : (word : MessageWord) (on : Bool) (words : List (List ℕ)) → is_known (on_unit word on words) ≡ true
unfolding on_unit
known-unit word on words = by (number_field 67 Fault.ChannelTooLarge (get_or words 1 [])) (number_field 85 Fault.UnitTooLarge (get_or words 2 []))
  where
    by : (a b : Result ℕ Fault) → is_known (channel_then word on a b) ≡ true
    by (Ok c) (Ok u) = refl
    by (Ok c) (Err fault) = refl
    by (Err fault) b = refl

known-request : (word : MessageWord) (call : Asked) (words : List (List ℕ)) → is_known call ≡ true → is_known (on_request word call words) ≡ true
unfolding on_request
known-request word call words k = by_bool (eqb (length (get_or words 1 [])) 0) (λ t. rw t refl) (λ t. rw t k)

-- the reader's four tests, of the message word and the fields behind it
module _ (word : List ℕ) (fields : List (List ℕ)) where
  abbrev test : List ℕ → ℕ → Bool
  test mc most = is_message mc most (word ∷ fields)

  is_word : (mc : List ℕ) (n : ℕ) → same word mc ≡ true → test mc (suc n) ≡ leb (length fields) n
  unfolding is_message
  is_word mc n e = rw e (suc-leb (length fields) n)

  no_word : (mc : List ℕ) (n : ℕ) → same word mc ≡ false → test mc n ≡ false
  unfolding is_message
  no_word mc n e = rw e

  -- a message word is no other one
  other : (mc not : List ℕ) (n : ℕ) → same word mc ≡ true → same mc not ≡ false → test not n ≡ false
  other mc not n e d = no_word not n (ap (λ (w : List ℕ). same w not) (same-equal word mc e) ∙ d)

  abbrev tests : Bool
  tests = test (bytes "DWN") 3 || (test (bytes "AVL") 3 || (test (bytes "SEL") 2 || test (bytes "DEL") 2))

  -- together they say that the message is known
  known-tests : tests ≡ within (fields_of word) fields
  unfolding fields_of
  known-tests =
      by_bool (same word (bytes "DWN"))
      (λ a. rw (
        is_word (bytes "DWN") 2 a,
        other (bytes "DWN") (bytes "AVL") 3 a refl,
        other (bytes "DWN") (bytes "SEL") 2 a refl,
        other (bytes "DWN") (bytes "DEL") 2 a refl,
        a,
      )
      (or-false (leb (length fields) 2)))
      (λ a. by_bool (same word (bytes "AVL"))
      (λ b. rw (
        no_word (bytes "DWN") 3 a,
        is_word (bytes "AVL") 2 b,
        other (bytes "AVL") (bytes "SEL") 2 b refl,
        other (bytes "AVL") (bytes "DEL") 2 b refl,
        a,
        b,
      )
      (or-false (leb (length fields) 2)))
      (λ b. by_bool (same word (bytes "SEL"))
      (λ e. rw (
        no_word (bytes "DWN") 3 a,
        no_word (bytes "AVL") 3 b,
        is_word (bytes "SEL") 1 e,
        other (bytes "SEL") (bytes "DEL") 2 e refl,
        a,
        b,
        e,
      )
      (or-false (leb (length fields) 1)))
      (λ e. by_bool (same word (bytes "DEL"))
      (λ f. rw (no_word (bytes "DWN") 3 a, no_word (bytes "AVL") 3 b, no_word (bytes "SEL") 2 e, is_word (bytes "DEL") 1 f, a, b, e, f))
      (λ f. rw (no_word (bytes "DWN") 3 a, no_word (bytes "AVL") 3 b, no_word (bytes "SEL") 2 e, no_word (bytes "DEL") 2 f, a, b, e, f)))))

-- where one of them holds the message is read as known, and where none does as unknown
read_known : (ws : List (List ℕ))
    → is_message (bytes "DWN") 3 ws || (is_message (bytes "AVL") 3 ws || (is_message (bytes "SEL") 2 ws || is_message (bytes "DEL") 2 ws))
    ≡ is_known (message_of ws).asks
unfolding message_of
read_known ws =
    by_bool (is_message (bytes "DWN") 3 ws) (λ a. rw a (sym (known-unit Dwn true ws)))
    (λ a. by_bool (is_message (bytes "AVL") 3 ws) (λ b. rw (a, b) (sym (known-unit Avl false ws)))
    (λ b. by_bool (is_message (bytes "SEL") 2 ws) (λ e. rw (a, b, e) (sym (known-request Sel Release ws refl)))
    (λ e. by_bool (is_message (bytes "DEL") 2 ws) (λ f. rw (a, b, e, f) (sym (known-request Del Delete ws refl)))
    (λ f. rw (a, b, e, f) refl))))

known-words : (ws : List (List ℕ)) → known ws ≡ is_known (message_of ws).asks
unfolding message_of is_message
known-words [] = refl
known-words (word ∷ fields) = sym (known-tests word fields) ∙ read_known (word ∷ fields)

-- a message is known exactly if it is not read as unknown
pub known_by : (message : List ℕ) → known (message_words message) ≡ is_known (read_message message).asks
known_by message = known-words (message_words message)

-- FOUND BEFORE EVERYTHING ELSE
none-known : (ws : List (List ℕ)) → is_known (message_of ws).asks ≡ false → message_of ws ≡ saying Unknown []
unfolding message_of
none-known ws k =
    by_bool (is_message (bytes "DWN") 3 ws) (λ a. never (known-unit Dwn true ws) (rw a at k))
    (λ a. by_bool (is_message (bytes "AVL") 3 ws) (λ b. never (known-unit Avl false ws) (rw (a, b) at k))
    (λ b. by_bool (is_message (bytes "SEL") 2 ws) (λ e. never (known-request Sel Release ws refl) (rw (a, b, e) at k))
    (λ e. by_bool (is_message (bytes "DEL") 2 ws) (λ f. never (known-request Del Delete ws refl) (rw (a, b, e, f) at k))
    (λ f. rw (a, b, e, f) refl))))

pub first-of-all : FirstOfAll
first-of-all message = (λ k. none-known (message_words message) (sym (known_by message) ∙ k), λ e. known_by message ∙ ap is_known e)
