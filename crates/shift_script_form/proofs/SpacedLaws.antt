-- Words with single spaces between them are read as just these words, and every line is its words with single spaces
-- between them. Assumes nothing.
use Prim.Native.Nat.{ℕ, ◌+◌, ◌≤◌}
use mathlib.Core.Path.{◌≡◌, refl, sym, ap, ◌∙◌}
use mathlib.Core.Bool.{true, false}
use mathlib.Core.List.{List, [], ◌∷◌, ◌++◌}
use native.Mathlib.Omega.{arith}
use lib.Dec.{eqb}
use lib.ListN.{length, length-append}
use borrow.Author.Tests.{eqb-true, not-true}
use Rattle.numbers.proofs.Tests.{by_bool, both}
use Rattle.words.specs.Words.{every, isnt}
use Rattle.cards_fields.specs.Fields.{onto}
use Rattle.line_words.specs.Forms.{words_of}
use Rattle.shift_script_form.specs.Written.{spaced}

-- no space in a text
abbrev pub Plain : List ℕ → Type 0
Plain s = every (isnt 32) s ≡ true

abbrev pub AllPlain : List (List ℕ) → Type 0
AllPlain [] = Unit {0}
AllPlain (word ∷ words) = Plain word × AllPlain words

one_word : (w : List ℕ) → Plain w → words_of w ≡ w ∷ []
unfolding words_of
one_word [] p = refl
one_word (b ∷ w) p =
    let q = both (isnt 32 b) (every (isnt 32) w) p in
    rw (not-true (eqb b 32) q.0, one_word w q.1)

word-then : (w t : List ℕ) → Plain w → words_of (w ++ (32 ∷ t)) ≡ w ∷ words_of t
unfolding words_of
word-then [] t p = refl
word-then (b ∷ w) t p =
    let q = both (isnt 32 b) (every (isnt 32) w) p in
    rw (not-true (eqb b 32) q.0, word-then w t q.1)

-- words are read as these words
pub words-spaced : (w : List ℕ) (ws : List (List ℕ)) → Plain w → AllPlain ws → words_of (spaced (w ∷ ws)) ≡ w ∷ ws
words-spaced w [] p a = one_word w p
words-spaced w (v ∷ ws) p a = word-then w (spaced (v ∷ ws)) p ∙ ap (λ (l : List (List ℕ)). w ∷ l) (words-spaced v ws a.0 a.1)

-- a byte in front of the first word
spaced-onto : (b : ℕ) (ws : List (List ℕ)) → spaced (onto b ws) ≡ b ∷ spaced ws
spaced-onto b [] = refl
spaced-onto b (w ∷ []) = refl
spaced-onto b (w ∷ (v ∷ ws)) = refl

-- every line is its words
pub spaced-words : (s : List ℕ) → spaced (words_of s) ≡ s
unfolding words_of
spaced-words [] = refl
spaced-words (b ∷ s) =
    by_bool (eqb b 32)
    (λ t. rw t (first (words_of s) (some s) ∙ ap (λ (l : List ℕ). 32 ∷ l) (spaced-words s) ∙ ap (λ (x : ℕ). x ∷ s) (sym (eqb-true b 32 t))))
    (λ t. rw t (spaced-onto b (words_of s) ∙ ap (λ (l : List ℕ). b ∷ l) (spaced-words s)))
  where
    more : (b : ℕ) (ws : List (List ℕ)) → 1 ≤ length (onto b ws)
    more b [] = omega arith
    more b (w ∷ ws) = omega arith

    some : (s : List ℕ) → 1 ≤ length (words_of s)
    some [] = omega arith
    some (b ∷ s) = by_bool (eqb b 32) (λ t. rw t (omega arith)) (λ t. rw t (more b (words_of s)))

    first : (ws : List (List ℕ)) → 1 ≤ length ws → spaced ([] ∷ ws) ≡ 32 ∷ spaced ws
    first [] h = absurd (omega arith)
    first (w ∷ ws) h = refl

-- and its words have no space
pub words-plain : (s : List ℕ) → AllPlain (words_of s)
unfolding words_of
words-plain [] = (refl, tt)
words-plain (b ∷ s) = by_bool (eqb b 32) (λ t. rw t (refl, words-plain s)) (λ t. rw t (more b t (words_of s) (words-plain s)))
  where
    more : (b : ℕ) → eqb b 32 ≡ false → (ws : List (List ℕ)) → AllPlain ws → AllPlain (onto b ws)
    more b t [] a = (rw t, tt)
    more b t (w ∷ ws) a = (rw (t, a.0), a.1)

-- how long the line of words is at most
abbrev pub total : List (List ℕ) → ℕ
total [] = 0
total (word ∷ words) = length word + 1 + total words

pub spaced-long : (w : List ℕ) (ws : List (List ℕ)) → length (spaced (w ∷ ws)) + 1 ≤ total (w ∷ ws)
spaced-long w [] = omega arith
spaced-long w (v ∷ ws) = omega (arith, length-append w (32 ∷ spaced (v ∷ ws)), spaced-long v ws)

-- and what it starts with
pub spaced-first : (b : ℕ) (w : List ℕ) (ws : List (List ℕ)) → spaced ((b ∷ w) ∷ ws) ≡ b ∷ spaced (w ∷ ws)
spaced-first b w [] = refl
spaced-first b w (v ∷ ws) = refl
