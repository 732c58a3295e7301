-- A field gathered byte by byte is the field; and a card from a position on, one byte further: what its fields and
-- its form then are. Assumes nothing.
use Prim.Native.Nat.{ℕ, zero, suc, ◌+◌, ◌-◌, ◌≤◌, ◌<◌}
use mathlib.Core.Path.{◌≡◌, refl, sym, ap, ◌∙◌}
use mathlib.Core.Bool.{Bool, true, false, cond, not, ◌&&◌, ◌||◌}
use mathlib.Core.Logic.{◌⊎◌, inl, inr, ⊎_elim}
use mathlib.Core.List.{List, [], ◌∷◌, ◌++◌, append_assoc, append-nil}
use native.Mathlib.Nat.{eq-zero-or-pos, le_of_suc-le-suc}
use native.Mathlib.Omega.{arith}
use lib.Dec.{eqb, ltb}
use lib.ListN.{length, get_or, drop, take, set, drop_of_length-le, length-drop, length-append}
use lib.Seq.{take_all}
use borrow.Author.Tests.{ltb-true, ltb-false, eq-eqb, ne_eqb, eqb-true, eqb-false, le-ltb, lt-ltb, le-leb, lt-leb}
use Rattle.numbers.proofs.Tests.{by_bool}
use Rattle.numbers.specs.Limits.{card_length}
use Rattle.words.specs.Words.{every, has, isnt, leading, same}
use Rattle.words.proofs.WordLaws.{drop-step, and-false, same-long}
use Rattle.cards_fields.specs.Fields.{fields, field, field_is, field_of, pieces, spaceless, up_to_period, onto, padded, closed, card_byte, malformed}
use Rattle.cards_fields.specs.declared.Field.{Field}
use Rattle.cards_fields.specs.FieldBytes.{added, pushed}

-- a field with a text behind it
abbrev pub added_all : Field → List ℕ → Field
added_all f [] = f
added_all f (b ∷ t) = added_all (added f b) t

pub set-padded : (w : ℕ) (s : List ℕ) (b : ℕ) → set (padded w s) (length s) b ≡ padded w (s ++ (b ∷ []))
set-padded zero s b = refl
set-padded (suc w) [] b = refl
set-padded (suc w) (x ∷ s) b = ap (λ (l : List ℕ). x ∷ l) (set-padded w s b)

pub full-padded : (w : ℕ) (s t : List ℕ) → w ≤ length s → padded w s ≡ padded w (s ++ t)
full-padded zero s t h = refl
full-padded (suc w) [] t h = absurd (omega arith)
full-padded (suc w) (x ∷ s) t h = ap (λ (l : List ℕ). x ∷ l) (full-padded w s t (le_of_suc-le-suc h))

more-padded : (w : ℕ) (s : List ℕ) (b : ℕ) → cond (ltb (length s) w) (set (padded w s) (length s) b) (padded w s) ≡ padded w (s ++ (b ∷ []))
more-padded w s b =
    ⊎_elim (λ z. rw (lt-ltb (length s) w (omega arith)) (set-padded w s b))
    (λ p. rw (le-ltb (length s) w (omega arith)) (full-padded w s (b ∷ []) (omega arith)))
    (eq-zero-or-pos ((length s + 1) - w))

add-one : (s : List ℕ) (b : ℕ) → added (field_of s) b ≡ field_of (s ++ (b ∷ []))
add-one s b =
    let e : length s + 1 ≡ length (s ++ (b ∷ [])) = omega (arith, length-append s (b ∷ [])) in
    cc (more-padded 12 s b)

gathered-on : (s t : List ℕ) → added_all (field_of s) t ≡ field_of (s ++ t)
gathered-on s [] = rw append-nil
gathered-on s (b ∷ t) = rw (add-one s b) (gathered-on (s ++ (b ∷ [])) t ∙ ap field_of (append_assoc s (b ∷ []) t))

pub gathered : (t : List ℕ) → added_all (field_of []) t ≡ field_of t
gathered t = gathered-on [] t

pub fields-period : {b : ℕ} (s : List ℕ) → b ≡ 46 → fields (b ∷ s) ≡ [] ∷ []
unfolding fields
fields-period {b} s e = rw (eq-eqb b 46 e)

pub fields-comma : {b : ℕ} (s : List ℕ) → b ≡ 44 → fields (b ∷ s) ≡ [] ∷ fields s
unfolding fields
fields-comma {b} s e = rw e

fields-space : {b : ℕ} (s : List ℕ) → b ≡ 32 → fields (b ∷ s) ≡ fields s
unfolding fields
fields-space {b} s e = rw e

pub fields-other : {b : ℕ} (s : List ℕ) → (b ≡ 46 → ⊥) → (b ≡ 44 → ⊥) → (b ≡ 32 → ⊥) → fields (b ∷ s) ≡ onto b (fields s)
unfolding fields
fields-other {b} s p c q = rw (ne_eqb b 46 p, ne_eqb b 32 q, ne_eqb b 44 c)

fields-end : fields [] ≡ [] ∷ []
unfolding fields
fields-end = refl

no_field : (k : ℕ) → ◌≡◌ {A = List ℕ} (get_or ([] ∷ []) k []) []
no_field zero = refl
no_field (suc k) = refl

onto-later : (b k : ℕ) (fs : List (List ℕ)) → get_or (onto b fs) (suc k) [] ≡ get_or fs (suc k) []
onto-later b k [] = refl
onto-later b k (f ∷ fs) = refl

onto-first : (b : ℕ) (fs : List (List ℕ)) → get_or (onto b fs) 0 [] ≡ b ∷ get_or fs 0 []
onto-first b [] = refl
onto-first b (f ∷ fs) = refl

-- a text that is cut has a piece
pub pieces-some : (cut : ℕ) (s : List ℕ) → 1 ≤ length (pieces cut s)
pieces-some cut [] = omega arith
pieces-some cut (b ∷ s) = cut-here (eqb b cut)
  where
    more : (fs : List (List ℕ)) → 1 ≤ length (onto b fs)
    more [] = omega arith
    more (f ∷ fs) = omega arith

    cut-here : (t : Bool) → 1 ≤ length (cond t ([] ∷ pieces cut s) (onto b (pieces cut s)))
    cut-here true = omega arith
    cut-here false = more (pieces cut s)

fields-some : (s : List ℕ) → 1 ≤ length (fields s)
unfolding fields
fields-some s = pieces-some 44 (spaceless (up_to_period s))

pub onto-length : (b : ℕ) (fs : List (List ℕ)) → 1 ≤ length fs → length (onto b fs) ≡ length fs
onto-length b [] h = absurd (omega arith)
onto-length b (f ∷ fs) h = refl

space-or : (b : ℕ) → (b ≡ 32) ⊎ (b ≡ 32 → ⊥)
space-or b = test (eqb b 32) refl
  where
    test : (t : Bool) → eqb b 32 ≡ t → (b ≡ 32) ⊎ (b ≡ 32 → ⊥)
    test true e = inl (eqb-true b 32 e)
    test false e = inr (eqb-false b 32 e)

-- past the end there is no field left
pub field_end : (s : List ℕ) (i k : ℕ) → length s ≤ i → field (drop i s) k ≡ []
field_end s i k h = rw (drop_of_length-le s h, fields-end) (no_field k)

module _ (s : List ℕ) (i : ℕ) (h : i < length s) where
  pub field-period : (k : ℕ) → get_or s i 0 ≡ 46 → field (drop i s) k ≡ []
  field-period k e = rw (drop-step s i h, fields-period (drop (i + 1) s) e) (no_field k)

  pub field-comma : (k : ℕ) → get_or s i 0 ≡ 44 → k ≡ 0 → field (drop i s) k ≡ []
  field-comma k e z = rw (drop-step s i h, fields-comma (drop (i + 1) s) e, z)

  pub field_next : (k : ℕ) → get_or s i 0 ≡ 44 → (k ≡ 0 → ⊥) → field (drop i s) k ≡ field (drop (i + 1) s) (k - 1)
  field_next zero e z = absurd (z refl)
  field_next (suc k) e z = let p : suc k - 1 ≡ k = omega arith in rw (drop-step s i h, fields-comma (drop (i + 1) s) e, p)

  pub field_skip : (k : ℕ) → (get_or s i 0 ≡ 46 → ⊥) → (get_or s i 0 ≡ 44 → ⊥) → (k ≡ 0 → ⊥) → field (drop i s) k ≡ field (drop (i + 1) s) k
  field_skip zero p c z = absurd (z refl)
  field_skip (suc k) p c z =
      ⊎_elim (λ e. rw (drop-step s i h, fields-space (drop (i + 1) s) e))
      (λ q. rw (drop-step s i h, fields-other (drop (i + 1) s) p c q) (onto-later (get_or s i 0) k (fields (drop (i + 1) s))))
      (space-or (get_or s i 0))

  pub field-byte : (f : Field) (k : ℕ) → (get_or s i 0 ≡ 46 → ⊥) → (get_or s i 0 ≡ 44 → ⊥) → k ≡ 0
      → added_all f (field (drop i s) k) ≡ added_all (pushed f (get_or s i 0)) (field (drop (i + 1) s) k)
  field-byte f k p c z =
      ⊎_elim (λ e. rw (z, drop-step s i h, fields-space (drop (i + 1) s) e, eq-eqb (get_or s i 0) 32 e))
      (λ q. rw (z, drop-step s i h, fields-other (drop (i + 1) s) p c q, onto-first (get_or s i 0) (fields (drop (i + 1) s)), ne_eqb (get_or s i 0) 32 q))
      (space-or (get_or s i 0))

  pub count-period : get_or s i 0 ≡ 46 → length (fields (drop i s)) ≡ 1
  count-period e = rw (drop-step s i h, fields-period (drop (i + 1) s) e)

  pub count-comma : get_or s i 0 ≡ 44 → length (fields (drop i s)) ≡ length (fields (drop (i + 1) s)) + 1
  count-comma e = rw (drop-step s i h, fields-comma (drop (i + 1) s) e) (omega arith)

  pub count-other : (get_or s i 0 ≡ 46 → ⊥) → (get_or s i 0 ≡ 44 → ⊥) → length (fields (drop i s)) ≡ length (fields (drop (i + 1) s))
  count-other p c =
      ⊎_elim (λ e. rw (drop-step s i h, fields-space (drop (i + 1) s) e))
      (λ q. rw (drop-step s i h, fields-other (drop (i + 1) s) p c q)
      (onto-length (get_or s i 0) (fields (drop (i + 1) s)) (fields-some (drop (i + 1) s))))
      (space-or (get_or s i 0))

pub count-end : (s : List ℕ) (i : ℕ) → length s ≤ i → length (fields (drop i s)) ≡ 1
count-end s i h = rw (drop_of_length-le s h, fields-end)

-- a card's form: such characters alone, a period, and only spaces behind it
closed-over : (s : List ℕ) → closed true s ≡ (every card_byte s && every (has (32 ∷ [])) s)
closed-over [] = refl
closed-over (b ∷ s) = test (card_byte b) (eqb b 32) (every card_byte s) (every (has (32 ∷ [])) s) (closed-over s)
  where
    test : (x y e f : Bool) {g : Bool} → g ≡ (e && f) → (x && (y && g)) ≡ ((x && e) && ((y || false) && f))
    test true true e f h = h
    test true false e f h = sym (and-false e)
    test false y e f h = refl

ltb-suc : (a b : ℕ) → ltb (suc a) (suc b) ≡ ltb a b
ltb-suc a b =
    by_bool (ltb a b) (λ e. rw e (lt-ltb (suc a) (suc b) (omega (arith, ltb-true a b e))))
    (λ e. rw e (le-ltb (suc a) (suc b) (omega (arith, ltb-false a b e))))

closed-form : (s : List ℕ) → closed false s
    ≡ (every card_byte s && (ltb (length (leading (isnt 46) s)) (length s) && every (has (32 ∷ [])) (drop (suc (length (leading (isnt 46) s))) s)))
closed-form [] = refl
closed-form (b ∷ s) =
    by_bool (eqb b 46) (λ e. rw (e, lt-ltb 0 (suc (length s)) (omega arith)) (ap (λ (x : Bool). card_byte b && x) (closed-over s) ∙ and_assoc (card_byte b) (every card_byte s) (every (has (32 ∷ [])) s)))
    (λ e. rw (e, ltb-suc (length (leading (isnt 46) s)) (length s)) (ap (λ (x : Bool). card_byte b && x) (closed-form s) ∙ and_assoc (card_byte b) (every card_byte s) _))
  where
    and_assoc : (x y z : Bool) → (x && (y && z)) ≡ ((x && y) && z)
    and_assoc true y z = refl
    and_assoc false y z = refl

-- so a card of at most 80 characters is malformed by the tests that the code makes
module _ (s : List ℕ) (n : ℕ) (is : n ≡ length (leading (isnt 46) s)) (h : length s ≤ card_length) where
  pub no_period : n ≡ length s → malformed s ≡ true
  unfolding malformed
  no_period e = rw (le-ltb card_length (length s) h, closed-form s, le-ltb (length (leading (isnt 46) s)) (length s) (omega arith), and-false (every card_byte s))

  pub by_parts : n < length s → malformed s ≡ (not (every card_byte s) || not (every (has (32 ∷ [])) (drop (n + 1) s)))
  unfolding malformed
  by_parts g =
      rw (le-ltb card_length (length s) h, closed-form s, lt-ltb (length (leading (isnt 46) s)) (length s) (omega arith), ← is, one)
      (test (every card_byte s) (every (has (32 ∷ [])) (drop (n + 1) s)))
    where
      one : suc n ≡ n + 1
      one = omega arith

      test : (x y : Bool) → not (x && y) ≡ (not x || not y)
      test true y = refl
      test false y = refl

-- a card of at most 80 characters goes by its form, a longer one is malformed
pub by_form : (s : List ℕ) (t : Bool) → length s ≤ card_length → closed false s ≡ t → malformed s ≡ not t
unfolding malformed
by_form s t h e = rw (le-ltb card_length (length s) h, e)

pub too_long : (s : List ℕ) → card_length < length s → malformed s ≡ true
unfolding malformed
too_long s h = rw (lt-ltb card_length (length s) h)

pub pushed-len : (f : Field) (b : ℕ) → (pushed f b).len ≤ f.len + 1
pushed-len f b = dropped (eqb b 32)
  where
    dropped : (t : Bool) → (cond t f (added f b)).len ≤ f.len + 1
    dropped true = omega arith
    dropped false = omega arith

-- a part that runs to the end is what is left
pub rest-is : (s : List ℕ) (a : ℕ) → take (length s - a) (drop a s) ≡ drop a s
rest-is s a = take_all (length s - a) (drop a s) (omega (arith, length-drop a s))

-- a field of at most twelve bytes stands whole in the array that holds it
pub text_of : (w : ℕ) (t : List ℕ) → length t ≤ w → take (length t) (padded w t) ≡ t
text_of w [] h = refl
text_of zero (b ∷ t) h = absurd (omega arith)
text_of (suc w) (b ∷ t) h = ap (λ (l : List ℕ). b ∷ l) (text_of w t (le_of_suc-le-suc h))

pub padded-length : (w : ℕ) (t : List ℕ) → length (padded w t) ≡ w
padded-length zero t = refl
padded-length (suc w) [] = ap suc (padded-length w [])
padded-length (suc w) (b ∷ t) = ap suc (padded-length w t)

-- the first six bytes of a field that is padded to twelve
abbrev pub first_six : List ℕ → List ℕ
first_six s = get_or s 0 0 ∷ get_or s 1 0 ∷ get_or s 2 0 ∷ get_or s 3 0 ∷ get_or s 4 0 ∷ get_or s 5 0 ∷ []

pub six-padded : (t : List ℕ) → first_six (padded 12 t) ≡ padded 6 t
six-padded [] = refl
six-padded (a ∷ []) = refl
six-padded (a ∷ b ∷ []) = refl
six-padded (a ∷ b ∷ c ∷ []) = refl
six-padded (a ∷ b ∷ c ∷ d ∷ []) = refl
six-padded (a ∷ b ∷ c ∷ d ∷ e ∷ []) = refl
six-padded (a ∷ b ∷ c ∷ d ∷ e ∷ f ∷ t) = refl

-- so the bytes that the code lends of a gathered field are the field
pub whole : (f : Field) (t : List ℕ) → f ≡ field_of t → f.len ≤ 12 → take f.len f.bytes ≡ t
whole f t e h = rw e (text_of 12 t (omega (arith, ap (λ (g : Field). g.len) e)))

pub within : (f : Field) (t : List ℕ) → f ≡ field_of t → length f.bytes ≡ 12
within f t e = rw e (padded-length 12 t)

-- a word as the code compares it with a gathered field, by the tests on the way
module _ (s word : List ℕ) (k : ℕ) where
  pub word-long : 12 < length word → field_is s k word ≡ false
  word-long h = rw (lt-leb (length word) 12 h)

  module _ (h : length word ≤ 12) (f : Field) (is : f ≡ field_of (field s k)) where
    pub word-other : 12 < f.len → field_is s k word ≡ false
    word-other g = rw (le-leb (length word) 12 h) (same-long (field s k) word (λ e. omega (arith, ap (λ (x : Field). x.len) is)))

    pub word_same : f.len ≤ 12 → field_is s k word ≡ same (take f.len f.bytes) word
    word_same g = rw (le-leb (length word) 12 h, whole f (field s k) is g)

-- a text has no fewer characters than without its spaces
pub spaceless-short : (s : List ℕ) → length (spaceless s) ≤ length s
spaceless-short [] = omega arith
spaceless-short (b ∷ s) = by_bool (eqb b 32) (λ t. rw t (omega (arith, spaceless-short s))) (λ f. rw f (omega (arith, spaceless-short s)))
