-- The words of a line from a position on, one word further: what the code's walks over words keep. Assumes nothing.
use Prim.Native.Nat.{ℕ, zero, suc, ◌+◌, ◌-◌, ◌≤◌, ◌<◌}
use mathlib.Core.Path.{◌≡◌, refl, sym, ap, ◌∙◌}
use mathlib.Core.Bool.{Bool, true, false, cond, not, ◌&&◌}
use mathlib.Core.List.{List, [], ◌∷◌}
use mathlib.Core.Logic.{⊎_elim}
use native.Mathlib.Nat.{le_of_suc-le-suc, eq-or-lt_of_le}
use native.Mathlib.Omega.{arith}
use lib.Dec.{eqb}
use lib.ListN.{length, get_or, drop, take, length-drop}
use lib.Seq.{drop-drop}
use borrow.Author.Tests.{eq-eqb, ne_eqb}
use Rattle.words.specs.Words.{leading, isnt}
use Rattle.words.proofs.WordLaws.{leading-front, leading-most}
use Rattle.cards_fields.specs.Fields.{onto}
use Rattle.cards_fields.proofs.FieldLaws.{rest-is}
use Rattle.cards_fields.proofs.DeckLaws.{part-is}
use Rattle.line_words.specs.Forms.{words_of, word_fits, fitting}

abbrev pub lead : List ℕ → List ℕ
lead s = leading (isnt 32) s

-- no space is left
one_word : (s : List ℕ) → length s ≤ length (lead s) → words_of s ≡ lead s ∷ []
unfolding words_of
one_word [] h = refl
one_word (b ∷ s) h = test (eqb b 32) (one_word s) h
  where
    test : (x : Bool) → (length s ≤ length (lead s) → words_of s ≡ lead s ∷ []) → suc (length s) ≤ length (cond (not x) (b ∷ lead s) [])
        → cond x ([] ∷ words_of s) (onto b (words_of s)) ≡ cond (not x) (b ∷ lead s) [] ∷ []
    test true ih h = absurd (omega arith)
    test false ih h = rw (ih (le_of_suc-le-suc h))

-- the first word, and those after its space
first_word : (s : List ℕ) → length (lead s) < length s → words_of s ≡ lead s ∷ words_of (drop (suc (length (lead s))) s)
unfolding words_of
first_word [] h = absurd (omega arith)
first_word (b ∷ s) h = test (eqb b 32) (first_word s) h
  where
    test : (x : Bool) → (length (lead s) < length s → words_of s ≡ lead s ∷ words_of (drop (suc (length (lead s))) s))
        → length (cond (not x) (b ∷ lead s) []) < suc (length s)
        → cond x ([] ∷ words_of s) (onto b (words_of s))
        ≡ cond (not x) (b ∷ lead s) [] ∷ words_of (drop (suc (length (cond (not x) (b ∷ lead s) []))) (b ∷ s))
    test true ih h = refl
    test false ih h = rw (ih (le_of_suc-le-suc h))

-- the word that starts at a position: it ends within the line, and is the first of those from there on
pub record Word (s : List ℕ) (at len : ℕ) : Type 0 where
  pub most : at + len ≤ length s
  pub rest : List (List ℕ)
  pub first : words_of (drop at s) ≡ take len (drop at s) ∷ rest
  pub last : length s ≤ at + len → rest ≡ []
  pub more : at + len < length s → rest ≡ words_of (drop (at + len + 1) s)

pub word : (s : List ℕ) (at : ℕ) → at ≤ length s → (len : ℕ) → len ≡ length (lead (take (length s - at) (drop at s))) → Word s at len
word s at h len is =
    let n : len ≡ length (lead (drop at s)) = is ∙ ap (λ (l : List ℕ). length (lead l)) (rest-is s at) in
    let m : at + len ≤ length s = omega (arith, leading-most (isnt 32) (drop at s), length-drop at s) in
    let k : at + suc (length (lead (drop at s))) ≡ at + len + 1 = omega arith in
    let f : lead (drop at s) ≡ take len (drop at s) = sym (leading-front (isnt 32) (drop at s)) ∙ ap (λ (m : ℕ). take m (drop at s)) (sym n) in
    let w : words_of (drop at s) ≡ lead (drop at s) ∷ [] → words_of (drop at s) ≡ take len (drop at s) ∷ [] =
    λ e. e ∙ ap (λ (l : List ℕ). l ∷ []) f in
    ⊎_elim
    (λ e. record {
      most = m;
      rest = [];
      first = w (one_word (drop at s) (omega (arith, length-drop at s)));
      last = λ q. refl;
      more = λ q. absurd (omega arith);
    })
    (λ e. record {
      most = m;
      rest = words_of (drop (at + len + 1) s);
      first = first_word (drop at s) (omega (arith, length-drop at s))
          ∙ rw (drop-drop (suc (length (lead (drop at s)))) at s, k) (ap (λ (l : List ℕ). l ∷ words_of (drop (at + len + 1) s)) f);
      last = λ q. absurd (omega arith);
      more = λ q. refl;
    })
    (eq-or-lt_of_le m)

-- the word at an index, of those from there on
module _ (s : List ℕ) (at len left : ℕ) (w : Word s at len) where
  pub at_here : left ≡ 0 → take (at + len - at) (drop at s) ≡ get_or (words_of (drop at s)) left []
  at_here z = part-is s at len ∙ rw (w.first, z)

  pub at_none : (left ≡ 0 → ⊥) → at + len ≡ length s → [] ≡ get_or (words_of (drop at s)) left []
  at_none n e = rw (w.first, w.last (omega arith)) (past left n)
    where
      past : (k : ℕ) → (k ≡ 0 → ⊥) → [] ≡ get_or (take len (drop at s) ∷ []) k []
      past zero n = absurd (n refl)
      past (suc k) n = refl

  pub at-later : (left ≡ 0 → ⊥) → (at + len ≡ length s → ⊥)
      → get_or (words_of (drop (at + len + 1) s)) (left - 1) [] ≡ get_or (words_of (drop at s)) left []
  at-later n e = rw (w.first, w.more (omega (arith, w.most))) (later left n)
    where
      later : (k : ℕ) → (k ≡ 0 → ⊥) → get_or (words_of (drop (at + len + 1) s)) (k - 1) []
          ≡ get_or (take len (drop at s) ∷ words_of (drop (at + len + 1) s)) k []
      later zero n = absurd (n refl)
      later (suc k) n = let p : suc k - 1 ≡ k = omega arith in rw p

-- a line and a form, each from an index on
module _ (s t : List ℕ) (at len on size : ℕ) (w : Word s at len) (f : Word t on size) where
  abbrev Fits : Bool → Type 0
  Fits b = word_fits (take (on + size - on) (drop on t)) (take (at + len - at) (drop at s)) ≡ b

  first_fits : (b : Bool) → Fits b → fitting (words_of (drop on t)) (words_of (drop at s)) ≡ b && fitting f.rest w.rest
  unfolding fitting
  first_fits b e = rw (w.first, f.first, rw (part-is t on size, part-is s at len) at e)

  pub fit-not : Fits false → false ≡ fitting (words_of (drop on t)) (words_of (drop at s))
  fit-not e = sym (first_fits false e)

  pub fit-last : Fits true → at + len ≡ length s → eqb (on + size) (length t) ≡ fitting (words_of (drop on t)) (words_of (drop at s))
  unfolding fitting
  fit-last e h =
      ⊎_elim
      (λ q. rw (first_fits true e, w.last (omega arith), f.last (omega arith), eq-eqb (on + size) (length t) q))
      (λ q. rw (first_fits true e, w.last (omega arith), f.more q, ne_eqb (on + size) (length t) (λ z. omega arith))
      (some (drop (on + size + 1) t)))
      (eq-or-lt_of_le f.most)
    where
      some : (s : List ℕ) → false ≡ fitting (words_of s) []
      some s = rw (word s 0 (omega arith) (length (lead (take (length s - 0) (drop 0 s)))) refl).first

  pub fit-short : Fits true → (at + len ≡ length s → ⊥) → on + size ≡ length t → false ≡ fitting (words_of (drop on t)) (words_of (drop at s))
  unfolding fitting
  fit-short e h g =
      rw (first_fits true e, f.last (omega arith), w.more (omega (arith, w.most))) (some (drop (at + len + 1) s))
    where
      some : (s : List ℕ) → false ≡ fitting [] (words_of s)
      some s = rw (word s 0 (omega arith) (length (lead (take (length s - 0) (drop 0 s)))) refl).first

  pub fit-more : Fits true → (at + len ≡ length s → ⊥) → (on + size ≡ length t → ⊥)
      → fitting (words_of (drop (on + size + 1) t)) (words_of (drop (at + len + 1) s)) ≡ fitting (words_of (drop on t)) (words_of (drop at s))
  fit-more e h g = rw (first_fits true e, w.more (omega (arith, w.most)), f.more (omega (arith, f.most)))
