-- The cards of a text from a position on, one card further: what the code's walks over cards keep. Assumes nothing.
use Prim.Native.Nat.{ℕ, zero, suc, ◌+◌, ◌-◌, ◌≤◌, ◌<◌}
use mathlib.Core.Path.{◌≡◌, refl, sym, ap, ◌∙◌}
use mathlib.Core.Bool.{true, false}
use mathlib.Core.List.{List, [], ◌∷◌}
use native.Mathlib.Omega.{arith}
use lib.ListN.{length, get_or, drop, take, length-drop, drop_of_length-le}
use lib.Seq.{drop-drop, length-take-le}
use borrow.Author.Tests.{le-leb, lt-leb}
use Rattle.numbers.specs.declared.Refusal.TheVariants.{BadDeck}
use Rattle.numbers.specs.Limits.{deck_bytes}
use Rattle.words.specs.Words.{isnt}
use Rattle.words.specs.Lines.{line_of}
use Rattle.words.proofs.WordLaws.{leading-front, leading-most}
use Rattle.words.proofs.LineLaws.{no_line, first-line}
use Rattle.cards_fields.specs.Fields.{is_pty}
use Rattle.cards_fields.proofs.FieldLaws.{rest-is}
use Rattle.cards_fields.specs.Deck.{cards_of, is_termination, terminated, before, size, deck_end, opens, onto_group, groups_of, first_group}
use Rattle.std.specs.Prelude.{Ok, Err}

-- the card that starts at a position: it ends within the text, and is the first of those from there on, if an LF
-- ends it
pub record Found (s : List ℕ) (at len : ℕ) : Type 0 where
  pub most : at + len ≤ length s
  pub long : length (take len (drop at s)) ≡ len
  pub ends : length s ≤ at + len → cards_of (drop at s) ≡ []
  pub goes : at + len < length s → cards_of (drop at s) ≡ take len (drop at s) ∷ cards_of (drop (at + len + 1) s)

pub found : (s : List ℕ) (at : ℕ) → at < length s → (len : ℕ) → len ≡ length (line_of (take (length s - at) (drop at s))) → Found s at len
found s at h len is =
    let n : len ≡ length (line_of (drop at s)) = is ∙ ap (λ (l : List ℕ). length (line_of l)) (rest-is s at) in
    let m : at + len ≤ length s = omega (arith, leading-most (isnt 10) (drop at s), length-drop at s) in
    let k : at + suc (length (line_of (drop at s))) ≡ at + len + 1 = omega arith in
    let f : line_of (drop at s) ≡ take len (drop at s) = sym (leading-front (isnt 10) (drop at s)) ∙ ap (λ (m : ℕ). take m (drop at s)) (sym n) in
    record {
      most = m;
      long = length-take-le len (drop at s) (omega (arith, length-drop at s));
      ends = λ e. no_line (drop at s) (omega (arith, length-drop at s));
      goes = λ e. first-line (drop at s) (omega (arith, length-drop at s))
          ∙ rw (drop-drop (suc (length (line_of (drop at s)))) at s, k) (ap (λ (l : List ℕ). l ∷ cards_of (drop (at + len + 1) s)) f);
    }

-- a part from one position to another, as long as it is
pub part-is : (s : List ℕ) (at len : ℕ) → take (at + len - at) (drop at s) ≡ take len (drop at s)
part-is s at len = let k : at + len - at ≡ len = omega arith in rw k

pub lines-done : (s : List ℕ) (at : ℕ) → length s ≤ at → cards_of (drop at s) ≡ []
lines-done s at h = rw (drop_of_length-le s h)

-- the card at an index
pub no-card : (k : ℕ) → ◌≡◌ {A = List ℕ} (get_or [] k []) []
no-card zero = refl
no-card (suc k) = refl

module _ (s : List ℕ) (at left : ℕ) where
  pub card-none : cards_of (drop at s) ≡ [] → get_or (cards_of (drop at s)) left [] ≡ []
  card-none e = rw e (no-card left)

  module _ (c : List ℕ) (next : ℕ) (e : cards_of (drop at s) ≡ c ∷ cards_of (drop next s)) where
    pub card-here : left ≡ 0 → get_or (cards_of (drop at s)) left [] ≡ c
    card-here z = rw (e, z)

  pub card-later : (c : List ℕ) (next : ℕ) → cards_of (drop at s) ≡ c ∷ cards_of (drop next s) → (left ≡ 0 → ⊥)
      → get_or (cards_of (drop at s)) left [] ≡ get_or (cards_of (drop next s)) (left - 1) []
  card-later c next e n = rw e (later left n)
    where
      later : (k : ℕ) → (k ≡ 0 → ⊥) → get_or (c ∷ cards_of (drop next s)) k [] ≡ get_or (cards_of (drop next s)) (k - 1) []
      later zero n = absurd (n refl)
      later (suc k) n = let p : suc k - 1 ≡ k = omega arith in rw p

-- the cards in front, one card further: what they take
module _ (s : List ℕ) (at left : ℕ) where
  pub front-none : cards_of (drop at s) ≡ [] → size (take left (cards_of (drop at s))) ≡ 0
  front-none e = rw e (none left)
    where
      none : (k : ℕ) → size (take k []) ≡ 0
      none zero = refl
      none (suc k) = refl

  pub front-done : left ≡ 0 → size (take left (cards_of (drop at s))) ≡ 0
  front-done z = rw z

  pub front-more : (c : List ℕ) (next : ℕ) → cards_of (drop at s) ≡ c ∷ cards_of (drop next s) → (left ≡ 0 → ⊥)
      → size (take left (cards_of (drop at s))) ≡ length c + 1 + size (take (left - 1) (cards_of (drop next s)))
  front-more c next e n = rw e (more left n)
    where
      more : (k : ℕ) → (k ≡ 0 → ⊥) → size (take k (c ∷ cards_of (drop next s))) ≡ length c + 1 + size (take (k - 1) (cards_of (drop next s)))
      more zero n = absurd (n refl)
      more (suc k) n = let p : suc k - 1 ≡ k = omega arith in rw p

-- the termination card, one card further
module _ (s : List ℕ) (at : ℕ) (c : List ℕ) (next : ℕ) (e : cards_of (drop at s) ≡ c ∷ cards_of (drop next s)) where
  pub end-here : is_termination c ≡ true → (terminated (cards_of (drop at s)) ≡ true) × (size (before (cards_of (drop at s))) ≡ 0)
  end-here t = (rw (e, t), rw (e, t))

  pub end_later : is_termination c ≡ false
      → (terminated (cards_of (drop at s)) ≡ terminated (cards_of (drop next s)))
      × (size (before (cards_of (drop at s))) ≡ length c + 1 + size (before (cards_of (drop next s))))
  end_later t = (rw (e, t), rw (e, t))

  -- the first group, one card further
  pub group-here : opens (cards_of (drop next s)) ≡ true → size (first_group (cards_of (drop at s))) ≡ length c + 1
  group-here o = rw (e, o) (omega arith)

  pub group-later : opens (cards_of (drop next s)) ≡ false
      → size (first_group (cards_of (drop at s))) ≡ length c + 1 + size (first_group (cards_of (drop next s)))
  group-later o = rw (e, o) (onto (groups_of (cards_of (drop next s))))
    where
      onto : (gs : List (List (List ℕ))) → size (get_or (onto_group c false gs) 0 []) ≡ length c + 1 + size (get_or gs 0 [])
      onto [] = refl
      onto (g ∷ gs) = refl

pub not-ended : (s : List ℕ) (at : ℕ) → cards_of (drop at s) ≡ [] → terminated (cards_of (drop at s)) ≡ false
not-ended s at e = rw e

pub no-group : (s : List ℕ) (at : ℕ) → cards_of (drop at s) ≡ [] → size (first_group (cards_of (drop at s))) ≡ 0
no-group s at e = rw e

-- what a deck's end is
module _ (s : List ℕ) where
  pub deck-long : deck_bytes < length s → deck_end s ≡ Err BadDeck
  unfolding deck_end
  deck-long h = rw (lt-leb (length s) deck_bytes h)

  pub deck-open : length s ≤ deck_bytes → terminated (cards_of s) ≡ false → deck_end s ≡ Err BadDeck
  unfolding deck_end
  deck-open h t = rw (le-leb (length s) deck_bytes h, t)

  pub deck-ends : (n : ℕ) → length s ≤ deck_bytes → terminated (cards_of s) ≡ true → n ≡ size (before (cards_of s)) → Ok n ≡ deck_end s
  unfolding deck_end
  deck-ends n h t e = rw (le-leb (length s) deck_bytes h, t, e)

-- the first card of a text, as it is lent
pub opens-none : (s : List ℕ) (len : ℕ) → len ≡ length (line_of s) → len ≡ length s → opens (cards_of s) ≡ true
opens-none s len is e = rw (no_line s (omega arith))

pub opens-first : (s : List ℕ) (len : ℕ) → len ≡ length (line_of s) → (len ≡ length s → ⊥) → opens (cards_of s) ≡ is_pty (take len s)
opens-first s len is n = rw (first-line s (omega (arith, leading-most (isnt 10) s)), is, leading-front (isnt 10) s)
