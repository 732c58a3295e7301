-- The lines of a text: without an LF it has none; with one it is its first line, the LF and what follows, whose
-- lines are the others. Assumes nothing.
use Prim.Native.Nat.{ℕ, suc, ◌+◌, ◌≤◌, ◌<◌}
use mathlib.Core.Path.{◌≡◌, refl, ap, ◌∙◌}
use mathlib.Core.Bool.{Bool, true, false, cond, not}
use mathlib.Core.List.{List, [], ◌∷◌, ◌++◌, append_assoc}
use native.Mathlib.Nat.{le_of_suc-le-suc}
use native.Mathlib.Omega.{arith}
use lib.Dec.{eqb, ltb}
use lib.ListN.{length, take, drop}
use borrow.Author.Tests.{eqb-true, eqb-false, ne_eqb, not-true, ltb-true, ltb-false}
use Rattle.numbers.proofs.Tests.{by_bool, both}
use Rattle.words.specs.Words.{every, isnt}
use Rattle.words.specs.Lines.{lf, line_of, onto_line, lines_of, lines_text, size}

-- no LF in a text
abbrev pub NoLf : List ℕ → Type 0
NoLf [] = Unit {0}
NoLf (b ∷ s) = (b ≡ lf → ⊥) × NoLf s

pub no-lf-tested : (s : List ℕ) → every (isnt lf) s ≡ true → NoLf s
no-lf-tested [] h = tt
no-lf-tested (b ∷ s) h = let q = both (isnt lf b) (every (isnt lf) s) h in (eqb-false b lf (not-true (eqb b lf) q.0), no-lf-tested s q.1)

pub no-lf-append : (s t : List ℕ) → NoLf s → NoLf t → NoLf (s ++ t)
no-lf-append [] t a b = b
no-lf-append (x ∷ s) t a b = (a.0, no-lf-append s t a.1 b)

-- a text without LF is the first line of what starts with it and an LF
pub first_ended : (l t : List ℕ) → NoLf l → lines_of (l ++ (lf ∷ t)) ≡ l ∷ lines_of t
first_ended [] t n = refl
first_ended (b ∷ l) t n = rw (ne_eqb b 10 n.0, first_ended l t n.1)

-- no LF is left
pub no_line : (s : List ℕ) → length s ≤ length (line_of s) → lines_of s ≡ []
no_line [] h = refl
no_line (b ∷ s) h = test (eqb b 10) (no_line s) h
  where
    test : (x : Bool) → (length s ≤ length (line_of s) → lines_of s ≡ []) → suc (length s) ≤ length (cond (not x) (b ∷ line_of s) [])
        → cond x ([] ∷ lines_of s) (onto_line b (lines_of s)) ≡ []
    test true ih h = absurd (omega arith)
    test false ih h = rw (ih (le_of_suc-le-suc h))

-- the first line, and what is left after its LF
pub first-line : (s : List ℕ) → length (line_of s) < length s → lines_of s ≡ line_of s ∷ lines_of (drop (suc (length (line_of s))) s)
first-line [] h = absurd (omega arith)
first-line (b ∷ s) h = test (eqb b 10) (first-line s) h
  where
    test : (x : Bool) → (length (line_of s) < length s → lines_of s ≡ line_of s ∷ lines_of (drop (suc (length (line_of s))) s))
        → length (cond (not x) (b ∷ line_of s) []) < suc (length s)
        → cond x ([] ∷ lines_of s) (onto_line b (lines_of s))
        ≡ cond (not x) (b ∷ line_of s) [] ∷ lines_of (drop (suc (length (cond (not x) (b ∷ line_of s) []))) (b ∷ s))
    test true ih h = refl
    test false ih h = rw (ih (le_of_suc-le-suc h))

-- a text that has a line goes on after it, with its LF
pub has-line : (s : List ℕ) → 1 ≤ length (lines_of s) → length (line_of s) < length s
has-line s h =
    by_bool (ltb (length (line_of s)) (length s))
    (λ t. ltb-true (length (line_of s)) (length s) t)
    (λ t. absurd (omega (arith, ap (length {A = List ℕ}) (no_line s (ltb-false (length (line_of s)) (length s) t)))))

pub line-split : (s : List ℕ) → length (line_of s) < length s → s ≡ line_of s ++ (lf ∷ drop (suc (length (line_of s))) s)
line-split [] h = absurd (omega arith)
line-split (b ∷ s) h = by_bool (eqb b 10) (λ e. ended e (eqb-true b 10 e)) (λ e. on e (line-split s))
  where
    ended : eqb b 10 ≡ true → b ≡ 10 → b ∷ s ≡ line_of (b ∷ s) ++ (lf ∷ drop (suc (length (line_of (b ∷ s)))) (b ∷ s))
    ended e i = rw e (ap (λ (x : ℕ). x ∷ s) i)

    on : eqb b 10 ≡ false → (length (line_of s) < length s → s ≡ line_of s ++ (lf ∷ drop (suc (length (line_of s))) s))
        → b ∷ s ≡ line_of (b ∷ s) ++ (lf ∷ drop (suc (length (line_of (b ∷ s)))) (b ∷ s))
    on e ih = rw e (ap (λ (l : List ℕ). b ∷ l) (ih (le_of_suc-le-suc (rw e at h))))

-- a line has no LF in it
pub line_clean : (s : List ℕ) → NoLf (line_of s)
line_clean [] = tt
line_clean (b ∷ s) = test (eqb b 10) refl (line_clean s)
  where
    test : (x : Bool) → eqb b 10 ≡ x → NoLf (line_of s) → NoLf (cond (not x) (b ∷ line_of s) [])
    test true e n = tt
    test false e n = (eqb-false b 10 e, n)

-- LINES AS THEY STAND IN THEIR TEXT are its first bytes
pub lines-text : (s : List ℕ) → lines_text (lines_of s) ≡ take (size (lines_of s)) s
lines-text [] = refl
lines-text (b ∷ s) = by_bool (eqb b 10) (λ e. ended e (eqb-true b 10 e) (lines-text s)) (λ e. rw e (onto (lines_of s) (lines-text s)))
  where
    ended : eqb b 10 ≡ true → b ≡ 10 → lines_text (lines_of s) ≡ take (size (lines_of s)) s
        → lines_text (lines_of (b ∷ s)) ≡ take (size (lines_of (b ∷ s))) (b ∷ s)
    ended e i h =
        let k : 0 + 1 + size (lines_of s) ≡ suc (size (lines_of s)) = omega arith in
        rw (e, k, i) (ap (λ (t : List ℕ). 10 ∷ t) h)

    onto : (ls : List (List ℕ)) → lines_text ls ≡ take (size ls) s → lines_text (onto_line b ls) ≡ take (size (onto_line b ls)) (b ∷ s)
    onto [] h = refl
    onto (l ∷ ls) h = let k : suc (length l) + 1 + size ls ≡ suc (length l + 1 + size ls) = omega arith in rw k (ap (λ (t : List ℕ). b ∷ t) h)

-- lines without LF in them, as those of a text are, are the lines of what they stand as
abbrev pub Clean : List (List ℕ) → Type 0
Clean [] = Unit {0}
Clean (l ∷ ls) = NoLf l × Clean ls

pub lines-clean : (s : List ℕ) → Clean (lines_of s)
lines-clean [] = tt
lines-clean (b ∷ s) = test (eqb b 10) refl (lines_of s) (lines-clean s)
  where
    test : (x : Bool) → eqb b 10 ≡ x → (ls : List (List ℕ)) → Clean ls → Clean (cond x ([] ∷ ls) (onto_line b ls))
    test true e ls c = (tt, c)
    test false e [] c = tt
    test false e (l ∷ ls) c = ((eqb-false b 10 e, c.0), c.1)

pub lines-again : (ls : List (List ℕ)) → Clean ls → lines_of (lines_text ls) ≡ ls
lines-again [] c = refl
lines-again (l ∷ ls) c =
    ap lines_of (append_assoc l (lf ∷ []) (lines_text ls)) ∙ first_ended l (lines_text ls) c.0
    ∙ ap (λ (t : List (List ℕ)). l ∷ t) (lines-again ls c.1)
