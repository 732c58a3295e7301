-- WHAT TAKING UP A LINE MEANS: something of a piece is always taken up and no more than there is; where the line is
-- not whole all of the piece is; and however the input is cut into pieces, the line is the same. Assumes nothing.
use Prim.Native.Nat.{ℕ, ◌+◌, ◌-◌, ◌≤◌, ◌<◌}
use mathlib.Core.Path.{◌≡◌, refl, sym, ap, ◌∙◌}
use mathlib.Core.Bool.{Bool, true, false, cond}
use mathlib.Core.List.{List, [], ◌∷◌, ◌++◌}
use native.Mathlib.Omega.{arith}
use lib.ListN.{length, take, drop, length-take, length-drop}
use borrow.Author.Tests.{ltb-true, ltb-false}
use Rattle.numbers.proofs.Tests.{by_bool}
use Rattle.words.specs.Words.{leading, isnt}
use Rattle.words.proofs.WordLaws.{leading-most}
use Rattle.words.specs.Lines.{line_of}
use Rattle.input_lines.specs.Lines.{is_whole, TakesUp}
use Rattle.input_lines.specs.declared.Cut.{Cut}

module _ {line piece after : List ℕ} {kept : ℕ} {r : Cut} (t : TakesUp line kept piece after r) where
  -- NO MORE THAN THERE IS
  pub taken-most : r.taken ≤ length piece
  taken-most =
      by_bool (is_whole piece)
      (λ w. let e : r.taken ≡ length (line_of piece) + 1 = t.taken ∙ rw w in omega (arith, ltb-true (length (line_of piece)) (length piece) w))
      (λ w. let e : r.taken ≡ length (line_of piece) + 0 = t.taken ∙ rw w in omega (arith, leading-most (isnt 10) piece))

  -- SOMETHING, AND ALL WHERE NO LF CAME
  pub taken-some : 0 < length piece → 0 < r.taken
  taken-some h =
      by_bool (is_whole piece)
      (λ w. let e : r.taken ≡ length (line_of piece) + 1 = t.taken ∙ rw w in omega arith)
      (λ w. let e : r.taken ≡ length (line_of piece) + 0 = t.taken ∙ rw w in omega (arith, ltb-false (length (line_of piece)) (length piece) w))

  pub taken-all : r.whole ≡ false → r.taken ≡ length piece
  taken-all w =
      let v : is_whole piece ≡ false = sym t.whole ∙ w in
      let e : r.taken ≡ length (line_of piece) + 0 = t.taken ∙ rw v in
      omega (arith, ltb-false (length (line_of piece)) (length piece) v, leading-most (isnt 10) piece)

-- the same of what a piece has from a position on
pub taken-within : {line after : List ℕ} {kept : ℕ} {r : Cut} (s : List ℕ) (at : ℕ) → at < length s
    → TakesUp line kept (take (length s - at) (drop at s)) after r
    → (at + r.taken ≤ length s) × (0 < r.taken)
taken-within s at h t =
    let n = length-take (length s - at) (drop at s) in
    (omega (arith, taken-most t, n, length-drop at s), taken-some t (omega (arith, n, length-drop at s)))

-- HOWEVER THE INPUT IS CUT: a piece without LF, and what follows it, have the line that both have together
pub in_pieces : (p : ℕ → Bool) (a b : List ℕ) → leading p a ≡ a → leading p (a ++ b) ≡ a ++ leading p b
in_pieces p [] b h = refl
in_pieces p (x ∷ a) b h = by (p x) h (in_pieces p a b)
  where
    by : (t : Bool) → cond t (x ∷ leading p a) [] ≡ x ∷ a → (leading p a ≡ a → leading p (a ++ b) ≡ a ++ leading p b)
        → cond t (x ∷ leading p (a ++ b)) [] ≡ x ∷ (a ++ leading p b)
    by true h ih = ap (λ (l : List ℕ). x ∷ l) (ih cc)
    by false h ih = absurd (omega (arith, ap length h))
