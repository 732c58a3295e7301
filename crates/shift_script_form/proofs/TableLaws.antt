-- The rows of the table: at most one fits a line, since no two have the same first word and as many words, which is
-- computed over the table once. So a line says what the row that it fits says, wherever that stands, and is no call
-- where it fits none. Assumes nothing.
use Prim.Native.Nat.{ℕ, suc}
use mathlib.Core.Path.{◌≡◌, refl, sym, ap, ◌∙◌}
use mathlib.Core.Bool.{Bool, true, false, ◌&&◌, not}
use mathlib.Core.List.{List, [], ◌∷◌}
use mathlib.Core.Logic.{◌⊎◌, inl, inr}
use lib.Dec.{eqb}
use lib.ListN.{length, get_or}
use borrow.Author.Tests.{eq-eqb, not-true}
use Rattle.numbers.proofs.Tests.{by_bool, never, both}
use Rattle.text.specs.Class.{is_letter}
use Rattle.words.specs.Words.{same}
use Rattle.words.proofs.WordLaws.{same_self, same-equal}
use Rattle.line_words.specs.Forms.{words_of, word_fits, fitting}
use Rattle.line_words.proofs.FormLaws.{fits-itself}
use Rattle.shift_script.specs.declared.Line.TheVariants.{NoCall}
use Rattle.shift_script.specs.declared.Said.{Said}
use Rattle.shift_script.specs.Script.{said, Row, table, say_by}

-- a row is one of these
pub data In (row : Row) : List Row → Type 0 where
  here : {rows : List Row} → In row (row ∷ rows)
  later : {other : Row} {rows : List Row} → In row rows → In row (other ∷ rows)

-- the words of a row, and the first of them
abbrev words_in : Row → List (List ℕ)
words_in row = words_of row.form

abbrev first_in : Row → List ℕ
first_in row = get_or (words_in row) 0 []

-- two rows have the same first word and as many words
abbrev alike : Row → Row → Bool
alike r q = same (first_in r) (first_in q) && eqb (length (words_in r)) (length (words_in q))

abbrev unlike : Row → List Row → Bool
unlike r [] = true
unlike r (q ∷ rows) = not (alike r q) && unlike r rows

-- every row starts with a word in capitals, and no two are alike
abbrev apart : List Row → Bool
apart [] = true
apart (r ∷ rows) = is_letter (get_or (first_in r) 0 0) && (unlike r rows && apart rows)

table-apart : apart table ≡ true
unfolding table words_of is_letter
table-apart = refl

fits_count : (fs ws : List (List ℕ)) → fitting fs ws ≡ true → length fs ≡ length ws
unfolding fitting
fits_count [] [] e = refl
fits_count [] (w ∷ ws) e = never e refl
fits_count (f ∷ fs) [] e = never e refl
fits_count (f ∷ fs) (w ∷ ws) e = ap suc (fits_count fs ws (both (word_fits f w) (fitting fs ws) e).1)

fits-first : (fs ws : List (List ℕ)) → is_letter (get_or (get_or fs 0 []) 0 0) ≡ true → fitting fs ws ≡ true → get_or ws 0 [] ≡ get_or fs 0 []
unfolding fitting
fits-first [] [] l e = refl
fits-first [] (w ∷ ws) l e = never e refl
fits-first (f ∷ fs) [] l e = never e refl
fits-first (f ∷ fs) (w ∷ ws) l e = same-equal w f (fits-itself f w l ∙ (both (word_fits f w) (fitting fs ws) e).0)

-- rows that one line fits are alike
both-fit : (r q : Row) (ws : List (List ℕ)) → is_letter (get_or (first_in r) 0 0) ≡ true → is_letter (get_or (first_in q) 0 0) ≡ true
    → fitting (words_in r) ws ≡ true → fitting (words_in q) ws ≡ true → alike r q ≡ true
both-fit r q ws lr lq fr fq =
    let f : first_in r ≡ first_in q = sym (fits-first (words_in r) ws lr fr) ∙ fits-first (words_in q) ws lq fq in
    let n : length (words_in r) ≡ length (words_in q) = fits_count (words_in r) ws fr ∙ sym (fits_count (words_in q) ws fq) in
    rw (f, same_self (first_in q), eq-eqb (length (words_in r)) (length (words_in q)) n)

letters : (r : Row) (rows : List Row) → apart rows ≡ true → In r rows → is_letter (get_or (first_in r) 0 0) ≡ true
letters r [] a x = elim x [ ]
letters r (q ∷ rows) a In.here = (both (is_letter (get_or (first_in q) 0 0)) (unlike q rows && apart rows) a).0
letters r (q ∷ rows) a (In.later i) =
    letters r rows (both (unlike q rows) (apart rows) (both (is_letter (get_or (first_in q) 0 0)) (unlike q rows && apart rows) a).1).1 i

unlike-in : (q r : Row) (rows : List Row) → unlike q rows ≡ true → In r rows → alike q r ≡ false
unlike-in q r [] u x = elim x [ ]
unlike-in q r (x ∷ rows) u In.here = not-true-false (both (not (alike q x)) (unlike q rows) u).0
  where
    not-true-false : {b : Bool} → not b ≡ true → b ≡ false
    not-true-false {b} e = not-true b e
unlike-in q r (x ∷ rows) u (In.later i) = unlike-in q r rows (both (not (alike q x)) (unlike q rows) u).1 i

-- a line says what the row that it fits says
says : (rows : List Row) (r : Row) (ws : List (List ℕ)) → apart rows ≡ true → In r rows → fitting (words_in r) ws ≡ true → say_by rows ws ≡ r.says ws
unfolding say_by
says [] r ws a x f = elim x [ ]
says (q ∷ rows) r ws a In.here f = rw f
says (q ∷ rows) r ws a (In.later i) f =
    let p = both (is_letter (get_or (first_in q) 0 0)) (unlike q rows && apart rows) a in
    let s = both (unlike q rows) (apart rows) p.1 in
    by_bool (fitting (words_in q) ws)
    (λ t. never (both-fit q r ws p.0 (letters r rows s.1 i) t f) (unlike-in q r rows s.0 i))
    (λ t. rw t (says rows r ws s.1 i f))

pub row-says : (r : Row) (ws : List (List ℕ)) → In r table → fitting (words_of r.form) ws ≡ true → say_by table ws ≡ r.says ws
row-says r ws i f = says table r ws table-apart i f

-- and what it says, some row says, unless it is no call
pub record Fitted (rows : List Row) (ws : List (List ℕ)) (m : Said) : Type 0 where
  pub row : Row
  pub among : In row rows
  pub fits : fitting (words_of row.form) ws ≡ true
  pub is : m ≡ row.says ws

fitted : (rows : List Row) (ws : List (List ℕ)) → (say_by rows ws ≡ said NoCall) ⊎ Fitted rows ws (say_by rows ws)
unfolding say_by
fitted [] ws = inl refl
fitted (q ∷ rows) ws = by (fitted rows ws)
  where
    by : (say_by rows ws ≡ said NoCall) ⊎ Fitted rows ws (say_by rows ws)
        → (say_by (q ∷ rows) ws ≡ said NoCall) ⊎ Fitted (q ∷ rows) ws (say_by (q ∷ rows) ws)
    by (inl e) =
        by_bool (fitting (words_of q.form) ws)
        (λ t. inr (record { row = q; among = In.here; fits = t; is = rw t }))
        (λ t. inl (rw t e))
    by (inr f) =
        by_bool (fitting (words_of q.form) ws)
        (λ t. inr (record { row = q; among = In.here; fits = t; is = rw t }))
        (λ t. inr (record { row = f.row; among = In.later f.among; fits = f.fits; is = rw t f.is }))

pub says_row : (ws : List (List ℕ)) → (say_by table ws ≡ said NoCall) ⊎ Fitted table ws (say_by table ws)
says_row ws = fitted table ws
