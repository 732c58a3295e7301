-- A DECK IS GATHERED LINE BY LINE: a line that comes before the rest of an input ends the deck, or stands in front of the
-- rest's deck; with no line there is no deck. And the lines asked for are that line and the rest's. Assumes nothing.
use Prim.Native.Nat.{ℕ, ◌+◌}
use mathlib.Core.Path.{◌≡◌, refl, sym, ap, subst₂, ◌∙◌}
use mathlib.Core.Bool.{true, false}
use mathlib.Core.List.{List, [], ◌∷◌, ◌++◌, append_assoc}
use native.Mathlib.Omega.{arith}
use lib.ListN.{length, take, drop, length-append}
use lib.Seq.{take-append-add, drop-append-add, take_at, drop_at}
use borrow.Author.Tests.{ne_eqb}
use Rattle.numbers.specs.declared.Refusal.TheVariants.{BadDeck}
use Rattle.numbers.proofs.Tests.{by_bool}
use Rattle.words.specs.Lines.{lf, lines_of, line_text, size}
use Rattle.words.proofs.WordLaws.{same-equal}
use Rattle.words.proofs.LineLaws.{NoLf, first_ended}
use Rattle.cards_fields.specs.Deck.{is_termination, termination}
use Rattle.answer_pieces.specs.Pieces.{no_line}
use Rattle.desk_hearing.specs.Printing.{has_deck, deck_length, deck_of, behind_deck, asked, last_line, Prints, unread, read, SaysAll}

-- ---- what has no line

no_lines : (s : List ℕ) → NoLf s → lines_of s ≡ []
no_lines [] n = refl
no_lines (b ∷ s) n = rw (ne_eqb b 10 n.0, no_lines s n.1)

pub asked-last : (s : List ℕ) → NoLf s → asked s ≡ last_line s
asked-last s n = rw (no_lines s n)

-- ---- a line, and the rest

module _ (line rest : List ℕ) (clean : NoLf line) where
  lines : lines_of (line_text line ++ rest) ≡ line ∷ lines_of rest
  lines = ap lines_of (append_assoc line (lf ∷ []) rest) ∙ first_ended line rest clean

  pub asked-line : asked (line_text line ++ rest) ≡ line ∷ asked rest
  asked-line =
      let k : length line + 1 + size (lines_of rest) ≡ length (line_text line) + size (lines_of rest) = omega (arith, length-append line (lf ∷ [])) in
      let d : drop (length line + 1 + size (lines_of rest)) (line_text line ++ rest) ≡ drop (size (lines_of rest)) rest =
      ap (λ (n : ℕ). drop n (line_text line ++ rest)) k ∙ drop-append-add (line_text line) rest (size (lines_of rest)) in
      ap (λ (ls : List (List ℕ)). ls ++ last_line (drop (size ls) (line_text line ++ rest))) lines
      ∙ ap (λ (s : List ℕ). line ∷ (lines_of rest ++ last_line s)) d

  long-here : is_termination line ≡ true → deck_length (line_text line ++ rest) ≡ length (line_text line)
  long-here e = rw (lines, e) (ap (λ (l : List ℕ). length (line_text l)) (sym (same-equal line termination e)))

  long-on : is_termination line ≡ false → deck_length (line_text line ++ rest) ≡ length (line_text line) + deck_length rest
  long-on e = rw (lines, e) (omega (arith, length-append line (lf ∷ [])))

-- ---- A DECK OF WHICH `done` HAS COME: it ends in the rest of the input, and P holds of it and of what is behind it; or it
-- doesn't end, and the text is the refusal
pub data Gathers (P : List ℕ → List ℕ → Type 0) (text done rest : List ℕ) : Type 0 where
  short : has_deck rest ≡ false → text ≡ no_line BadDeck → Gathers P text done rest
  full : has_deck rest ≡ true → P (done ++ deck_of rest) (behind_deck rest) → Gathers P text done rest

module _ (P : List ℕ → List ℕ → Type 0) {text : List ℕ} (done : List ℕ) where
  pub gather_none : (rest : List ℕ) → NoLf rest → text ≡ no_line BadDeck → Gathers P text done rest
  gather_none rest n e = short (rw (no_lines rest n)) e

  module _ (line rest : List ℕ) (clean : NoLf line) where
    here : is_termination line ≡ true → P (done ++ line_text line) rest → Gathers P text done (line_text line ++ rest)
    here e h =
        let n = sym (long-here line rest clean e) in
        full (rw (lines line rest clean, e))
        (subst₂ P (ap (λ (l : List ℕ). done ++ l) (sym (take_at (line_text line) rest (deck_length (line_text line ++ rest)) n)))
        (sym (drop_at (line_text line) rest (deck_length (line_text line ++ rest)) n)) h)

    on : is_termination line ≡ false → Gathers P text (done ++ line_text line) rest → Gathers P text done (line_text line ++ rest)
    on e (short h t) = short (rw (lines line rest clean, e) h) t
    on e (full h w) =
        let n = long-on line rest clean e in
        let d : deck_of (line_text line ++ rest) ≡ line_text line ++ deck_of rest =
        ap (λ (m : ℕ). take m (line_text line ++ rest)) n ∙ take-append-add (line_text line) rest (deck_length rest) in
        let b : behind_deck (line_text line ++ rest) ≡ behind_deck rest =
        ap (λ (m : ℕ). drop m (line_text line ++ rest)) n ∙ drop-append-add (line_text line) rest (deck_length rest) in
        full (rw (lines line rest clean, e) h)
        (subst₂ P (append_assoc done (line_text line) (deck_of rest) ∙ ap (λ (l : List ℕ). done ++ l) (sym d)) (sym b) w)

    pub gather-line : (is_termination line ≡ true → P (done ++ line_text line) rest)
        → (is_termination line ≡ false → Gathers P text (done ++ line_text line) rest) → Gathers P text done (line_text line ++ rest)
    gather-line h g = by_bool (is_termination line) (λ e. here e (h e)) (λ e. on e (g e))

-- ---- BOTH DECKS, and then the lines asked for

-- the text answers the lines of the rest,
abbrev pub AsksFrom : List ℕ → List ℕ → List ℕ → List ℕ → Type 0
AsksFrom text repair day rest = SaysAll repair day (asked rest) text

-- those behind the day's deck, of which this has come,
abbrev pub DayFrom : List ℕ → List ℕ → List ℕ → List ℕ → Type 0
DayFrom text day repair rest = Gathers (AsksFrom text repair) text day rest

-- and those behind both
abbrev pub BothFrom : List ℕ → List ℕ → List ℕ → List ℕ → Type 0
BothFrom text day repair rest = Gathers (DayFrom text day) text repair rest

-- from their first bytes on it is what the program prints
pub prints : (input text : List ℕ) → BothFrom text [] [] input → Prints input text
prints input text (short h e) = unread (rw h) e
prints input text (full h g) = second g
  where
    second : DayFrom text [] (deck_of input) (behind_deck input) → Prints input text
    second (short i e) = unread (rw (h, i)) e
    second (full i w) = read (rw (h, i)) w
