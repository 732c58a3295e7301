-- What the cards program prints: for each group its cards as they are written, with its parameter table, or its error.
use Rattle.std.specs.Prelude.{ℕ, zero, suc, ◌+◌, ◌-◌, ◌*◌, ◌/◌, ◌≡◌, cond, Result, Ok, Err, List, [], ◌∷◌, ◌++◌, eqb, get_or, take, drop}
use Rattle.numbers.specs.Quoted.{byte, bytes}
use Rattle.numbers.specs.Refusals.{number_of}
use Rattle.numbers.specs.declared.Refusal.{Refusal}
use Rattle.numbers.specs.Limits.{cards_room, pm_length}
use Rattle.text.specs.Room.{Whole}
use Rattle.text.specs.Writing.{decimal_text}
use Rattle.words.specs.Lines.{line_text, size}
use Rattle.cards_fields.specs.Fields.{spaceless}
use Rattle.cards_fields.specs.Deck.{cards_of, deck_end, groups_of, deck_groups}
use Rattle.cards_fields.specs.Deck.{DeckEnd}
use Rattle.std.specs.Prelude.{Ok, Err}
use Rattle.cards_lines.specs.Shown.{shown_by, error_line, refused_text}
use Rattle.cards_group.specs.Group.{read_full}
use Rattle.cards_table.specs.Table.{place, table_size}
use Rattle.cards_full.specs.Full.{text_of, write_answer}
use Rattle.cards_request.specs.Errors.{CardVerdict}
use Rattle.std.specs.Prelude.{Ok, Err}
use Rattle.cards_request.specs.declared.Further.{Further}
use Rattle.cards_request.specs.declared.FullRequest.{FullRequest}
use Rattle.cards_report.specs.declared.Coming.{Coming}
use Rattle.cards_report.specs.declared.Coming.TheVariants.{Groups, Refused, Over}
use Rattle.cards_report.specs.declared.Printing.{Printing}
use Rattle.cards_report.specs.declared.Printed.{Printed}

-- n characters of the table, from place i on
abbrev pub places_from : Further → ℕ → ℕ → List ℕ
places_from f i zero = []
places_from f i (suc n) = place f i ∷ places_from f (suc i) n

-- "lines, each `=` and 66 characters of the table, digit 0 first": n of them, from digit d on
abbrev pub row_lines : Further → ℕ → ℕ → List ℕ
row_lines f d zero = []
row_lines f d (suc n) = line_text (byte "=" ∷ places_from f (pm_length * d) pm_length) ++ row_lines f (suc d) n

-- "good, with PM cards: behind them the line `PMT n`, n = 66(N+1) the number of characters in its parameter table, and
-- N+1 lines"
unfoldable pub table_text : Further → List ℕ
table_text f =
    cond (eqb (table_size f) 0) []
    (bytes "PMT " ++ (decimal_text (table_size f) ++ (bytes "\n" ++ row_lines f 0 (table_size f / pm_length))))

-- "good, but not to be written: `SP id NO 12`"
abbrev pub refusal_line : List ℕ → Refusal → List ℕ
refusal_line id refusal = bytes "SP " ++ (spaceless id ++ (bytes " NO " ++ (decimal_text (number_of refusal) ++ bytes "\n")))

-- a good group: "its written cards .., one a line: PTY, FAC and the further cards in the order read"
abbrev pub good_text : Result ℕ Refusal → FullRequest → List ℕ → List ℕ
good_text (Ok n) v shown = text_of v ++ table_text v.further
good_text (Err refusal) v shown = refusal_line shown refusal

-- "with a card error: `SP id ER n`, as the deck program prints it"
abbrev pub text_by : CardVerdict → FullRequest → List ℕ → List ℕ
text_by (Ok tt) v shown = good_text (write_answer v cards_room) v shown
text_by (Err e) v shown = error_line shown e

-- ONE GROUP, after the ID that was shown before it
unfoldable pub group_text : List ℕ → List (List ℕ) → List ℕ
group_text shown cards = text_by (read_full cards).verdict (read_full cards).full (shown_by (get_or cards 0 []) shown)

-- "The last line is `END OF CARDS`"
abbrev pub end_text : List ℕ
end_text = bytes "END OF CARDS\n"

-- "for each group in deck order"
abbrev pub groups_text : List ℕ → List (List (List ℕ)) → List ℕ
groups_text shown [] = end_text
groups_text shown (g ∷ gs) = group_text shown g ++ groups_text (shown_by (get_or g 0 []) shown) gs

abbrev pub cards_by : DeckEnd → List ℕ → List ℕ
cards_by (Ok n) s = groups_text (bytes "------") (deck_groups s)
cards_by (Err refusal) s = refused_text refusal

-- WHAT THE CARDS PROGRAM PRINTS
abbrev pub cards_text : List ℕ → List ℕ
cards_text s = cards_by (deck_end s) s

-- PIECE BY PIECE: before the first, the whole deck is to come
abbrev pub begin_by : DeckEnd → Printing
begin_by (Ok n) = record { coming = Groups; from = 0; end = n; shown = bytes "------" }
begin_by (Err refusal) = record { coming = Refused refusal; from = 0; end = 0; shown = bytes "------" }

abbrev pub begin : List ℕ → Printing
begin s = begin_by (deck_end s)

-- the groups that are to come
abbrev pub left : List ℕ → Printing → List (List (List ℕ))
left s p = groups_of (cards_of (take (p.end - p.from) (drop p.from s)))

-- the next piece is one group's, or the last line, or that of a refused deck
abbrev pub piece_by : Coming → List (List (List ℕ)) → List ℕ → List ℕ
piece_by Groups [] shown = end_text
piece_by Groups (g ∷ gs) shown = group_text shown g
piece_by (Refused refusal) gs shown = refused_text refusal
piece_by Over gs shown = []

abbrev pub piece : List ℕ → Printing → List ℕ
piece s p = piece_by p.coming (left s p) p.shown

-- nothing more is to come
abbrev pub over : Printing → Printing
over p = record { coming = Over; from = p.from; end = p.end; shown = p.shown }

-- what is to come behind it
abbrev pub next_by : Coming → List (List (List ℕ)) → Printing → Printing
next_by Groups [] p = over p
next_by Groups (g ∷ gs) p = record { coming = Groups; from = p.from + size g; end = p.end; shown = shown_by (get_or g 0 []) p.shown }
next_by (Refused refusal) gs p = over p
next_by Over gs p = over p

abbrev pub after : List ℕ → Printing → Printing
after s p = next_by p.coming (left s p) p

-- so many pieces, one behind the other
abbrev pub turns : ℕ → List ℕ → Printing → List ℕ
turns zero s p = []
turns (suc n) s p = piece s p ++ turns n s (after s p)

-- A PIECE PRINTED: it stands whole in the lent room, and what is to come follows
pub record Prints (s : List ℕ) (p : Printing) (room after· : List ℕ) (r : Printed) : Type 0 where
  pub text : Whole (piece s p) room after· r.at
  pub then : r.printing ≡ after s p
