-- THE TABLE OF CARDS THAT KEEP THE RULES: its places and its size are those of the PM cards that were meant. By induction
-- over the cards: the text of a TAL or TRN card begins with T and is none of the table's, that of a PM card reads as its
-- sheet. Assumes nothing.
use Prim.Native.Nat.{ℕ, ◌*◌, ◌/◌, ◌%◌}
use mathlib.Core.Path.{◌≡◌, refl}
use mathlib.Core.List.{List, [], ◌∷◌}
use native.Mathlib.Omega.{arith}
use lib.ListN.{get_or}
use Rattle.numbers.specs.Quoted.{byte}
use Rattle.numbers.specs.Limits.{pm_length}
use Rattle.cards_tal.specs.Increments.{tal_of}
use Rattle.cards_trn.specs.Transfers.{trn_of}
use Rattle.cards_further.specs.Further.{held}
use Rattle.cards_table.specs.Table.{card_at, rows, table_size, place}
use Rattle.cards_table.proofs.SheetLaws.{sheet-is-pm, sheet-digit-in, sheet-letters-in}
use Rattle.cards_round.specs.AllowedFurther.{Card, tal, trn, pm, texts_of, AllProper, Kept, sheet_at, sheet_rows}
use Rattle.cards_round.proofs.HeldLaws.{kept-texts}

-- the text with a digit
card-at : (d : ℕ) (cs : List Card) → AllProper cs → card_at d (texts_of cs) ≡ sheet_at d cs
unfolding tal_of trn_of
card-at d [] p = refl
card-at d (tal is ∷ cs) p = card-at d cs p.1
card-at d (trn c ts ∷ cs) p = card-at d cs p.1
card-at d (pm s ∷ cs) p = rw (sheet-is-pm s p.0.0, sheet-digit-in s, sheet-letters-in s, card-at d cs p.1)

-- the highest digit and one more
rows_of : (cs : List Card) → AllProper cs → rows (texts_of cs) ≡ sheet_rows cs
unfolding tal_of trn_of
rows_of [] p = refl
rows_of (tal is ∷ cs) p = omega (arith, rows_of cs p.1)
rows_of (trn c ts ∷ cs) p = omega (arith, rows_of cs p.1)
rows_of (pm s ∷ cs) p = rw (sheet-is-pm s p.0.0, sheet-digit-in s, rows_of cs p.1) (omega arith)

-- BY PLACE: character i is character i mod 66 of the text of the PM card with the digit i div 66, or a blank
pub table-place : (cards : List Card) → Kept cards → (i : ℕ)
    → place (held (texts_of cards)) i ≡ get_or (sheet_at (i / pm_length) cards) (i % pm_length) (byte " ")
unfolding place
table-place cards k i = rw (kept-texts cards k, card-at (i / pm_length) cards k.each)

-- 66 characters for each digit up to the highest
pub table-size : (cards : List Card) → Kept cards → table_size (held (texts_of cards)) ≡ pm_length * sheet_rows cards
unfolding table_size
table-size cards k = rw (kept-texts cards k, rows_of cards k.each)
