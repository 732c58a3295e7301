-- WHAT A TRN CARD MEANS: its count and its transfers, by its fields from the third on. Assumes nothing.
use Prim.Native.Nat.{ℕ}
use mathlib.Core.Bool.{cond}
use mathlib.Core.List.{List, [], ◌∷◌}
use mathlib.Core.Option.{Option, none, some}
use lib.ListN.{drop}
use Rattle.words.specs.Words.{number_in}
use Rattle.cards_fields.specs.Fields.{fields}
use Rattle.cards_trn.specs.Trn.{is_count, part}
use Rattle.cards_trn.specs.Transfers.{Transfer}

-- the transfer that a field means
unfoldable pub transfer_of : List ℕ → Transfer
transfer_of t = record { name1 = part t 0; kind = part t 1; successor = part t 2; name2 = part t 3 }

abbrev pub transfers_of : List (List ℕ) → List Transfer
transfers_of [] = []
transfers_of (t ∷ ts) = transfer_of t ∷ transfers_of ts

-- the count that the fields from the third on mean
abbrev pub count_in : List (List ℕ) → Option ℕ
count_in [] = none
count_in (f ∷ fs) = cond (is_count f) (some (number_in f)) none

-- and the transfers
abbrev pub transfers_in : List (List ℕ) → List Transfer
transfers_in [] = []
transfers_in (f ∷ fs) = cond (is_count f) (transfers_of fs) (transfer_of f ∷ transfers_of fs)

-- those of a card
abbrev pub meant_count : List ℕ → Option ℕ
meant_count card = count_in (drop 2 (fields card))

abbrev pub meant_transfers : List ℕ → List Transfer
meant_transfers card = transfers_in (drop 2 (fields card))
