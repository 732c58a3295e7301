-- Two decks on the desk. "For an ID the reader shall show us the request's own cards from the repair deck if they are
-- there, else from the day's deck, as the text itself in the deck that has it and without a copy". "Nothing enters the
-- schedule": all that is asked for is bytes, and nothing is checked or changed. A reader has to believe this page.
use Rattle.std.specs.Prelude.{ℕ, ◌≡◌, Bool, true, false, ◌&&◌, Result, Ok, Err, List, [], ◌∷◌, ◌++◌, ◌⊎◌, length, take, drop}
use Rattle.numbers.specs.declared.Refusal.{Refusal}
use Rattle.numbers.specs.declared.Refusal.TheVariants.{BadDeck, NoGroup}
use Rattle.words.specs.Words.{same}
use Rattle.words.specs.Lines.{lines_text}
use Rattle.cards_fields.specs.Fields.{field, is_name, is_pty}
use Rattle.cards_fields.specs.Deck.{deck_end, deck_groups}
use Rattle.desk_show.specs.declared.Which.{Which}
use Rattle.desk_show.specs.declared.Which.TheVariants.{Repair, Day}
use Rattle.desk_show.specs.declared.Extent.{Extent}

-- a card opens a group with this ID: its second field is PTY, and its first, read loosely, is the ID and well formed.
-- "An id that isn't 1-6 of A-Z and 0-9 has none"
abbrev pub opens_for : List ℕ → List ℕ → Bool
opens_for id card = is_pty card && (is_name (field card 0) && same (field card 0) id)

-- a group has this ID by its first card; cards before the first PTY card belong to no ID
abbrev pub has_id : List ℕ → List (List ℕ) → Bool
has_id id [] = false
has_id id (card ∷ cards) = opens_for id card

-- none of these groups has it
abbrev pub NoneHas : List ℕ → List (List (List ℕ)) → Type 0
NoneHas id [] = Unit {0}
NoneHas id (g ∷ gs) = (has_id id g ≡ false) × NoneHas id gs

-- groups as they stand in their deck, one behind the other: all their cards, each with its LF
abbrev pub groups_text : List (List (List ℕ)) → List ℕ
groups_text [] = []
groups_text (g ∷ gs) = lines_text g ++ groups_text gs

-- "If an ID opens several groups in a deck, the first counts". No group before it has the ID, it comes after these, and
-- the part is its bytes
pub record FirstOf (id : List ℕ) (groups : List (List (List ℕ))) (from : ℕ) (part : List ℕ) : Type 0 where
  pub earlier : List (List (List ℕ))
  pub own : List (List ℕ)
  pub later : List (List (List ℕ))
  pub among : groups ≡ earlier ++ (own ∷ later)
  pub others : NoneHas id earlier
  pub its : has_id id own ≡ true
  pub start : from ≡ length (groups_text earlier)
  pub bytes : part ≡ lines_text own

-- a deck is refused, "deck too long or without termination card", or it is read
abbrev pub IsBad : List ℕ → Type 0
IsBad deck = deck_end deck ≡ Err BadDeck

abbrev pub IsRead : List ℕ → Type 0
IsRead deck = (end : ℕ) × (deck_end deck ≡ Ok end)

-- THE FOUR ANSWERS, which exclude each other: which deck has the group, or the refusal; from which of the deck's bytes
-- on; and the part
pub data ShowsFrom (id repair day : List ℕ) (which : Result Which Refusal) (from : ℕ) (part : List ℕ) : Type 0 where
  -- "11 first": for either deck. "Which of two bad decks was met first can't be seen"
  bad : which ≡ Err BadDeck → IsBad repair ⊎ IsBad day → from ≡ 0 → part ≡ [] → ShowsFrom id repair day which from part
  -- "from the repair deck if they are there",
  of_repair : which ≡ Ok Repair → IsRead repair × IsRead day → FirstOf id (deck_groups repair) from part → ShowsFrom id repair day which from part
  -- "else from the day's deck";
  of_day : which ≡ Ok Day → IsRead repair × IsRead day → NoneHas id (deck_groups repair) → FirstOf id (deck_groups day) from part
      → ShowsFrom id repair day which from part
  -- "22 no group with that ID in either deck"
  nobody : which ≡ Err NoGroup → IsRead repair × IsRead day → NoneHas id (deck_groups repair) × NoneHas id (deck_groups day) → from ≡ 0
      → part ≡ [] → ShowsFrom id repair day which from part

-- what stands in the deck that has it, from a byte on, so many bytes; nothing where there is a refusal
abbrev pub part_in : Result Which Refusal → ℕ → ℕ → List ℕ → List ℕ → List ℕ
part_in (Ok Repair) from len repair day = take len (drop from repair)
part_in (Ok Day) from len repair day = take len (drop from day)
part_in (Err refusal) from len repair day = []

abbrev pub part_of : Extent → List ℕ → List ℕ → List ℕ
part_of r repair day = part_in r.which r.from r.len repair day

-- ONE PROMISE of what is found and of the part that is shown. The part is "the text itself in the deck that has it",
-- where it was found and as long as is said
pub record Shows (id repair day : List ℕ) (r : Extent) (part : List ℕ) : Type 0 where
  pub answers : ShowsFrom id repair day r.which r.from part
  pub long : r.len ≡ length part
  pub there : part ≡ part_of r repair day

-- the part that is shown, for what is found: with `Shows` of what is found it is the same part (proofs/Unique: tied)
pub record Shown (id repair day part : List ℕ) : Type 0 where
  pub found : Extent
  pub shows : Shows id repair day found part
