-- What the functions beneath `find` and `part_of` answer. Nothing on this page has to be believed: contracts of private
-- functions cite it, and proofs/SeekLaws and proofs/PartLaws show what it comes to.
use Rattle.std.specs.Prelude.{ℕ, ◌+◌, ◌≤◌, min, ◌≡◌, Option, Some, None, Result, Ok, Err, List, length, take, drop}
use Rattle.numbers.specs.declared.Refusal.{Refusal}
use Rattle.numbers.specs.declared.Refusal.TheVariants.{NoGroup}
use Rattle.cards_fields.specs.Deck.{cards_of, groups_of}
use Rattle.desk_show.specs.Showing.{FirstOf, NoneHas}
use Rattle.desk_show.specs.declared.Which.{Which}
use Rattle.desk_show.specs.declared.Which.TheVariants.{Repair, Day}
use Rattle.desk_show.specs.declared.Extent.{Extent}
use Rattle.desk_show.specs.declared.Span.{Span}

-- the groups of a text of cards
abbrev pub groups_in : List ℕ → List (List (List ℕ))
groups_in cards = groups_of (cards_of cards)

-- the first group of an ID stands at a place of a text, within it
pub record StandsAt (id cards : List ℕ) (from len : ℕ) : Type 0 where
  pub first : FirstOf id (groups_in cards) from (take len (drop from cards))
  pub within : from + len ≤ length cards

-- where it stands, or that there is none
abbrev pub Seeks : List ℕ → List ℕ → Option (ℕ × ℕ) → Type 0
Seeks id cards (Some at) = StandsAt id cards at.0 at.1
Seeks id cards None = NoneHas id (groups_in cards)

-- no cards are shown
abbrev pub refused_for : Refusal → Extent
refused_for refusal = record { which = Err refusal; from = 0; len = 0 }

-- it stands among the repair deck's cards, else among the day's, or 22
abbrev pub FindsBy : List ℕ → List ℕ → List ℕ → Result Which Refusal → ℕ → ℕ → Type 0
FindsBy id repair day (Ok Repair) from len = StandsAt id repair from len
FindsBy id repair day (Ok Day) from len = NoneHas id (groups_in repair) × StandsAt id day from len
FindsBy id repair day (Err refusal) from len =
    (refusal ≡ NoGroup) × ((NoneHas id (groups_in repair) × NoneHas id (groups_in day)) × ((from ≡ 0) × (len ≡ 0)))

abbrev pub FindsIn : List ℕ → List ℕ → List ℕ → Extent → Type 0
FindsIn id repair day r = FindsBy id repair day r.which r.from r.len

-- the bytes of a deck of this size from one on, so many, but none past its end
abbrev pub clipped_to : Which → ℕ → ℕ → ℕ → Span
clipped_to which from len size = record { which = which; from = min from size; end = min (from + len) size }

-- where what was found stands in the deck that has it; no byte, of the day's deck, where there is a refusal
abbrev pub span_by : Result Which Refusal → ℕ → ℕ → ℕ → ℕ → Span
span_by (Ok Repair) from len repair day = clipped_to Repair from len repair
span_by (Ok Day) from len repair day = clipped_to Day from len day
span_by (Err refusal) from len repair day = clipped_to Day 0 0 day

abbrev pub span_of : Extent → ℕ → ℕ → Span
span_of r repair day = span_by r.which r.from r.len repair day
