-- The request for nothing, and no further cards: what is beside an error, and after the schedule's last request. And
-- the texts that further cards hold.
use Rattle.std.specs.Prelude.{ℕ, ◌*◌, List, [], ◌∷◌, replicate, take}
use Rattle.numbers.specs.Kinds.{unit_kinds}
use Rattle.numbers.specs.Quoted.{byte}
use Rattle.numbers.specs.Limits.{most_further, text_length}
use Rattle.cards_request.specs.declared.Facilities.{Facilities}
use Rattle.cards_request.specs.declared.Request.{Request}
use Rattle.cards_request.specs.declared.FurtherCard.{FurtherCard}
use Rattle.cards_request.specs.declared.Further.{Further}
use Rattle.cards_request.specs.declared.FullRequest.{FullRequest}

-- how many counts of units a request has: one for each of the 16 logical channels of each kind but the drum
abbrev pub counts : ℕ
counts = unit_kinds * 16

-- no units
abbrev pub no_units : List ℕ
no_units = replicate counts 0

-- nothing is asked for
abbrev pub no_facilities : Facilities
no_facilities = record { ib = 0; db = 0; md = 0; units = no_units }

-- the blank request: blanks, zeros, and nothing asked for
abbrev pub no_request : Request
no_request = record {
  id = replicate 6 (byte " ");
  rush = byte " ";
  program = replicate 12 (byte " ");
  immediate = byte " ";
  device = byte " ";
  medium = replicate 6 (byte " ");
  mode = byte " ";
  sequence = 0;
  letter = byte " ";
  precedence = 0;
  mix = byte " ";
  minutes = 0;
  store = byte " ";
  library = replicate 6 (byte " ");
  facilities = no_facilities;
}

-- the blank card
abbrev pub no_card : FurtherCard
no_card = record { text = replicate text_length (byte " "); len = 0 }

-- no further cards
abbrev pub no_further : Further
no_further = record { cards = replicate most_further no_card; count = 0 }

-- neither
abbrev pub no_full_request : FullRequest
no_full_request = record { request = no_request; further = no_further }

-- the texts that further cards hold, each as long as it says
abbrev pub texts_in : List FurtherCard → List (List ℕ)
texts_in [] = []
texts_in (c ∷ cs) = take c.len c.text ∷ texts_in cs

-- and so many of them
abbrev pub texts : Further → List (List ℕ)
texts f = texts_in (take f.count f.cards)
