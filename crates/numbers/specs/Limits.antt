-- THE LIMITS, in document 01's order, each request's beside what it extends; what follows from one is computed from it. A
-- reader has to believe this page.
use Rattle.std.specs.Prelude.{ℕ, ◌+◌, ◌-◌, ◌*◌}

-- "Core: 32 blocks"
abbrev pub blocks : ℕ
blocks = 32

-- "2 to 29 are assignable, the rest the executive's"
abbrev pub first_block : ℕ
first_block = 2

abbrev pub last_block : ℕ
last_block = 29

-- how many are assignable: "14 IB plus DB over 28"
abbrev pub most_blocks : ℕ
most_blocks = last_block - first_block + 1

-- "Drum: the lowest assignable address is 35,329 (105001o)"
abbrev pub lowest_address : ℕ
lowest_address = 0o105001

-- "64 requests in the schedule, running ones included"
abbrev pub most_requests : ℕ
most_requests = 64

-- "the drum length, 35,330 to 1,000,000 words": one word at least is assignable
abbrev pub least_words : ℕ
least_words = lowest_address + 1

abbrev pub most_words : ℕ
most_words = 1000000

-- "at most 60, the codes that set interlock"
abbrev pub most_codes : ℕ
most_codes = 60

-- "Deck: at most 16,384 bytes in all"
abbrev pub deck_bytes : ℕ
deck_bytes = 16384

-- "a card is at most 80 characters"
abbrev pub card_length : ℕ
card_length = 80

-- "an optional two-digit sequence 01-63, a letter, an optional precedence 0-63"
abbrev pub last_sequence : ℕ
last_sequence = 63

abbrev pub last_precedence : ℕ
last_precedence = 63

-- "A request may now have up to 16 cards"
abbrev pub most_cards : ℕ
most_cards = 16

-- all but PTY and FAC
abbrev pub most_further : ℕ
most_further = most_cards - 2

-- the characters of a further card from its type on: an ID, of one character at least, and a comma stand before it
abbrev pub text_length : ℕ
text_length = card_length - 2

-- the bytes of the cards of every request, each with its LF
abbrev pub cards_room : ℕ
cards_room = most_cards * (card_length + 1)

-- "PM text of up to 66 characters"
abbrev pub pm_length : ℕ
pm_length = 66

-- "PM0 to PM9"
abbrev pub pm_cards : ℕ
pm_cards = 10

-- the characters of the longest parameter table
abbrev pub table_length : ℕ
table_length = pm_cards * pm_length
