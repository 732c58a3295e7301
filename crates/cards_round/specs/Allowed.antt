-- WHICH REQUESTS CARDS MAY ASK FOR: document 01's rules of fields, of entries, 14 and 27, of the request itself and
-- not of its texts. A reader has to believe this page.
use Rattle.std.specs.Prelude.{ℕ, ◌+◌, ◌≤◌, ◌≡◌, Bool, true, List, length, get_or}
use Rattle.numbers.specs.Quoted.{byte, bytes}
use Rattle.numbers.specs.Limits.{most_blocks, last_sequence, last_precedence}
use Rattle.text.specs.Class.{is_alnum, is_letter}
use Rattle.words.specs.Words.{every, has, passes}
use Rattle.words.specs.declared.Class.TheVariants.{Hyphened}
use Rattle.cards_fields.specs.Fields.{padded}
use Rattle.cards_request.specs.declared.Request.{Request}
use Rattle.cards_request.specs.Requests.{counts as many}

-- a name of so many characters, each of a class, and blanks behind them
pub record Name (class : ℕ → Bool) (least most : ℕ) (s : List ℕ) : Type 0 where
  pub text : List ℕ
  pub long : (least ≤ length text) × (length text ≤ most)
  pub each : every class text ≡ true
  pub is : s ≡ padded most text

pub record Allowed (r : Request) : Type 0 where
  -- "ID, 1-6 letters or digits"
  pub id : Name is_alnum 1 6 r.id
  -- "RUSH, empty or S"
  pub rush : has (bytes " S") r.rush ≡ true
  -- "program name, 1-12 letters, digits or hyphens, no hyphen first"
  pub program : Name (passes Hyphened) 1 12 r.program
  pub first : get_or r.program 0 0 ≡ byte "-" → ⊥
  -- "(6) empty or I; (7) empty, T, A or C; (8) medium name, formed like the ID; (9) S or P"
  pub immediate : has (bytes " I") r.immediate ≡ true
  pub device : has (bytes " TAC") r.device ≡ true
  pub medium : Name is_alnum 1 6 r.medium
  pub mode : has (bytes "SP") r.mode ≡ true
  -- "sequence 01-63, a letter, an optional precedence 0-63"; "Left out, sequence is 0"; "Z with precedence 63 .. is wrong"
  pub sequence : r.sequence ≤ last_sequence
  pub letter : is_letter r.letter ≡ true
  pub precedence : r.precedence ≤ last_precedence
  pub last : r.letter ≡ byte "Z" → r.precedence ≡ last_precedence → ⊥
  -- "(11) P or C; (12) estimated minutes, 1-4 digits; (13) empty, T, A, C or Z; (14) empty or formed like the ID"
  pub mix : has (bytes "PC") r.mix ≡ true
  pub minutes : r.minutes ≤ 9999
  pub store : has (bytes " TACZ") r.store ≡ true
  pub library : Name is_alnum 0 6 r.library
  -- "14 IB plus DB over 28; 27 no IB"
  pub ib : 1 ≤ r.facilities.ib
  pub core : r.facilities.ib + r.facilities.db ≤ most_blocks
  -- "`MD/n` (1-6)", and "(1-2 digits)" for each of 16 logical channels of each kind but the drum; 0 where none are
  pub drum : r.facilities.md ≤ 999999
  pub counts : length r.facilities.units ≡ many
  pub units : (k : ℕ) → get_or r.facilities.units k 0 ≤ 99
