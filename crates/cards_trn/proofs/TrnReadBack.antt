-- READING WHAT WAS WRITTEN: a written TRN card gives its count and its transfers back, and its text leaves one meaning.
-- Assumes nothing.
use Prim.Native.Nat.{ℕ, ◌≤◌, ◌<◌}
use mathlib.Core.Path.{◌≡◌, refl, sym, ap, ◌∙◌}
use mathlib.Core.Bool.{Bool, true, false}
use mathlib.Core.List.{List, [], ◌∷◌, ◌++◌}
use mathlib.Core.Option.{Option}
use native.Mathlib.Omega.{arith}
use lib.ListN.{length, get_or, drop}
use borrow.Author.Tests.{lt-leb, lt-ltb}
use Rattle.numbers.specs.Quoted.{bytes}
use Rattle.numbers.specs.Limits.{card_length}
use Rattle.text.specs.Class.{is_digit, is_letter, is_alnum}
use Rattle.words.specs.Words.{every, same}
use Rattle.words.proofs.LineLaws.{NoLf}
use Rattle.cards_fields.specs.Fields.{field, fields, malformed, card_text}
use Rattle.cards_fields.proofs.CardLaws.{plain, AllPlain, fields_back, card-good, card-line}
use Rattle.std.specs.Prelude.{Ok}
use Rattle.cards_trn.specs.Trn.{is_trn, has_count, trn_error, trn_text}
use Rattle.cards_trn.specs.Transfers.{Transfer, is_there, trn_fields, ProperTrn, trn_of}
use Rattle.cards_trn.proofs.TrnMeant.{count_in, transfers_in, meant_count, meant_transfers}
use Rattle.cards_trn.proofs.TrnParts.{fields-plain, fields-good, fields-counted, fields-again, fields-count, fields-transfers}

-- WHAT WAS WRITTEN: a TRN card of an ID, a count or none, and transfers
pub record TrnWritten (id : List ℕ) (c : Option ℕ) (ts : List Transfer) (card : List ℕ) : Type 0 where
  pub apart : fields card ≡ id ∷ bytes "TRN" ∷ trn_fields c ts
  pub named : field card 0 ≡ id
  pub trn : is_trn card ≡ true
  -- it is not TAL
  pub other : same (field card 1) (bytes "TAL") ≡ false
  pub line : NoLf card
  pub counts : has_count card ≡ is_there c
  pub good : (counted : Bool) → (is_there c ≡ true → counted ≡ false) → length card ≤ card_length → trn_error counted card ≡ Ok tt
  pub text : trn_text card ≡ trn_of c ts
  pub count_back : meant_count card ≡ c
  pub transfers_back : meant_transfers card ≡ ts

module _ (id : List ℕ) (c : Option ℕ) (ts : List Transfer) (d : every plain id ≡ true) (p : ProperTrn c ts) where
  abbrev pub card : List ℕ
  card = id ++ (44 ∷ trn_of c ts)

  abbrev texts : List (List ℕ)
  texts = bytes "TRN" ∷ trn_fields c ts

  card-is : card ≡ card_text (id ∷ texts)
  unfolding trn_of
  card-is = refl

  trn-plain : every plain (bytes "TRN") ≡ true
  unfolding is_alnum is_letter is_digit
  trn-plain = refl

  all : AllPlain (id ∷ texts)
  all = (d, (trn-plain, fields-plain c ts p.each))

  apart : fields card ≡ id ∷ texts
  apart = ap fields card-is ∙ fields_back id texts all

  three : 2 < length (id ∷ texts)
  three = omega (arith, p.not_empty)

  counts : has_count card ≡ is_there c
  unfolding has_count
  counts = rw (apart, lt-ltb 2 (length (id ∷ texts)) three) (fields-counted c ts p)

  good : (counted : Bool) → (is_there c ≡ true → counted ≡ false) → length card ≤ card_length → trn_error counted card ≡ Ok tt
  unfolding trn_error
  good counted e l =
      let m : malformed card ≡ false = ap malformed card-is ∙ card-good id texts all (rw card-is at l) in
      let g = fields-good counted c ts p e in
      rw (m, apart, lt-leb (length (id ∷ texts)) 2 three, g.0, g.1)

  text : trn_text card ≡ trn_of c ts
  unfolding trn_text trn_of
  text = rw (apart, fields-again c ts p)

  -- THE WRITTEN CARD READ
  pub trn-written : TrnWritten id c ts card
  trn-written = record {
    apart = apart;
    named = ap (λ (fs : List (List ℕ)). get_or fs 0 []) apart;
    trn = ap (λ (fs : List (List ℕ)). same (get_or fs 1 []) (bytes "TRN")) apart;
    other = ap (λ (fs : List (List ℕ)). same (get_or fs 1 []) (bytes "TAL")) apart;
    line = rw card-is (card-line id texts all);
    counts = counts;
    good = good;
    text = text;
    count_back = ap (λ (fs : List (List ℕ)). count_in (drop 2 fs)) apart ∙ fields-count c ts p;
    transfers_back = ap (λ (fs : List (List ℕ)). transfers_in (drop 2 fs)) apart ∙ fields-transfers c ts p;
  }

-- ---- equal texts mean the same

-- a text from the type on is a card without an ID
read_back : (c : Option ℕ) (ts : List Transfer) → ProperTrn c ts → drop 1 (fields (trn_of c ts)) ≡ trn_fields c ts
unfolding trn_of is_alnum is_letter is_digit
read_back c ts p = ap (drop 1) (fields_back (bytes "TRN") (trn_fields c ts) (refl, fields-plain c ts p.each))

pub trn-once : (c d : Option ℕ) (ts us : List Transfer) → ProperTrn c ts → ProperTrn d us → trn_of c ts ≡ trn_of d us → (c ≡ d) × (ts ≡ us)
trn-once c d ts us p q e =
    let f : trn_fields c ts ≡ trn_fields d us = sym (read_back c ts p) ∙ ap (λ (s : List ℕ). drop 1 (fields s)) e ∙ read_back d us q in
    (sym (fields-count c ts p) ∙ ap count_in f ∙ fields-count d us q, sym (fields-transfers c ts p) ∙ ap transfers_in f ∙ fields-transfers d us q)
