-- THE ROUND TRIP: every request with its further cards that the writer takes and whose cards fit is read back from them
-- as it was, from the text and from the room that it was written into. Assumes nothing.
use Prim.Native.Nat.{ℕ, ◌≤◌, min}
use mathlib.Core.Path.{◌≡◌, sym, ap, ◌∙◌}
use mathlib.Core.Bool.{true, false, ◌&&◌}
use mathlib.Core.List.{List, ◌∷◌}
use native.Mathlib.Omega.{arith}
use lib.Dec.{leb}
use lib.ListN.{length, take, drop}
use lib.Seq.{take-append_seam}
use borrow.Author.Tests.{leb-true, le-ltb, eq-eqb}
use Rattle.numbers.proofs.Tests.{both}
use Rattle.numbers.specs.Elements.{any}
use Rattle.numbers.specs.Limits.{card_length, most_cards, most_further}
use Rattle.words.specs.Words.{value}
use Rattle.cards_fields.specs.Deck.{cards_of}
use Rattle.cards_fields.specs.Fields.{field, spaceless}
use Rattle.cards_request.specs.Requests.{texts}
use Rattle.cards_request.specs.declared.Request.{Request}
use Rattle.cards_request.specs.declared.Further.{Further}
use Rattle.cards_request.specs.declared.FullRequest.{FullRequest}
use Rattle.std.specs.Prelude.{Ok}
use Rattle.cards_fac.specs.Fac.{asked}
use Rattle.cards_further.specs.Further.{canonicals, held}
use Rattle.cards_group.specs.Group.{other_id, ordered_error, request_of, read_cards, read_full}
use Rattle.cards_group.proofs.GroupLaws.{front_error, order_error, in-steps}
use Rattle.cards_writing.specs.Writing.{pty_fields, pty_text, fac_text, takes}
use Rattle.words.specs.Lines.{lines_text}
use Rattle.cards_full.specs.Full.{card_count, behind_id, cards_in, text_of, short, takes_further, takes_full, fits, write_answer, written}
use Rattle.std.specs.Prelude.{Ok}
use Rattle.cards_full.proofs.Round.{Taken, taken, at, pty-right, is-fac, fac-right, same-ids, count-is, request-back, pty-line, fac-line, id-plain}
use Rattle.cards_full.proofs.WriteLaws.{behind-many}
use Rattle.cards_round.specs.AllowedFurther.{Card, texts_of, AllowedFurther}
use Rattle.cards_round.proofs.FurtherRound.{cards-back, written-lines, written-ids, written-types}
use Rattle.cards_round.proofs.FurtherRound.{written-together, written-content-all, written-again}
use Rattle.cards_round.proofs.HeldLaws.{kept-texts, texts-many}
use Rattle.cards_round.proofs.Taking.{further-allowed}

-- what a group without error reads as
pub read_as : (pty fac : List ℕ) (further : List (List ℕ)) → ordered_error (length (pty ∷ fac ∷ further)) pty fac further ≡ Ok tt
    → read_full (pty ∷ fac ∷ further)
    ≡ record { verdict = Ok tt; full = record { request = request_of pty (asked fac); further = held (canonicals further) } }
unfolding read_full read_cards
read_as pty fac further e = rw e

pub full-of : (v : FullRequest) (r : Request) (f : Further) → r ≡ v.request → f ≡ v.further
    → ◌≡◌ {A = FullRequest} (record { request = r; further = f }) v
full-of v r f a b = ap (λ (x : Request). record { request = x; further = f }) a ∙ ap (λ (y : Further). record { request = v.request; further = y }) b

module _ (v : FullRequest) (t : takes_full v ≡ true) where
  abbrev r : Request
  r = v.request

  abbrev n : ℕ
  n = card_count v

  abbrev id : List ℕ
  id = spaceless r.id

  parts : (takes_further v.further ≡ true) × (takes n r ≡ true)
  unfolding takes_full
  parts = both (takes_further v.further) (takes n r) t

  pub allowed : AllowedFurther v.further
  allowed = further-allowed v.further parts.0

  pub request-taken : Taken n r
  request-taken = taken n r parts.1

  abbrev ms : List Card
  ms = allowed.cards

  texts-are : texts v.further ≡ texts_of ms
  texts-are = ap texts allowed.is ∙ kept-texts ms allowed.kept

  count_of : v.further.count ≡ length (texts_of ms)
  unfolding held
  count_of =
      let a : v.further.count ≡ min (length (texts_of ms)) most_further = ap (λ (f : Further). f.count) allowed.is in
      omega (arith, texts-many ms, allowed.kept.few)

  abbrev further : List (List ℕ)
  further = behind_id id (texts_of ms)

  abbrev many : ℕ
  many = length (pty_text n r ∷ fac_text r ∷ further)

  pub cards-are : cards_in v ≡ pty_text n r ∷ fac_text r ∷ further
  unfolding cards_in
  cards-are = ap (λ (ts : List (List ℕ)). pty_text n r ∷ fac_text r ∷ behind_id id ts) texts-are

  pub cut : cards_of (text_of v) ≡ cards_in v
  cut =
      ap (λ (cs : List (List ℕ)). cards_of (lines_text cs)) cards-are
      ∙ cards-back (pty_text n r ∷ fac_text r ∷ further)
      (pty-line n r request-taken, (fac-line n r request-taken, written-lines id (id-plain n r request-taken) ms allowed.kept.each))
      ∙ sym cards-are

  module _ (s : short (cards_in v) ≡ true) where
    sizes : (length (pty_text n r) ≤ card_length) × ((length (fac_text r) ≤ card_length) × (short further ≡ true))
    sizes =
        let w : short (pty_text n r ∷ fac_text r ∷ further) ≡ true = ap short (sym cards-are) ∙ s in
        let a = both (leb (length (pty_text n r)) card_length) (leb (length (fac_text r)) card_length && short further) w in
        let b = both (leb (length (fac_text r)) card_length) (short further) a.1 in
        (leb-true (length (pty_text n r)) card_length a.0, (leb-true (length (fac_text r)) card_length b.0, b.1))

    front-right : front_error many (pty_text n r) (fac_text r) ≡ Ok tt
    front-right =
        let c = behind-many id (texts_of ms) in
        let e : value (field (pty_text n r) 2) ≡ many = count-is n r request-taken ∙ omega (arith, count_of, c) in
        rw (
          pty-right n r request-taken sizes.0,
          le-ltb most_cards many (omega (arith, c, texts-many ms, allowed.kept.few)),
          eq-eqb (value (field (pty_text n r) 2)) many e,
          is-fac n r request-taken,
        )

    first_field : field (pty_text n r) 0 ≡ id
    unfolding pty_fields
    first_field = at n r request-taken 0

    order-right : order_error (pty_text n r) (fac_text r) further ≡ Ok tt
    order-right =
        let d = id-plain n r request-taken in
        let h = sizes.1.1 in
        let i : any (other_id (pty_text n r)) further ≡ false = written-ids id d (pty_text n r) first_field ms allowed.kept.each in
        rw (written-types id d ms allowed.kept h, same-ids n r request-taken, i, written-together id d ms allowed.kept h)

    no-error : ordered_error many (pty_text n r) (fac_text r) further ≡ Ok tt
    no-error =
        in-steps many (pty_text n r) (fac_text r) further
        ∙ rw (
          front-right,
          order-right,
          fac-right n r request-taken sizes.1.0,
          written-content-all id (id-plain n r request-taken) ms allowed.kept sizes.1.1,
        )

    pub read_back : read_full (cards_of (text_of v)) ≡ record { verdict = Ok tt; full = v }
    read_back =
        let again : held (canonicals further) ≡ v.further =
        ap held (written-again id (id-plain n r request-taken) ms allowed.kept sizes.1.1) ∙ sym allowed.is in
        ap read_full (cut ∙ cards-are)
        ∙ read_as (pty_text n r) (fac_text r) further no-error
        ∙ ap (λ (x : FullRequest). record { verdict = Ok tt; full = x })
        (full-of v (request_of (pty_text n r) (asked (fac_text r))) (held (canonicals further)) (request-back n r request-taken) again)

-- EVERY REQUEST THAT THE WRITER TAKES AND WHOSE CARDS FIT IS READ BACK FROM THEM
pub round_trip : (v : FullRequest) (room : ℕ) → takes_full v ≡ true → fits v room ≡ true
    → read_full (cards_of (text_of v)) ≡ record { verdict = Ok tt; full = v }
unfolding fits
round_trip v room t f = read_back v t (both (short (cards_in v)) (leb (length (text_of v)) room) f).0

-- AND SO FROM THE ROOM: the bytes that writing says it wrote are read as the request
pub room-read : (v : FullRequest) (room : List ℕ) → takes_full v ≡ true → fits v (length room) ≡ true
    → (write_answer v (length room) ≡ Ok (length (text_of v)))
    × (read_full (cards_of (take (length (text_of v)) (written v room))) ≡ record { verdict = Ok tt; full = v })
unfolding write_answer written
room-read v room t f = (
  rw (t, f),
  rw (t, f, take-append_seam (text_of v) (drop (length (text_of v)) room)) (round_trip v (length room) t f),
)
