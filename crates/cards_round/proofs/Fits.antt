-- EVERY REQUEST READ FROM CARDS IS WRITTEN where the room has 1,296 bytes, and is read back as itself: neither 13 nor 12
-- arises. The PTY card has at most 64 characters, and each other card no more than the one that was read. Assumes
-- nothing.
use Prim.Native.Nat.{ℕ, suc, ◌≤◌}
use mathlib.Core.Path.{◌≡◌, refl, sym, ap, subst, ◌∙◌}
use mathlib.Core.Bool.{true, false, ◌||◌, not}
use mathlib.Core.List.{List, [], ◌∷◌, ◌++◌}
use native.Mathlib.Omega.{arith}
use lib.Dec.{eqb, ltb}
use lib.ListN.{length, get_or, drop, take, length-append}
use borrow.Author.Tests.{le-leb, ltb-true, ltb-false, not-false}
use Rattle.numbers.specs.Quoted.{bytes}
use Rattle.numbers.proofs.Tests.{by_bool, never, both}
use Rattle.numbers.specs.Elements.{any}
use Rattle.numbers.specs.Limits.{card_length, most_cards, most_further, cards_room}
use Rattle.words.specs.Words.{same, value}
use Rattle.words.proofs.WordLaws.{same-equal}
use Rattle.cards_fields.specs.Deck.{cards_of}
use Rattle.cards_fields.specs.Fields.{field, fields, spaceless, padded, malformed, card_text}
use Rattle.cards_fields.proofs.FieldLaws.{too_long}
use Rattle.cards_request.specs.Errors.{error_if, or_else}
use Rattle.cards_request.proofs.ErrorLaws.{not_good, or_else_none, not-error}
use Rattle.cards_request.specs.declared.CardError.TheVariants.{FacMalformed, NoFac, OtherId, WrongCount}
use Rattle.cards_request.specs.declared.Request.{Request}
use Rattle.cards_request.specs.declared.Further.{Further}
use Rattle.cards_request.specs.declared.FullRequest.{FullRequest}
use Rattle.cards_request.specs.Errors.{CardVerdict}
use Rattle.std.specs.Prelude.{Ok, Err}
use Rattle.cards_pty.specs.Pty.{rules, rule_at, pty_error}
use Rattle.cards_pty.proofs.PtyLaws.{right-at, good-field, fields-good}
use Rattle.cards_fac.specs.Fac.{nothing, entries_error, core_error, is_fac, entries_of, asked, fac_error}
use Rattle.cards_further.specs.Further.{types_error, together_error, contents_error, canonical, canonicals, held}
use Rattle.cards_group.specs.Group.{wrong_count, other_id, ordered_error, request_of, answer, full_answer, read_cards, read_full}
use Rattle.cards_group.specs.declared.FullReading.{FullReading}
use Rattle.cards_group.proofs.GroupLaws.{front_error, order_error, in-steps}
use Rattle.cards_writing.specs.Writing.{fac_text, pty_text, takes, entry_texts}
use Rattle.cards_full.specs.Full.{card_count, behind_id, cards_in, text_of, short, takes_further, takes_full, fits, write_answer, written}
use Rattle.cards_full.proofs.Kept.{fit_all, asks-held, read_taken}
use Rattle.cards_full.proofs.WriteLaws.{behind-many, lines-few}
use Rattle.cards_round.specs.AllowedFurther.{AllowedFurther}
use Rattle.cards_round.specs.NoLonger.{NoLonger}
use Rattle.cards_round.proofs.FurtherRound.{AllFew, AllRoom, FurtherMeant, further-meant}
use Rattle.cards_round.proofs.HeldLaws.{texts-back}
use Rattle.cards_round.proofs.Taking.{further-taken}
use Rattle.cards_round.proofs.FullRound.{room-read}
use Rattle.cards_round.proofs.Lengths.{pty-short, fac-short, name-short}
use Rattle.cards_fields.proofs.RoundLaws.{neither}

-- ---- the further cards

same_id : (pty c : List ℕ) → other_id pty c ≡ false → length (field c 0) ≡ length (field pty 0)
same_id pty c h = ap length (same-equal (field c 0) (field pty 0) (not-false (same (field c 0) (field pty 0)) h))

-- behind an ID of at least one character a text has at most 78
texts-few : (pty : List ℕ) → 1 ≤ length (field pty 0) → (cs : List (List ℕ)) → AllRoom cs → any (other_id pty) cs ≡ false → AllFew (canonicals cs)
texts-few pty h [] r i = tt
texts-few pty h (c ∷ cs) r i =
    let q = neither (other_id pty c) (any (other_id pty) cs) i in
    (omega (arith, r.0.0, r.0.1, same_id pty c q.0), texts-few pty h cs r.1 q.1)

further-shorter : (pty id : List ℕ) → length id ≤ length (field pty 0) → (cs : List (List ℕ)) → AllRoom cs → any (other_id pty) cs ≡ false
    → NoLonger (behind_id id (canonicals cs)) cs × (short (behind_id id (canonicals cs)) ≡ true)
further-shorter pty id h [] r i = (tt, refl)
further-shorter pty id h (c ∷ cs) r i =
    let q = neither (other_id pty c) (any (other_id pty) cs) i in
    let rest = further-shorter pty id h cs r.1 q.1 in
    let l : length (id ++ (44 ∷ canonical c)) ≤ length c = omega (arith, length-append id (44 ∷ canonical c), r.0.0, same_id pty c q.0) in
    ((l, rest.0), rw (le-leb (length (id ++ (44 ∷ canonical c))) card_length (omega (arith, r.0.1))) rest.1)

canonicals-many : (cs : List (List ℕ)) → length (canonicals cs) ≡ length cs
canonicals-many [] = refl
canonicals-many (c ∷ cs) = ap suc (canonicals-many cs)

-- ---- a group without error

-- what is shown of a request and the group that it was read from
record Again (group : List (List ℕ)) (v : FullRequest) : Type 0 where
  pub takes : takes_full v ≡ true
  pub first : length (get_or (cards_in v) 0 []) ≤ 64
  pub others : NoLonger (drop 1 (cards_in v)) (drop 1 group)
  pub small : short (cards_in v) ≡ true
  pub many : length (cards_in v) ≤ most_cards
  pub divided : drop 2 (cards_in v) ≡ behind_id (spaceless v.request.id) (canonicals (drop 2 group))

taken-request : (v : FullRequest) → takes_full v ≡ true → takes (card_count v) v.request ≡ true
unfolding takes_full
taken-request v t = (both (takes_further v.further) (takes (card_count v) v.request) t).1

module _ (n : ℕ) (pty fac : List ℕ) (further : List (List ℕ)) (e : ordered_error n pty fac further ≡ Ok tt) where
  pub steps : (front_error n pty fac ≡ Ok tt) × ((order_error pty fac further ≡ Ok tt) × ((fac_error fac ≡ Ok tt) × (contents_error false further ≡ Ok tt)))
  steps =
      let a = or_else_none (front_error n pty fac) (or_else (order_error pty fac further) (or_else (fac_error fac) (contents_error false further)))
      (sym (in-steps n pty fac further) ∙ e) in
      let b = or_else_none (order_error pty fac further) (or_else (fac_error fac) (contents_error false further)) a.1 in
      (a.0, (b.0, or_else_none (fac_error fac) (contents_error false further) b.1))

  front-tests : (pty_error pty ≡ Ok tt) × ((n ≤ most_cards) × (is_fac fac ≡ true))
  front-tests =
      let last = or_else (error_if (not (is_fac fac)) NoFac) (Ok tt) in
      let a = or_else_none (pty_error pty) (or_else (error_if (wrong_count n pty) WrongCount) last) steps.0 in
      let b = or_else_none (error_if (wrong_count n pty) WrongCount) last a.1 in
      let c = or_else_none (error_if (not (is_fac fac)) NoFac) (Ok tt) b.1 in
      let w = neither (ltb most_cards n) (not (eqb (value (field pty 2)) n)) (not-error (wrong_count n pty) WrongCount b.0) in
      (a.0, (ltb-false most_cards n w.0, not-false (is_fac fac) (not-error (not (is_fac fac)) NoFac c.0)))

  order-tests : (types_error further ≡ Ok tt) × ((other_id pty fac ≡ false) × ((any (other_id pty) further ≡ false) × (together_error further ≡ Ok tt)))
  order-tests =
      let ids = other_id pty fac || any (other_id pty) further in
      let a = or_else_none (types_error further) (or_else (error_if ids OtherId) (or_else (together_error further) (Ok tt))) steps.1.0 in
      let b = or_else_none (error_if ids OtherId) (or_else (together_error further) (Ok tt)) a.1 in
      let c = or_else_none (together_error further) (Ok tt) b.1 in
      let w = neither (other_id pty fac) (any (other_id pty) further) (not-error ids OtherId b.0) in
      (a.0, (w.0, (w.1, c.0)))

  pub entries-good : (malformed fac ≡ false) × (entries_error nothing (entries_of fac) ≡ Ok tt)
  unfolding fac_error
  entries-good =
      let a = or_else_none (error_if (malformed fac) FacMalformed)
      (or_else (entries_error nothing (entries_of fac)) (or_else (core_error (asked fac)) (Ok tt))) steps.1.1.0 in (
        not-error (malformed fac) FacMalformed a.0,
        (or_else_none (entries_error nothing (entries_of fac)) (or_else (core_error (asked fac)) (Ok tt)) a.1).0,
      )

  meant : FurtherMeant further
  meant = further-meant further order-tests.0 order-tests.1.1.1 steps.1.1.1

  id-some : 1 ≤ length (field pty 0)
  unfolding rules
  id-some = (good-field 0 (rule_at 0) (field pty 0) (right-at (fields pty) (fields-good pty front-tests.0) 0 (omega arith))).0

  few-texts : AllFew (canonicals further)
  few-texts = texts-few pty id-some further meant.room order-tests.1.1.0

  abbrev v : FullRequest
  v = record { request = request_of pty (asked fac); further = held (canonicals further) }

  abbrev id : List ℕ
  id = spaceless (padded 6 (field pty 0))

  fac-no-longer : length (fac_text v.request) ≤ length fac
  unfolding fac_text
  fac-no-longer =
      subst (λ (asks : List ℕ). length (card_text (id ∷ bytes "FAC" ∷ entry_texts 0 asks)) ≤ length fac)
      (sym (asks-held (asked fac) (fit_all nothing (entries_of fac) refl entries-good.1)))
      (fac-short id fac entries-good.0 front-tests.1.1 (omega (arith, name-short 6 (field pty 0), same_id pty fac order-tests.1.0))
      entries-good.1)

  fac-few : length fac ≤ card_length
  fac-few =
      by_bool (ltb card_length (length fac)) (λ t. never (too_long fac (ltb-true card_length (length fac) t)) entries-good.0)
      (λ t. ltb-false card_length (length fac) t)

  module _ (few : length further ≤ most_further) where
    count-few : card_count v ≤ 99
    unfolding held
    count-few = omega arith

    v-taken : takes_full v ≡ true
    unfolding takes_full
    v-taken =
        let a : AllowedFurther (held (canonicals further)) =
        record { cards = meant.cards; kept = meant.kept few few-texts; is = ap held meant.is } in
        rw (further-taken (held (canonicals further)) a, read_taken (card_count v) count-few pty fac front-tests.0 steps.1.1.0)

    cards-are : cards_in v ≡ pty_text (card_count v) v.request ∷ fac_text v.request ∷ behind_id id (canonicals further)
    unfolding cards_in
    cards-are =
        ap (λ (ts : List (List ℕ)). pty_text (card_count v) v.request ∷ fac_text v.request ∷ behind_id id ts)
        (texts-back (canonicals further) (omega (arith, canonicals-many further)) few-texts)

    pty-few : length (pty_text (card_count v) v.request) ≤ 64
    pty-few = pty-short (card_count v) v.request (taken-request v v-taken)

    others : NoLonger (behind_id id (canonicals further)) further × (short (behind_id id (canonicals further)) ≡ true)
    others = further-shorter pty id (name-short 6 (field pty 0)) further meant.room order-tests.1.1.0

    read_again : Again (pty ∷ fac ∷ further) v
    read_again = record {
      takes = v-taken;
      first = subst (λ (cs : List (List ℕ)). length (get_or cs 0 []) ≤ 64) (sym cards-are) pty-few;
      others = subst (λ (cs : List (List ℕ)). NoLonger (drop 1 cs) (fac ∷ further)) (sym cards-are) (fac-no-longer, others.0);
      small = ap short cards-are
          ∙ rw (
            le-leb (length (pty_text (card_count v) v.request)) card_length (omega (arith, pty-few)),
            le-leb (length (fac_text v.request)) card_length (omega (arith, fac-no-longer, fac-few)),
            others.1,
          );
      divided = ap (λ (cs : List (List ℕ)). drop 2 cs) cards-are;
      many = subst (λ (cs : List (List ℕ)). length cs ≤ most_cards) (sym cards-are)
          (omega (arith, behind-many id (canonicals further), canonicals-many further));
    }

-- ---- what was read

full-answered : (w : CardVerdict) (q : Request) (f : Further) (v : FullRequest)
    → full_answer (answer w q).verdict (answer w q).request f ≡ record { verdict = Ok tt; full = v }
    → (w ≡ Ok tt) × ◌≡◌ {A = FullRequest} (record { request = q; further = f }) v
full-answered (Ok tt) q f v e = (refl, ap (λ (x : FullReading). x.full) e)
full-answered (Err x) q f v e = not_good (ap (λ (y : FullReading). y.verdict) e)

-- a group that reads as a request has no error, and the request is what its cards say
pub answered : (group : List (List ℕ)) (v : FullRequest) → read_full group ≡ record { verdict = Ok tt; full = v }
    → (ordered_error (length group) (get_or group 0 []) (get_or group 1 []) (drop 2 group) ≡ Ok tt)
    × ◌≡◌ {A = FullRequest} (record { request = request_of (get_or group 0 []) (asked (get_or group 1 [])); further = held (canonicals (drop 2 group)) }) v
unfolding read_full read_cards
answered group v e =
    full-answered (ordered_error (length group) (get_or group 0 []) (get_or group 1 []) (drop 2 group))
    (request_of (get_or group 0 []) (asked (get_or group 1 []))) (held (canonicals (drop 2 group))) v e

no-fac : is_fac [] ≡ false
unfolding fields
no-fac = refl

again : (group : List (List ℕ)) (v : FullRequest) → read_full group ≡ record { verdict = Ok tt; full = v } → Again group v
again [] v e = never (front-tests 0 [] [] [] (answered [] v e).0).1.1 no-fac
again (c ∷ []) v e = never (front-tests 1 c [] [] (answered (c ∷ []) v e).0).1.1 no-fac
again (pty ∷ fac ∷ further) v e =
    let a = answered (pty ∷ fac ∷ further) v e in
    let n = (front-tests (length (pty ∷ fac ∷ further)) pty fac further a.0).1.0 in
    subst (Again (pty ∷ fac ∷ further)) a.1 (read_again (length (pty ∷ fac ∷ further)) pty fac further a.0 (omega arith))

-- 13 NEVER ARISES
pub read-takes : (group : List (List ℕ)) (v : FullRequest) → read_full group ≡ record { verdict = Ok tt; full = v } → takes_full v ≡ true
read-takes group v e = (again group v e).takes

-- NOR 12 where the room has 1,296 bytes
pub read_fits : (group : List (List ℕ)) (v : FullRequest) (room : ℕ) → read_full group ≡ record { verdict = Ok tt; full = v } → cards_room ≤ room
    → fits v room ≡ true
unfolding fits
read_fits group v room e h =
    let a = again group v e in
    rw (a.small, le-leb (length (text_of v)) room (omega (arith, lines-few (cards_in v) a.small, a.many)))

-- EVERY REQUEST READ FROM CARDS IS WRITTEN, and read back as itself
pub always-written : (group : List (List ℕ)) (v : FullRequest) (room : List ℕ) → read_full group ≡ record { verdict = Ok tt; full = v }
    → cards_room ≤ length room
    → (write_answer v (length room) ≡ Ok (length (text_of v)))
    × (read_full (cards_of (take (length (text_of v)) (written v room))) ≡ record { verdict = Ok tt; full = v })
always-written group v room e h = room-read v room (read-takes group v e) (read_fits group v (length room) e h)

-- AND IN NO MORE CHARACTERS: its PTY card has at most 64, each other card at most as many as the one that was read; and
-- each further card is what the one that was read is in canonical form
pub no_longer : (group : List (List ℕ)) (v : FullRequest) → read_full group ≡ record { verdict = Ok tt; full = v }
    → (drop 2 (cards_in v) ≡ behind_id (spaceless v.request.id) (canonicals (drop 2 group)))
    × ((length (get_or (cards_in v) 0 []) ≤ 64) × NoLonger (drop 1 (cards_in v)) (drop 1 group))
no_longer group v e = let a = again group v e in (a.divided, (a.first, a.others))
