-- A TRN CARD THAT WAS READ is written as what it means, in no more characters than it had. It means a proper count or
-- none, and proper transfers. Assumes nothing.
use Prim.Native.Nat.{ℕ, ◌+◌, ◌≤◌, ◌<◌}
use mathlib.Core.Path.{◌≡◌, refl, sym, ap, subst, ◌∙◌}
use mathlib.Core.Bool.{Bool, true, false, cond, ◌&&◌, ◌||◌, not}
use mathlib.Core.List.{List, [], ◌∷◌}
use mathlib.Core.Option.{none, some}
use native.Mathlib.Omega.{arith}
use lib.Dec.{leb, ltb}
use lib.ListN.{length, get_or, drop}
use lib.Seq.{drop-cons}
use borrow.Author.Tests.{leb-true, leb-false, lt-ltb, ltb-false, not-false}
use Rattle.numbers.specs.Quoted.{bytes}
use Rattle.numbers.proofs.Tests.{by_bool, never, both}
use Rattle.text.specs.Class.{is_digit}
use Rattle.words.specs.Words.{every, value, number_in}
use Rattle.words.proofs.WordLaws.{number_short, same-equal, value-below}
use Rattle.cards_fields.specs.Fields.{field, fields, malformed}
use Rattle.cards_fields.proofs.RoundLaws.{joined, joined-pieces, named, digits-few, total, tail-total, total-two, fields-total, neither}
use Rattle.cards_request.specs.Errors.{error_if, first_of}
use Rattle.cards_request.proofs.ErrorLaws.{or_else_none, or-else-good, not-error}
use Rattle.cards_request.specs.declared.CardError.TheVariants.{TrnWrong, TrnLong}
use Rattle.std.specs.Prelude.{Ok}
use Rattle.cards_trn.specs.Trn.{is_trn, is_count, has_count, count_error, parts_of, part}
use Rattle.cards_trn.specs.Trn.{most_at, right_at, part_error, parts_error, transfer_error, third_error}
use Rattle.cards_trn.specs.Trn.{transfers_error, trn_error, third_text, field_texts, trn_text}
use Rattle.cards_trn.specs.Transfers.{ProperTransfer, EachTransfer, is_there, transfer_text, transfer_texts, trn_fields, ProperTrn, trn_of}
use Rattle.cards_trn.proofs.TrnMeant.{transfer_of, transfers_of, count_in, transfers_in, meant_count, meant_transfers}

-- a part without error is right
part_right : (t : List ℕ) (k : ℕ) → part_error t k ≡ Ok tt → right_at k (part t k) ≡ true
unfolding part_error
part_right t k h =
    let q = or_else_none (error_if (ltb (most_at k) (length (part t k))) TrnLong) (error_if (not (right_at k (part t k))) TrnWrong) h in
    not-false _ (not-error (not (right_at k (part t k))) TrnWrong q.1)

-- at most four parts of which the fourth is not empty are four
four : (ps : List (List ℕ)) → length ps ≤ 4 → 1 ≤ length (get_or ps 3 []) → get_or ps 0 [] ∷ get_or ps 1 [] ∷ get_or ps 2 [] ∷ get_or ps 3 [] ∷ [] ≡ ps
four [] l h = absurd (omega arith)
four (a ∷ []) l h = absurd (omega arith)
four (a ∷ b ∷ []) l h = absurd (omega arith)
four (a ∷ b ∷ c ∷ []) l h = absurd (omega arith)
four (a ∷ b ∷ c ∷ d ∷ []) l h = refl
four (a ∷ b ∷ c ∷ d ∷ e ∷ ps) l h = absurd (omega arith)

-- a transfer without error
module _ (t : List ℕ) (h : transfer_error t ≡ Ok tt) where
  tests : (parts_error t ≡ Ok tt) × (length (parts_of t) ≤ 4)
  unfolding transfer_error
  tests =
      let q = or_else_none (parts_error t) (error_if (ltb 4 (length (parts_of t))) TrnWrong) h in
      (q.0, ltb-false 4 (length (parts_of t)) (not-error (ltb 4 (length (parts_of t))) TrnWrong q.1))

  pub transfer-proper : ProperTransfer (transfer_of t)
  unfolding transfer_of parts_error
  transfer-proper =
      let a = or_else_none (part_error t 0) (first_of (part_error t 1 ∷ part_error t 2 ∷ part_error t 3 ∷ [])) tests.0 in
      let b = or_else_none (part_error t 1) (first_of (part_error t 2 ∷ part_error t 3 ∷ [])) a.1 in
      let c = or_else_none (part_error t 2) (first_of (part_error t 3 ∷ [])) b.1 in
      let d = or_else_none (part_error t 3) (Ok tt) c.1 in
      record { from = part_right t 0 a.0; typed = part_right t 1 b.0; next = part_right t 2 c.0; to = part_right t 3 d.0 }

  pub transfer-again : transfer_text (transfer_of t) ≡ t
  unfolding transfer_of transfer_text
  transfer-again = ap (joined 47) (four (parts_of t) tests.1 (named (part t 3) transfer-proper.to).some) ∙ joined-pieces 47 t

read-each : (ts : List (List ℕ)) → transfers_error ts ≡ Ok tt → EachTransfer (transfers_of ts)
read-each [] h = tt
read-each (t ∷ ts) h = let q = or_else_none (transfer_error t) (transfers_error ts) h in (transfer-proper t q.0, read-each ts q.1)

read_all : (ts : List (List ℕ)) → transfers_error ts ≡ Ok tt → transfer_texts (transfers_of ts) ≡ ts
read_all [] h = refl
read_all (t ∷ ts) h = let q = or_else_none (transfer_error t) (transfers_error ts) h in rw (transfer-again t q.0, read_all ts q.1)

-- a count without error
record Counted (counted : Bool) (t : List ℕ) : Type 0 where
  first : counted ≡ false
  pub most : length t ≤ 2
  least : 1 ≤ length t
  digits : every is_digit t ≡ true

count-read : (counted : Bool) (t : List ℕ) → count_error counted t ≡ Ok tt → Counted counted t
unfolding count_error
count-read counted t h =
    let p = or_else_none (error_if (ltb 2 (length t)) TrnLong) (error_if (counted || not (leb 1 (length t) && every is_digit t)) TrnWrong) h in
    let q = neither counted (not (leb 1 (length t) && every is_digit t))
    (not-error (counted || not (leb 1 (length t) && every is_digit t)) TrnWrong p.1) in
    let r = both (leb 1 (length t)) (every is_digit t) (not-false _ q.1) in
    record {
      first = q.0;
      most = ltb-false 2 (length t) (not-error (ltb 2 (length t)) TrnLong p.0);
      least = leb-true 1 (length t) r.0;
      digits = r.1;
    }

number_is : {counted : Bool} (t : List ℕ) → Counted counted t → number_in t ≡ value t
number_is t c = number_short t (omega (arith, c.most))

-- the fields from the third on
pub record FieldsMean (counted : Bool) (fs : List (List ℕ)) : Type 0 where
  pub proper : ProperTrn (count_in fs) (transfers_in fs)
  pub texts : field_texts fs ≡ trn_fields (count_in fs) (transfers_in fs)
  pub short : total (field_texts fs) ≤ total fs
  pub first : is_there (count_in fs) ≡ true → counted ≡ false

fields-mean : (counted : Bool) (f : List ℕ) (fs : List (List ℕ)) → third_error counted f ≡ Ok tt → transfers_error fs ≡ Ok tt
    → FieldsMean counted (f ∷ fs)
unfolding third_text
fields-mean counted f fs h g =
    by_bool (is_count f)
    (λ e.
    let c = count-read counted f (rw e at h) in
    let n = number_is f c in
    let l : value f ≤ 99 = omega (arith, value-below 2 f c.digits c.most) in
    record {
      proper = record { count = rw (e, n) l; each = rw e (read-each fs g); not_empty = rw e (omega arith) };
      texts = rw (e, read_all fs g);
      short = rw (e, n) (omega (arith, digits-few f c.digits c.least));
      first = λ z. c.first;
    })
    (λ e.
    let q : transfer_error f ≡ (Ok tt) = rw e at h in
    record {
      proper = record { count = rw e tt; each = rw e (transfer-proper f q, read-each fs g); not_empty = rw e (omega arith) };
      texts = rw (e, transfer-again f q, read_all fs g);
      short = rw e (omega arith);
      first = λ z. never (rw e at z) refl;
    })

module _ (counted : Bool) (card : List ℕ) (h : trn_error counted card ≡ Ok tt) where
  card-tests : (malformed card ≡ false)
      × ((2 < length (fields card)) × ((third_error counted (field card 2) ≡ Ok tt) × (transfers_error (drop 3 (fields card)) ≡ Ok tt)))
  unfolding trn_error
  card-tests =
      let p = or_else_none (error_if (malformed card) TrnWrong)
      (first_of (error_if (leb (length (fields card)) 2) TrnWrong ∷ third_error counted (field card 2) ∷ transfers_error (drop 3 (fields card)) ∷ []))
      h in
      let q = or_else_none (error_if (leb (length (fields card)) 2) TrnWrong)
      (first_of (third_error counted (field card 2) ∷ transfers_error (drop 3 (fields card)) ∷ [])) p.1 in
      let r = or_else_none (third_error counted (field card 2)) (first_of (transfers_error (drop 3 (fields card)) ∷ [])) q.1 in
      let l = leb-false (length (fields card)) 2 (not-error (leb (length (fields card)) 2) TrnWrong q.0) in
      (not-error (malformed card) TrnWrong p.0, (omega arith, (r.0, sym (or-else-good (transfers_error (drop 3 (fields card)))) ∙ r.1)))

  third-on : field card 2 ∷ drop 3 (fields card) ≡ drop 2 (fields card)
  third-on = sym (drop-cons (fields card) 2 [] card-tests.1.0)

  mean : FieldsMean counted (drop 2 (fields card))
  mean = subst (FieldsMean counted) third-on (fields-mean counted (field card 2) (drop 3 (fields card)) card-tests.1.1.0 card-tests.1.1.1)

  -- A GOOD CARD MEANS A PROPER COUNT OR NONE AND PROPER TRANSFERS
  pub trn-proper : ProperTrn (meant_count card) (meant_transfers card)
  trn-proper = mean.proper

  -- ITS TEXT IS THE TEXT OF WHAT IT MEANS
  pub trn-text : trn_text card ≡ trn_of (meant_count card) (meant_transfers card)
  unfolding trn_text trn_of
  trn-text = rw mean.texts

  -- it has a count where it means one
  pub trn-counts : has_count card ≡ is_there (meant_count card)
  unfolding has_count
  trn-counts =
      rw (lt-ltb 2 (length (fields card)) card-tests.1.0) (there (field card 2) ∙ ap (λ (fs : List (List ℕ)). is_there (count_in fs)) third-on)
    where
      there : (f : List ℕ) → is_count f ≡ is_there (cond (is_count f) (some (number_in f)) none)
      there f = by_bool (is_count f) (λ e. rw e) (λ e. rw e)

  -- and none where an earlier card has one
  pub trn-first : counted ≡ true → is_there (meant_count card) ≡ false
  trn-first e = by_bool (is_there (meant_count card)) (λ t. never e (mean.first t)) (λ f. f)

  -- AND IT IS WRITTEN IN NO MORE CHARACTERS THAN IT HAD
  pub trn-short : is_trn card ≡ true → length (trn_text card) + 1 + length (field card 0) ≤ length card
  unfolding trn_text
  trn-short z =
      let w : length (field card 1) ≡ 3 = ap length (same-equal (field card 1) (bytes "TRN") z) in
      omega (
        arith,
        tail-total (field_texts (drop 2 (fields card))),
        mean.short,
        total-two (fields card) (omega (arith, card-tests.1.0)),
        fields-total card card-tests.0,
        w,
      )
