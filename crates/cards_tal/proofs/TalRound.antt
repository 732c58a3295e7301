-- READING WHAT WAS WRITTEN gives the increments back, and every good TAL card is written as what it means: proper
-- increments, in no more characters than it had; and the text tells what it means. Assumes nothing.
use Prim.Native.Nat.{ℕ, ◌+◌, ◌≤◌, ◌<◌}
use mathlib.Core.Path.{◌≡◌, refl, sym, ap, ◌∙◌}
use mathlib.Core.Bool.{true, false, ◌&&◌, not}
use mathlib.Core.List.{List, [], ◌∷◌, ◌++◌}
use native.Mathlib.Omega.{arith}
use lib.Dec.{leb, ltb}
use lib.ListN.{length, get_or, drop, length-append, length-drop}
use lib.Seq.{drop-append-add}
use borrow.Author.Tests.{le-leb, lt-leb, leb-true, leb-false, le-ltb, lt-ltb, ltb-true, ltb-false, not-false}
use Rattle.numbers.specs.Quoted.{bytes}
use Rattle.numbers.proofs.Tests.{both}
use Rattle.numbers.specs.Limits.{card_length}
use Rattle.text.specs.Class.{is_digit, is_letter, is_alnum}
use Rattle.text.specs.Writing.{decimal_text}
use Rattle.text.proofs.Undo.{few-digits}
use Rattle.words.specs.Words.{every, same, value, number_in}
use Rattle.words.proofs.WordLaws.{every_append, every-weaker, number_short, same-equal, value-below}
use Rattle.words.proofs.LineLaws.{NoLf}
use Rattle.cards_fields.specs.Fields.{field, fields, is_name, malformed, card_text, digits}
use Rattle.cards_fields.proofs.CardLaws.{plain, AllPlain, alnum-plain, digit-plain, fields_back, card-good, card-line, number-back, number_digits}
use Rattle.cards_fields.proofs.RoundLaws.{has-not, leading-join, Named, named, digits-few, number-some, total, tail-total, total-two, fields-total}
use Rattle.cards_request.specs.Errors.{error_if, first_of}
use Rattle.cards_request.proofs.ErrorLaws.{or_else_none, or-else-good, not-error}
use Rattle.cards_request.specs.declared.CardError.TheVariants.{TalWrong, TalLong}
use Rattle.std.specs.Prelude.{Ok}
use Rattle.cards_tal.specs.Tal.{is_tal, name_of, number_of, slashed, number_error, entry_error, entries_error}
use Rattle.cards_tal.specs.Tal.{entries_of, tal_error, entry_text, entry_texts, tal_text}
use Rattle.cards_tal.specs.Increments.{Increment, ProperIncrement, EachIncrement, ProperIncrements, increment_text, increment_texts, tal_of}

-- ---- what a card means

-- the increment that an entry means
unfoldable pub increment_of : List ℕ → Increment
increment_of t = record { name = name_of t; number = number_in (number_of t) }

abbrev pub increments_of : List (List ℕ) → List Increment
increments_of [] = []
increments_of (t ∷ ts) = increment_of t ∷ increments_of ts

-- those of a card
abbrev pub meant_increments : List ℕ → List Increment
meant_increments card = increments_of (entries_of card)

-- ---- an increment, written and read

alnum-slashless : is_alnum 47 ≡ false
unfolding is_alnum is_letter is_digit
alnum-slashless = refl

alike : {a b : List ℕ} {m n : ℕ} → a ≡ b → m ≡ n → ◌≡◌ {A = Increment} (record { name = a; number = m }) (record { name = b; number = n })
alike e f = cc

module _ (i : Increment) (p : ProperIncrement i) where
  name : Named i.name
  name = named i.name p.0

  few : length (decimal_text i.number) ≤ 5
  few = few-digits 4 i.number (omega (arith, p.1))

  some : 1 ≤ length (decimal_text i.number)
  some = number-some i.number

  name_back : name_of (increment_text i) ≡ i.name
  unfolding increment_text
  name_back = leading-join 47 i.name (decimal_text i.number) (has-not is_alnum 47 alnum-slashless i.name name.alnum)

  digits-back : number_of (increment_text i) ≡ decimal_text i.number
  unfolding increment_text
  digits-back = ap (λ (l : List ℕ). drop (length l + 1) (increment_text i)) name_back ∙ drop-append-add i.name (47 ∷ decimal_text i.number) 1

  value-is : number_in (decimal_text i.number) ≡ i.number
  value-is = number_short (decimal_text i.number) (omega (arith, few)) ∙ number-back i.number

  increment-slashed : slashed (increment_text i) ≡ true
  unfolding increment_text
  increment-slashed =
      rw name_back (lt-ltb (length i.name) (length (increment_text i)) (omega (arith, length-append i.name (47 ∷ decimal_text i.number))))

  pub increment-good : entry_error (increment_text i) ≡ Ok tt
  unfolding entry_error number_error
  increment-good =
      rw (
        increment-slashed,
        digits-back,
        name_back,
        p.0,
        le-ltb 5 (length (decimal_text i.number)) few,
        le-leb 1 (length (decimal_text i.number)) some,
        number_digits i.number,
      )

  pub increment-again : entry_text (increment_text i) ≡ increment_text i
  unfolding entry_text increment_text
  increment-again = rw (digits-back, name_back, value-is)

  pub increment-back : increment_of (increment_text i) ≡ i
  unfolding increment_of
  increment-back = alike name_back (ap number_in digits-back ∙ value-is)

  pub increment-plain : every plain (increment_text i) ≡ true
  unfolding increment_text
  increment-plain =
      every_append plain i.name (47 ∷ decimal_text i.number)
      (every-weaker is_alnum plain alnum-plain i.name name.alnum)
      (rw alnum-slashless (every-weaker is_digit plain digit-plain (decimal_text i.number) (number_digits i.number)))

-- and a list of them
all_plain : (is : List Increment) → EachIncrement is → AllPlain (increment_texts is)
all_plain [] p = tt
all_plain (i ∷ is) p = (increment-plain i p.0, all_plain is p.1)

all-good : (is : List Increment) → EachIncrement is → entries_error (increment_texts is) ≡ Ok tt
all-good [] p = refl
all-good (i ∷ is) p = rw (increment-good i p.0) (all-good is p.1)

all-again : (is : List Increment) → EachIncrement is → entry_texts (increment_texts is) ≡ increment_texts is
all-again [] p = refl
all-again (i ∷ is) p = rw (increment-again i p.0, all-again is p.1)

all_back : (is : List Increment) → EachIncrement is → increments_of (increment_texts is) ≡ is
all_back [] p = refl
all_back (i ∷ is) p = rw (increment-back i p.0, all_back is p.1)

count : (is : List Increment) → length (increment_texts is) ≡ length is
count [] = refl
count (i ∷ is) = omega (arith, count is)

-- WHAT WAS WRITTEN: a TAL card of an ID and proper increments
pub record TalWritten (id : List ℕ) (is : List Increment) (card : List ℕ) : Type 0 where
  pub apart : fields card ≡ id ∷ bytes "TAL" ∷ increment_texts is
  pub named : field card 0 ≡ id
  pub tal : is_tal card ≡ true
  -- it is not TRN
  pub other : same (field card 1) (bytes "TRN") ≡ false
  pub line : NoLf card
  pub good : length card ≤ card_length → tal_error card ≡ Ok tt
  pub text : tal_text card ≡ tal_of is
  pub back : meant_increments card ≡ is

module _ (id : List ℕ) (is : List Increment) (d : every plain id ≡ true) (p : ProperIncrements is) where
  abbrev card : List ℕ
  card = id ++ (44 ∷ tal_of is)

  abbrev texts : List (List ℕ)
  texts = bytes "TAL" ∷ increment_texts is

  card-is : card ≡ card_text (id ∷ texts)
  unfolding tal_of
  card-is = refl

  tal-plain : every plain (bytes "TAL") ≡ true
  unfolding is_alnum is_letter is_digit
  tal-plain = refl

  all : AllPlain (id ∷ texts)
  all = (d, (tal-plain, all_plain is p.1))

  apart : fields card ≡ id ∷ texts
  apart = ap fields card-is ∙ fields_back id texts all

  good : length card ≤ card_length → tal_error card ≡ Ok tt
  unfolding tal_error
  good l =
      let m : malformed card ≡ false = ap malformed card-is ∙ card-good id texts all (rw card-is at l) in
      rw (m, apart, lt-leb (length (id ∷ texts)) 2 (omega (arith, count is, p.0)), all-good is p.1)

  text : tal_text card ≡ tal_of is
  unfolding tal_text tal_of
  text = rw (apart, all-again is p.1)

  -- THE WRITTEN CARD READ
  pub tal-written : TalWritten id is card
  tal-written = record {
    apart = apart;
    named = ap (λ (fs : List (List ℕ)). get_or fs 0 []) apart;
    tal = ap (λ (fs : List (List ℕ)). same (get_or fs 1 []) (bytes "TAL")) apart;
    other = ap (λ (fs : List (List ℕ)). same (get_or fs 1 []) (bytes "TRN")) apart;
    line = rw card-is (card-line id texts all);
    good = good;
    text = text;
    back = ap (λ (fs : List (List ℕ)). increments_of (drop 2 fs)) apart ∙ all_back is p.1;
  }

-- ---- a card that was read

-- an entry without error
module _ (t : List ℕ) (h : entry_error t ≡ Ok tt) where
  parts : (slashed t && is_name (name_of t) ≡ true) × (number_error (number_of t) ≡ Ok tt)
  unfolding entry_error
  parts =
      let q = or_else_none (error_if (not (slashed t && is_name (name_of t))) TalWrong) (number_error (number_of t)) h in
      (not-false _ (not-error (not (slashed t && is_name (name_of t))) TalWrong q.0), q.1)

  cut : length (name_of t) < length t
  cut = ltb-true (length (name_of t)) (length t) (both (slashed t) (is_name (name_of t)) parts.0).0

  numbers : (length (number_of t) ≤ 5) × (digits (number_of t) ≡ true)
  unfolding number_error
  numbers =
      let q = or_else_none (error_if (ltb 5 (length (number_of t))) TalLong) (error_if (not (digits (number_of t))) TalWrong) parts.1 in (
        ltb-false 5 (length (number_of t)) (not-error (ltb 5 (length (number_of t))) TalLong q.0),
        not-false _ (not-error (not (digits (number_of t))) TalWrong q.1),
      )

  number_is : number_in (number_of t) ≡ value (number_of t)
  number_is = number_short (number_of t) (omega (arith, numbers.0))

  all_digits : (1 ≤ length (number_of t)) × (every is_digit (number_of t) ≡ true)
  all_digits =
      let q = both (leb 1 (length (number_of t))) (every is_digit (number_of t)) numbers.1 in
      (leb-true 1 (length (number_of t)) q.0, q.1)

  pub entry-proper : ProperIncrement (increment_of t)
  unfolding increment_of
  entry-proper = (
    (both (slashed t) (is_name (name_of t)) parts.0).1,
    rw number_is (omega (arith, value-below 5 (number_of t) all_digits.1 numbers.0)),
  )

  pub entry-short : length (entry_text t) ≤ length t
  unfolding entry_text
  entry-short =
      rw number_is
      (omega (
        arith,
        length-append (name_of t) (47 ∷ decimal_text (value (number_of t))),
        digits-few (number_of t) all_digits.1 all_digits.0,
        length-drop (length (name_of t) + 1) t,
        cut,
      ))

pub entry-meant : (t : List ℕ) → entry_text t ≡ increment_text (increment_of t)
unfolding entry_text increment_of increment_text
entry-meant t = refl

meant-texts : (ts : List (List ℕ)) → entry_texts ts ≡ increment_texts (increments_of ts)
meant-texts [] = refl
meant-texts (t ∷ ts) = rw (entry-meant t, meant-texts ts)

meant-count : (ts : List (List ℕ)) → length (increments_of ts) ≡ length ts
meant-count [] = refl
meant-count (t ∷ ts) = omega (arith, meant-count ts)

meant-each : (ts : List (List ℕ)) → entries_error ts ≡ Ok tt → EachIncrement (increments_of ts)
meant-each [] h = tt
meant-each (t ∷ ts) h = let q = or_else_none (entry_error t) (entries_error ts) h in (entry-proper t q.0, meant-each ts q.1)

all_short : (ts : List (List ℕ)) → entries_error ts ≡ Ok tt → total (entry_texts ts) ≤ total ts
all_short [] h = omega arith
all_short (t ∷ ts) h = let q = or_else_none (entry_error t) (entries_error ts) h in omega (arith, entry-short t q.0, all_short ts q.1)

-- THE TEXT OF A CARD IS THE TEXT OF WHAT IT MEANS
pub tal-text : (card : List ℕ) → tal_text card ≡ tal_of (meant_increments card)
unfolding tal_text tal_of
tal-text card = rw (meant-texts (entries_of card))

module _ (card : List ℕ) (h : tal_error card ≡ Ok tt) where
  tests : (malformed card ≡ false) × ((3 ≤ length (fields card)) × (entries_error (entries_of card) ≡ Ok tt))
  unfolding tal_error
  tests =
      let p = or_else_none (error_if (malformed card) TalWrong)
      (first_of (error_if (leb (length (fields card)) 2) TalWrong ∷ entries_error (entries_of card) ∷ [])) h in
      let q = or_else_none (error_if (leb (length (fields card)) 2) TalWrong) (first_of (entries_error (entries_of card) ∷ [])) p.1 in
      let l = leb-false (length (fields card)) 2 (not-error (leb (length (fields card)) 2) TalWrong q.0) in
      (not-error (malformed card) TalWrong p.0, (omega arith, sym (or-else-good (entries_error (entries_of card))) ∙ q.1))

  -- A GOOD CARD MEANS PROPER INCREMENTS
  pub tal-proper : ProperIncrements (meant_increments card)
  tal-proper = (omega (arith, meant-count (entries_of card), length-drop 2 (fields card), tests.1.0), meant-each (entries_of card) tests.1.1)

  -- AND IS WRITTEN IN NO MORE CHARACTERS THAN IT HAD
  pub tal-short : is_tal card ≡ true → length (tal_text card) + 1 + length (field card 0) ≤ length card
  unfolding tal_text
  tal-short z =
      let w : length (field card 1) ≡ 3 = ap length (same-equal (field card 1) (bytes "TAL") z) in
      omega (
        arith,
        tail-total (entry_texts (entries_of card)),
        all_short (entries_of card) tests.1.1,
        total-two (fields card) (omega (arith, tests.1.0)),
        fields-total card tests.0,
        w,
      )

-- ---- equal texts mean the same

-- a text from the type on is a card without an ID
read_back : (is : List Increment) → EachIncrement is → increments_of (drop 1 (fields (tal_of is))) ≡ is
unfolding tal_of is_alnum is_letter is_digit
read_back is p =
    ap (λ (fs : List (List ℕ)). increments_of (drop 1 fs)) (fields_back (bytes "TAL") (increment_texts is) (refl, all_plain is p)) ∙ all_back is p

pub tal-once : (is js : List Increment) → EachIncrement is → EachIncrement js → tal_of is ≡ tal_of js → is ≡ js
tal-once is js p q e = sym (read_back is p) ∙ ap (λ (s : List ℕ). increments_of (drop 1 (fields s))) e ∙ read_back js q
