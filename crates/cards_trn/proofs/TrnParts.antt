-- THE PARTS OF A TRANSFER AND THE FIELDS OF A TRN CARD, written and read. Each transfer, a count, and both are read back
-- as they were written. Assumes nothing.
use Prim.Native.Nat.{ℕ, ◌≤◌}
use mathlib.Core.Path.{◌≡◌, refl, sym, ap, subst, ◌∙◌}
use mathlib.Core.Bool.{Bool, true, false, ◌||◌, not}
use mathlib.Core.List.{List, [], ◌∷◌, ◌++◌}
use mathlib.Core.Option.{Option, none, some}
use native.Mathlib.Omega.{arith}
use lib.Dec.{eqb}
use lib.ListN.{length, get_or, drop}
use borrow.Author.Tests.{eqb-true, eq-eqb, le-leb, le-ltb}
use Rattle.numbers.specs.Quoted.{bytes}
use Rattle.numbers.proofs.Tests.{by_bool}
use Rattle.text.specs.Class.{is_digit, is_letter, is_alnum}
use Rattle.text.specs.Writing.{decimal_text}
use Rattle.text.proofs.Undo.{few-digits}
use Rattle.words.specs.Words.{every, has, same, number_in}
use Rattle.words.proofs.WordLaws.{every_append, every-weaker, number_short, same-equal}
use Rattle.cards_fields.specs.Fields.{is_name}
use Rattle.cards_fields.proofs.CardLaws.{plain, AllPlain, alnum-plain, digit-plain, number-back, number_digits}
use Rattle.cards_fields.proofs.RoundLaws.{has-not, pieces-join, pieces-one, named, number-some}
use Rattle.std.specs.Prelude.{Ok}
use Rattle.cards_trn.specs.Trn.{is_count, count_error, is_type, is_successor, parts_of, part_error, parts_error, transfer_error, third_error}
use Rattle.cards_trn.specs.Trn.{transfers_error, third_text, field_texts}
use Rattle.cards_trn.specs.Transfers.{Transfer, ProperTransfer, EachTransfer, is_there, transfer_text, transfer_texts, trn_fields, ProperTrn}
use Rattle.cards_trn.proofs.TrnMeant.{transfer_of, transfers_of, count_in, transfers_in}

-- ---- the parts of a transfer

-- one of two tests holds
by-or : {P : Type 0} (a b : Bool) → (a || b) ≡ true → (a ≡ true → P) → (b ≡ true → P) → P
by-or true b h f g = f refl
by-or false b h f g = g h

-- letters, digits and the asterisk
abbrev starred : ℕ → Bool
starred b = is_alnum b || eqb b 42

starred-slashless : starred 47 ≡ false
unfolding is_alnum is_letter is_digit
starred-slashless = refl

starred-plain : (b : ℕ) → starred b ≡ true → plain b ≡ true
unfolding is_alnum is_letter is_digit
starred-plain b h = by-or (is_alnum b) (eqb b 42) h (alnum-plain b) (λ e. let i = eqb-true b 42 e in rw i)

record Part (most : ℕ) (t : List ℕ) : Type 0 where
  few : length t ≤ most
  of : every starred t ≡ true

name-part : (t : List ℕ) → is_name t ≡ true → Part 6 t
name-part t h = let n = named t h in record { few = n.few; of = every-weaker is_alnum starred (λ b e. rw e) t n.alnum }

word-part : (most : ℕ) (w t : List ℕ) → length w ≤ most → every starred w ≡ true → same t w ≡ true → Part most t
word-part most w t l s e = subst (Part most) (sym (same-equal t w e)) (record { few = l; of = s })

type-part : (t : List ℕ) → is_type t ≡ true → Part 2 t
unfolding is_alnum is_letter is_digit
type-part t h =
    by-or (same t (bytes "D")) _ h (word-part 2 (bytes "D") t (omega arith) refl)
    (λ h. by-or (same t (bytes "T")) _ h (word-part 2 (bytes "T") t (omega arith) refl)
    (λ h. by-or (same t (bytes "N")) _ h (word-part 2 (bytes "N") t (omega arith) refl)
    (λ h. by-or (same t (bytes "*T")) _ h (word-part 2 (bytes "*T") t (omega arith) refl) (word-part 2 (bytes "*N") t (omega arith) refl))))

successor-part : (t : List ℕ) → is_successor t ≡ true → Part 6 t
unfolding is_alnum is_letter is_digit
successor-part t h =
    by-or (is_name t) _ h (name-part t)
    (λ h. by-or (same t (bytes "*REQ")) _ h (word-part 6 (bytes "*REQ") t (omega arith) refl) (word-part 6 (bytes "*PLB") t (omega arith) refl))

module _ {most : ℕ} (t : List ℕ) (p : Part most t) where
  slashless : has t 47 ≡ false
  slashless = has-not starred 47 starred-slashless t p.of

  part-plain : every plain t ≡ true
  part-plain = every-weaker starred plain starred-plain t p.of

has-cut : (cut : ℕ) (s t : List ℕ) → has (s ++ (cut ∷ t)) cut ≡ true
has-cut cut [] t = rw (eq-eqb cut cut refl)
has-cut cut (x ∷ s) t = by_bool (eqb cut x) (λ e. rw e) (λ e. rw e (has-cut cut s t))

slash-plain : (s t : List ℕ) → every plain s ≡ true → every plain t ≡ true → every plain (s ++ (47 ∷ t)) ≡ true
unfolding is_alnum is_letter is_digit
slash-plain s t h g = every_append plain s (47 ∷ t) h g

-- ---- a transfer, written and read
module _ (t : Transfer) (p : ProperTransfer t) where
  first : Part 6 t.name1
  first = name-part t.name1 p.from

  second : Part 2 t.kind
  second = type-part t.kind p.typed

  third : Part 6 t.successor
  third = successor-part t.successor p.next

  fourth : Part 6 t.name2
  fourth = name-part t.name2 p.to

  parts-back : parts_of (transfer_text t) ≡ t.name1 ∷ t.kind ∷ t.successor ∷ t.name2 ∷ []
  unfolding transfer_text
  parts-back =
      pieces-join 47 t.name1 _ (slashless t.name1 first)
      ∙ ap (λ (ps : List (List ℕ)). t.name1 ∷ ps) (pieces-join 47 t.kind _ (slashless t.kind second)
      ∙ ap (λ (ps : List (List ℕ)). t.kind ∷ ps) (pieces-join 47 t.successor _ (slashless t.successor third)
      ∙ ap (λ (ps : List (List ℕ)). t.successor ∷ ps) (pieces-one 47 t.name2 (slashless t.name2 fourth))))

  transfer-good : transfer_error (transfer_text t) ≡ Ok tt
  unfolding transfer_error parts_error part_error
  transfer-good =
      rw (
        parts-back,
        le-ltb 6 (length t.name1) first.few,
        p.from,
        le-ltb 2 (length t.kind) second.few,
        p.typed,
        le-ltb 6 (length t.successor) third.few,
        p.next,
        le-ltb 6 (length t.name2) fourth.few,
        p.to,
      )

  pub transfer-slashed : is_count (transfer_text t) ≡ false
  unfolding transfer_text
  transfer-slashed = ap not (has-cut 47 t.name1 _)

  pub transfer-back : transfer_of (transfer_text t) ≡ t
  unfolding transfer_of
  transfer-back =
      ap (λ (ps : List (List ℕ)). record { name1 = get_or ps 0 []; kind = get_or ps 1 []; successor = get_or ps 2 []; name2 = get_or ps 3 [] }) parts-back

  pub transfer-plain : every plain (transfer_text t) ≡ true
  unfolding transfer_text
  transfer-plain =
      let a = slash-plain t.successor t.name2 (part-plain t.successor third) (part-plain t.name2 fourth) in
      let b = slash-plain t.kind (t.successor ++ (47 ∷ t.name2)) (part-plain t.kind second) a in
      slash-plain t.name1 (t.kind ++ (47 ∷ (t.successor ++ (47 ∷ t.name2)))) (part-plain t.name1 first) b

-- and a list of them
transfers-plain : (ts : List Transfer) → EachTransfer ts → AllPlain (transfer_texts ts)
transfers-plain [] p = tt
transfers-plain (t ∷ ts) p = (transfer-plain t p.0, transfers-plain ts p.1)

transfers-good : (ts : List Transfer) → EachTransfer ts → transfers_error (transfer_texts ts) ≡ Ok tt
transfers-good [] p = refl
transfers-good (t ∷ ts) p = rw (transfer-good t p.0) (transfers-good ts p.1)

transfers-back : (ts : List Transfer) → EachTransfer ts → transfers_of (transfer_texts ts) ≡ ts
transfers-back [] p = refl
transfers-back (t ∷ ts) p = rw (transfer-back t p.0, transfers-back ts p.1)

-- a count
digit-slashless : is_digit 47 ≡ false
unfolding is_digit
digit-slashless = refl

count-slashless : (n : ℕ) → is_count (decimal_text n) ≡ true
count-slashless n = ap not (has-not is_digit 47 digit-slashless (decimal_text n) (number_digits n))

module _ (n : ℕ) (h : n ≤ 99) where
  count-few : length (decimal_text n) ≤ 2
  count-few = few-digits 1 n (omega arith)

  count-back : number_in (decimal_text n) ≡ n
  count-back = number_short (decimal_text n) (omega (arith, count-few)) ∙ number-back n

  count-good : (counted : Bool) → counted ≡ false → count_error counted (decimal_text n) ≡ Ok tt
  unfolding count_error
  count-good counted e = rw (le-ltb 2 (length (decimal_text n)) count-few, e, le-leb 1 (length (decimal_text n)) (number-some n), number_digits n)

  count-again : third_text (decimal_text n) ≡ decimal_text n
  unfolding third_text
  count-again = rw (count-slashless n, count-back)

-- both
pub fields-plain : (c : Option ℕ) (ts : List Transfer) → EachTransfer ts → AllPlain (trn_fields c ts)
fields-plain none ts p = transfers-plain ts p
fields-plain (some n) ts p = (every-weaker is_digit plain digit-plain (decimal_text n) (number_digits n), transfers-plain ts p)

pub fields-good : (counted : Bool) (c : Option ℕ) (ts : List Transfer) → ProperTrn c ts → (is_there c ≡ true → counted ≡ false)
    → (third_error counted (get_or (trn_fields c ts) 0 []) ≡ Ok tt) × (transfers_error (drop 1 (trn_fields c ts)) ≡ Ok tt)
fields-good counted none [] p e = absurd (omega (arith, p.not_empty))
fields-good counted none (t ∷ ts) p e = (rw (transfer-slashed t p.each.0, transfer-good t p.each.0), transfers-good ts p.each.1)
fields-good counted (some n) ts p e = (rw (count-slashless n, count-good n p.count counted (e refl)), transfers-good ts p.each)

pub fields-counted : (c : Option ℕ) (ts : List Transfer) → ProperTrn c ts → is_count (get_or (trn_fields c ts) 0 []) ≡ is_there c
fields-counted none [] p = absurd (omega (arith, p.not_empty))
fields-counted none (t ∷ ts) p = transfer-slashed t p.each.0
fields-counted (some n) ts p = count-slashless n

pub fields-again : (c : Option ℕ) (ts : List Transfer) → ProperTrn c ts → field_texts (trn_fields c ts) ≡ trn_fields c ts
unfolding third_text
fields-again none [] p = refl
fields-again none (t ∷ ts) p = rw (transfer-slashed t p.each.0)
fields-again (some n) ts p = rw (count-again n p.count)

pub fields-count : (c : Option ℕ) (ts : List Transfer) → ProperTrn c ts → count_in (trn_fields c ts) ≡ c
fields-count none [] p = refl
fields-count none (t ∷ ts) p = rw (transfer-slashed t p.each.0)
fields-count (some n) ts p = rw (count-slashless n, count-back n p.count)

pub fields-transfers : (c : Option ℕ) (ts : List Transfer) → ProperTrn c ts → transfers_in (trn_fields c ts) ≡ ts
fields-transfers none [] p = refl
fields-transfers none (t ∷ ts) p = rw (transfer-slashed t p.each.0) (transfers-back (t ∷ ts) p.each)
fields-transfers (some n) ts p = rw (count-slashless n) (transfers-back ts p.each)
