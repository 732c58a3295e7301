-- EVERY REQUEST READ FROM CARDS IS ONE THAT THE WRITER TAKES: the parts of a request that was read are those of right
-- fields, so that their texts are right fields again, and each number that is asked for was a good entry's. Assumes
-- nothing.
use Prim.Native.Nat.{ℕ, zero, suc, ◌+◌, ◌≤◌, ◌<◌}
use mathlib.Core.Path.{◌≡◌, refl, sym, ap, ◌∙◌}
use mathlib.Core.Bool.{Bool, true, false, cond, ◌&&◌, ◌||◌, not}
use mathlib.Core.List.{List, [], ◌∷◌, ◌++◌}
use native.Mathlib.Nat.{le_of_suc-le-suc}
use native.Mathlib.Omega.{arith}
use lib.Dec.{eqb, ltb, leb}
use lib.ListN.{length, get_or, take, set}
use borrow.Author.Tests.{eq-eqb, ne_eqb, lt-ltb, leb-true}
use Rattle.numbers.specs.Quoted.{bytes}
use Rattle.numbers.proofs.Tests.{by_bool, never, both}
use Rattle.text.specs.Class.{is_digit, is_letter, is_alnum}
use Rattle.text.specs.Writing.{two_text, decimal_text}
use Rattle.text.proofs.Undo.{few-digits}
use Rattle.words.specs.Words.{every, value}
use Rattle.words.proofs.WordLaws.{every-weaker, tens, value-below}
use Rattle.cards_fields.specs.Fields.{field, fields, spaceless, padded, malformed}
use Rattle.cards_fields.proofs.FieldLaws.{padded-length}
use Rattle.cards_request.specs.Errors.{good, error_if, or_else}
use Rattle.cards_request.proofs.ErrorLaws.{or_else_none}
use Rattle.cards_pty.specs.Pty.{rules, rule_at, sequence_text, letter_of, precedence_text, sequence_good, precedence}
use Rattle.cards_pty.specs.Pty.{precedence_good, last_of_all, ranked, priority_of, priority_good, held_priority, field_error, fields_error, pty_error}
use Rattle.cards_pty.proofs.PtyLaws.{right-at, good-field, right, fields-good}
use Rattle.cards_pty.proofs.PriorityLaws.{rank-good}
use Rattle.cards_fac.specs.Fac.{code_of, slot_of, number_text, nothing, form_error, entry_error, entered, entries_error}
use Rattle.cards_fac.specs.Fac.{all_entered, core_error, facilities_of, asks_of, fac_error, entries_of, asked}
use Rattle.cards_fac.proofs.EntryLaws.{good-number, number-below, small-number}
use Rattle.cards_group.specs.Group.{mark, request_of}
use Rattle.cards_request.specs.declared.CardError.TheVariants.{WrongEntry, FacMalformed}
use Rattle.cards_pty.specs.declared.Priority.{Priority}
use Rattle.cards_request.specs.declared.Request.{Request}
use Rattle.cards_request.specs.Errors.{CardVerdict}
use Rattle.std.specs.Prelude.{Option, Ok, is_some}
use Rattle.cards_writing.specs.Writing.{priority_text, mark_text, pty_fields, formed_from, formed, limit, numbers_fit, takes}
use Rattle.cards_writing.proofs.PutLaws.{number-some}
use Rattle.cards_fields.proofs.CardLaws.{plain, clean, alnum-plain, number_digits}
use Rattle.cards_writing.proofs.Back.{listed, named, two_digits, two_back, priority-ranked}

-- a text without blanks in a fixed width
module _ where
  pub unpadded : (w : ℕ) (t : List ℕ) → every plain t ≡ true → length t ≤ w → spaceless (padded w t) ≡ t
  unpadded zero [] p h = refl
  unpadded zero (b ∷ t) p h = absurd (omega arith)
  unpadded (suc w) [] p h = unpadded w [] refl (omega arith)
  unpadded (suc w) (b ∷ t) p h =
      let q = both (plain b) (every plain t) p in
      rw (ne_eqb b 32 (clean b q.0).blank) (ap (λ (l : List ℕ). b ∷ l) (unpadded w t q.1 (le_of_suc-le-suc h)))

  blanks-formed : (w : ℕ) → formed_from true (padded w []) ≡ true
  blanks-formed zero = refl
  blanks-formed (suc w) = blanks-formed w

  formed-from : (w : ℕ) (t : List ℕ) → every plain t ≡ true → formed_from false (padded w t) ≡ true
  formed-from zero t p = refl
  formed-from (suc w) [] p = blanks-formed w
  formed-from (suc w) (b ∷ t) p =
      let q = both (plain b) (every plain t) p in
      ap (λ (x : Bool). formed_from x (padded w t)) (ne_eqb b 32 (clean b q.0).blank) ∙ formed-from w t q.1

  pub formed-padded : (w : ℕ) (t : List ℕ) → every plain t ≡ true → formed w (padded w t) ≡ true
  formed-padded w t p = rw (eq-eqb (length (padded w t)) w (padded-length w t)) (formed-from w t p)

  pub mark-again : (t : List ℕ) → every plain t ≡ true → length t ≤ 1 → mark_text (mark t) ≡ t
  mark-again [] p h = refl
  mark-again (b ∷ []) p h = let q = both (plain b) true p in rw (ne_eqb b 32 (clean b q.0).blank)
  mark-again (b ∷ c ∷ t) p h = absurd (omega arith)

-- a good priority's parts
pub record Ranked (q : Priority) : Type 0 where
  pub letter : is_letter q.letter ≡ true
  pub sequence : q.sequence < 64
  pub precedence : q.precedence < 64
  pub last : last_of_all q.letter q.precedence ≡ false

-- a sequence that is good is at most 63, and 0 where it is left out
sequence-low : (t : List ℕ) → sequence_good t ≡ true → value (sequence_text t) < 64
sequence-low t g = by_bool (is_letter (get_or t 0 0)) (λ e. rw e (omega arith)) (λ e. written e)
  where
    written : is_letter (get_or t 0 0) ≡ false → value (sequence_text t) < 64
    written e =
        let p = both (every is_digit (sequence_text t))
        (is_letter (get_or t 0 0) || (leb 1 (value (sequence_text t)) && leb (value (sequence_text t)) 63)) g in
        let o : leb 1 (value (take 2 t)) && leb (value (take 2 t)) 63 ≡ true = rw e at p.1 in
        let m = leb-true (value (take 2 t)) 63 (both (leb 1 (value (take 2 t))) (leb (value (take 2 t)) 63) o).1 in
        rw e (omega arith)

not-then : (b : Bool) → not b ≡ true → b ≡ false
not-then true h = never h refl
not-then false h = refl

pub good-priority : (t : List ℕ) → priority_good t ≡ true → Ranked (held_priority t)
unfolding priority_of ranked
good-priority t g =
    by_bool (sequence_good t)
    (λ s.
    let l = letter_of t in
    let p = precedence_text t in
    by_bool (is_letter l && (precedence_good p && not (last_of_all l (precedence p))))
    (λ a.
    let x = both (is_letter l) (precedence_good p && not (last_of_all l (precedence p))) a in
    let y = both (precedence_good p) (not (last_of_all l (precedence p))) x.1 in
    let z = both (leb (length p) 2) (every is_digit p && leb (precedence p) 63) y.0 in
    let m = leb-true (precedence p) 63 (both (every is_digit p) (leb (precedence p) 63) z.1).1 in
    let n = sequence-low t s in
    rw (s, a) (record { letter = x.0; sequence = n; precedence = omega arith; last = not-then (last_of_all l (precedence p)) y.1 }))
    (λ a. never (rw (s, a) at g) refl))
    (λ s. never (rw s at g) refl)

-- the numbers that are asked for
fit-set : (j k n : ℕ) (ns : List ℕ) → numbers_fit j ns ≡ true → n < limit (j + k) → numbers_fit j (set ns k n) ≡ true
fit-set j k n [] f h = f
fit-set j zero n (m ∷ ns) f h =
    let e : j + 0 ≡ j = omega arith in
    let q = both (ltb m (limit j)) (numbers_fit (suc j) ns) f in
    rw (lt-ltb n (limit j) (rw e at h)) q.1
fit-set j (suc k) n (m ∷ ns) f h =
    let e : j + suc k ≡ suc j + k = omega arith in
    let q = both (ltb m (limit j)) (numbers_fit (suc j) ns) f in
    rw q.0 (fit-set (suc j) k n ns q.1 (rw e at h))

entry-limit : (t : List ℕ) → form_error t ≡ Ok tt → value (number_text t) < limit (slot_of t)
entry-limit t e =
    by_bool (eqb (slot_of t) 2)
    (λ i. rw i (drum (eqb (code_of t) 2) (number-below (code_of t) (number_text t) (good-number t e))))
    (λ i. rw i (small-number t e (eqb_no (slot_of t) i)))
  where
    eqb_no : (k : ℕ) → eqb k 2 ≡ false → k ≡ 2 → ⊥
    eqb_no k f q = never (eq-eqb k 2 q) f

    drum : (x : Bool) → value (number_text t) < tens (cond x 6 2) → value (number_text t) < 1000000
    drum true h = h
    drum false h = omega arith

pub fit_all : (asks : List ℕ) (ts : List (List ℕ)) → numbers_fit 0 asks ≡ true → entries_error asks ts ≡ Ok tt → numbers_fit 0 (all_entered asks ts) ≡ true
fit_all asks [] f e = f
fit_all asks (t ∷ ts) f e =
    let x = or_else_none (entry_error asks t) (entries_error (entered asks t) ts) e in
    let y = or_else_none (form_error t) (error_if (ltb 0 (get_or asks (slot_of t) 0)) WrongEntry) x.0 in
    let z : 0 + slot_of t ≡ slot_of t = omega arith in
    fit_all (entered asks t) ts (fit-set 0 (slot_of t) (value (number_text t)) asks f (rw z (entry-limit t y.0))) x.1

-- what is held gives what was asked for
pub asks-held : (asks : List ℕ) → numbers_fit 0 asks ≡ true → asks_of (facilities_of asks) ≡ asks
asks-held [] f = never f refl
asks-held (a ∷ []) f = never (both (ltb a 100) false f).1 refl
asks-held (a ∷ b ∷ []) f = never (both (ltb b 100) false (both (ltb a 100) (numbers_fit 1 (b ∷ [])) f).1).1 refl
asks-held (a ∷ b ∷ c ∷ ns) f = refl

-- one field more
pub more : {v w : CardVerdict} → v ≡ Ok tt → w ≡ Ok tt → or_else v w ≡ Ok tt
more e g = rw e g

-- the text of a good priority is a good field
pub priority-text : (q l p : ℕ) → q < 64 → p < 64 → is_letter l ≡ true → last_of_all l p ≡ false
    → field_error 9 (rule_at 9) (cond (eqb q 0) [] (two_text q) ++ (l ∷ two_text p)) ≡ Ok tt
unfolding rules
priority-text q l p hq hp hl z =
    right 9 (rule_at 9) (cond (eqb q 0) [] (two_text q) ++ (l ∷ two_text p)) sizes.0 sizes.1
    (ap (λ (x : Option Priority). is_some x) (priority-ranked q l p hq hp hl
    ∙ rank-good q l (two_text p) hl (omega arith) (two_digits p (omega arith)) p (sym (two_back p)) (omega arith) z))
  where
    sizes : (1 ≤ length (cond (eqb q 0) [] (two_text q) ++ (l ∷ two_text p))) × (length (cond (eqb q 0) [] (two_text q) ++ (l ∷ two_text p)) ≤ 5)
    sizes = by_bool (eqb q 0) (λ e. rw e (omega arith, omega arith)) (λ e. rw e (omega arith, omega arith))

-- a number of at most four digits
pub minutes-text : (n : ℕ) → n < 10000 → field_error 11 (rule_at 11) (decimal_text n) ≡ Ok tt
unfolding rules
minutes-text n h = right 11 (rule_at 11) (decimal_text n) (omega (arith, number-some n)) (few-digits 3 n h) (number_digits n)

-- a count of at most two digits
pub count-text : (n : ℕ) → n ≤ 99 → field_error 2 (rule_at 2) (decimal_text n) ≡ Ok tt
unfolding rules
count-text n h = right 2 (rule_at 2) (decimal_text n) (omega (arith, number-some n)) (few-digits 1 n (omega arith)) (number_digits n)

module _ (n : ℕ) (few : n ≤ 99) (pty asks : List ℕ) (e : fields_error (fields pty) ≡ Ok tt) (f : numbers_fit 0 asks ≡ true)
    (c : core_error asks ≡ Ok tt) where
  -- what its rule says of each field
  rule-of : (k : ℕ) → k < 14 → ((rule_at k).least ≤ length (field pty k))
      × ((length (field pty k) ≤ (rule_at k).most) × ((rule_at k).content (field pty k) ≡ true))
  rule-of k h = good-field k (rule_at k) (field pty k) (right-at (fields pty) e k h)

  -- a text that is the field again is right again
  again : (k : ℕ) → k < 14 → (t : List ℕ) → t ≡ field pty k → field_error k (rule_at k) t ≡ Ok tt
  again k h t i = ap (field_error k (rule_at k)) i ∙ right-at (fields pty) e k h

  abbrev r : Request
  r = request_of pty asks

  rank : Ranked (held_priority (field pty 9))
  unfolding rules
  rank = good-priority (field pty 9) (rule-of 9 (omega arith)).1.1

  minutes : value (field pty 11) < 10000
  unfolding rules
  minutes = value-below 4 (field pty 11) (rule-of 11 (omega arith)).1.1 (rule-of 11 (omega arith)).1.0

  id-plain : every plain (field pty 0) ≡ true
  unfolding rules
  id-plain = every-weaker is_alnum plain alnum-plain (field pty 0) (rule-of 0 (omega arith)).1.1

  program-plain : every plain (field pty 4) ≡ true
  unfolding rules
  program-plain = named (field pty 4) (rule-of 4 (omega arith)).1.1

  medium-plain : every plain (field pty 7) ≡ true
  unfolding rules
  medium-plain = every-weaker is_alnum plain alnum-plain (field pty 7) (rule-of 7 (omega arith)).1.1

  library-plain : every plain (field pty 13) ≡ true
  unfolding rules
  library-plain = every-weaker is_alnum plain alnum-plain (field pty 13) (rule-of 13 (omega arith)).1.1

  fields-again : fields_error (pty_fields n r) ≡ Ok tt
  unfolding pty_fields rules priority_text is_alnum is_letter is_digit
  fields-again =
      more (again 0 (omega arith) (spaceless (padded 6 (field pty 0))) (unpadded 6 (field pty 0) id-plain (rule-of 0 (omega arith)).1.0))
      (more refl
      (more (count-text n few)
      (more (again 3 (omega arith) (mark_text (mark (field pty 3)))
      (mark-again (field pty 3) (listed (bytes "S") (field pty 3) refl (rule-of 3 (omega arith)).1.1) (rule-of 3 (omega arith)).1.0))
      (more
      (again 4 (omega arith) (spaceless (padded 12 (field pty 4))) (unpadded 12 (field pty 4) program-plain (rule-of 4 (omega arith)).1.0))
      (more (again 5 (omega arith) (mark_text (mark (field pty 5)))
      (mark-again (field pty 5) (listed (bytes "I") (field pty 5) refl (rule-of 5 (omega arith)).1.1) (rule-of 5 (omega arith)).1.0))
      (more (again 6 (omega arith) (mark_text (mark (field pty 6)))
      (mark-again (field pty 6) (listed (bytes "TAC") (field pty 6) refl (rule-of 6 (omega arith)).1.1) (rule-of 6 (omega arith)).1.0))
      (more (again 7 (omega arith) (spaceless (padded 6 (field pty 7))) (unpadded 6 (field pty 7) medium-plain (rule-of 7 (omega arith)).1.0))
      (more (again 8 (omega arith) (mark_text (mark (field pty 8)))
      (mark-again (field pty 8) (listed (bytes "SP") (field pty 8) refl (rule-of 8 (omega arith)).1.1) (rule-of 8 (omega arith)).1.0))
      (more (priority-text r.sequence r.letter r.precedence rank.sequence rank.precedence rank.letter rank.last)
      (more (again 10 (omega arith) (mark_text (mark (field pty 10)))
      (mark-again (field pty 10) (listed (bytes "PC") (field pty 10) refl (rule-of 10 (omega arith)).1.1) (rule-of 10 (omega arith)).1.0))
      (more (minutes-text (value (field pty 11)) minutes)
      (more (again 12 (omega arith) (mark_text (mark (field pty 12)))
      (mark-again (field pty 12) (listed (bytes "TACZ") (field pty 12) refl (rule-of 12 (omega arith)).1.1) (rule-of 12 (omega arith)).1.0))
      (more
      (again 13 (omega arith) (spaceless (padded 6 (field pty 13))) (unpadded 6 (field pty 13) library-plain (rule-of 13 (omega arith)).1.0))
      refl)))))))))))))

  pub request-taken : takes n r ≡ true
  unfolding takes
  request-taken =
      let held = asks-held asks f in
      let g : numbers_fit 0 (asks_of r.facilities) ≡ true = ap (numbers_fit 0) held ∙ f in
      let d : good (core_error (asks_of r.facilities)) ≡ true = ap (λ (l : List ℕ). good (core_error l)) held ∙ ap good c in
      rw (
        formed-padded 6 (field pty 0) id-plain,
        formed-padded 12 (field pty 4) program-plain,
        formed-padded 6 (field pty 7) medium-plain,
        formed-padded 6 (field pty 13) library-plain,
        rank.letter,
        lt-ltb r.sequence 64 rank.sequence,
        lt-ltb r.precedence 64 rank.precedence,
        lt-ltb r.minutes 10000 minutes,
        fields-again,
      )
      (ap (λ (x : Bool). x && good (core_error (asks_of r.facilities))) g ∙ d)

-- EVERY REQUEST READ FROM CARDS IS ONE THAT THE WRITER TAKES, whatever the number of its cards
pub read_taken : (n : ℕ) → n ≤ 99 → (pty fac : List ℕ) → pty_error pty ≡ Ok tt → fac_error fac ≡ Ok tt → takes n (request_of pty (asked fac)) ≡ true
unfolding fac_error
read_taken n few pty fac p f =
    let m = (or_else_none (error_if (malformed fac) FacMalformed)
    (or_else (entries_error nothing (entries_of fac)) (or_else (core_error (asked fac)) (Ok tt))) f).1 in
    let s = or_else_none (entries_error nothing (entries_of fac)) (or_else (core_error (asked fac)) (Ok tt)) m in
    let c = (or_else_none (core_error (asked fac)) (Ok tt) s.1).0 in
    request-taken n few pty (asked fac) (fields-good pty p) (fit_all nothing (entries_of fac) refl s.0) c
