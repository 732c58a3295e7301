-- Written FAC entries read back: each entry's code, logical channel and number, and what all of them ask for. Assumes
-- nothing.
use Prim.Native.Nat.{ℕ, zero, suc, ◌+◌, ◌-◌, ◌/◌, ◌%◌, ◌≤◌, ◌<◌}
use mathlib.Core.Path.{◌≡◌, refl, ap, ◌∙◌}
use mathlib.Core.Bool.{Bool, true, false, cond, ◌&&◌}
use mathlib.Core.Logic.{⊎_elim}
use mathlib.Core.List.{List, [], ◌∷◌, ◌++◌}
use native.Mathlib.Nat.{eq-zero-or-pos}
use native.Mathlib.Omega.{arith}
use lib.Dec.{eqb, ltb, eqb-suc-zero}
use lib.ListN.{length, get_or, length-append, set, replicate}
use lib.Seq.{drop-append_seam, drop-append-add, append_snoc, get_or_at, set_at}
use borrow.Author.Tests.{ne_eqb, lt-ltb, le-ltb, le-leb, eqb-true, eqb-false, ltb-true}
use Rattle.numbers.proofs.Tests.{by_bool, never, both}
use Rattle.numbers.proofs.KindLaws.{of-below}
use Rattle.text.specs.Class.{is_digit, is_letter, is_alnum}
use Rattle.text.specs.Writing.{decimal_text}
use Rattle.text.proofs.Undo.{few-digits}
use Rattle.words.specs.Words.{every, value, leading, isnt}
use Rattle.words.proofs.WordLaws.{every_append, every-weaker}
use Rattle.cards_fac.specs.Fac.{codes, last_code, index_in, code_text, channel_text, slash_at, number_text, channel_good, most}
use Rattle.cards_fac.specs.Fac.{number_good, slot, slots, code_of, slot_of, form_error, entries_error, all_entered, nothing}
use Rattle.cards_fac.proofs.EntryLaws.{code-known, code-size}
use Rattle.std.specs.Prelude.{Ok}
use Rattle.cards_writing.specs.Writing.{code_at, channel_at, entry_text, entry_texts, limit, numbers_fit}
use Rattle.cards_fields.proofs.CardLaws.{plain, AllPlain, digit-plain, letter-plain, digit-no-letter, number-back, number_digits}

leading-all : (p : ℕ → Bool) (a s : List ℕ) (b : ℕ) → every p a ≡ true → p b ≡ false → leading p (a ++ (b ∷ s)) ≡ a
leading-all p [] s b h e = rw e
leading-all p (x ∷ a) s b h e =
    let q = both (p x) (every p a) h in
    rw q.0 (ap (λ (l : List ℕ). x ∷ l) (leading-all p a s b q.1 e))

-- a digit is no slash
no_slash : (b : ℕ) → is_digit b ≡ true → isnt 47 b ≡ true
unfolding is_digit
no_slash b h = by_bool (eqb b 47) (λ e. never (rw (eqb-true b 47 e) at h) refl) (λ e. rw e)

slash-no-letter : is_letter 47 ≡ false
unfolding is_letter
slash-no-letter = refl

-- an entry put together from a code, a channel and a number
abbrev pub entry : List ℕ → List ℕ → List ℕ → List ℕ
entry code ch d = code ++ (ch ++ (47 ∷ d))

code-back : (code ch d : List ℕ) → every is_letter code ≡ true → every is_digit ch ≡ true → code_text (entry code ch d) ≡ code
code-back code [] d l h = leading-all is_letter code d 47 l slash-no-letter
code-back code (x ∷ ch) d l h = leading-all is_letter code (ch ++ (47 ∷ d)) x l (digit-no-letter x (both (is_digit x) (every is_digit ch) h).0)

module _ (code ch d : List ℕ) (l : every is_letter code ≡ true) (h : every is_digit ch ≡ true) where
  channel-back : channel_text (entry code ch d) ≡ ch
  channel-back =
      rw (code-back code ch d l h, drop-append_seam code (ch ++ (47 ∷ d)))
      (leading-all (isnt 47) ch d 47 (every-weaker is_digit (isnt 47) no_slash ch h) refl)

  slash-back : slash_at (entry code ch d) ≡ length code + length ch
  slash-back = rw (channel-back, code-back code ch d l h)

  number-text-back : number_text (entry code ch d) ≡ d
  number-text-back =
      let k : length code + length ch + 1 ≡ length code + (length ch + 1) = omega arith in
      rw (slash-back, k, drop-append-add code (ch ++ (47 ∷ d)) (length ch + 1), drop-append-add ch (47 ∷ d) 1)

  entry-size : length (entry code ch d) ≡ length code + length ch + 1 + length d
  entry-size = omega (arith, length-append code (ch ++ (47 ∷ d)), length-append ch (47 ∷ d))

  module _ (c : ℕ) (is : index_in codes code ≡ c) (low : c ≤ last_code) (short : length code ≤ 2) (cg : channel_good c ch ≡ true)
      (ng : number_good c d ≡ true) where
    code-of : code_of (entry code ch d) ≡ c
    code-of = ap (index_in codes) (code-back code ch d l h) ∙ is

    form-back : form_error (entry code ch d) ≡ Ok tt
    unfolding form_error
    form-back =
        rw (
          code-known (entry code ch d) (omega (arith, ap (length {A = ℕ}) (code-back code ch d l h))) (omega (arith, code-of)),
          code-of,
          number-text-back,
          lt-ltb (slash_at (entry code ch d)) (length (entry code ch d)) (omega (arith, slash-back, entry-size)),
          channel-back,
          cg,
          ng,
        )

    slot-back : slot_of (entry code ch d) ≡ slot c (value ch)
    slot-back = rw (code-of, channel-back)

    number-of-back : value (number_text (entry code ch d)) ≡ value d
    number-of-back = ap value number-text-back

-- the slot of an entry tells its code and its channel
slot_at : (k : ℕ) → slot (code_at k) (channel_at k) ≡ k
slot_at k =
    ⊎_elim (λ z. rw (lt-ltb k 3 (omega arith), lt-ltb k 3 (omega arith)))
    (λ p. rw (le-ltb k 3 (omega arith), le-ltb (3 + (k - 3) / 16) 3 (omega arith)) (omega arith))
    (eq-zero-or-pos (k - 2))

-- each code is letters, and is known by its index
code-letters : (c : ℕ) → c ≤ last_code → (every is_letter (get_or codes c []) ≡ true) × (index_in codes (get_or codes c []) ≡ c)
unfolding codes is_letter
code-letters c h =
    let t = both (every is_letter (get_or codes c [])) (eqb (index_in codes (get_or codes c [])) c)
    (of-below (λ c. every is_letter (get_or codes c []) && eqb (index_in codes (get_or codes c [])) c) (suc last_code) refl c (omega arith)) in
    (t.0, eqb-true (index_in codes (get_or codes c [])) c t.1)

-- a channel as it is written
abbrev channel_of : ℕ → List ℕ
channel_of m = cond (eqb m 0) [] (decimal_text m)

channel-written : (m : ℕ) → m ≤ 15 → (every is_digit (channel_of m) ≡ true) × (value (channel_of m) ≡ m) × (length (channel_of m) ≤ 2)
channel-written zero h = (refl, refl, omega arith)
channel-written (suc m) h =
    (rw (eqb-suc-zero m) (number_digits (suc m)), rw (eqb-suc-zero m) (number-back (suc m)), rw (eqb-suc-zero m) (few-digits 1 (suc m) (omega arith)))

channel-good : (k : ℕ) → k < slots → channel_good (code_at k) (channel_of (channel_at k)) ≡ true
channel-good k h =
    ⊎_elim (λ z. rw (lt-ltb k 3 (omega arith), lt-ltb k 3 (omega arith)))
    (λ p.
    let w = channel-written ((k - 3) % 16) (omega arith) in
    rw (
      le-ltb k 3 (omega arith),
      le-ltb (3 + (k - 3) / 16) 3 (omega arith),
      le-leb (length (channel_of ((k - 3) % 16))) 2 w.2,
      w.0,
      w.1,
      le-leb ((k - 3) % 16) 15 (omega arith),
    ))
    (eq-zero-or-pos (k - 2))

code-low : (k : ℕ) → k < slots → code_at k ≤ last_code
code-low k h = ⊎_elim (λ z. rw (lt-ltb k 3 (omega arith)) (omega arith)) (λ p. rw (le-ltb k 3 (omega arith)) (omega arith)) (eq-zero-or-pos (k - 2))

channel-low : (k : ℕ) → channel_at k ≤ 15
channel-low k = ⊎_elim (λ z. rw (lt-ltb k 3 (omega arith)) (omega arith)) (λ p. rw (le-ltb k 3 (omega arith)) (omega arith)) (eq-zero-or-pos (k - 2))

number-good : (k n : ℕ) → k < slots → 0 < n → n < limit k → number_good (code_at k) (decimal_text n) ≡ true
number-good k n h p l =
    by_bool (eqb k 2) (λ e. all 6 (most-md (eqb-true k 2 e)) (few-digits 5 n (rw e at l)))
    (λ e. all 2 (most_other (eqb-false k 2 e)) (few-digits 1 n (rw e at l)))
  where
    most-md : k ≡ 2 → most (code_at k) ≡ 6
    most-md e = rw e

    most_other : (k ≡ 2 → ⊥) → most (code_at k) ≡ 2
    most_other q =
        ⊎_elim (λ z. rw (lt-ltb k 3 (omega arith), ne_eqb k 2 q))
        (λ r. rw (le-ltb k 3 (omega arith), ne_eqb (3 + (k - 3) / 16) 2 (λ e. omega arith))) (eq-zero-or-pos (k - 2))

    all : (j : ℕ) → most (code_at k) ≡ j → length (decimal_text n) ≤ j → number_good (code_at k) (decimal_text n) ≡ true
    all j e g = rw (e, le-leb (length (decimal_text n)) j g, number_digits n, number-back n, le-leb 1 n p)

slash-plain : plain 47 ≡ true
unfolding is_alnum is_letter is_digit
slash-plain = refl

-- A WRITTEN ENTRY HAS NO ERROR, AND ASKS FOR WHAT WAS WRITTEN, at its slot
pub record Entered (k n : ℕ) : Type 0 where
  pub form : form_error (entry_text k n) ≡ Ok tt
  pub at : slot_of (entry_text k n) ≡ k
  pub number : value (number_text (entry_text k n)) ≡ n
  pub bytes : every plain (entry_text k n) ≡ true

pub entered-back : (k n : ℕ) → k < slots → 0 < n → n < limit k → Entered k n
unfolding entry_text
entered-back k n h p l =
    let code = get_or codes (code_at k) [] in
    let ch = channel_of (channel_at k) in
    let f = code-letters (code_at k) (code-low k h) in
    let s : length code ≤ 2 = omega (arith, code-size (code_at k) (code-low k h)) in
    let w = channel-written (channel_at k) (channel-low k) in
    let g = number-good k n h p l in
    record {
      form = form-back code ch (decimal_text n) f.0 w.0 (code_at k) f.1 (code-low k h) s (channel-good k h) g;
      at = slot-back code ch (decimal_text n) f.0 w.0 (code_at k) f.1 (code-low k h) s (channel-good k h) g ∙ ap (slot (code_at k)) w.1
          ∙ slot_at k;
      number = number-of-back code ch (decimal_text n) f.0 w.0 (code_at k) f.1 (code-low k h) s (channel-good k h) g ∙ number-back n;
      bytes = every_append plain code (ch ++ (47 ∷ decimal_text n)) (every-weaker is_letter plain letter-plain code f.0)
          (every_append plain ch (47 ∷ decimal_text n) (every-weaker is_digit plain digit-plain ch w.0)
          (rw slash-plain (every-weaker is_digit plain digit-plain (decimal_text n) (number_digits n))));
    }

-- all entries
pub record AllEntered (asks ns : List ℕ) (k : ℕ) (whole : List ℕ) : Type 0 where
  pub right : entries_error asks (entry_texts k ns) ≡ Ok tt
  pub sum : all_entered asks (entry_texts k ns) ≡ whole
  pub bytes : AllPlain (entry_texts k ns)

first_entry : (asks ns whole : List ℕ) (k n : ℕ) → Entered k n → get_or asks k 0 ≡ 0 → (n ≡ 0 → ⊥) → AllEntered (set asks k n) ns (suc k) whole
    → AllEntered asks (n ∷ ns) k whole
first_entry asks ns whole k n e z p a =
    let s : all_entered (set asks (slot_of (entry_text k n)) (value (number_text (entry_text k n)))) (entry_texts (suc k) ns) ≡ whole =
    rw (e.at, e.number) a.sum in
    record {
      right = rw (ne_eqb n 0 p, e.form, e.at, e.number, z) a.right;
      sum = rw (ne_eqb n 0 p) s;
      bytes = rw (ne_eqb n 0 p) (e.bytes, a.bytes);
    }

entries_from : (ns : List ℕ) (k : ℕ) (done : List ℕ) → length done ≡ k → k + length ns ≡ slots → numbers_fit k ns ≡ true
    → AllEntered (done ++ replicate (length ns) 0) ns k (done ++ ns)
entries_from [] k done e f g = record { right = refl; sum = refl; bytes = tt }
entries_from (n ∷ ns) k done e f g =
    let q = both (ltb n (limit k)) (numbers_fit (suc k) ns) g in
    let l = ltb-true n (limit k) q.0 in
    let ih : (m : ℕ) → AllEntered (done ++ (m ∷ replicate (length ns) 0)) ns (suc k) (done ++ (m ∷ ns)) =
    λ m. rw (← append_snoc done m (replicate (length ns) 0), ← append_snoc done m ns)
    (entries_from ns (suc k) (done ++ (m ∷ [])) (length-append done (m ∷ []) ∙ omega arith) (omega arith) q.1) in
    ⊎_elim (λ z. rw z (record { right = (ih 0).right; sum = (ih 0).sum; bytes = (ih 0).bytes }))
    (λ p.
    let acc = done ++ (0 ∷ replicate (length ns) 0) in
    first_entry acc ns (done ++ (n ∷ ns)) k n (entered-back k n (omega arith) p l) (get_or_at done 0 (replicate (length ns) 0) 0 k e)
    (λ w. omega arith)
    (rw (set_at done 0 (replicate (length ns) 0) n k e) (ih n)))
    (eq-zero-or-pos n)

-- fitting numbers are as many as there are slots
pub fit_length : (k : ℕ) (ns : List ℕ) → numbers_fit k ns ≡ true → k + length ns ≡ slots
fit_length k [] g = omega (arith, eqb-true k slots g)
fit_length k (n ∷ ns) g = let r = fit_length (suc k) ns (both (ltb n (limit k)) (numbers_fit (suc k) ns) g).1 in omega arith

-- WHAT IS WRITTEN OF WHAT A REQUEST ASKS FOR IS READ AS WHAT IT ASKS FOR
pub entries-back : (asks : List ℕ) → numbers_fit 0 asks ≡ true → AllEntered nothing asks 0 asks
entries-back asks g =
    let l : length asks ≡ slots = omega (arith, fit_length 0 asks g) in
    rw l at (entries_from asks 0 [] refl (omega (arith, fit_length 0 asks g)) g)
