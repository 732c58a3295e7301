-- A FAC entry by the tests that the code makes: its code, its channel, its number. Assumes nothing.
use Prim.Native.Nat.{ℕ, zero, suc, ◌+◌, ◌-◌, ◌≤◌, ◌<◌}
use mathlib.Core.Path.{◌≡◌, refl, sym, ap, ◌∙◌}
use mathlib.Core.Bool.{Bool, true, false, cond, ◌&&◌, not}
use mathlib.Core.Logic.{⊎_elim}
use mathlib.Core.List.{List, [], ◌∷◌}
use native.Mathlib.Nat.{le_of_suc-le-suc, eq-zero-or-pos}
use native.Mathlib.Omega.{arith}
use lib.Dec.{eqb, ltb, leb}
use lib.ListN.{length, get_or, drop, take, length-drop}
use lib.Seq.{take_all, length-take-le}
use borrow.Author.Tests.{le-ltb, lt-ltb, ne_eqb, leb-true, eqb-true, ltb-true, ltb-false}
use Rattle.numbers.proofs.Tests.{by_bool, both}
use Rattle.numbers.proofs.KindLaws.{of-below}
use Rattle.text.specs.Class.{is_digit, is_letter}
use Rattle.words.specs.Words.{every, same, value, leading, isnt}
use Rattle.words.proofs.WordLaws.{leading-front, tens, value-below}
use Rattle.cards_fields.specs.Fields.{padded}
use Rattle.cards_fields.proofs.FieldLaws.{rest-is}
use Rattle.cards_request.specs.Errors.{error_if}
use Rattle.cards_request.proofs.ErrorLaws.{not_good, or_else_none, and-err, and-ok}
use Rattle.cards_fac.specs.Fac.{codes, last_code, index_in, code_text, channel_text, slash_at, number_text, channel_good, most, number_good}
use Rattle.cards_fac.specs.Fac.{entry_good, slot, code_of, slot_of, code_error, code_answer, form_error, entry_of, EntryRead}
use Rattle.cards_request.specs.declared.CardError.{CardError}
use Rattle.cards_request.specs.declared.CardError.TheVariants.{LongCode, UnknownCode, WrongEntry}
use Rattle.std.specs.Prelude.{Option, Some, None, Result, Ok, Err, position}
use Rattle.std.specs.Option.{ok_or}
use Rattle.std.specs.List.{position_or_len}
use Rattle.cards_fac.specs.declared.Entry.{Entry}

codes-many : length codes ≡ suc last_code
unfolding codes
codes-many = refl

-- a code is two letters
pub code-size : (i : ℕ) → i ≤ last_code → length (get_or codes i []) ≡ 2
unfolding codes
code-size i h = eqb-true (length (get_or codes i [])) 2 (of-below (λ i. eqb (length (get_or codes i [])) 2) (suc last_code) refl i (omega arith))

leading-padded : (p : ℕ → Bool) (w : ℕ) (t : List ℕ) → w ≤ length t → leading p (padded w t) ≡ take w (leading p t)
leading-padded p zero t h = refl
leading-padded p (suc w) [] h = absurd (omega arith)
leading-padded p (suc w) (b ∷ t) h = test (leading-padded p w t (le_of_suc-le-suc h)) (p b)
  where
    test : leading p (padded w t) ≡ take w (leading p t) → (x : Bool)
        → cond x (b ∷ leading p (padded w t)) [] ≡ take (suc w) (cond x (b ∷ leading p t) [])
    test ih true = ap (λ (l : List ℕ). b ∷ l) ih
    test ih false = refl

-- a code's index is where it first stands
index-first : (c : List ℕ) (ks : List (List ℕ)) → position_or_len (λ k. same k c) ks ≡ index_in ks c
index-first c [] = refl
index-first c (k ∷ ks) = test (index-first c ks) (same k c)
  where
    test : position_or_len (λ k. same k c) ks ≡ index_in ks c → (x : Bool)
        → cond (not x) (1 + position_or_len (λ k. same k c) ks) 0 ≡ cond x 0 (suc (index_in ks c))
    test ih true = refl
    test ih false = omega arith

pub code-there : (c : List ℕ) → position (λ k. same k c) codes ≡ cond (ltb (index_in codes c) (suc last_code)) (Some (index_in codes c)) None
code-there c = rw (index-first c codes, codes-many)

-- the error of a code
module _ (t : List ℕ) where
  pub code-long : 2 < length (code_text t) → code_error t ≡ Err LongCode
  unfolding code_error
  code-long h = rw (lt-ltb 2 (length (code_text t)) h)

  pub code-unknown : length (code_text t) ≤ 2 → last_code < code_of t → code_error t ≡ Err UnknownCode
  unfolding code_error
  code-unknown h g = rw (le-ltb 2 (length (code_text t)) h, lt-ltb last_code (code_of t) g)

  pub code-known : length (code_text t) ≤ 2 → code_of t ≤ last_code → code_error t ≡ Ok tt
  unfolding code_error
  code-known h g = rw (le-ltb 2 (length (code_text t)) h, le-ltb last_code (code_of t) g)

-- a field's first twelve bytes tell its code's error
pub code-padded : (t : List ℕ) → 12 < length t → code_error (padded 12 t) ≡ code_error t
unfolding code_error
code-padded t h =
    let e = leading-padded is_letter 12 t (omega arith) in
    ⊎_elim (λ z. rw (e, take_all 12 (code_text t) (omega arith)))
    (λ p. rw (e, length-take-le 12 (code_text t) (omega arith), lt-ltb 2 (length (code_text t)) (omega arith)))
    (eq-zero-or-pos (length (code_text t) - 12))

-- the code that a text begins with, as the code reads it
module _ (t : List ℕ) (n : ℕ) (en : n ≡ length (code_text t)) where
  pub code-of-long : 2 < n → code_answer t ≡ Err LongCode
  code-of-long h = rw (code-long t (omega arith))

  pub code-of-found : n ≤ 2 → (r : Option ℕ) → r ≡ position (λ k. same k (take n t)) codes → ok_or r UnknownCode ≡ code_answer t
  code-of-found h r is =
      let e : take n t ≡ code_text t = rw en (leading-front is_letter t) in
      let k : r ≡ cond (ltb (code_of t) (suc last_code)) (Some (code_of t)) None = is ∙ rw e (code-there (code_text t)) in
      by_bool (ltb last_code (code_of t))
      (λ u. rw (k, le-ltb (code_of t) (suc last_code) (omega (arith, ltb-true last_code (code_of t) u)), code-unknown t (omega arith) (omega (arith, ltb-true last_code (code_of t) u))))
      (λ u. rw (k, lt-ltb (code_of t) (suc last_code) (omega (arith, ltb-false last_code (code_of t) u)), code-known t (omega arith) (omega (arith, ltb-false last_code (code_of t) u))))

-- what comes of it: a known code, or its error
pub known : (t : List ℕ) (k : ℕ) → code_answer t ≡ Ok k → (code_error t ≡ Ok tt) × (k ≡ code_of t)
known t k = and-ok (code_error t) (code_of t) k

pub unknown : (t : List ℕ) (x : CardError) → code_answer t ≡ Err x → code_error t ≡ Err x
unknown t x = and-err (code_error t) (code_of t) x

-- a good channel is short and at most 15
channel-parts : (code : ℕ) (s : List ℕ) → channel_good code s ≡ true → (length s ≤ 2) × (value s ≤ 15)
channel-parts code s = test (ltb code 3)
  where
    none : (s : List ℕ) → length s ≡ 0 → value s ≤ 15
    none [] h = omega arith
    none (b ∷ s) h = absurd (omega arith)

    test : (x : Bool) → cond x (eqb (length s) 0) (leb (length s) 2 && (every is_digit s && leb (value s) 15)) ≡ true → (length s ≤ 2) × (value s ≤ 15)
    test true e = (omega (arith, eqb-true (length s) 0 e), none s (eqb-true (length s) 0 e))
    test false e =
        let p = both (leb (length s) 2) (every is_digit s && leb (value s) 15) e in
        (leb-true (length s) 2 p.0, leb-true (value s) 15 (both (every is_digit s) (leb (value s) 15) p.1).1)

pub channel-short : (code : ℕ) (s : List ℕ) → channel_good code s ≡ true → length s ≤ 2
channel-short code s e = (channel-parts code s e).0

pub channel-low : (code : ℕ) (s : List ℕ) → channel_good code s ≡ true → value s ≤ 15
channel-low code s e = (channel-parts code s e).1

most-six : (code : ℕ) → most code ≤ 6
most-six code = test (eqb code 2)
  where
    test : (x : Bool) → cond x 6 2 ≤ 6
    test true = omega arith
    test false = omega arith

pub number-few : (code : ℕ) (s : List ℕ) → number_good code s ≡ true → length s ≤ 6
number-few code s e =
    omega (arith, leb-true (length s) (most code) (both (leb (length s) (most code)) (every is_digit s && leb 1 (value s)) e).0, most-six code)

-- an entry whose code is known
module _ (t : List ℕ) (known : code_error t ≡ Ok tt) where
  pub code-low : code_of t ≤ last_code
  code-low =
      ⊎_elim (λ z. omega arith)
      (λ p. ⊎_elim (λ z. not_good (sym (code-unknown t (omega arith) (omega arith)) ∙ known))
      (λ q. not_good (sym (code-long t (omega arith)) ∙ known)) (eq-zero-or-pos (length (code_text t) - 2)))
      (eq-zero-or-pos (code_of t - last_code))

  pub code-short : length (code_text t) ≤ 2
  code-short = ⊎_elim (λ z. omega arith) (λ q. not_good (sym (code-long t (omega arith)) ∙ known)) (eq-zero-or-pos (length (code_text t) - 2))

  entry-bad : entry_good (code_of t) t ≡ false → entry_of t ≡ Err WrongEntry
  unfolding entry_of form_error
  entry-bad e = rw (known, e)

  entry-good : entry_good (code_of t) t ≡ true → entry_of t ≡ Ok (record { slot = slot_of t; number = value (number_text t) })
  unfolding entry_of form_error
  entry-good e = rw (known, e)

  -- as the code takes it apart
  module _ (n code at : ℕ) (en : n ≡ length (code_text t)) (code_is : code ≡ code_of t)
      (ea : at ≡ n + length (leading (isnt 47) (take (length t - n) (drop n t)))) where
    pub at-is : at ≡ slash_at t
    at-is = ea ∙ ap (λ (l : List ℕ). n + length (leading (isnt 47) l)) (rest-is t n) ∙ rw en refl

    pub channel-is : take (at - n) (drop n t) ≡ channel_text t
    channel-is =
        let k : slash_at t - length (code_text t) ≡ length (channel_text t) = omega arith in
        rw (at-is, en, k) (leading-front (isnt 47) (drop (length (code_text t)) t))

    pub number_is : take (length t - (at + 1)) (drop (at + 1) t) ≡ number_text t
    number_is = rest-is t (at + 1) ∙ ap (λ (k : ℕ). drop (k + 1) t) at-is

    pub no_slash : length t ≤ at → entry_of t ≡ Err WrongEntry
    no_slash h = entry-bad (rw (le-ltb (slash_at t) (length t) (omega (arith, at-is))))

    module _ (h : at < length t) where
      slash : ltb (slash_at t) (length t) ≡ true
      slash = lt-ltb (slash_at t) (length t) (omega (arith, at-is))

      channel-good : (b : Bool) → b ≡ channel_good code (take (at - n) (drop n t)) → channel_good (code_of t) (channel_text t) ≡ b
      channel-good b e = rw (← code_is, ← channel-is) (sym e)

      number-good : (b : Bool) → b ≡ number_good code (take (length t - (at + 1)) (drop (at + 1) t)) → number_good (code_of t) (number_text t) ≡ b
      number-good b e = rw (← code_is, ← number_is) (sym e)

      pub bad-channel : (b : Bool) → b ≡ channel_good code (take (at - n) (drop n t)) → b ≡ false → entry_of t ≡ Err WrongEntry
      bad-channel b e z = entry-bad (rw (slash, channel-good b e, z))

      pub bad-number : (b : Bool) → b ≡ channel_good code (take (at - n) (drop n t)) → b ≡ true → (d : Bool)
          → d ≡ number_good code (take (length t - (at + 1)) (drop (at + 1) t)) → d ≡ false → entry_of t ≡ Err WrongEntry
      bad-number b e y d f z = entry-bad (rw (slash, channel-good b e, y, number-good d f, z))

      pub good-entry : (b : Bool) → b ≡ channel_good code (take (at - n) (drop n t)) → b ≡ true → (d : Bool)
          → d ≡ number_good code (take (length t - (at + 1)) (drop (at + 1) t)) → d ≡ true
          → (k v : ℕ) → k ≡ slot code (value (take (at - n) (drop n t))) → v ≡ value (take (length t - (at + 1)) (drop (at + 1) t))
          → Ok (record { slot = k; number = v }) ≡ entry_of t
      good-entry b e y d f z k v ek ev =
          let s : k ≡ slot_of t = ek ∙ rw (code_is, channel-is) refl in
          let w : v ≡ value (number_text t) = ev ∙ ap value number_is in
          rw (s, w) (sym (entry-good (rw (slash, channel-good b e, y, number-good d f, z))))

-- no entry of over twelve bytes is good
pub entry-long : (t : List ℕ) → code_error t ≡ Ok tt → 12 < length t → entry_of t ≡ Err WrongEntry
entry-long t known h = entry-bad t known (test (entry_good (code_of t) t) refl)
  where
    test : (x : Bool) → entry_good (code_of t) t ≡ x → entry_good (code_of t) t ≡ false
    test false e = e
    test true e =
        let p = both (ltb (slash_at t) (length t)) (channel_good (code_of t) (channel_text t) && number_good (code_of t) (number_text t)) e in
        let q = both (channel_good (code_of t) (channel_text t)) (number_good (code_of t) (number_text t)) p.1 in
        absurd (omega (
          arith,
          code-short t known,
          channel-short (code_of t) (channel_text t) q.0,
          number-few (code_of t) (number_text t) q.1,
          length-drop (slash_at t + 1) t,
        ))

-- the error of its code
pub entry-error : (t : List ℕ) (x : CardError) → code_error t ≡ Err x → entry_of t ≡ Err x
unfolding entry_of form_error
entry-error t x e = rw e

pub read-error : (t : List ℕ) (x : CardError) (r : Result Entry CardError) → r ≡ Err x → entry_of t ≡ Err x → EntryRead t r
read-error t x r e is = record { is = e ∙ sym is; low = rw e tt; small = rw e tt }

-- a good entry's number is a good one
pub good-number : (t : List ℕ) → form_error t ≡ Ok tt → number_good (code_of t) (number_text t) ≡ true
unfolding form_error
good-number t e =
    let k = or_else_none (code_error t) (error_if (not (entry_good (code_of t) t)) WrongEntry) e in
    by_bool (entry_good (code_of t) t)
    (λ g. let p = both (ltb (slash_at t) (length t)) (channel_good (code_of t) (channel_text t) && number_good (code_of t) (number_text t)) g in
    (both (channel_good (code_of t) (channel_text t)) (number_good (code_of t) (number_text t)) p.1).1)
    (λ g. not_good (rw g at k.1))

-- below ten to as many digits as it may have
pub number-below : (code : ℕ) (s : List ℕ) → number_good code s ≡ true → value s < tens (most code)
number-below code s g =
    let p = both (leb (length s) (most code)) (every is_digit s && leb 1 (value s)) g in
    value-below (most code) s (both (every is_digit s) (leb 1 (value s)) p.1).0 (leb-true (length s) (most code) p.0)

-- so below 100, but that of MD
pub small-number : (t : List ℕ) → form_error t ≡ Ok tt → (slot_of t ≡ 2 → ⊥) → value (number_text t) < 100
small-number t e n =
    let b = number-below (code_of t) (number_text t) (good-number t e) in
    let c : code_of t ≡ 2 → ⊥ = λ i. n (rw i) in
    rw (ne_eqb (code_of t) 2 c) at b
