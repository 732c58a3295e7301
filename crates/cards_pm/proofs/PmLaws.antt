-- A PM card by the tests that the code makes: its type and digit as they were gathered, the text before its last
-- period,
-- what stands behind a comma, and each of its faults. Assumes nothing.
use Prim.Native.Nat.{ℕ, zero, suc, ◌+◌, ◌-◌, ◌≤◌, ◌<◌}
use mathlib.Core.Path.{◌≡◌, refl, sym, ap, ◌∙◌}
use mathlib.Core.Bool.{Bool, true, false, ◌&&◌, not}
use mathlib.Core.List.{List, [], ◌∷◌, ◌++◌}
use native.Mathlib.Nat.{le_of_suc-le-suc}
use native.Mathlib.Omega.{arith}
use lib.Dec.{eqb, ltb}
use lib.ListN.{length, get_or, take, drop, drop_of_length-le}
use lib.Seq.{take_all, length-take-le}
use borrow.Author.Tests.{eq-eqb, ne_eqb, eqb-true, lt-ltb, le-ltb}
use Rattle.numbers.specs.Quoted.{byte, bytes}
use Rattle.numbers.proofs.Tests.{by_bool, never, or-true}
use Rattle.numbers.specs.Limits.{card_length, pm_length}
use Rattle.text.specs.Class.{is_digit}
use Rattle.text.specs.Room.{Puts}
use Rattle.text.specs.declared.room.Room.{Room}
use Rattle.text.proofs.RoomLaws.{puts-then}
use Rattle.words.specs.Words.{every, has, same, isnt, leading}
use Rattle.words.proofs.WordLaws.{and-false, leading-most, has-later}
use Rattle.cards_fields.specs.Fields.{field, field_of, padded, card_byte}
use Rattle.cards_fields.specs.declared.Field.{Field}
use Rattle.cards_fields.proofs.FieldLaws.{rest-is}
use Rattle.cards_pm.specs.Pm.{is_pm, numbered, digit_of, body, behind_comma, letters, pm_malformed, pm_fault, pm_text}
use Rattle.cards_fields.proofs.RoundLaws.{neither}

-- ---- the type

pub and-true : (b : Bool) → b && true ≡ b
and-true true = refl
and-true false = refl

second-byte : (t : List ℕ) → get_or (padded 12 t) 0 0 ≡ 80 → eqb (get_or (padded 12 t) 1 0) 77 ≡ same (take 2 t) (bytes "PM")
second-byte [] h = absurd (omega (arith, h))
second-byte (x ∷ []) h = sym (and-false (eqb x 80))
second-byte (x ∷ y ∷ t) h = rw (eq-eqb x 80 h) (sym (and-true (eqb y 77)))

first_byte : (t : List ℕ) → (get_or (padded 12 t) 0 0 ≡ 80 → ⊥) → eqb (get_or (padded 12 t) 0 0) 80 ≡ same (take 2 t) (bytes "PM")
first_byte [] h = refl
first_byte (x ∷ []) h = rw (ne_eqb x 80 h)
first_byte (x ∷ y ∷ t) h = rw (ne_eqb x 80 h)

third-byte : (t : List ℕ) → get_or (padded 12 t) 2 0 ≡ get_or t 2 (byte " ")
third-byte [] = refl
third-byte (x ∷ []) = refl
third-byte (x ∷ y ∷ []) = refl
third-byte (x ∷ y ∷ z ∷ t) = refl

third-of-three : (t : List ℕ) → length t ≡ 3 → get_or (padded 12 t) 2 0 ≡ get_or t 2 0
third-of-three [] h = absurd (omega (arith, h))
third-of-three (x ∷ []) h = absurd (omega (arith, h))
third-of-three (x ∷ y ∷ []) h = absurd (omega (arith, h))
third-of-three (x ∷ y ∷ z ∷ t) h = refl

module _ (card : List ℕ) (f : Field) (is : f ≡ field_of (field card 1)) where
  pub pm-by-second : get_or f.bytes 0 0 ≡ 80 → eqb (get_or f.bytes 1 0) 77 ≡ is_pm card
  unfolding is_pm
  pm-by-second h =
      let e : f.bytes ≡ padded 12 (field card 1) = ap (λ (x : Field). x.bytes) is in
      let g : get_or (padded 12 (field card 1)) 0 0 ≡ 80 = rw e at h in
      rw e (second-byte (field card 1) g)

  pub pm-by-first : (get_or f.bytes 0 0 ≡ 80 → ⊥) → eqb (get_or f.bytes 0 0) 80 ≡ is_pm card
  unfolding is_pm
  pm-by-first h =
      let e : f.bytes ≡ padded 12 (field card 1) = ap (λ (x : Field). x.bytes) is in
      rw e (first_byte (field card 1) (λ g. h (ap (λ (l : List ℕ). get_or l 0 0) e ∙ g)))

  pub digit-is : get_or f.bytes 2 0 ≡ digit_of card
  unfolding digit_of
  digit-is = ap (λ (x : Field). get_or x.bytes 2 0) is ∙ third-byte (field card 1)

  pub not-numbered : (f.len ≡ 3 → ⊥) → numbered card ≡ false
  not-numbered h = let e : f.len ≡ length (field card 1) = ap (λ (x : Field). x.len) is in rw (ne_eqb (length (field card 1)) 3 (λ g. h (e ∙ g)))

  pub numbered-by : f.len ≡ 3 → is_digit (get_or f.bytes 2 0) ≡ numbered card
  numbered-by h =
      let e : f.len ≡ length (field card 1) = ap (λ (x : Field). x.len) is in
      rw (eq-eqb (length (field card 1)) 3 (sym e ∙ h))
      (ap (λ (x : Field). is_digit (get_or x.bytes 2 0)) is ∙ ap is_digit (third-of-three (field card 1) (sym e ∙ h)))

-- ---- what stands before the last period

pub has-at : (s : List ℕ) (b i : ℕ) → i < length s → get_or s i 0 ≡ b → has s b ≡ true
has-at [] b i h e = absurd (omega arith)
has-at (x ∷ s) b zero h e = rw (eq-eqb b x (sym e))
has-at (x ∷ s) b (suc i) h e = rw (has-at s b i (le_of_suc-le-suc h) e) (or-true (eqb b x))

-- a period with none behind it is the last
pub body_at : (s : List ℕ) (n : ℕ) → n < length s → get_or s n 0 ≡ 46 → has (drop (suc n) s) 46 ≡ false → body s ≡ take n s
body_at [] n h e l = absurd (omega arith)
body_at (b ∷ s) zero h e l = rw (l, eq-eqb b 46 e)
body_at (b ∷ s) (suc n) h e l = rw (has-at s 46 n (le_of_suc-le-suc h) e) (ap (λ (t : List ℕ). b ∷ t) (body_at s n (le_of_suc-le-suc h) e l))

-- the byte before a position from which on there is no period
pub body-length : (s : List ℕ) (n : ℕ) → 0 < n → n ≤ length s → get_or s (n - 1) 0 ≡ 46 → has (drop n s) 46 ≡ false → n - 1 ≡ length (body s)
body-length s zero g h e l = absurd (omega arith)
body-length s (suc n) g h e l =
    let p : suc n - 1 ≡ n = omega arith in
    let q : get_or s n 0 ≡ 46 = rw p at e in
    p ∙ sym (ap length (body_at s n h q l) ∙ length-take-le n s (omega arith))

pub period-later : (s : List ℕ) (n : ℕ) → 0 < n → n ≤ length s → (get_or s (n - 1) 0 ≡ 46 → ⊥) → has (drop n s) 46 ≡ false
    → has (drop (n - 1) s) 46 ≡ false
period-later s zero g h e l = absurd (omega arith)
period-later s (suc n) g h e l =
    let p : suc n - 1 ≡ n = omega arith in
    let q : n + 1 ≡ suc n = omega arith in
    let m : has (drop (n + 1) s) 46 ≡ false = rw q l in
    rw p (has-later s 46 n h (λ i. e (ap (λ (k : ℕ). get_or s k 0) p ∙ sym i)) ∙ m)

pub body-none : (s : List ℕ) → has s 46 ≡ false → body s ≡ s
body-none [] h = refl
body-none (b ∷ s) h =
    let q = neither (eqb 46 b) (has s 46) h in
    rw q.1 (by_bool (eqb b 46) (λ t. never (eq-eqb 46 b (sym (eqb-true b 46 t))) q.0) (λ t. rw t))

pub body-shorter : (s : List ℕ) → has s 46 ≡ true → length (body s) < length s
body-shorter [] h = never h refl
body-shorter (b ∷ s) h =
    by_bool (has s 46) (λ t. rw t (omega (arith, body-shorter s t)))
    (λ t. rw t (by_bool (eqb b 46) (λ e. rw e (omega arith))
    (λ e. never h (rw (t, ne_eqb 46 b (λ i. never (eq-eqb b 46 (sym i)) e))))))

pub body-most : (s : List ℕ) → length (body s) ≤ length s
body-most s = by_bool (has s 46) (λ t. omega (arith, body-shorter s t)) (λ t. omega (arith, ap length (body-none s t)))

pub body-front : (s : List ℕ) → take (length (body s)) s ≡ body s
body-front [] = refl
body-front (b ∷ s) =
    by_bool (has s 46) (λ t. rw t (ap (λ (l : List ℕ). b ∷ l) (body-front s)))
    (λ t. rw t (by_bool (eqb b 46) (λ e. rw e) (λ e. rw e (take_all (suc (length s)) (b ∷ s) (omega arith)))))

-- as long as the card where there is no period, else shorter
pub period-none : (s : List ℕ) → length (body s) ≡ length s → has s 46 ≡ false
period-none s e = by_bool (has s 46) (λ t. absurd (omega (arith, body-shorter s t))) (λ t. t)

pub period-some : (s : List ℕ) → (length (body s) ≡ length s → ⊥) → has s 46 ≡ true
period-some s n = by_bool (has s 46) (λ t. t) (λ t. absurd (n (ap length (body-none s t))))

-- ---- what stands behind a comma

module _ (s : List ℕ) (at : ℕ) (is : at ≡ length (leading (isnt 44) s)) where
  pub comma-none : at ≡ length s → [] ≡ behind_comma s
  comma-none e = sym (drop_of_length-le s {i = length (leading (isnt 44) s) + 1} (omega (arith, is)))

  pub comma-within : (at ≡ length s → ⊥) → at + 1 ≤ length s
  comma-within n = omega (arith, n, is, leading-most (isnt 44) s)

  pub comma-rest : take (length s - (at + 1)) (drop (at + 1) s) ≡ behind_comma s
  comma-rest = rest-is s (at + 1) ∙ ap (λ (k : ℕ). drop (k + 1) s) is

pub letters-by : (card : List ℕ) (n : ℕ) → n ≡ length (body card) → behind_comma (behind_comma (take n card)) ≡ letters card
unfolding letters
letters-by card n e = rw e (ap (λ (l : List ℕ). behind_comma (behind_comma l)) (body-front card))

-- ---- the faults, one test after the other

module _ (card : List ℕ) where
  pub fault-long : card_length < length card → pm_malformed card ≡ true
  unfolding pm_malformed
  fault-long h = rw (lt-ltb card_length (length card) h)

  module _ (h : length card ≤ card_length) where
    pub fault-byte : every card_byte card ≡ false → pm_malformed card ≡ true
    unfolding pm_malformed
    fault-byte b = rw (le-ltb card_length (length card) h, b)

    module _ (b : every card_byte card ≡ true) where
      pub fault-period : has card 46 ≡ false → pm_malformed card ≡ true
      unfolding pm_malformed
      fault-period p = rw (le-ltb card_length (length card) h, b, p)

      module _ (p : has card 46 ≡ true) (n : ℕ) (is : n ≡ length (body card)) where
        tail-is : take (length card - (n + 1)) (drop (n + 1) card) ≡ drop (length (body card) + 1) card
        tail-is = rest-is card (n + 1) ∙ ap (λ (k : ℕ). drop (k + 1) card) is

        pub fault-behind : every (has (bytes " ")) (take (length card - (n + 1)) (drop (n + 1) card)) ≡ false → pm_malformed card ≡ true
        unfolding pm_malformed
        fault-behind t =
            let u : every (has (bytes " ")) (drop (length (body card) + 1) card) ≡ false = ap (every (has (bytes " "))) (sym tail-is) ∙ t in
            rw (le-ltb card_length (length card) h, b, p, u)

        pub fault-comma : every (has (bytes " ")) (take (length card - (n + 1)) (drop (n + 1) card)) ≡ true
            → not (has (behind_comma (take n card)) 44) ≡ pm_malformed card
        unfolding pm_malformed
        fault-comma t =
            let u : every (has (bytes " ")) (drop (length (body card) + 1) card) ≡ true = ap (every (has (bytes " "))) (sym tail-is) ∙ t in
            let v : take n card ≡ body card = ap (λ (k : ℕ). take k card) is ∙ body-front card in
            rw (le-ltb card_length (length card) h, b, p, u, v)

  pub fault-form : pm_malformed card ≡ true → pm_fault card ≡ true
  unfolding pm_fault
  fault-form e = rw e

  pub fault-letters : pm_malformed card ≡ false → ltb pm_length (length (letters card)) ≡ pm_fault card
  unfolding pm_fault
  fault-letters e = rw e

-- ---- the card put, piece after piece

pub pm-put : (card : List ℕ) {digit : ℕ} {text : List ℕ} {s t u v w x : Room} → digit ≡ digit_of card → text ≡ letters card
    → Puts s (bytes "PM") t → Puts t (digit ∷ []) u → Puts u (44 ∷ []) v → Puts v text w → Puts w (46 ∷ []) x
    → Puts s (pm_text card) x
unfolding pm_text
pm-put card {digit} {text} {s} {x = x} i j g h k l m =
    let z : Puts s (bytes "PM" ++ (digit ∷ 44 ∷ (text ++ (46 ∷ [])))) x = puts-then g (puts-then h (puts-then k (puts-then l m))) in
    rw (i, j) at z
