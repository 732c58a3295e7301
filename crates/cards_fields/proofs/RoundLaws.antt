-- What is read from a card and written again: parts without a slash, put together with slashes, are cut where they were
-- put together; a number has no more digits than the text that it was read from, and a card has no fewer characters
-- than its fields with what stands behind each. Assumes nothing.
use Prim.Native.Nat.{ℕ, zero, suc, ◌+◌, ◌-◌, ◌^◌, ◌/◌, ◌%◌, ◌≤◌, ◌<◌}
use mathlib.Core.Path.{◌≡◌, refl, sym, ap, subst, ◌∙◌}
use mathlib.Core.Bool.{Bool, true, false, ◌&&◌, ◌||◌}
use mathlib.Core.List.{List, [], ◌∷◌, ◌++◌}
use mathlib.Core.Logic.{⊎_elim}
use native.Mathlib.Nat.{eq-zero-or-pos, pow-suc}
use native.Mathlib.Omega.{arith}
use lib.Dec.{eqb, leb, ltb}
use lib.ListN.{length, get_or, drop, length-append}
use borrow.Author.Tests.{eqb-true, eqb-false, ne_eqb, leb-true}
use Rattle.numbers.proofs.Tests.{by_bool, never, both}
use Rattle.numbers.specs.Limits.{card_length}
use Rattle.text.specs.Class.{is_digit, is_alnum}
use Rattle.text.specs.Writing.{decimal_text}
use Rattle.text.proofs.Tens.{one-digit, more-digits}
use Rattle.text.proofs.Undo.{few-digits}
use Rattle.words.specs.Words.{every, has, value, isnt, leading}
use Rattle.words.proofs.WordLaws.{value-below, tens}
use Rattle.cards_fields.specs.Fields.{fields, split, pieces, onto, spaceless, up_to_period, closed, card_byte, malformed, is_name, tail_text}
use Rattle.cards_fields.proofs.FieldLaws.{pieces-some, spaceless-short}

-- neither of two tests holds
pub neither : (a b : Bool) → (a || b) ≡ false → (a ≡ false) × (b ≡ false)
neither true b h = never refl h
neither false b h = (refl, h)

-- ---- parts put together

-- a byte that fails a test does not stand in a text of which every byte passes
pub has-not : (p : ℕ → Bool) (cut : ℕ) → p cut ≡ false → (s : List ℕ) → every p s ≡ true → has s cut ≡ false
has-not p cut n [] h = refl
has-not p cut n (x ∷ s) h =
    let q = both (p x) (every p s) h in
    by_bool (eqb cut x) (λ e. never q.0 (ap p (sym (eqb-true cut x e)) ∙ n)) (λ e. rw e (has-not p cut n s q.1))

module _ (cut : ℕ) where
  -- the first byte is another, and the byte stands in none of the others
  other : (x : ℕ) (s : List ℕ) → has (x ∷ s) cut ≡ false → (eqb x cut ≡ false) × (has s cut ≡ false)
  other x s h =
      by_bool (eqb cut x)
      (λ e. never (rw e) h)
      (λ e. (ne_eqb x cut (λ i. eqb-false cut x e (sym i)), rw e at h))

  pub leading-join : (s t : List ℕ) → has s cut ≡ false → leading (isnt cut) (s ++ (cut ∷ t)) ≡ s
  leading-join [] t h = by_bool (eqb cut cut) (λ e. rw e) (λ e. absurd (eqb-false cut cut e refl))
  leading-join (x ∷ s) t h = let q = other x s h in rw q.0 (ap (λ (l : List ℕ). x ∷ l) (leading-join s t q.1))

  pub pieces-join : (s t : List ℕ) → has s cut ≡ false → pieces cut (s ++ (cut ∷ t)) ≡ s ∷ pieces cut t
  pieces-join [] t h = by_bool (eqb cut cut) (λ e. rw e) (λ e. absurd (eqb-false cut cut e refl))
  pieces-join (x ∷ s) t h = let q = other x s h in rw q.0 (ap (onto x) (pieces-join s t q.1))

  pub pieces-one : (s : List ℕ) → has s cut ≡ false → pieces cut s ≡ s ∷ []
  pieces-one [] h = refl
  pieces-one (x ∷ s) h = let q = other x s h in rw q.0 (ap (onto x) (pieces-one s q.1))

  -- pieces with the byte between them
  abbrev pub joined : List (List ℕ) → List ℕ
  joined [] = []
  joined (p ∷ []) = p
  joined (p ∷ q ∷ ps) = p ++ (cut ∷ joined (q ∷ ps))

  -- a text is its pieces put together
  pub joined-pieces : (s : List ℕ) → joined (pieces cut s) ≡ s
  joined-pieces [] = refl
  joined-pieces (b ∷ s) =
      by_bool (eqb b cut)
      (λ e. rw e (fronted (pieces cut s) (pieces-some cut s) ∙ ap (λ (l : List ℕ). cut ∷ l) (joined-pieces s)
      ∙ ap (λ (x : ℕ). x ∷ s) (sym (eqb-true b cut e))))
      (λ e. rw e (grown (pieces cut s) (pieces-some cut s) ∙ ap (λ (l : List ℕ). b ∷ l) (joined-pieces s)))
    where
      fronted : (ps : List (List ℕ)) → 1 ≤ length ps → joined ([] ∷ ps) ≡ cut ∷ joined ps
      fronted [] h = absurd (omega arith)
      fronted (p ∷ ps) h = refl

      grown : (ps : List (List ℕ)) → 1 ≤ length ps → joined (onto b ps) ≡ b ∷ joined ps
      grown [] h = absurd (omega arith)
      grown (p ∷ []) h = refl
      grown (p ∷ q ∷ ps) h = refl

-- a name: how long it is, and of what
pub record Named (t : List ℕ) : Type 0 where
  pub some : 1 ≤ length t
  pub few : length t ≤ 6
  pub alnum : every is_alnum t ≡ true

pub named : (t : List ℕ) → is_name t ≡ true → Named t
unfolding is_name
named t h =
    let p = both (leb 1 (length t)) (leb (length t) 6 && every is_alnum t) h in
    let q = both (leb (length t) 6) (every is_alnum t) p.1 in
    record { some = leb-true 1 (length t) p.0; few = leb-true (length t) 6 q.0; alnum = q.1 }

-- ---- lengths

-- a number has no more digits than the text that it was read from
pub digits-few : (s : List ℕ) → every is_digit s ≡ true → 1 ≤ length s → length (decimal_text (value s)) ≤ length s
digits-few [] d h = absurd (omega arith)
digits-few (b ∷ s) d h =
    few-digits (length s) (value (b ∷ s))
    (subst (λ (n : ℕ). value (b ∷ s) < n) (tens-is (suc (length s))) (value-below (suc (length s)) (b ∷ s) d (omega arith)))
  where
    tens-is : (k : ℕ) → tens k ≡ 10 ^ k
    tens-is zero = refl
    tens-is (suc k) = omega (arith, pow-suc 10 k, tens-is k)

-- and at least one
pub number-some : (n : ℕ) → 1 ≤ length (decimal_text n)
number-some n =
    ⊎_elim
    (λ z. rw (one-digit n (omega arith)) (omega arith))
    (λ p. rw (more-digits n (omega arith)) (omega (arith, length-append (decimal_text (n / 10)) ((48 + n % 10) ∷ []))))
    (eq-zero-or-pos (n - 9))

-- how many characters fields take, each with the comma or period behind it
abbrev pub total : List (List ℕ) → ℕ
total [] = 0
total (f ∷ fs) = length f + 1 + total fs

-- and behind a first, each with the comma before it, and the period
pub tail-total : (fs : List (List ℕ)) → length (tail_text fs) ≡ total fs + 1
tail-total [] = refl
tail-total (f ∷ fs) = omega (arith, length-append f (tail_text fs), tail-total fs)

-- the first two, and the others
pub total-two : (fs : List (List ℕ)) → 2 ≤ length fs → total fs ≡ length (get_or fs 0 []) + 1 + (length (get_or fs 1 []) + 1 + total (drop 2 fs))
total-two [] h = absurd (omega arith)
total-two (f ∷ []) h = absurd (omega arith)
total-two (f ∷ g ∷ fs) h = refl

split-total : (s : List ℕ) → total (split s) ≡ length s + 1
split-total [] = refl
split-total (b ∷ s) = by_bool (eqb b 44) (λ e. rw e (omega (arith, split-total s))) (λ e. rw e (fronted (split s) (split-total s)))
  where
    fronted : (fs : List (List ℕ)) → total fs ≡ length s + 1 → total (onto b fs) ≡ length (b ∷ s) + 1
    fronted [] h = absurd (omega arith)
    fronted (f ∷ fs) h = omega arith

-- a card that is closed has its period behind its fields
closed-length : (s : List ℕ) → closed false s ≡ true → length (up_to_period s) + 1 ≤ length s
closed-length [] e = never e refl
closed-length (b ∷ s) e =
    let q = (both (card_byte b) (closed (eqb b 46) s) e).1 in
    by_bool (eqb b 46)
    (λ t. rw t (omega arith))
    (λ t. let r : closed false s ≡ true = rw t at q in rw t (omega (arith, closed-length s r)))

-- THE FIELDS OF A CARD THAT IS NOT MALFORMED, with what stands behind each, are no longer than the card
pub fields-total : (s : List ℕ) → malformed s ≡ false → total (fields s) ≤ length s
unfolding malformed fields
fields-total s m =
    by_bool (ltb card_length (length s))
    (λ t. never refl (rw t at m))
    (λ t. by_bool (closed false s)
    (λ c. omega (arith, split-total (spaceless (up_to_period s)), spaceless-short (up_to_period s), closed-length s c))
    (λ c. never refl (rw (t, c) at m)))
