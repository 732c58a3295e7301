-- The table of the PTY fields: its columns as the code has them, a field's error by the tests that the code makes,
-- and the first error of all fields, one field further; and the PTY card by the tests that the code makes. Assumes
-- nothing.
use Prim.Native.Nat.{ℕ, zero, suc, ◌+◌, ◌-◌, ◌≤◌, ◌<◌}
use mathlib.Core.Path.{◌≡◌, refl, sym, ap, ◌∙◌}
use mathlib.Core.Bool.{Bool, true, false, ◌&&◌, ◌||◌, not}
use mathlib.Core.List.{List, [], ◌∷◌, map}
use mathlib.Core.Logic.{⊎_elim}
use native.Mathlib.Nat.{le_of_suc-le-suc, eq-zero-or-pos}
use native.Mathlib.Numerals.{add-one}
use native.Mathlib.Omega.{arith}
use lib.Dec.{leb, ltb}
use lib.ListN.{length, get_or, drop, get_or-map, drop_of_length-le}
use borrow.Author.Tests.{le-ltb, lt-ltb, leb-true}
use Rattle.numbers.proofs.Tests.{both}
use Rattle.cards_fields.specs.Fields.{fields, is_pty, malformed}
use Rattle.cards_request.specs.Errors.{good, error_if, or_else}
use Rattle.cards_request.proofs.ErrorLaws.{good-is, not_good, or_else_some, or_else_none, or-else-good}
use Rattle.cards_pty.specs.Pty.{Rule, rules, no_rule, rule_at, length_error, content_error, field_error, fields_from, fields_error, pty_error}
use Rattle.cards_request.specs.declared.CardError.TheVariants.{NotPty, PtyMalformed}
use Rattle.cards_request.specs.Errors.{CardVerdict}
use Rattle.std.specs.Prelude.{Ok, Err}

-- a rule's least and most length
abbrev pub lengths : Rule → ℕ × ℕ
lengths r = (r.least, r.most)

pub lengths-at : (k : ℕ) → get_or (map lengths rules) k (0, 0) ≡ lengths (rule_at k)
lengths-at k = get_or-map lengths rules k no_rule

-- no field may be longer than what the code gathers of it
all_up_to : ℕ → List Rule → Bool
all_up_to m [] = true
all_up_to m (r ∷ rs) = leb r.most m && all_up_to m rs

at_most : (m : ℕ) (rs : List Rule) → all_up_to m rs ≡ true → (k : ℕ) → (get_or rs k no_rule).most ≤ m
unfolding all_up_to
at_most m [] h k = omega arith
at_most m (r ∷ rs) h zero = leb-true r.most m (both (leb r.most m) (all_up_to m rs) h).0
at_most m (r ∷ rs) h (suc k) = at_most m rs (both (leb r.most m) (all_up_to m rs) h).1 k

pub most-small : (k : ℕ) → (rule_at k).most ≤ 12
unfolding rules all_up_to
most-small k = at_most 12 rules refl k

rules-many : length rules ≡ 14
unfolding rules
rules-many = refl

-- past the fourteenth field there is no rule
pub rule-none : (k : ℕ) → 13 < k → rule_at k ≡ no_rule
rule-none k h = past rules k (omega (arith, rules-many))
  where
    past : (rs : List Rule) (k : ℕ) → length rs ≤ k → get_or rs k no_rule ≡ no_rule
    past [] zero h = refl
    past [] (suc k) h = refl
    past (r ∷ rs) zero h = absurd (omega arith)
    past (r ∷ rs) (suc k) h = past rs k (le_of_suc-le-suc h)

module _ (k : ℕ) (r : Rule) (t : List ℕ) where
  pub too_short : length t < r.least → field_error k r t ≡ Err (length_error k)
  too_short h = rw (lt-ltb (length t) r.least h)

  module _ (h : r.least ≤ length t) where
    pub too_long : r.most < length t → field_error k r t ≡ Err (length_error k)
    too_long g = rw (le-ltb (length t) r.least h, lt-ltb r.most (length t) g)

    pub right : length t ≤ r.most → r.content t ≡ true → field_error k r t ≡ Ok tt
    right g e = rw (le-ltb (length t) r.least h, le-ltb r.most (length t) g, e)

    pub wrong : length t ≤ r.most → r.content t ≡ false → field_error k r t ≡ Err (content_error k)
    wrong g e = rw (le-ltb (length t) r.least h, le-ltb r.most (length t) g, e)

  -- a field of over twelve bytes, which the code does not gather whole
  pub much-too-long : r.most ≤ 12 → 12 < length t → field_error k r t ≡ Err (length_error k)
  much-too-long m h =
      ⊎_elim (λ z. too_long (omega arith) (omega arith)) (λ p. too_short (omega arith)) (eq-zero-or-pos (r.least - length t))

  -- a good field's length and content
  pub good-field : field_error k r t ≡ Ok tt → (r.least ≤ length t) × ((length t ≤ r.most) × (r.content t ≡ true))
  good-field e =
      ⊎_elim
      (λ y. ⊎_elim
      (λ z. by (r.content t) refl (omega arith) (omega arith))
      (λ q. not_good (sym (too_long (omega arith) (omega arith)) ∙ e))
      (eq-zero-or-pos (length t - r.most)))
      (λ p. not_good (sym (too_short (omega arith)) ∙ e))
      (eq-zero-or-pos (r.least - length t))
    where
      by : (x : Bool) → r.content t ≡ x → r.least ≤ length t → length t ≤ r.most
          → (r.least ≤ length t) × ((length t ≤ r.most) × (r.content t ≡ true))
      by true c h g = (h, (g, c))
      by false c h g = not_good (sym (wrong h g c) ∙ e)

-- past the fourteenth field, by whether it is empty
pub none-empty : (k : ℕ) (t : List ℕ) → 13 < k → length t ≡ 0 → field_error k (rule_at k) t ≡ Ok tt
none-empty k t h e = rw (rule-none k h, e)

pub none-long : (k : ℕ) (t : List ℕ) → 13 < k → (length t ≡ 0 → ⊥) → field_error k (rule_at k) t ≡ Err (length_error k)
none-long k t h n = rw (rule-none k h) (too_long k no_rule t (omega arith) (omega arith))

-- one field further
next-none : (j : ℕ) (rs : List Rule) (k : ℕ) → k < length rs
    → fields_from (j + k) (drop k rs) [] ≡ or_else (field_error (j + k) (get_or rs k no_rule) []) (fields_from (suc (j + k)) (drop (suc k) rs) [])
next-none j [] k h = absurd (omega arith)
next-none j (r ∷ rs) zero h = refl
next-none j (r ∷ rs) (suc k) h = let e : j + suc k ≡ suc j + k = omega arith in rw e (next-none (suc j) rs k (le_of_suc-le-suc h))

next : (j : ℕ) (rs : List Rule) (fs : List (List ℕ)) (k : ℕ) → k < length rs
    → fields_from (j + k) (drop k rs) (drop k fs)
    ≡ or_else (field_error (j + k) (get_or rs k no_rule) (get_or fs k [])) (fields_from (suc (j + k)) (drop (suc k) rs) (drop (suc k) fs))
next j [] fs k h = absurd (omega arith)
next j (r ∷ rs) [] zero h = refl
next j (r ∷ rs) (f ∷ fs) zero h = refl
next j (r ∷ rs) [] (suc k) h = let e : j + suc k ≡ suc j + k = omega arith in rw e (next-none (suc j) rs k (le_of_suc-le-suc h))
next j (r ∷ rs) (f ∷ fs) (suc k) h = let e : j + suc k ≡ suc j + k = omega arith in rw e (next (suc j) rs fs k (le_of_suc-le-suc h))

-- what is left to look at from index k on
abbrev pub from_index : ℕ → List (List ℕ) → CardVerdict
from_index k fs = fields_from k (drop k rules) (drop k fs)

module _ (fs : List (List ℕ)) (k : ℕ) (h : k < 14) (e : CardVerdict) (is : e ≡ field_error k (rule_at k) (get_or fs k [])) where
  at-rule : from_index k fs ≡ or_else e (from_index (k + 1) fs)
  at-rule = rw (is, add-one k) (let z : 0 + k ≡ k = omega arith in rw z at (next 0 rules fs k (omega (arith, rules-many))))

  pub field-wrong : good e ≡ false → from_index k fs ≡ e
  field-wrong n = at-rule ∙ or_else_some e _ n

  pub field-right : good e ≡ true → from_index k fs ≡ from_index (k + 1) fs
  field-right z = at-rule ∙ ap (λ (v : CardVerdict). or_else v (from_index (k + 1) fs)) (good-is e z)

pub fields-done : (fs : List (List ℕ)) (k : ℕ) → 14 ≤ k → from_index k fs ≡ Ok tt
fields-done fs k h = rw (drop_of_length-le rules {i = k} (omega (arith, rules-many)))

-- the arms of a match that were passed: the number is none of those below n
abbrev pub Missed : ℕ → ℕ → Type 0
Missed zero k = Unit {0}
Missed (suc n) k = Missed n k × (k ≡ n → ⊥)

pub missed : (n k : ℕ) → Missed n k → n ≤ k
missed zero k h = omega arith
missed (suc n) k h = omega (arith, missed n k h.0, h.1)

-- where no field is wrong, each is right
nil-at : (k : ℕ) → ◌≡◌ {A = List ℕ} (get_or [] k []) []
nil-at zero = refl
nil-at (suc k) = refl

all_right : (j : ℕ) (rs : List Rule) (fs : List (List ℕ)) → fields_from j rs fs ≡ Ok tt → (k : ℕ) → k < length rs
    → field_error (j + k) (get_or rs k no_rule) (get_or fs k []) ≡ Ok tt
all_right j [] fs e k h = absurd (omega arith)
all_right j (r ∷ rs) [] e zero h = let i : j + 0 ≡ j = omega arith in rw i (or_else_none (field_error j r []) (fields_from (suc j) rs []) e).0
all_right j (r ∷ rs) (f ∷ fs) e zero h = let i : j + 0 ≡ j = omega arith in rw i (or_else_none (field_error j r f) (fields_from (suc j) rs fs) e).0
all_right j (r ∷ rs) [] e (suc k) h =
    let i : j + suc k ≡ suc j + k = omega arith in
    rw (i, ← nil-at k) (all_right (suc j) rs [] (or_else_none (field_error j r []) (fields_from (suc j) rs []) e).1 k (le_of_suc-le-suc h))
all_right j (r ∷ rs) (f ∷ fs) e (suc k) h =
    let i : j + suc k ≡ suc j + k = omega arith in
    rw i (all_right (suc j) rs fs (or_else_none (field_error j r f) (fields_from (suc j) rs fs) e).1 k (le_of_suc-le-suc h))

pub right-at : (fs : List (List ℕ)) → fields_error fs ≡ Ok tt → (k : ℕ) → k < 14 → field_error k (rule_at k) (get_or fs k []) ≡ Ok tt
right-at fs e k h = let z : 0 + k ≡ k = omega arith in rw z at (all_right 0 rules fs e k (omega (arith, rules-many)))

-- so that none is longer than it may be
pub not-longer : (fs : List (List ℕ)) → fields_error fs ≡ Ok tt → (k : ℕ) → k < 14 → length (get_or fs k []) ≤ (rule_at k).most
not-longer fs e k h = (good-field k (rule_at k) (get_or fs k []) (right-at fs e k h)).1.0

-- the PTY card
module _ (s : List ℕ) where
  pub not-pty : is_pty s ≡ false → pty_error s ≡ Err NotPty
  unfolding pty_error
  not-pty e = rw e

  module _ (p : is_pty s ≡ true) where
    pub pty-malformed : malformed s ≡ true → pty_error s ≡ Err PtyMalformed
    unfolding pty_error
    pty-malformed e = rw (p, e)

    module _ (m : malformed s ≡ false) where
      pub pty-many : 14 < length (fields s) → pty_error s ≡ Err PtyMalformed
      unfolding pty_error
      pty-many h = rw (p, m, lt-ltb 14 (length (fields s)) h)

      pub pty-fields : length (fields s) ≤ 14 → pty_error s ≡ fields_error (fields s)
      unfolding pty_error
      pty-fields h = rw (p, m, le-ltb 14 (length (fields s)) h) (or-else-good (fields_error (fields s)))

-- a PTY card without error has no wrong field
pub fields-good : (s : List ℕ) → pty_error s ≡ Ok tt → fields_error (fields s) ≡ Ok tt
unfolding pty_error
fields-good s e =
    let last = or_else (fields_error (fields s)) (Ok tt) in
    let a = (or_else_none (error_if (not (is_pty s)) NotPty) (or_else (error_if (malformed s || ltb 14 (length (fields s))) PtyMalformed) last) e).1 in
    (or_else_none (fields_error (fields s)) (Ok tt) (or_else_none (error_if (malformed s || ltb 14 (length (fields s))) PtyMalformed) last a).1).0
