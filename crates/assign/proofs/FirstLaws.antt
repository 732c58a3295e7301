-- The first part that is lacking: there is one answer, it is the same by another reading of the parts, and it is known
-- of the kinds by their places in the written order. Assumes nothing.
use Rattle.std.specs.Prelude.{Option, Some, None}
use Prim.Native.Nat.{ℕ, zero, suc, ◌<◌}
use mathlib.Core.Path.{◌≡◌, refl, sym, ap, subst, ◌∙◌}
use mathlib.Core.Bool.{Bool, true, false}
use mathlib.Core.List.{List, [], ◌∷◌}
use mathlib.Core.Logic.{inl, inr, ⊎_elim}
use native.Mathlib.Omega.{arith}
use lib.ListN.{length, get_or}
use Rattle.numbers.proofs.Tests.{never}
use Rattle.numbers.specs.Kinds.{in_order, unit_kinds, kind_at, order_of}
use Rattle.numbers.specs.declared.Kind.{Kind}
use Rattle.numbers.specs.declared.Kind.TheVariants.{Md}
use Rattle.numbers.proofs.KindLaws.{map_at, kind-order}
use Rattle.assign.specs.declared.Part.{Part}
use Rattle.assign.specs.declared.Part.TheVariants.{Core, Units}
use Rattle.assign.specs.Parts.{FirstOf, kinds}

-- nothing is lacking, as a test
abbrev is_nothing : Option Part → Bool
is_nothing None = true
is_nothing (Some part) = false

pub not-nothing : {part : Part} → None ≡ Some part → ⊥
not-nothing e = never (sym (ap is_nothing e)) refl

module _ (has : Part → Type 0) where
  -- there is one answer
  pub first_one : (ps : List Part) (r s : Option Part) → FirstOf has ps r → FirstOf has ps s → r ≡ s
  first_one [] r s a b = a ∙ sym b
  first_one (p ∷ ps) r s a b =
      ⊎_elim (λ x. ⊎_elim (λ y. x.1 ∙ sym y.1) (λ y. absurd (x.0 y.0)) b)
      (λ x. ⊎_elim (λ y. absurd (y.0 x.0)) (λ y. first_one ps r s x.1 y.1) b) a

  -- the same by another reading of the parts, where the next part and the others say the same
  pub first_next : (other : Part → Type 0) (p : Part) (ps : List Part) (r : Option Part) → (has p → other p) → (other p → has p)
      → (FirstOf has ps r → FirstOf other ps r)
      → FirstOf has (p ∷ ps) r → FirstOf other (p ∷ ps) r
  first_next other p ps r to from rest a = ⊎_elim (λ x. inl (λ h. x.0 (from h), x.1)) (λ x. inr (to x.0, rest x.1)) a

  -- the first that is not there, of parts that stand in a list: those before it are
  pub first-at : (d : Part) (ps : List Part) (i : ℕ) → i < length ps → ((j : ℕ) → j < i → has (get_or ps j d)) → (has (get_or ps i d) → ⊥)
      → FirstOf has ps (Some (get_or ps i d))
  first-at d [] i h before none = absurd (omega arith)
  first-at d (p ∷ ps) zero h before none = inl (none, refl)
  first-at d (p ∷ ps) (suc i) h before none = inr (before 0 (omega arith), first-at d ps i (omega arith) (λ j l. before (suc j) (omega arith)) none)

  -- nothing is lacking where all are
  pub first-none : (d : Part) (ps : List Part) → ((j : ℕ) → j < length ps → has (get_or ps j d)) → FirstOf has ps None
  first-none d [] all = refl
  first-none d (p ∷ ps) all = inr (all 0 (omega arith), first-none d ps (λ j l. all (suc j) (omega arith)))

  -- the same by another reading, where every part of the list says the same
  pub first-same : (other : Part → Type 0) (d : Part) (ps : List Part) (r : Option Part)
      → ((j : ℕ) → j < length ps → has (get_or ps j d) → other (get_or ps j d))
      → ((j : ℕ) → j < length ps → other (get_or ps j d) → has (get_or ps j d)) → FirstOf has ps r → FirstOf other ps r
  first-same other d [] r to from f = f
  first-same other d (p ∷ ps) r to from f =
      first_next other p ps r (to 0 (omega arith)) (from 0 (omega arith))
      (first-same other d ps r (λ j l. to (suc j) (omega arith)) (λ j l. from (suc j) (omega arith))) f

-- ---- the kinds, each told by its place in the written order
-- the part at a place is the kind there
kind-part : (i : ℕ) → i < unit_kinds → get_or kinds i Core ≡ Units (kind_at i)
kind-part i h = map_at (λ k. Units k) Core in_order Md i h

-- a reading of the parts that tells a kind by its place
module _ (has : Part → Type 0) (at : ℕ → Type 0) (to : (k : Kind) → at (order_of k) → has (Units k))
    (from : (k : Kind) → has (Units k) → at (order_of k)) where
  pub kind-there : (i : ℕ) → i < unit_kinds → at i → has (get_or kinds i Core)
  kind-there i h a = subst has (sym (kind-part i h)) (to (kind_at i) (subst at (sym (kind-order i h)) a))

  pub kind-here : (i : ℕ) → i < unit_kinds → has (get_or kinds i Core) → at i
  kind-here i h a = subst at (kind-order i h) (from (kind_at i) (subst has (kind-part i h) a))

  -- the first kind that is lacking
  pub first_kind : (i : ℕ) → i < unit_kinds → ((j : ℕ) → j < i → at j) → (at i → ⊥) → FirstOf has kinds (Some (Units (kind_at i)))
  first_kind i h before none =
      subst (λ (p : Part). FirstOf has kinds (Some p)) (kind-part i h)
      (first-at has Core kinds i h (λ j l. kind-there j (omega arith) (before j l)) (λ x. none (kind-here i h x)))

  -- none is
  pub every-kind : ((j : ℕ) → j < unit_kinds → at j) → FirstOf has kinds None
  every-kind all = first-none has Core kinds (λ j l. kind-there j l (all j l))
