-- Units counted by channel and by entry: as many are assignable as the channels have counts for, and each is given
-- at most once. Assumes nothing.
use Rattle.std.specs.Prelude.{Option, Some, None}
use Rattle.numbers.specs.declared.LogicalChannel.{LogicalChannel}
use Prim.Native.Nat.{ℕ, zero, suc, ◌+◌, ◌*◌, ◌≤◌, ◌<◌, ◌/◌, suc-le-suc}
use mathlib.Core.Path.{◌≡◌, refl, sym, ap, ◌∙◌}
use mathlib.Core.Bool.{Bool, true}
use mathlib.Core.List.{List, [], ◌∷◌}
use mathlib.Core.Logic.{⊎_elim}
use native.Mathlib.Omega.{arith}
use lib.Dec.{eqb}
use lib.ListN.{length}
use borrow.Author.Tests.{eq-eqb, ne_eqb}
use Rattle.numbers.proofs.Order.{le-or-lt}
use Rattle.numbers.proofs.Tests.{by_bool, never}
use Rattle.assign_channels.specs.declared.ByChannel.{ByChannel}
use Rattle.assign_channels.specs.declared.ByLogical.{ByLogical}
use Rattle.assign_channels.specs.Choice.{count_at, want, total}
use Rattle.assign_heads.specs.Sums.{sum_to, one, how_many}
use Rattle.assign_heads.proofs.SumsLaws.{sum-zero, sum_same, sum-at, sum-only, sum_rows, sum-swap, total-sum}
use Rattle.assign_heads.specs.Heads.{is_to, is_given}
use Rattle.assign_heads.specs.Whose.{free_at}
use Rattle.assign_heads.specs.Giving.{FreeCounts}

-- an assignable unit is one of the cell's
pub free-below : (free : List Bool) (i : ℕ) → free_at free i ≡ true → i < length free
free-below [] i t = never t refl
free-below (b ∷ bs) zero t = omega arith
free-below (b ∷ bs) (suc i) t = suc-le-suc (free-below bs i t)

-- all counts together is the number of assignable units
pub counts-total : {free : List Bool} {counts : ByChannel} → FreeCounts free counts → total counts.0 ≡ how_many 256 (free_at free)
counts-total {free} {counts} r =
    total-sum counts.0 ∙ ap (λ (n : ℕ). sum_to n (count_at counts)) r.long
    ∙ sum_same 16 (count_at counts) (λ c. how_many 16 (λ u. free_at free (c * 16 + u))) r.each
    ∙ sym (sum_rows 16 (λ i. one (free_at free i)))

pub wants-total : (wants : ByLogical) → length wants.0 ≡ 16 → total wants.0 ≡ sum_to 16 (want wants)
wants-total wants e = total-sum wants.0 ∙ ap (λ (n : ℕ). sum_to n (want wants)) e

-- a unit that is given is given to one entry
pub given-once : (g : Option LogicalChannel) → ((l : ℕ) → 16 ≤ l → is_to l g ≡ true → ⊥) → one (is_given g) ≤ sum_to 16 (λ l. one (is_to l g))
given-once None k = omega arith
given-once (Some m) k =
    ⊎_elim (λ h. absurd (k m.0 h (eq-eqb m.0 m.0 refl)))
    (λ h. omega (arith, sum-at 16 m.0 (λ l. one (eqb m.0 l)) h, ap one (eq-eqb m.0 m.0 refl)))
    (le-or-lt 16 m.0)

pub given-most : (g : Option LogicalChannel) → sum_to 16 (λ l. one (is_to l g)) ≤ one (is_given g)
given-most None = omega (arith, sum-zero 16)
given-most (Some m) =
    omega (
      arith,
      sum-only 16 m.0 (λ l. one (eqb m.0 l)) (λ l h n. ap one (ne_eqb m.0 l (λ e. n (sym e)))),
      ap one (eq-eqb m.0 m.0 refl),
    )

module _ (to : ℕ → Option LogicalChannel) where
  -- entry by entry, or unit by unit
  pub by-entry : sum_to 256 (λ i. sum_to 16 (λ l. one (is_to l (to i)))) ≡ sum_to 16 (λ l. how_many 256 (λ i. is_to l (to i)))
  by-entry = sum-swap 256 16 (λ i l. one (is_to l (to i)))

  -- units of one channel
  pub on-channel : (f : ℕ → Bool) (c : ℕ) → c < 16 → how_many 16 (λ u. f (c * 16 + u)) ≤ how_many 256 f
  on-channel f c h = omega (arith, sum-at 16 c (λ d. how_many 16 (λ u. f (d * 16 + u))) h, sum_rows 16 (λ i. one (f i)))

  pub only-channel : (f : ℕ → Bool) (c : ℕ) → ((i : ℕ) → f i ≡ true → i / 16 ≡ c) → how_many 256 f ≤ how_many 16 (λ u. f (c * 16 + u))
  only-channel f c h = omega (arith, sum_rows 16 (λ i. one (f i)), sum-only 16 c (λ d. how_many 16 (λ u. f (d * 16 + u))) none)
    where
      off : (d u : ℕ) → u < 16 → (d ≡ c → ⊥) → one (f (d * 16 + u)) ≡ 0
      off d u k n =
          by_bool (f (d * 16 + u))
          (λ t. let q : (d * 16 + u) / 16 ≡ d = omega arith in absurd (n (sym q ∙ h (d * 16 + u) t)))
          (λ t. ap one t)

      none : (d : ℕ) → d < 16 → (d ≡ c → ⊥) → how_many 16 (λ u. f (d * 16 + u)) ≡ 0
      none d k n = sum_same 16 (λ u. one (f (d * 16 + u))) (λ u. 0) (λ u l. off d u l n) ∙ sum-zero 16
