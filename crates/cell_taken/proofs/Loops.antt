-- The loops of this crate over plain lists: one that looks for an element, one that builds the
-- occupancy word from its highest bit down, and one that looks for a free place. Assumes nothing.
use Prim.Native.Nat.{ℕ, suc, ◌+◌, ◌*◌, ◌-◌, ◌≤◌, ◌<◌}
use mathlib.Core.Path.{◌≡◌, refl, sym, ap, ◌∙◌}
use mathlib.Core.Bool.{Bool, true, false, cond}
use mathlib.Core.List.{List}
use mathlib.Core.Logic.{⊎_elim}
use native.Mathlib.Nat.{pow-le-pow_right, eq-or-lt_of_le}
use native.Mathlib.Numerals.{add-one}
use native.Mathlib.Omega.{arith}
use lib.ListN.{length, get_or, drop, drop_of_length-le}
use lib.Seq.{drop-cons}
use Rattle.numbers.specs.Elements.{any}
use Rattle.numbers.specs.Limits.{blocks}
use Rattle.packets.specs.State.{is_empty, state_in}
use Rattle.packets.specs.declared.Job.{Job}
use Rattle.cell_taken.specs.Taken.{word_from}
use Rattle.cell_taken.proofs.TakenLaws.{word_below}

module _ {A : Type 0} (f : A → Bool) (y : A) (l : List A) where
  -- what has been passed does not pass the test
  pub look-turn : (i : ℕ) → i < length l → f (get_or l i y) ≡ false → any f (drop i l) ≡ any f l → any f (drop (i + 1) l) ≡ any f l
  look-turn i h e k = rw (add-one i) (sym (ap (λ (s : List A). any f s) (drop-cons l i y h) ∙ rw e refl) ∙ k)

  pub look_hit : (i : ℕ) → i < length l → f (get_or l i y) ≡ true → any f (drop i l) ≡ any f l → any f l ≡ true
  look_hit i h e k = sym k ∙ rw (drop-cons l i y h, e) refl

  pub look-end : (i : ℕ) → length l ≤ i → any f (drop i l) ≡ any f l → any f l ≡ false
  look-end i h k = sym k ∙ rw (drop_of_length-le l h) refl

-- ---- the occupancy word

-- the bits from bit left on are in the word
pub record Worded (taken : ℕ → Bool) (word left : ℕ) : Type 0 where
  pub high : left ≤ blocks
  pub is : word ≡ word_from taken left (blocks - left)

module _ (taken : ℕ → Bool) {word left : ℕ} (k : Worded taken word left) where
  -- there is room for one bit more
  pub word_small : 0 < left → word * 2 + 1 < 4294967296
  word_small h =
      omega (
        arith,
        k.is,
        k.high,
        word_below taken left (blocks - left),
        pow-le-pow_right {n = 2} (omega arith) {i = blocks - left} {j = 31} (omega (arith, k.high)),
      )

  pub word-turn : (next : ℕ) → 0 < left → next ≡ word * 2 + cond (taken (left - 1)) 1 0 → Worded taken next (left - 1)
  word-turn next h e =
      record {
        high = omega (arith, k.high);
        is = e ∙ ap (λ (w : ℕ). w * 2 + cond (taken (left - 1)) 1 0)
            (k.is ∙ ap (λ (m : ℕ). word_from taken m (blocks - left)) (let z : left ≡ suc (left - 1) = omega arith in z))
            ∙ sym (more (blocks - left) (left - 1))
            ∙ ap (λ (n : ℕ). word_from taken (left - 1) n) (let z : suc (blocks - left) ≡ blocks - (left - 1) = omega (arith, k.high) in z);
      }
    where
      more : (n m : ℕ) → word_from taken m (suc n) ≡ word_from taken (suc m) n * 2 + cond (taken m) 1 0
      more n m = unfold word_from in refl

-- all 32 bits are in the word
pub word-all : (taken : ℕ → Bool) (left : ℕ) → left ≡ 0 → word_from taken left (blocks - left) ≡ word_from taken 0 blocks
word-all taken left e = ap (λ (m : ℕ). word_from taken m (blocks - m)) e

-- ---- the lowest free place

-- a job is in each place before the i-th
pub record Passed (jobs : List Job) (i : ℕ) : Type 0 where
  pub high : i ≤ 16
  pub source : length jobs ≡ 16
  pub none : (q : ℕ) → q < i → is_empty (state_in jobs q) ≡ false

pub pass-turn : (jobs : List Job) {i : ℕ} → Passed jobs i → i < 16 → is_empty (state_in jobs i) ≡ false → Passed jobs (i + 1)
pass-turn jobs {i} k h e =
    record {
      high = omega arith;
      source = k.source;
      none = λ q l. ⊎_elim (λ s. rw s e) (λ s. k.none q s) (eq-or-lt_of_le (let z : q ≤ i = omega arith in z));
    }
