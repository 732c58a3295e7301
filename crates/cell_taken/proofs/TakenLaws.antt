-- What the occupancy word means: bit b of it is 1 exactly where block b is taken, and it has no more bits; and two
-- answers to the lowest free place are one. Assumes nothing.
use Rattle.std.specs.Prelude.{Option, Some, None}
use Prim.Native.Nat.{ℕ, zero, suc, ◌+◌, ◌*◌, ◌/◌, ◌%◌, ◌^◌, ◌<◌, ◌-◌}
use mathlib.Core.Path.{◌≡◌, refl, ap, ◌∙◌}
use mathlib.Core.Bool.{Bool, true, false, cond}
use mathlib.Core.List.{List}
use mathlib.Core.Logic.{⊎_elim}
use native.Mathlib.Nat.{eq-zero-or-pos, le_of_suc-le-suc, pow-suc}
use native.Mathlib.Omega.{arith}
use Rattle.numbers.proofs.BitLaws.{bit-suc, bit-zero}
use Rattle.numbers.proofs.Order.{at_most_one}
use Rattle.numbers.proofs.Tests.{never}
use Rattle.numbers.specs.Bits.{bit}
use Rattle.packets.specs.declared.Job.{Job}
use Rattle.cell_taken.specs.Taken.{word_from, LowestFree}

-- n bits are below 2 ^ n
pub word_below : (taken : ℕ → Bool) (k n : ℕ) → word_from taken k n < 2 ^ n
unfolding word_from
word_below taken k zero = omega arith
word_below taken k (suc n) = omega (arith, pow-suc 2 n, word_below taken (suc k) n, at_most_one (taken k))

-- the lowest bit, and the bits above it
low : (x : ℕ) (b : Bool) → (x * 2 + cond b 1 0) % 2 ≡ cond b 1 0
low x true = omega arith
low x false = omega arith

half : (x : ℕ) (b : Bool) → (x * 2 + cond b 1 0) / 2 ≡ x
half x true = omega arith
half x false = omega arith

word-bits : (taken : ℕ → Bool) (n k b : ℕ) → b < n → bit (word_from taken k n) b ≡ cond (taken (k + b)) 1 0
unfolding word_from
word-bits taken zero k b h = absurd (omega arith)
word-bits taken (suc n) k zero h =
    bit-zero (word_from taken (suc k) n * 2 + cond (taken k) 1 0)
    ∙ low (word_from taken (suc k) n) (taken k) ∙ ap (λ (x : ℕ). cond (taken x) 1 0) (let e : k ≡ k + 0 = omega arith in e)
word-bits taken (suc n) k (suc b) h =
    bit-suc (word_from taken (suc k) n * 2 + cond (taken k) 1 0) b
    ∙ ap (λ (x : ℕ). bit x b) (half (word_from taken (suc k) n) (taken k))
    ∙ word-bits taken n (suc k) b (le_of_suc-le-suc h)
    ∙ ap (λ (x : ℕ). cond (taken x) 1 0) (let e : suc k + b ≡ k + suc b = omega arith in e)

-- THE OCCUPANCY WORD: bit b of 32 is 1 exactly where block b is taken
pub occupancy-bit : (taken : ℕ → Bool) (n b : ℕ) → b < n → bit (word_from taken 0 n) b ≡ cond (taken b) 1 0
occupancy-bit taken n b h = word-bits taken n 0 b h ∙ ap (λ (x : ℕ). cond (taken x) 1 0) (let e : 0 + b ≡ b = omega arith in e)

-- TWO ANSWERS TO THE LOWEST FREE PLACE ARE ONE
pub lowest-one : (jobs : List Job) (a b : Option ℕ) → LowestFree jobs a → LowestFree jobs b → a ≡ b
lowest-one jobs (Some p) (Some q) f g = ap Some (same p q (λ h. never f.1.0 (g.1.1 p h)) (λ h. never g.1.0 (f.1.1 q h)))
  where
    same : (p q : ℕ) → (p < q → ⊥) → (q < p → ⊥) → p ≡ q
    same p q l r =
        ⊎_elim (λ e. ⊎_elim (λ d. omega arith) (λ d. absurd (r (omega arith))) (eq-zero-or-pos (p - q))) (λ e. absurd (l (omega arith)))
        (eq-zero-or-pos (q - p))
lowest-one jobs (Some p) None f g = never f.1.0 (g p f.0)
lowest-one jobs None (Some q) f g = never g.1.0 (f q g.0)
lowest-one jobs None None f g = refl
