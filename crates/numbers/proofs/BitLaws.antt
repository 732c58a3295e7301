-- The bits of a word: those above its lowest are the bits of its half, those above its length are 0, and a power of
-- two above a word adds one bit. By induction on the bit's number. Assumes nothing.
use Prim.Native.Nat.{ℕ, zero, suc, ◌+◌, ◌*◌, ◌/◌, ◌%◌, ◌^◌, ◌≤◌, ◌<◌}
use mathlib.Core.Path.{◌≡◌, refl, sym, ap, ◌∙◌}
use mathlib.Core.Bool.{cond}
use native.Mathlib.Nat.{div-one, div-eq_of_lt, lt_of_lt_of_le, pow-suc}
use native.Mathlib.Omega.{arith}
use lib.Dec.{eqb, eqb-zero-suc, eqb-suc-zero, eqb-suc-suc}
use lib.Pow.{shr-shr, pow_mono}
use Rattle.numbers.specs.Bits.{bit}

-- bit b + 1 is bit b of the half
pub bit-suc : (w b : ℕ) → bit w (suc b) ≡ bit (w / 2) b
bit-suc w b = ap (λ (x : ℕ). x % 2) (sym (shr-shr w 1 b ∙ ap (λ (m : ℕ). w / 2 ^ m) (omega arith)))

-- bit 0 is the remainder
pub bit-zero : (w : ℕ) → bit w 0 ≡ w % 2
bit-zero w = ap (λ (x : ℕ). x % 2) (div-one w)

-- a word below 2 ^ n has no bit from n on
pub bit_high : (w n b : ℕ) → w < 2 ^ n → n ≤ b → bit w b ≡ 0
bit_high w n b h l = ap (λ (x : ℕ). x % 2) (div-eq_of_lt (lt_of_lt_of_le h (pow_mono l)))

-- the word 0 has none
pub bit-none : (b : ℕ) → bit 0 b ≡ 0
bit-none b = bit_high 0 0 b (omega arith) (omega arith)

-- a power of two above a word adds its bit, and the others stay
pub bit-add : (w k b : ℕ) → w < 2 ^ k → bit (w + 2 ^ k) b ≡ cond (eqb b k) 1 (bit w b)
bit-add w zero zero h = let e : w ≡ 0 = omega arith in rw e refl
bit-add w zero (suc b) h =
    let e : w ≡ 0 = omega arith in
    rw (eqb-suc-zero b, e) (bit-suc 1 b ∙ bit-none b ∙ sym (bit-none (suc b)))
bit-add w (suc k) zero h =
    rw (eqb-zero-suc k, bit-zero (w + 2 ^ suc k), bit-zero w) (omega (arith, pow-suc 2 k))
bit-add w (suc k) (suc b) h =
    let half : (w + 2 ^ suc k) / 2 ≡ w / 2 + 2 ^ k = omega (arith, pow-suc 2 k) in
    rw (eqb-suc-suc b k, bit-suc (w + 2 ^ suc k) b, bit-suc w b, half)
    (bit-add (w / 2) k b (omega (arith, pow-suc 2 k)))

-- and the sum is a word of one bit more
pub add-below : (w n k : ℕ) → w < 2 ^ n → n ≤ k → w + 2 ^ k < 2 ^ (k + 1)
add-below w n k h l =
    let e : 2 ^ (k + 1) ≡ 2 ^ k * 2 = ap (λ (n : ℕ). 2 ^ n) (omega arith) ∙ pow-suc 2 k in
    omega (arith, lt_of_lt_of_le h (pow_mono l))
