-- A code's bit, added to the word of lower codes: one shifted by a code within the word is a power of two, and the sum
-- is a word of one bit more. Assumes nothing.
use Prim.Native.Nat.{ℕ, ◌+◌, ◌*◌, ◌%◌, ◌^◌, ◌≤◌, ◌<◌}
use mathlib.Core.Path.{◌≡◌, ◌∙◌}
use native.Mathlib.Nat.{lt_of_lt_of_le, one-mul}
use native.Mathlib.Omega.{arith}
use lib.Pow.{shl_exact, pow_mono}
use Rattle.numbers.proofs.BitLaws.{add-below}

pub shifted : (k : ℕ) → k ≤ 63 → (1 * 2 ^ k) % 2 ^ 64 ≡ 2 ^ k
shifted k h = shl_exact 1 k 64 (omega arith) (omega arith) ∙ one-mul (2 ^ k)

pub in-word : (w n k : ℕ) → w < 2 ^ n → n ≤ k → k ≤ 63 → w + 2 ^ k < 2 ^ 64
in-word w n k h l m = lt_of_lt_of_le (add-below w n k h l) (pow_mono {i = k + 1} {j = 64} (omega arith))
