-- What the classes of bytes mean, proved. Assumes nothing.
use Prim.Native.Nat.{ℕ, ◌+◌, ◌≤◌, ◌<◌}
use mathlib.Core.Path.{◌≡◌}
use mathlib.Core.Bool.{true}
use native.Mathlib.Omega.{arith}
use lib.Dec.{leb}
use borrow.Author.Tests.{leb-true, le-leb}
use Rattle.numbers.specs.Quoted.{byte}
use Rattle.numbers.proofs.Tests.{both}
use Rattle.text.specs.Class.{is_digit, is_letter}

-- a digit is one of "0" to "9"
pub digit-bounds : (b : ℕ) → is_digit b ≡ true → (byte "0" ≤ b) × (b ≤ byte "9")
unfolding is_digit
digit-bounds b e =
    let p = both (leb (byte "0") b) (leb b (byte "9")) e in
    (leb-true (byte "0") b p.0, leb-true b (byte "9") p.1)

-- and "0" + d is one for d below 10
pub is_digit_lem : (d : ℕ) → d < 10 → is_digit (byte "0" + d) ≡ true
unfolding is_digit
is_digit_lem d h = rw (le-leb 48 (48 + d) (omega arith), le-leb (48 + d) 57 (omega arith))

-- a letter is one of "A" to "Z"
pub letter-bounds : (b : ℕ) → is_letter b ≡ true → (byte "A" ≤ b) × (b ≤ byte "Z")
unfolding is_letter
letter-bounds b e =
    let p = both (leb (byte "A") b) (leb b (byte "Z")) e in
    (leb-true (byte "A") b p.0, leb-true b (byte "Z") p.1)
