-- Classes of bytes.
use Rattle.std.specs.Prelude.{ℕ, Bool, ◌&&◌, ◌||◌, leb}
use Rattle.numbers.specs.Quoted.{byte}

-- 0 to 9
unfoldable pub is_digit : ℕ → Bool
is_digit b = leb (byte "0") b && leb b (byte "9")

-- A to Z
unfoldable pub is_letter : ℕ → Bool
is_letter b = leb (byte "A") b && leb b (byte "Z")

-- a letter or a digit
unfoldable pub is_alnum : ℕ → Bool
is_alnum b = is_letter b || is_digit b
