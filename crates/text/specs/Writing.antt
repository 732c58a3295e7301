-- Numbers written.
use Rattle.std.specs.Prelude.{ℕ, zero, suc, ◌+◌, ◌/◌, ◌%◌, cond, List, [], ◌∷◌, ◌++◌, ltb}
use Rattle.numbers.specs.Quoted.{byte}

-- two digits
abbrev pub two_text : ℕ → List ℕ
two_text n = (byte "0" + n / 10) ∷ (byte "0" + n % 10) ∷ []

-- two octal digits
abbrev pub octal_text : ℕ → List ℕ
octal_text n = (byte "0" + n / 8) ∷ (byte "0" + n % 8) ∷ []

-- the digits of n: those of n / 10, then that of n % 10; `most` is as large as n
unfoldable pub digits_text : ℕ → ℕ → List ℕ
digits_text zero n = (byte "0" + n) ∷ []
digits_text (suc most) n = cond (ltb n 10) ((byte "0" + n) ∷ []) (digits_text most (n / 10) ++ ((byte "0" + n % 10) ∷ []))

-- a number in decimal, without leading zero
abbrev pub decimal_text : ℕ → List ℕ
decimal_text n = digits_text n n
