-- Numbers at the start of a text.
use Rattle.std.specs.Prelude.{ℕ, ◌+◌, ◌-◌, ◌*◌, cond, ◌&&◌, List, [], ◌∷◌, eqb, ltb, get_or, Option, Some, None}
use Rattle.numbers.specs.Quoted.{byte}
use Rattle.text.specs.Class.{is_digit}

-- exactly two digits
unfoldable pub two_digits_of : List ℕ → Option (ℕ × ℕ)
two_digits_of s = cond (is_digit (get_or s 0 0) && is_digit (get_or s 1 0)) (Some ((get_or s 0 0 - byte "0") * 10 + (get_or s 1 0 - byte "0"), 2)) None

-- the leading digits, read on: `more` may come yet, `value` and `length` are those of the digits before
unfoldable pub digits_from : ℕ → ℕ → ℕ → List ℕ → Option (ℕ × ℕ)
digits_from more value length [] = Some (value, length)
digits_from more value length (b ∷ bs) =
    cond (is_digit b) (cond (ltb 0 more) (digits_from (more - 1) (value * 10 + (b - byte "0")) (length + 1) bs) None) (Some (value, length))

-- a decimal number without leading zero, of at most seven digits: 0 alone, or the leading digits, the first of them
-- not 0
unfoldable pub decimal_of : List ℕ → Option (ℕ × ℕ)
decimal_of s =
    cond (is_digit (get_or s 0 0))
    (cond (eqb (get_or s 0 0) (byte "0")) (cond (is_digit (get_or s 1 0)) None (Some (0, 1))) (digits_from 7 0 0 s)) None
