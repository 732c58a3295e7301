-- The pieces of text that the answers and the board share, and the line `NO n`, which the desk program prints too. Also
-- texts that have a piece for each of some numbers or things.
use Rattle.std.specs.Prelude.{ℕ, zero, suc, ◌+◌, ◌-◌, Bool, cond, List, [], ◌∷◌, ◌++◌}
use Rattle.numbers.specs.Quoted.{bytes}
use Rattle.numbers.specs.Refusals.{number_of}
use Rattle.numbers.specs.declared.Refusal.{Refusal}
use Rattle.text.specs.Writing.{two_text, decimal_text}

-- `cc/uu`: a unit by its channel and its number there
abbrev pub unit_text : ℕ → ℕ → List ℕ
unit_text channel unit = two_text channel ++ (bytes "/" ++ two_text unit)

-- `p k`: a packet by its job's place and its number there
abbrev pub packet_text : ℕ → ℕ → List ℕ
packet_text place packet = decimal_text place ++ (bytes " " ++ decimal_text packet)

-- the last of `count` numbers from `first` on
abbrev pub last_of : ℕ → ℕ → ℕ
last_of first count = first + (count - 1)

-- `a-b`: the first and the last of `count` numbers from `first` on
abbrev pub span_text : ℕ → ℕ → List ℕ
span_text first count = decimal_text first ++ (bytes "-" ++ decimal_text (last_of first count))

-- `NO n`, n the refusal's number
abbrev pub no_text : Refusal → List ℕ
no_text refusal = bytes "NO " ++ decimal_text (number_of refusal)

-- the line of a refused call: that, and nothing else
abbrev pub no_line : Refusal → List ℕ
no_line refusal = no_text refusal ++ bytes "\n"

-- a word that is printed where it holds
abbrev pub word_text : Bool → List ℕ → List ℕ
word_text holds word = cond holds word []

-- the pieces of n numbers from k on, one after the other
unfoldable pub each_from : (ℕ → List ℕ) → ℕ → ℕ → List ℕ
each_from piece zero k = []
each_from piece (suc n) k = piece k ++ each_from piece n (k + 1)

-- the pieces of the numbers below n, ascending
abbrev pub each : (ℕ → List ℕ) → ℕ → List ℕ
each piece n = each_from piece n 0

-- the pieces of the things in a list, in its order
unfoldable pub each_of : {A : Type 0} → (A → List ℕ) → List A → List ℕ
each_of piece [] = []
each_of piece (a ∷ rest) = piece a ++ each_of piece rest
