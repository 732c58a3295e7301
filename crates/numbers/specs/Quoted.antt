-- Letters and texts as a reader knows them, and the bytes that they are.
use Rattle.std.specs.Prelude.{ℕ, Bool, ◌&&◌, List, [], ◌∷◌, eqb}
use Prim.Native.Char.{Char, code}
use Prim.Native.String.{String}
use Prim.Native.String as Quote

-- the byte of a letter: `byte "A"` is 65
abbrev pub byte : Char → ℕ
byte c = code c

-- the bytes of a text: `bytes "MA"` is 77, 65
abbrev pub bytes : String → List ℕ
bytes Quote.[] = []
bytes (Quote.◌∷◌ c s) = code c ∷ bytes s

-- two bytes a, b are the letters x, y
unfoldable pub is2 : ℕ → ℕ → ℕ → ℕ → Bool
is2 x y a b = eqb a x && eqb b y
