-- The lists of legal functions, in octal. Those of the first four kinds are document 01's. Those of the kinds that
-- document 02 adds are the bulletin's (appendix E, its number column as printed).
use Rattle.std.specs.Prelude.{ℕ, zero, suc, ◌-◌, Bool, false, ◌||◌, List, [], ◌∷◌, ◌++◌, eqb}
use Rattle.numbers.specs.declared.Kind.{Kind}
use Rattle.numbers.specs.declared.Kind.TheVariants.{Ma, Mt, Pr, Md, Mc, Cr, Pt}

-- `count` numbers from a on
abbrev pub counted : ℕ → ℕ → List ℕ
counted zero a = []
counted (suc count) a = a ∷ counted count (suc a)

-- the codes a to b
infix 70 ◌‥◌
abbrev pub ◌‥◌ : ℕ → ℕ → List ℕ
a ‥ b = counted (suc b - a) a

-- the functions of each kind
abbrev pub own : Kind → List ℕ
own Ma =
    0o01 ‥ 0o04 ++ 0o20 ∷ 0o21 ∷ 0o41 ‥ 0o43 ++ 0o46 ∷ 0o51 ‥ 0o53 ++ 0o56 ∷ 0o61 ‥ 0o63 ++ 0o66 ∷ 0o71 ‥ 0o73 ++ 0o76 ∷ []
own Mt = 0o02 ‥ 0o04 ++ 0o20 ∷ 0o21 ∷ 0o41 ‥ 0o43 ++ 0o46 ∷ 0o47 ∷ 0o61 ‥ 0o63 ++ 0o66 ∷ 0o67 ∷ []
own Pr = 0o02 ∷ 0o03 ∷ []
own Md = 0o02 ∷ 0o42 ∷ 0o45 ∷ 0o46 ∷ 0o52 ∷ 0o55 ∷ 0o56 ∷ 0o62 ∷ []
own Mc =
    -- write binary, BCD and end-of-file, at high and at low density each; skip while erasing
    0o02 ∷ 0o01 ∷ 0o06 ∷ 0o05 ∷ 0o04 ∷ 0o03 ∷ 0o10
    -- read binary and BCD, high and low; with sentinel check binary and BCD, high and low
    ∷ 0o42 ∷ 0o37 ∷ 0o52 ∷ 0o47 ∷ 0o43 ∷ 0o40 ∷ 0o53 ∷ 0o50
    -- search binary and BCD, high and low
    ∷ 0o46 ∷ 0o44 ∷ 0o56 ∷ 0o54
    -- backspace block and file; rewind, rewind with interlock
    ∷ 0o61 ∷ 0o64 ∷ 0o20 ∷ 0o21 ∷ []
own Cr =
    -- condition Fieldata, column binary and row binary input; read card, trip fill, trip fill with sentinel check
    0o62 ∷ 0o63 ∷ 0o64 ∷ 0o41 ∷ 0o42 ∷ 0o44
    -- condition Fieldata, column binary and row binary output; punch card, stacker 0 and stacker 1
    ∷ 0o04 ∷ 0o05 ∷ 0o06 ∷ 0o02 ∷ 0o03 ∷ []
-- read paper tape forward and backward; punch paper tape
own Pt = 0o42 ∷ 0o62 ∷ 0o02 ∷ []

-- all: 07 (remove logical interlock), 23 (terminate)
abbrev pub common : List ℕ
common = 0o07 ∷ 0o23 ∷ []

-- a code stands in a list
abbrev pub has : List ℕ → ℕ → Bool
has [] c = false
has (x ∷ xs) c = eqb x c || has xs c

-- a function is legal on a kind if the kind's list or the one for all has it
unfoldable pub legal_of : Kind → ℕ → Bool
legal_of kind code = has (own kind ++ common) code
