-- The kinds of channel: MA (UNISERVO IIA), MT (UNISERVO IIIA), PR (printer), MD (drum), MC (UNISERVO IIIC), CR (card
-- equipment) and PT (paper tape equipment). Each has its code, its row in the table of functions and its place in the
-- written order.
use Rattle.std.specs.Prelude.{ℕ, ◌-◌, ◌<◌, ◌≡◌, Bool, true, false, cond, List, [], ◌∷◌, get_or, Option, Some, None}
use Rattle.numbers.specs.Quoted.{bytes, is2}
use Rattle.numbers.specs.declared.Kind.{Kind}
use Rattle.numbers.specs.declared.Kind.TheVariants.{Ma, Mt, Pr, Md, Mc, Cr, Pt}

-- a kind's code
abbrev pub code_of : Kind → List ℕ
code_of Ma = bytes "MA"
code_of Mt = bytes "MT"
code_of Pr = bytes "PR"
code_of Md = bytes "MD"
code_of Mc = bytes "MC"
code_of Cr = bytes "CR"
code_of Pt = bytes "PT"

-- the kinds, each in its row of the table of functions: those of the new hall follow the first four
abbrev pub by_row : List Kind
by_row = Ma ∷ Mt ∷ Pr ∷ Md ∷ Mc ∷ Cr ∷ Pt ∷ []

-- how many kinds, and so rows, there are
abbrev pub kinds : ℕ
kinds = 7

-- the first of some kinds whose code two bytes are
abbrev pub kind_in : List Kind → ℕ → ℕ → Option Kind
kind_in [] a b = None
kind_in (k ∷ ks) a b = cond (is2 (get_or (code_of k) 0 0) (get_or (code_of k) 1 0) a b) (Some k) (kind_in ks a b)

-- the kind whose code two bytes are
unfoldable pub kind_of : ℕ → ℕ → Option Kind
kind_of a b = kind_in by_row a b

-- a kind's row in the table of functions
abbrev pub row_of : Kind → ℕ
row_of Ma = 0
row_of Mt = 1
row_of Pr = 2
row_of Md = 3
row_of Mc = 4
row_of Cr = 5
row_of Pt = 6

-- a row's number, and that the table has it
pub record Rowed (kind : Kind) (r : ℕ) : Type 0 where
  pub is : r ≡ row_of kind
  pub within : r < kinds

-- the drum, which has words and no units
abbrev pub is_drum : Kind → Bool
is_drum Ma = false
is_drum Mt = false
is_drum Pr = false
is_drum Md = true
is_drum Mc = false
is_drum Cr = false
is_drum Pt = false

-- THE WRITTEN ORDER of the kinds that have units: "in FAC they follow PR in that order", and wherever an order is seen
abbrev pub in_order : List Kind
in_order = Ma ∷ Mt ∷ Pr ∷ Mc ∷ Cr ∷ Pt ∷ []

-- how many have units: all kinds less the drum
abbrev pub unit_kinds : ℕ
unit_kinds = kinds - 1

-- the kind at a place of the written order; behind the last the drum
abbrev pub kind_at : ℕ → Kind
kind_at i = get_or in_order i Md

-- a kind's place in the written order; the drum, which has no units, counts as behind the last
abbrev pub order_of : Kind → ℕ
order_of Ma = 0
order_of Mt = 1
order_of Pr = 2
order_of Mc = 3
order_of Cr = 4
order_of Pt = 5
order_of Md = unit_kinds
