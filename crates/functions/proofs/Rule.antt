-- The table of legal functions, and its rule: one test that antt computes over all 448 entries, and one law that
-- carries it to each. No code past the table is legal. Assumes nothing.
use mathlib.Core.Path.{◌≡◌, refl, sym, subst, ◌∙◌, ap}
use mathlib.Core.Bool.{Bool, true, false}
use mathlib.Core.List.{List, [], ◌∷◌, ◌++◌}
use Prim.Native.Nat.{ℕ, suc, ◌+◌, ◌*◌, ◌≤◌, ◌<◌, ◌/◌, ◌%◌}
use native.Mathlib.Omega.{arith}
use lib.Dec.{T, ltb, ltb→lt}
use borrow.Author.Tests.{ne_eqb}
use lib.ListN.{length, get_or}
use Rattle.numbers.specs.declared.Kind.{Kind}
use Rattle.numbers.specs.declared.Kind.TheVariants.{Ma}
use Rattle.numbers.specs.Kinds.{by_row, row_of, kinds}
use Rattle.numbers.proofs.KindLaws.{row-kind, row_low, all_kinds}
use Rattle.functions.specs.Legal.{own, common, has, legal_of}
use Rattle.functions.proofs.Entries.{every, both_left, both_right, at}

-- the table as the code has it
unfoldable pub legal_table : List Bool
legal_table =
    false ∷ true ∷ true ∷ true ∷ true ∷ false ∷ false ∷ true ∷
    false ∷ false ∷ false ∷ false ∷ false ∷ false ∷ false ∷ false ∷
    true ∷ true ∷ false ∷ true ∷ false ∷ false ∷ false ∷ false ∷
    false ∷ false ∷ false ∷ false ∷ false ∷ false ∷ false ∷ false ∷
    false ∷ true ∷ true ∷ true ∷ false ∷ false ∷ true ∷ false ∷
    false ∷ true ∷ true ∷ true ∷ false ∷ false ∷ true ∷ false ∷
    false ∷ true ∷ true ∷ true ∷ false ∷ false ∷ true ∷ false ∷
    false ∷ true ∷ true ∷ true ∷ false ∷ false ∷ true ∷ false ∷
    false ∷ false ∷ true ∷ true ∷ true ∷ false ∷ false ∷ true ∷
    false ∷ false ∷ false ∷ false ∷ false ∷ false ∷ false ∷ false ∷
    true ∷ true ∷ false ∷ true ∷ false ∷ false ∷ false ∷ false ∷
    false ∷ false ∷ false ∷ false ∷ false ∷ false ∷ false ∷ false ∷
    false ∷ true ∷ true ∷ true ∷ false ∷ false ∷ true ∷ true ∷
    false ∷ false ∷ false ∷ false ∷ false ∷ false ∷ false ∷ false ∷
    false ∷ true ∷ true ∷ true ∷ false ∷ false ∷ true ∷ true ∷
    false ∷ false ∷ false ∷ false ∷ false ∷ false ∷ false ∷ false ∷
    false ∷ false ∷ true ∷ true ∷ false ∷ false ∷ false ∷ true ∷
    false ∷ false ∷ false ∷ false ∷ false ∷ false ∷ false ∷ false ∷
    false ∷ false ∷ false ∷ true ∷ false ∷ false ∷ false ∷ false ∷
    false ∷ false ∷ false ∷ false ∷ false ∷ false ∷ false ∷ false ∷
    false ∷ false ∷ false ∷ false ∷ false ∷ false ∷ false ∷ false ∷
    false ∷ false ∷ false ∷ false ∷ false ∷ false ∷ false ∷ false ∷
    false ∷ false ∷ false ∷ false ∷ false ∷ false ∷ false ∷ false ∷
    false ∷ false ∷ false ∷ false ∷ false ∷ false ∷ false ∷ false ∷
    false ∷ false ∷ true ∷ false ∷ false ∷ false ∷ false ∷ true ∷
    false ∷ false ∷ false ∷ false ∷ false ∷ false ∷ false ∷ false ∷
    false ∷ false ∷ false ∷ true ∷ false ∷ false ∷ false ∷ false ∷
    false ∷ false ∷ false ∷ false ∷ false ∷ false ∷ false ∷ false ∷
    false ∷ false ∷ true ∷ false ∷ false ∷ true ∷ true ∷ false ∷
    false ∷ false ∷ true ∷ false ∷ false ∷ true ∷ true ∷ false ∷
    false ∷ false ∷ true ∷ false ∷ false ∷ false ∷ false ∷ false ∷
    false ∷ false ∷ false ∷ false ∷ false ∷ false ∷ false ∷ false ∷
    false ∷ true ∷ true ∷ true ∷ true ∷ true ∷ true ∷ true ∷
    true ∷ false ∷ false ∷ false ∷ false ∷ false ∷ false ∷ false ∷
    true ∷ true ∷ false ∷ true ∷ false ∷ false ∷ false ∷ false ∷
    false ∷ false ∷ false ∷ false ∷ false ∷ false ∷ false ∷ true ∷
    true ∷ false ∷ true ∷ true ∷ true ∷ false ∷ true ∷ true ∷
    true ∷ false ∷ true ∷ true ∷ true ∷ false ∷ true ∷ false ∷
    false ∷ true ∷ false ∷ false ∷ true ∷ false ∷ false ∷ false ∷
    false ∷ false ∷ false ∷ false ∷ false ∷ false ∷ false ∷ false ∷
    false ∷ false ∷ true ∷ true ∷ true ∷ true ∷ true ∷ true ∷
    false ∷ false ∷ false ∷ false ∷ false ∷ false ∷ false ∷ false ∷
    false ∷ false ∷ false ∷ true ∷ false ∷ false ∷ false ∷ false ∷
    false ∷ false ∷ false ∷ false ∷ false ∷ false ∷ false ∷ false ∷
    false ∷ true ∷ true ∷ false ∷ true ∷ false ∷ false ∷ false ∷
    false ∷ false ∷ false ∷ false ∷ false ∷ false ∷ false ∷ false ∷
    false ∷ false ∷ true ∷ true ∷ true ∷ false ∷ false ∷ false ∷
    false ∷ false ∷ false ∷ false ∷ false ∷ false ∷ false ∷ false ∷
    false ∷ false ∷ true ∷ false ∷ false ∷ false ∷ false ∷ true ∷
    false ∷ false ∷ false ∷ false ∷ false ∷ false ∷ false ∷ false ∷
    false ∷ false ∷ false ∷ true ∷ false ∷ false ∷ false ∷ false ∷
    false ∷ false ∷ false ∷ false ∷ false ∷ false ∷ false ∷ false ∷
    false ∷ false ∷ true ∷ false ∷ false ∷ false ∷ false ∷ false ∷
    false ∷ false ∷ false ∷ false ∷ false ∷ false ∷ false ∷ false ∷
    false ∷ false ∷ true ∷ false ∷ false ∷ false ∷ false ∷ false ∷
    false ∷ false ∷ false ∷ false ∷ false ∷ false ∷ false ∷ false ∷ []

-- two truth values are the same
abbrev same : Bool → Bool → Bool
same true b = b
same false true = false
same false false = true

same→eq : (a b : Bool) → T (same a b) → a ≡ b
same→eq true true t = refl
same→eq true false t = absurd t
same→eq false true t = absurd t
same→eq false false t = refl

-- the kind in a row
abbrev kind_in : ℕ → Kind
kind_in row = get_or by_row row Ma

-- an entry says what the lists say of its kind and its code
unfoldable right : ℕ → Bool → Bool
right i x = same x (legal_of (kind_in (i / 64)) (i % 64))

tested : T (every right 0 legal_table)
unfolding legal_table right legal_of
tested = tt

long : length legal_table ≡ kinds * 64
unfolding legal_table
long = refl

-- the rule at the entry of a kind and a code
pub legal-at : (k : Kind) (c : ℕ) → c < 64 → get_or legal_table (row_of k * 64 + c) false ≡ legal_of k c
unfolding right
legal-at k c h =
    let s : row_of k < kinds = row_low k in
    let l : row_of k * 64 + c < length legal_table = omega (arith, long) in
    let d : (row_of k * 64 + c) / 64 ≡ row_of k = omega arith in
    let m : (row_of k * 64 + c) % 64 ≡ c = omega arith in
    let t = same→eq (get_or legal_table (row_of k * 64 + c) false) (legal_of (kind_in ((row_of k * 64 + c) / 64)) ((row_of k * 64 + c) % 64))
    (at false right legal_table tested (row_of k * 64 + c) l) in
    t ∙ cc (ap kind_in d, row-kind k)

eq→T : {b : Bool} → b ≡ true → T b
eq→T e = subst T (sym e) tt

-- a list whose codes are all below 64 has no other
abbrev below : ℕ → ℕ → Bool
below i x = ltb x 64

absent : (xs : List ℕ) (i c : ℕ) → 64 ≤ c → T (every below i xs) → has xs c ≡ false
absent [] i c h t = refl
absent (x ∷ xs) i c h t =
    let l : x < 64 = ltb→lt x 64 (both_left (ltb x 64) (every below (suc i) xs) t) in
    rw (ne_eqb x c (λ e. omega arith)) (absent xs (suc i) c h (both_right (ltb x 64) (every below (suc i) xs) t))

-- no function over 77 octal is legal
pub none_above : (k : Kind) (c : ℕ) → 64 ≤ c → legal_of k c ≡ false
unfolding legal_of
none_above k c h = absent (own k ++ common) 0 c h (eq→T (all_kinds (λ m. every below 0 (own m ++ common)) refl k))
