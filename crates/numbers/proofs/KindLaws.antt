-- What the definitions of Kinds mean, proved: a kind's code is read as that kind and nothing else is, kinds have rows of
-- their own, and those that have units places of their own in the written order. What holds of every kind is one test,
-- computed over the list of them and carried to each (`all_kinds`). Assumes nothing.
use Prim.Native.Nat.{ℕ, zero, suc, ◌<◌}
use mathlib.Core.Path.{◌≡◌, refl, sym, ap, subst, ◌∙◌}
use mathlib.Core.Bool.{Bool, true, false, cond, ◌&&◌, not}
use mathlib.Core.List.{List, [], ◌∷◌, map}
use native.Mathlib.Omega.{arith}
use lib.Dec.{eqb, ltb}
use lib.ListN.{length, get_or, drop}
use borrow.Author.Tests.{eqb-true, ltb-true}
use Rattle.numbers.proofs.Tests.{by_bool, both, never}
use Rattle.numbers.specs.Quoted.{is2}
use Rattle.numbers.specs.Kinds.{code_of, by_row, kind_in, kind_of, kinds, row_of, is_drum, unit_kinds, kind_at, order_of}
use Rattle.numbers.specs.declared.Kind.{Kind}
use Rattle.numbers.specs.declared.Kind.TheVariants.{Ma, Mt, Pr, Md, Mc, Cr, Pt}
use Rattle.std.specs.Prelude.{Option, Some, None}

-- the kind in a row of the table is the kind whose row it is: no two kinds share one
pub row-kind : (k : Kind) → get_or by_row (row_of k) Ma ≡ k
row-kind Ma = refl
row-kind Mt = refl
row-kind Pr = refl
row-kind Md = refl
row-kind Mc = refl
row-kind Cr = refl
row-kind Pt = refl

-- a test passes of each of some kinds
abbrev pub every_of : (Kind → Bool) → List Kind → Bool
every_of f [] = true
every_of f (k ∷ ks) = f k && every_of f ks

-- of one of them, then
of-each : (f : Kind → Bool) (d : Kind) (ks : List Kind) → f d ≡ true → every_of f ks ≡ true → (i : ℕ) → f (get_or ks i d) ≡ true
of-each f d [] e t i = e
of-each f d (k ∷ ks) e t zero = (both (f k) (every_of f ks) t).0
of-each f d (k ∷ ks) e t (suc i) = of-each f d ks e (both (f k) (every_of f ks) t).1 i

-- A TEST THAT PASSES OF ALL KINDS passes of any
pub all_kinds : (f : Kind → Bool) → every_of f by_row ≡ true → (k : Kind) → f k ≡ true
all_kinds f t k =
    subst (λ (m : Kind). f m ≡ true) (row-kind k)
    (of-each f Ma by_row (both (f Ma) (every_of f (drop 1 by_row)) t).0 t (row_of k))

-- kinds of one row are one
row_one : (a b : Kind) → row_of a ≡ row_of b → a ≡ b
row_one a b e = sym (row-kind a) ∙ ap (λ (i : ℕ). get_or by_row i Ma) e ∙ row-kind b

-- every row is one of the table
pub row_low : (k : Kind) → row_of k < kinds
row_low k = ltb-true (row_of k) kinds (all_kinds (λ m. ltb (row_of m) kinds) refl k)

-- the kind at a kind's place of the written order is that kind; the drum stands behind the last
pub order-kind : (k : Kind) → kind_at (order_of k) ≡ k
order-kind k =
    row_one (kind_at (order_of k)) k
    (eqb-true (row_of (kind_at (order_of k))) (row_of k) (all_kinds (λ m. eqb (row_of (kind_at (order_of m))) (row_of m)) refl k))

-- a test passes of the first n numbers, and then of each of them
abbrev pub below : (ℕ → Bool) → ℕ → Bool
below f zero = true
below f (suc n) = f zero && below (λ i. f (suc i)) n

pub of-below : (f : ℕ → Bool) (n : ℕ) → below f n ≡ true → (i : ℕ) → i < n → f i ≡ true
of-below f zero t i h = absurd (omega arith)
of-below f (suc n) t zero h = (both (f zero) (below (λ i. f (suc i)) n) t).0
of-below f (suc n) t (suc i) h = of-below (λ i. f (suc i)) n (both (f zero) (below (λ i. f (suc i)) n) t).1 i (omega arith)

-- a place of the written order is that of the kind there
pub kind-order : (i : ℕ) → i < unit_kinds → order_of (kind_at i) ≡ i
kind-order i h = eqb-true (order_of (kind_at i)) i (of-below (λ i. eqb (order_of (kind_at i)) i) unit_kinds refl i h)

-- no drum stands at a place of the order
pub kind-units : (i : ℕ) → i < unit_kinds → is_drum (kind_at i) ≡ false
kind-units i h = undrum (is_drum (kind_at i)) (of-below (λ i. not (is_drum (kind_at i))) unit_kinds refl i h)
  where
    undrum : (b : Bool) → not b ≡ true → b ≡ false
    undrum true e = never e refl
    undrum false e = refl

-- every kind but the drum has a place there
pub units-order : (k : Kind) → is_drum k ≡ false → order_of k < unit_kinds
units-order k e = placed (is_drum k) e (all_kinds (λ m. cond (is_drum m) true (ltb (order_of m) unit_kinds)) refl k)
  where
    placed : (b : Bool) → b ≡ false → cond b true (ltb (order_of k) unit_kinds) ≡ true → order_of k < unit_kinds
    placed true e t = never refl e
    placed false e t = ltb-true (order_of k) unit_kinds t

-- a code is two letters
pub code-long : (k : Kind) → length (code_of k) ≡ 2
code-long k = eqb-true (length (code_of k)) 2 (all_kinds (λ m. eqb (length (code_of m)) 2) refl k)

pub code-two : (k : Kind) → get_or (code_of k) 0 0 ∷ get_or (code_of k) 1 0 ∷ [] ≡ code_of k
code-two k = two (code_of k) (code-long k)
  where
    two : (s : List ℕ) → length s ≡ 2 → get_or s 0 0 ∷ get_or s 1 0 ∷ [] ≡ s
    two [] e = absurd (omega arith)
    two (a ∷ []) e = absurd (omega arith)
    two (a ∷ b ∷ []) e = refl
    two (a ∷ b ∷ c ∷ s) e = absurd (omega arith)

-- the code of a kind is read as the kind
pub code_read : (k : Kind) → kind_of (get_or (code_of k) 0 0) (get_or (code_of k) 1 0) ≡ Some k
unfolding kind_of is2
code_read k =
    is-it (kind_of (get_or (code_of k) 0 0) (get_or (code_of k) 1 0))
    (all_kinds (λ m. is_it m (kind_of (get_or (code_of m) 0 0) (get_or (code_of m) 1 0))) refl k)
  where
    is_it : Kind → Option Kind → Bool
    is_it m (Some n) = eqb (row_of n) (row_of m)
    is_it m None = false

    is-it : (c : Option Kind) → is_it k c ≡ true → c ≡ Some k
    is-it (Some n) t = ap (λ (m : Kind). Some m) (row_one n k (eqb-true (row_of n) (row_of k) t))
    is-it None t = never t refl

-- the letters that a test found
letters : (x y a b : ℕ) → is2 x y a b ≡ true → a ∷ b ∷ [] ≡ x ∷ y ∷ []
unfolding is2
letters x y a b e =
    let p = both (eqb a x) (eqb b y) e in
    let g : a ≡ x = eqb-true a x p.0 in
    let h : b ≡ y = eqb-true b y p.1 in
    cc

-- only the code of a kind is read as the kind
found_in : (a b : ℕ) (k : Kind) (ks : List Kind) → kind_in ks a b ≡ Some k → a ∷ b ∷ [] ≡ code_of k
found_in a b k [] e = let z : ◌≡◌ {A = ℕ} 0 1 = cc in absurd (omega arith)
found_in a b k (m ∷ ks) e =
    by_bool (is2 (get_or (code_of m) 0 0) (get_or (code_of m) 1 0) a b)
    (λ t. let i : Some m ≡ Some k = rw t at e in
    let h : m ≡ k = cc in
    letters (get_or (code_of m) 0 0) (get_or (code_of m) 1 0) a b t ∙ code-two m ∙ ap code_of h)
    (λ t. found_in a b k ks (rw t at e))

pub read-code : (a b : ℕ) (k : Kind) → kind_of a b ≡ Some k → a ∷ b ∷ [] ≡ code_of k
unfolding kind_of
read-code a b k e = found_in a b k by_row e

-- a list made of some kinds has at a place what is made of the kind there
pub map_at : {A : Type 0} (f : Kind → A) (d : A) (ks : List Kind) (m : Kind) (i : ℕ) → i < length ks → get_or (map f ks) i d ≡ f (get_or ks i m)
map_at f d [] m i h = absurd (omega arith)
map_at f d (k ∷ ks) m zero h = refl
map_at f d (k ∷ ks) m (suc i) h = map_at f d ks m i (omega arith)
