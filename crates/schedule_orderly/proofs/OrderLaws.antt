-- The selection order is an order: it goes on from one to the next, and of two keys that differ one comes first.
-- Assumes nothing.
use Prim.Native.Nat.{ℕ, ◌<◌}
use mathlib.Core.Path.{◌≡◌, sym, ◌∙◌}
use mathlib.Core.Bool.{Bool, true, false, cond}
use native.Mathlib.Omega.{arith}
use lib.Dec.{eqb, ltb}
use borrow.Author.Tests.{eqb-true, eqb-false, eq-eqb, ne_eqb, ltb-true, ltb-false, lt-ltb}
use Rattle.numbers.proofs.Tests.{by_bool}
use Rattle.schedule_entries.specs.Entries.{precedes, same_rank, same_key}
use Rattle.schedule_entries.specs.declared.Key.{Key}

-- an order of numbers in front of another test
abbrev lexed : ℕ → ℕ → Bool → Bool
lexed a b t = cond (eqb a b) t (ltb a b)

-- lexed is true: the numbers ascend, or are equal and the test holds
lexed-cases {ℓ} : {P : Type ℓ} (a b : ℕ) (t : Bool) → lexed a b t ≡ true → (a < b → P) → (a ≡ b → t ≡ true → P) → P
lexed-cases a b t e f g =
    by_bool (eqb a b)
    (λ q. g (eqb-true a b q) (rw q at e))
    (λ q. f (ltb-true a b (rw q at e)))

lexed-less : (a b : ℕ) (t : Bool) → a < b → lexed a b t ≡ true
lexed-less a b t h = rw (ne_eqb a b (λ e. omega arith), lt-ltb a b h)

lexed-same : (a b : ℕ) (t : Bool) → a ≡ b → t ≡ true → lexed a b t ≡ true
lexed-same a b t e f = rw (eq-eqb a b e, f)

lexed-on : (a b c : ℕ) (s t u : Bool) → (s ≡ true → t ≡ true → u ≡ true) → lexed a b s ≡ true → lexed b c t ≡ true → lexed a c u ≡ true
lexed-on a b c s t u k e f =
    lexed-cases a b s e
    (λ x. lexed-cases b c t f (λ y. lexed-less a c u (omega arith)) (λ y z. lexed-less a c u (omega arith)))
    (λ x w. lexed-cases b c t f (λ y. lexed-less a c u (omega arith)) (λ y z. lexed-same a c u (x ∙ y) (k w z)))

less-on : (a b c : ℕ) → ltb a b ≡ true → ltb b c ≡ true → ltb a c ≡ true
less-on a b c e f = lt-ltb a c (omega (arith, ltb-true a b e, ltb-true b c f))

-- what precedes one precedes what that one precedes
pub precedes-on : (a b c : Key) → precedes a b ≡ true → precedes b c ≡ true → precedes a c ≡ true
unfolding precedes
precedes-on a b c =
    lexed-on a.letter b.letter c.letter _ _ _
    (lexed-on a.precedence b.precedence c.precedence _ _ _ (less-on a.sequence b.sequence c.sequence))

-- not one way, and not equal: the other way
lexed-other : (a b : ℕ) (s t : Bool) → (s ≡ false → a ≡ b → t ≡ true) → lexed a b s ≡ false → lexed b a t ≡ true
lexed-other a b s t k e =
    by_bool (eqb a b)
    (λ q. lexed-same b a t (sym (eqb-true a b q)) (k (rw q at e) (eqb-true a b q)))
    (λ q. let n = eqb-false a b q in let h = ltb-false a b (rw q at e) in lexed-less b a t (omega arith))

pub precedes-other : (a b : Key) → precedes a b ≡ false → same_key a b ≡ false → precedes b a ≡ true
unfolding precedes same_key same_rank
precedes-other a b e n =
    lexed-other a.letter b.letter _ _
    (λ x l. lexed-other a.precedence b.precedence _ _
    (λ y p. lt-ltb b.sequence a.sequence (higher y l p)) x) e
  where
    higher : ltb a.sequence b.sequence ≡ false → a.letter ≡ b.letter → a.precedence ≡ b.precedence → b.sequence < a.sequence
    higher y l p =
        let h = ltb-false a.sequence b.sequence y in
        let q : eqb a.sequence b.sequence ≡ false = rw (eq-eqb a.letter b.letter l, eq-eqb a.precedence b.precedence p) at n in
        let d = eqb-false a.sequence b.sequence q in
        omega arith
