-- A change of one place, composed of several, as one store; and the list then. Assumes nothing.
use Prim.Native.Nat.{ℕ, ◌≤◌, ◌<◌}
use mathlib.Core.Path.{◌≡◌}
use mathlib.Core.Bool.{not}
use native.Mathlib.Omega.{arith}
use lib.Dec.{ltb}
use borrow.Author.Tests.{lt-ltb, le-ltb, ltb-true, ltb-false}
use Rattle.numbers.proofs.Tests.{by_bool}

-- past 15, as the code tests it
pub past_is : (p : ℕ) → ltb 15 p ≡ not (ltb p 16)
past_is p =
    by_bool (ltb p 16)
    (λ t. let h : p < 16 = ltb-true p 16 t in rw t (le-ltb 15 p (omega arith)))
    (λ t. let h : 16 ≤ p = ltb-false p 16 t in rw t (lt-ltb 15 p (omega arith)))
