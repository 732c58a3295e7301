-- What the first of several errors is, by whether one before it is wrong. Assumes nothing.
use mathlib.Core.Path.{◌≡◌, refl}
use mathlib.Core.Bool.{Bool, true, false}
use Rattle.numbers.proofs.Tests.{never}
use Rattle.std.specs.Prelude.{Ok, Err}
use Rattle.std.specs.Result.{result_and}
use Rattle.cards_request.specs.Errors.{CardVerdict, good, error_if, or_else}
use Rattle.cards_request.specs.declared.CardError.{CardError}

-- a good verdict is the one that there is
pub good-is : (v : CardVerdict) → good v ≡ true → v ≡ Ok tt
good-is (Ok tt) e = refl
good-is (Err x) e = never e refl

-- an error is not good
pub not_good {ℓ} : {P : Type ℓ} {e : CardError} → ◌≡◌ {A = CardVerdict} (Err e) (Ok tt) → P
not_good h = absurd cc

pub or_else_some : (v w : CardVerdict) → good v ≡ false → or_else v w ≡ v
or_else_some (Ok tt) w h = never refl h
or_else_some (Err e) w h = refl

pub or_else_none : (v w : CardVerdict) → or_else v w ≡ Ok tt → (v ≡ Ok tt) × (w ≡ Ok tt)
or_else_none (Ok tt) w h = (refl, h)
or_else_none (Err e) w h = not_good h

pub or-else-good : (v : CardVerdict) → or_else v (Ok tt) ≡ v
or-else-good (Ok tt) = refl
or-else-good (Err e) = refl

-- where a test gives no error it does not hold
pub not-error : (b : Bool) (e : CardError) → error_if b e ≡ Ok tt → b ≡ false
not-error true e h = not_good h
not-error false e h = refl

-- what comes of a verdict and the value behind it: the error, or the value
pub and-err : {U : Type 0} (v : CardVerdict) (y : U) (x : CardError) → result_and v (Ok y) ≡ Err x → v ≡ Err x
and-err (Ok tt) y x h = absurd cc
and-err (Err e) y x h = let i : e ≡ x = cc in rw i

pub and-ok : {U : Type 0} (v : CardVerdict) (y z : U) → result_and v (Ok y) ≡ Ok z → (v ≡ Ok tt) × (z ≡ y)
and-ok (Ok tt) y z h = (refl, cc)
and-ok (Err e) y z h = absurd cc
