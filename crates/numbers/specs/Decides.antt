-- What a function that answers yes or no says of a fact.
use Rattle.std.specs.Prelude.{◌≡◌, Bool, true, false}

-- true where the fact holds, false where it does not
abbrev pub Decides : Type 0 → Bool → Type 0
Decides P r = ((r ≡ true) → P) × ((r ≡ false) → P → ⊥)
