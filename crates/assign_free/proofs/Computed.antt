-- The marks that antt computes meet the contract of `free_units`. Assumes nothing.
use Prim.Native.Nat.{ℕ}
use mathlib.Core.Bool.{Bool, false}
use mathlib.Core.List.{List}
use Rattle.numbers.specs.Values.{values}
use Rattle.numbers.proofs.ValuesLaws.{values-long, values-at}
use Rattle.units.specs.declared.Unit.{Unit}
use Rattle.channels.specs.declared.Channel.{Channel}
use Rattle.assign_free.specs.Assignable.{is_free_of, FreeUnits}

abbrev pub marks_of : List (List Unit) → List Channel → ℕ → List Bool
marks_of units channels order = values 256 (is_free_of units channels order)

pub marks-answer : (units : List (List Unit)) (channels : List Channel) (order : ℕ) → FreeUnits units channels order (marks_of units channels order)
marks-answer units channels order = record {
  long = values-long 256 (is_free_of units channels order);
  each = λ i h. values-at 256 (is_free_of units channels order) i false h;
}
