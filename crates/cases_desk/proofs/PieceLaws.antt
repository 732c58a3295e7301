-- Of a piece that ends within the input something is taken, and no more than the piece has. Assumes nothing.
use Prim.Native.Nat.{ℕ, ◌+◌, ◌-◌, ◌≤◌, ◌<◌}
use mathlib.Core.Path.{◌≡◌}
use mathlib.Core.List.{List}
use native.Mathlib.Omega.{arith}
use lib.ListN.{length, take, drop, length-drop}
use lib.Seq.{length-take-le}
use Rattle.input_lines.proofs.LineLaws.{taken-most, taken-some}
use Rattle.desk_hearing.specs.Hearing.{Standing, Heard}

pub part-within : {s t : Standing} {out after· : List ℕ} {taken n : ℕ} (input : List ℕ) (at end : ℕ) → at < end → end ≤ length input
    → Heard s (take (end - at) (drop at input)) t taken out after· n → (at + taken ≤ end) × (0 < taken)
part-within input at end h k w =
    let l : length (take (end - at) (drop at input)) ≡ end - at = length-take-le (end - at) (drop at input) (omega (arith, length-drop at input)) in
    (omega (arith, l, taken-most w.hears.takes, w.hears.took), omega (arith, taken-some w.hears.takes (omega (arith, l)), w.hears.took))
