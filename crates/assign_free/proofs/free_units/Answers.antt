-- `assign_free::free_units` meets its contract: each unit has its mark. Assumes nothing.
use Prim.Native.Nat.{ℕ, ◌<◌, ◌/◌, ◌%◌}
use mathlib.Core.Path.{◌≡◌, ap, ◌∙◌}
use mathlib.Core.Bool.{Bool, false, ◌&&◌}
use mathlib.Core.List.{List}
use native.Mathlib.Omega.{arith}
use lib.Dec.{ltb}
use lib.ListN.{get_or}
use borrow.Author.Rules.{rules}
use borrow.Author.Tests.{tests}
use Rattle.numbers.proofs.FromFn.{made}
use Rattle.units.specs.declared.Unit.{Unit}
use Rattle.units.specs.State.{unit_in, assignable}
use Rattle.channels.specs.declared.Channel.{Channel}
use Rattle.channels.specs.Channels.{no_channel}
use Rattle.assign_free.specs.declared.Configured.{Configured}
use Rattle.assign_free.specs.Assignable.{units_of_kind, is_free_of}
use Rattle.assign_free.specs.Counts.{CountsOf}
use Rattle.assign_free.proofs.free_units.Goals as goal

-- what unit i's mark is to be
abbrev mark_of : List (List Unit) → List ℕ → ℕ → Bool
mark_of grid counts i = ltb (i % 16) (get_or counts (i / 16) 0) && assignable (unit_in grid (i / 16) (i % 16))

mark_is : {grid units : List (List Unit)} {channels : List Channel} {order : ℕ} {counts : Configured} (i : ℕ) → i < 256
    → CountsOf channels order counts → grid ≡ units → mark_of grid counts.0 i ≡ is_free_of units channels order i
unfolding is_free_of
mark_is {grid} {units} {channels} {order} {counts} i h c e =
    ap (λ (n : ℕ). ltb (i % 16) n && assignable (unit_in grid (i / 16) (i % 16))) (c.each (i / 16) (omega arith))
    ∙ ap
    (λ (g : List (List Unit)). ltb (i % 16) (units_of_kind order (get_or channels (i / 16) no_channel)) && assignable (unit_in g (i / 16) (i % 16)))
    e

pub returns : goal.returns
unfolding unit_in
returns c = record {
  long = c.from_fn.ensures.items.long;
  each = λ i h.
      made (λ (i : ℕ) (b : Bool). b ≡ mark_of c.grid_of-grid.result c.counts_of-configured.result.0 i) _ false c.from_fn.result 0 256
      (λ x r q k. search (rules, tests)) c.from_fn.ensures.items.each i (omega arith) (omega arith)
      ∙ mark_is i h c.counts_of-configured.ensures c.grid_of-grid.ensures.is;
}
