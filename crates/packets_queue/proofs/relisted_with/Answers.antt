-- `packets_queue::relisted_with` meets its contract. Assumes nothing.
use Prim.Native.Nat.{ℕ}
use mathlib.Core.Path.{ap, ◌∙◌}
use mathlib.Core.List.{List}
use Rattle.packets.specs.State.{relist, enlisted}
use Rattle.packets_queue.specs.Padded.{list_of, padded}
use Rattle.packets_queue.specs.Keeping.{listed}
use Rattle.packets_queue.proofs.PaddedLaws.{list-padded}
use Rattle.packets_queue.proofs.relisted_with.Goals as goal

pub with_entry-requires : goal.with_entry-requires
with_entry-requires c = c.relisted.ensures.tidy

pub returns : goal.returns
returns c =
    c.with_entry.ensures ∙ ap (λ (l : List ℕ). padded (enlisted l c.args.e))
    (ap list_of c.relisted.ensures.is ∙ list-padded (relist c.args.j c.args.job.packets (listed c.args.old.now c.args.count)))
