-- `desk_show::show` meets its contract: the part of what is found. Assumes nothing.
use mathlib.Core.Path.{sym, subst}
use mathlib.Core.List.{List}
use Prim.Native.Nat.{ℕ}
use Rattle.desk_show.specs.Showing.{Shows}
use Rattle.desk_show.proofs.show.Goals as goal

pub returns : goal.returns
returns c =
    record {
      found = c.find-found.result;
      shows = subst (λ (part : List ℕ). Shows c.args.id.now c.args.repair.now c.args.day.now c.find-found.result part)
          (sym c.part_of.ensures) c.find-found.ensures;
    }
