-- `controller::luffgravel_core` meets its contract: the pair that the search found stands in i and j; where it found
-- none they are kept. Assumes nothing.
use mathlib.Core.Path.{refl, subst}
use Rattle.numbers.proofs.Tests.{never}
use Rattle.assign_core.specs.Core.{LeastPair}
use Rattle.controller.proofs.luffgravel_core.Goals as goal

pub returns : goal.returns
returns c =
    record {
      found = λ e. subst (LeastPair c.args.taken c.args.ib c.args.db) c.in-Some.is c.search.ensures;
      none = λ e. never refl e;
    }

pub returns-in_default : goal.returns-in_default
returns-in_default c =
    record {
      found = λ e. never e refl;
      none = λ e. (subst (LeastPair c.args.taken c.args.ib c.args.db) c.in_default.is c.search.ensures, refl, refl);
    }
