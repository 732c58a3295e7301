-- `assign_heads::given_at` meets its contract: its tests are the definition's. Assumes nothing.
use mathlib.Core.Path.{refl, ap}
use mathlib.Core.Logic.{⊎_elim}
use native.Mathlib.Omega.{arith}
use borrow.Author.Tests.{le-leb, lt-leb}
use Rattle.assign_heads.specs.Whose.{blank, given_at}
use lib.ListN.{get_or}
use Prim.Native.Nat.{ℕ}
use Rattle.assign_heads.proofs.given_at.Goals as goal

pub returns-then-channel-gt15 : goal.returns-then-channel-gt15
unfolding given_at
returns-then-channel-gt15 c =
    ⊎_elim (λ h. rw (lt-leb c.args.channel.0 15 h) refl)
    (λ h. rw (le-leb c.args.channel.0 15 h.0, lt-leb c.args.unit.0 15 h.1) refl) c.then-channel-gt15.either

pub returns : goal.returns
unfolding given_at
returns c =
    rw (le-leb c.args.channel.0 15 (omega arith), le-leb c.args.unit.0 15 (omega arith))
    (ap (λ (n : ℕ). (get_or c.args.heads n blank).to) c.index_of.ensures)
