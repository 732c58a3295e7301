-- `shift_selected::asked_for` meets its contract: what stands at the entry's slot, 0 past the last. Assumes nothing.
use mathlib.Core.Path.{refl, ◌≡◌, sym}
use native.Mathlib.Omega.{arith}
use lib.Dec.{leb}
use lib.ListN.{length, get_or-eq_default}
use borrow.Author.Tests.{leb-true}
use Rattle.numbers.specs.Kinds.{order_of, unit_kinds}
use Rattle.numbers.proofs.KindLaws.{all_kinds}
use Rattle.cards_request.specs.Requests.{counts}
use Rattle.shift_selected.specs.Selected.{asked}
use borrow.Author.Rules.{rules}
use Rattle.shift_selected.proofs.asked_for.Goals as goal

pub overflow_mul-slot : goal.overflow_mul-slot
overflow_mul-slot c =
    record {
      fits = omega (
        arith,
        c.order_of.ensures,
        leb-true (order_of c.args.kind) unit_kinds (all_kinds (λ k. leb (order_of k) unit_kinds) refl c.args.kind),
      );
    }

pub overflow_add-slot : goal.overflow_add-slot
overflow_add-slot c =
    record {
      fits = omega (
        arith,
        c.order_of.ensures,
        leb-true (order_of c.args.kind) unit_kinds (all_kinds (λ k. leb (order_of k) unit_kinds) refl c.args.kind),
      );
    }

pub returns : goal.returns
unfolding asked
returns c = rw (← c.order_of.ensures) (search rules)
