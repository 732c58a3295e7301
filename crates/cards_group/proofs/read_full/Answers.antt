-- `cards_group::read_full` meets its contract: what the group reads as, with its further cards. Assumes nothing.
use mathlib.Core.Path.{sym, ap, ◌∙◌}
use mathlib.Core.List.{List}
use Prim.Native.Nat.{ℕ}
use Rattle.cards_fields.specs.Deck.{cards_of}
use Rattle.cards_fields.proofs.Groups.{behind-cards}
use Rattle.cards_further.specs.Further.{canonicals, held}
use Rattle.cards_group.proofs.GroupLaws.{full-read, full-wrong}
use Rattle.cards_group.proofs.read_full.Goals as goal

pub returns-then-is_good : goal.returns-then-is_good
returns-then-is_good c =
    full-read (cards_of c.args.group.now) c.read_group-reading.result c.read_group-reading.ensures (sym c.is_good.ensures ∙ c.if-is_good.true)
    c.held-further.result (c.held-further.ensures
    ∙ ap (λ (cs : List (List ℕ)). held (canonicals cs)) (ap cards_of c.behind.ensures ∙ behind-cards c.args.group.now 2))

pub returns : goal.returns
returns c =
    full-wrong (cards_of c.args.group.now) c.read_group-reading.result c.read_group-reading.ensures
    (sym c.is_good.ensures ∙ c.if-is_good.false) c.no_further-further.result c.no_further-further.ensures
