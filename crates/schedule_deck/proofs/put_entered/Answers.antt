-- `schedule_deck::put_entered` meets its contract. Assumes nothing.
use Rattle.std.proofs.Common.{refl}
use Rattle.cards_fields.specs.Deck.{cards_of, groups_of}
use Rattle.schedule_deck.proofs.InTurn.{noted}
use Rattle.schedule_deck.proofs.put_entered.Goals as goal

pub returns : goal.returns
returns c =
    noted (groups_of (cards_of c.args.part.now)) c.begin.ensures c.put_groups-progress.ensures c.put_last.ensures refl
