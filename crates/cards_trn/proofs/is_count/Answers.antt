-- `cards_trn::is_count` meets its contract: spaces are no slashes. Assumes nothing.
use Rattle.cards_trn.proofs.TrnLaws.{count-is}
use Rattle.cards_trn.proofs.is_count.Goals as goal

pub returns : goal.returns
returns c = count-is c.args.t.now c.is_in.result c.is_in.ensures
