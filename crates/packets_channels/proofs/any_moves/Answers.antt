-- `packets_channels::any_moves` meets its contract. Assumes nothing.
use Rattle.std.proofs.Common.{rules, ◌∙◌}
use Rattle.std.proofs.lemmas.Iterator.{YieldsList-from_slice}
use Rattle.std.proofs.lemmas.Iterator.Search.{any_from_yields_List}
use Rattle.packets.specs.State.{moves}
use Rattle.packets.specs.declared.Carrier.{Carrier}
use Rattle.packets.proofs.PickLaws.{any-list}
use Rattle.packets_channels.proofs.any_moves.Goals as goal

pub returns : goal.returns
returns c =
    let moved = λ (m : Carrier). moves c.args.j m.motion in
    any_from_yields_List moved _ _ c.any.result c.any.ensures.ran (YieldsList-from_slice c.args.moving cc) (λ x b q k. search rules)
    ∙ any-list moved c.args.moving
