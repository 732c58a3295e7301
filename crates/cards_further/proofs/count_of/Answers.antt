-- `cards_further::count_of` meets its contract: as many as it says, or all. Assumes nothing.
use native.Mathlib.Omega.{arith}
use lib.ListN.{take, length-take}
use Rattle.cards_further.proofs.Fourteen.{fourteen, texts-length}
use Rattle.cards_further.proofs.count_of.Goals as goal

pub returns : goal.returns
returns c =
    let l = fourteen c.args.further _ c.well_formed.0 in
    omega (
      arith,
      l,
      texts-length (take c.args.further.count c.args.further.cards),
      length-take c.args.further.count c.args.further.cards,
    )
