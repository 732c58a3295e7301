-- `cell_taken::areas` meets its contract: what each place holds. Assumes nothing.
use Rattle.std.proofs.Common.{rules, tests}
use Rattle.packets.specs.State.{no_job}
use Rattle.assign_drum.specs.Drum.{no_area}
use Rattle.cell_taken.specs.Taken.{area_of}
use Rattle.packets.proofs.MapLaws.{made-map}
use Rattle.cell_taken.proofs.areas.Goals as goal

pub returns : goal.returns
returns c =
    made-map area_of _ no_job no_area c.args.jobs c.from_fn.result 16 (search rules) (λ i y q k. search (rules, tests)) c.from_fn.ensures.items
