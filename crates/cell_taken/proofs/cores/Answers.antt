-- `cell_taken::cores` meets its contract: what each place holds. Assumes nothing.
use Rattle.std.proofs.Common.{rules, tests}
use Rattle.packets.specs.State.{no_job, no_core}
use Rattle.cell_taken.specs.Taken.{core_of}
use Rattle.packets.proofs.MapLaws.{made-map}
use Rattle.cell_taken.proofs.cores.Goals as goal

pub returns : goal.returns
returns c =
    made-map core_of _ no_job no_core c.args.jobs c.from_fn.result 16 (search rules) (λ i y q k. search (rules, tests)) c.from_fn.ensures.items
