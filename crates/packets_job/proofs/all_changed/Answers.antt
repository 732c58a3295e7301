-- `packets_job::all_changed` meets its contract. Assumes nothing.
use Rattle.std.proofs.Common.{rules, tests}
use Rattle.packets.specs.State.{blank, restatus}
use Rattle.packets_job.specs.Aims.{test_of, change_of}
use Rattle.packets.proofs.MapLaws.{made-map}
use Rattle.packets_job.proofs.all_changed.Goals as goal

pub returns : goal.returns
returns c =
    made-map (restatus (test_of c.args.aim) (change_of c.args.aim)) _ blank blank c.args.ps c.from_fn.result 16 (search rules)
    (λ i y q k. search (rules, tests)) c.from_fn.ensures.items
