-- `lists::start` meets its contract: the rules' outcome of a start. The invariant: none of the entries passed can
-- start. Assumes nothing.
use Rattle.std.proofs.Common.{Some}
use mathlib.Core.Path.{◌≡◌, refl, ap, ◌∙◌}
use lib.ListN.{get_or}
use Rattle.numbers.specs.Elements.{find}
use Rattle.packets.specs.Rules.{startable_on}
use Rattle.packets.proofs.ByNumber.{Start}
use Rattle.packets.specs.State.{place_of, packet_of}
use Rattle.packets_queue.specs.Padded.{list_of}
use Rattle.packets_queue.proofs.Startable.{can_start_at, starts_is}
use Rattle.lists.proofs.Calls.{relisted-is, refused-is}
use Rattle.lists.proofs.Full.{entries, places}
use Rattle.lists.proofs.Search.{search-found, search-on, search-over}
use Rattle.lists.proofs.Starts.{start-verdict, start_is}
use Rattle.lists.specs.Parts.{found_of}
use borrow.Author.Rules.{rules}
use Rattle.lists.proofs.start.Goals as goal
use Rattle.lists.proofs.start.Goals.{else-loop-k-test, then-loop-k-test+then-can_start}

pub loop-k-preserved : goal.loop-k-preserved
unfolding place_of
loop-k-preserved c =
    let e = get_or c.args.lists.list.entries c.loop-k.k 0 in
    let t : can_start_at c.row_of-row.result c.args.lists.jobs c.args.channel.0 e ≡ c.can_start.result =
    rw (← c.entry_at-e.ensures)
    (starts_is c.row_of-row.result c.args.lists.jobs c.args.channel.0 c.entry_at-e.result _ refl c.can_start.result c.can_start.ensures) in
    search-on c.args.lists c.args.channel.0 c.row_of-row.result c.row_of-row.ensures (entries c.args.lists _ c.well_formed.0) c.size_of-end.result
    c.size_of-end.ensures
    c.loop-k.k _ c.loop-k.invariant c.loop-k-test.true c.can_start.result t c.if-can_start.false

pub returns-in-Err : goal.returns-in-Err
unfolding place_of
returns-in-Err c =
    let full = entries c.args.lists _ c.well_formed.0 in
    let oldest : c.loop-k-test.found ≡ found_of (find (startable_on c.args.lists.units.of c.args.lists.jobs c.args.channel.0) (list_of c.args.lists.list)) =
    elim c.loop-k-test.branch [
      | else-loop-k-test w ↦ w.found-is ∙ search-over c.args.lists c.args.channel.0 c.row_of-row.result c.row_of-row.ensures full c.size_of-end.result
          c.size_of-end.ensures c.loop-k.k _ c.loop-k.invariant w.loop-k-test.false
      | then-loop-k-test+then-can_start w ↦
          let e : w.entry_at-e.result ≡ get_or c.args.lists.list.entries c.loop-k.k 0 = w.entry_at-e.ensures in
          w.found-is ∙ ap Some e ∙ search-found c.args.lists c.args.channel.0 c.row_of-row.result c.row_of-row.ensures full c.size_of-end.result
          c.size_of-end.ensures c.loop-k.k _ c.loop-k.invariant w.loop-k-test.true w.can_start.result
          (rw (← e) (starts_is c.row_of-row.result c.args.lists.jobs c.args.channel.0 w.entry_at-e.result _ refl w.can_start.result w.can_start.ensures))
          w.if-can_start.true
    ] in
    refused-is c.args.lists (Start c.args.channel.0) _
    (start-verdict c.args.lists c.args.channel.0 c.loop-k-test.found oldest _ refl c.of_start.result c.of_start.ensures ∙ c.in-Err.is)

pub returns-in-Ok : goal.returns-in-Ok
unfolding place_of packet_of
returns-in-Ok c =
    let full = entries c.args.lists _ c.well_formed.0 in
    let oldest : c.loop-k-test.found ≡ found_of (find (startable_on c.args.lists.units.of c.args.lists.jobs c.args.channel.0) (list_of c.args.lists.list)) =
    elim c.loop-k-test.branch [
      | else-loop-k-test w ↦ w.found-is ∙ search-over c.args.lists c.args.channel.0 c.row_of-row.result c.row_of-row.ensures full c.size_of-end.result
          c.size_of-end.ensures c.loop-k.k _ c.loop-k.invariant w.loop-k-test.false
      | then-loop-k-test+then-can_start w ↦
          let e : w.entry_at-e.result ≡ get_or c.args.lists.list.entries c.loop-k.k 0 = w.entry_at-e.ensures in
          w.found-is ∙ ap Some e ∙ search-found c.args.lists c.args.channel.0 c.row_of-row.result c.row_of-row.ensures full c.size_of-end.result
          c.size_of-end.ensures c.loop-k.k _ c.loop-k.invariant w.loop-k-test.true w.can_start.result
          (rw (← e) (starts_is c.row_of-row.result c.args.lists.jobs c.args.channel.0 w.entry_at-e.result _ refl w.can_start.result w.can_start.ensures))
          w.if-can_start.true
    ] in
    start_is c.args.lists c.args.channel.0 c.loop-k-test.found oldest (places c.args.lists _ c.well_formed.0)
    (start-verdict c.args.lists c.args.channel.0 c.loop-k-test.found oldest _ refl c.of_start.result c.of_start.ensures ∙ c.in-Ok.is)
    c.entry_of-e.result c.entry_of-e.ensures (search rules) c.begun-changed.result c.begun-changed.ensures c.started-answer.result c.started-answer.ensures
    c.relisted-left.result (relisted-is c.args.lists full _ _ _ c.relisted-left.ensures) c.busy_with-busy.result c.busy_with-busy.ensures
