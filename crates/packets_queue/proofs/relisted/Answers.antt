-- `packets_queue::relisted` meets its contract. The invariant: what stays of the entries passed stands first, and
-- zeros follow. Assumes nothing.
use Rattle.std.proofs.Common.{◌≡◌, ◌<◌, ◌∙◌, sym, length, get_or, take, arith}
use Rattle.std.proofs.lemmas.List.{length-take-le}
use Rattle.packets.specs.State.{is_kept}
use Rattle.packets_queue.proofs.Relist.{relisting-kept, relisting-gone, relisting-part, relisted-done}
use Rattle.packets_queue.proofs.relisted.Goals as goal
use Rattle.packets_queue.proofs.relisted.Goals.{then-stays, else-stays}

pub loop-e-preserved : goal.loop-e-preserved
loop-e-preserved c =
    let items = take c.size_of-end.result c.args.old.now in
    let f = is_kept c.args.j c.args.job.packets in
    let e = get_or items c.loop-e.e-index 0 in
    let long : length items ≡ c.size_of-end.result = length-take-le c.size_of-end.result c.args.old.now c.size_of-end.ensures.within in
    let h : c.loop-e.e-index < length items = c.loop-e-test.true in
    let t : f e ≡ c.stays.result = rw (← c.number_of.ensures.is) (sym c.stays.ensures) in
    elim c.if-stays.branch [
      | then-stays w ↦ rw (w.entries-is, w.kept-is) (relisting-kept f items c.loop-e.entries c.loop-e.kept c.loop-e.e-index c.loop-e.invariant h
          (omega (arith, c.loop-e.invariant.few, c.size_of-end.ensures.few, long)) (t ∙ w.if-stays.true))
      | else-stays w ↦ rw (w.entries-is, w.kept-is) (relisting-gone f items c.loop-e.entries c.loop-e.kept c.loop-e.e-index c.loop-e.invariant h (t ∙ w.if-stays.false))
    ]

pub returns : goal.returns
returns c =
    let n = c.size_of-end.result in
    let e : c.loop-e.e-index ≡ n = omega (arith, c.loop-e-test.false, c.loop-e.auto.e-index-end, c.size_of-end.ensures.within, length-take-le n c.args.old.now c.size_of-end.ensures.within) in
    relisted-done c.args.j c.args.job.packets c.args.old.now c.loop-e.entries c.args.count c.loop-e.kept c.loop-e.e-index
    (relisting-part (is_kept c.args.j c.args.job.packets) c.args.old.now c.loop-e.entries c.loop-e.kept n c.loop-e.e-index (omega (arith, e)) c.loop-e.invariant)
    (omega (arith, e, c.size_of-end.ensures.few)) (e ∙ c.size_of-end.ensures.is)
