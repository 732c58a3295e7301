-- `cards_pm::body_len` meets its contract: the first period from the end on is the last. Assumes nothing.
use mathlib.Core.Path.{◌≡◌, sym, ap}
use native.Mathlib.Omega.{arith}
use lib.ListN.{length}
use Rattle.cards_pm.proofs.PmLaws.{body-length, body-none}
use Rattle.cards_pm.proofs.body_len.Goals as goal

pub returns-then-card-n-eq46 : goal.returns-then-card-n-eq46
returns-then-card-n-eq46 c =
    body-length c.args.card.now c.loop-n.n (omega arith) (omega arith) c.if-card-n-eq46.true c.loop-n.invariant.1

pub returns : goal.returns
returns c =
    let z : c.loop-n.n ≡ 0 = omega arith in
    sym (ap length (body-none c.args.card.now (rw z at c.loop-n.invariant.1)))
