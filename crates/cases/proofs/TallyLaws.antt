-- Going from case to case ends: the next argument is further on, and not past the end. Assumes nothing.
use Rattle.std.proofs.Common.{◌≡◌, ℕ, ◌-◌, ◌<◌, ◌≤◌, Bool, ltb, ap, arith, ltb-true, lt-ltb}
use Rattle.numbers.proofs.Tests.{by_bool}
use Rattle.cases.specs.Tallies.{two_on, judged_of}
use Rattle.cases.specs.declared.Tally.{Tally}

two-on : (at count : ℕ) → at < count → (at < two_on at count) × (two_on at count ≤ count)
two-on at count h =
    by_bool (ltb 2 (count - at))
    (λ t. rw (lt-ltb at count h, t) (omega (arith, ltb-true 2 (count - at) t), omega (arith, ltb-true 2 (count - at) t)))
    (λ t. rw (lt-ltb at count h, t) (h, omega arith))

-- what is left grows less
pub fewer : (t : Tally) (agrees : Bool) {r : Tally} → r ≡ judged_of t agrees → t.at < t.count → r.count - r.at < t.count - t.at
fewer t agrees e h =
    let a = ap (λ (x : Tally). x.at) e in
    let c = ap (λ (x : Tally). x.count) e in
    let p = two-on t.at t.count h in
    omega (arith, p.0, p.1, a, c)
