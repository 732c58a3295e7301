-- `packets_queue::size_of` meets its contract, by the test that led there. Assumes nothing.
use Rattle.std.proofs.Common.{◌≡◌, ◌∙◌, ℕ, min, cond, ltb, length, arith}
use borrow.Author.Tests.{le-ltb, lt-ltb}
use Rattle.std.proofs.lemmas.Bool.{ltb-true, ltb-false}
use Rattle.numbers.proofs.Tests.{by_bool}
use Rattle.packets_queue.specs.Keeping.{size_of}
use Rattle.packets_queue.proofs.size_of.Goals as goal

smaller : (n m : ℕ) → min n m ≡ cond (ltb m n) m n
smaller n m =
    by_bool (ltb m n) (λ t. rw t (let h = ltb-true m n t in omega arith)) (λ t. rw t (let h = ltb-false m n t in omega arith))

pub returns-then-most-gt256 : goal.returns-then-most-gt256
unfolding size_of
returns-then-most-gt256 c = record { is = rw (lt-ltb 256 (length c.args.entries.now) c.if-most-gt256.true); few = omega arith; within = omega arith }

pub returns : goal.returns
unfolding size_of
returns c =
    record {
      is = rw (le-ltb 256 (length c.args.entries.now) c.if-most-gt256.false) (c.min.ensures ∙ smaller c.args.count (length c.args.entries.now));
      few = omega (arith, c.min.ensures);
      within = omega (arith, c.min.ensures);
    }
