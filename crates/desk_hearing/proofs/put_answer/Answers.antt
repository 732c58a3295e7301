-- `desk_hearing::put_answer` meets its contract: the part, and then the line behind it. Assumes nothing.
use mathlib.Core.Path.{sym, subst}
use mathlib.Core.List.{List}
use Prim.Native.Nat.{ℕ}
use Rattle.desk_show.specs.Showing.{Shows}
use Rattle.desk_hearing.proofs.AnswerLaws.{answered}
use borrow.Author.Rules.{rules}
use Rattle.desk_hearing.proofs.put_answer.Goals as goal

pub returns : goal.returns
returns c =
    answered (subst (λ (part : List ℕ). Shows c.args.id.now c.args.repair.now c.args.day.now c.find-found.result part) (sym c.part_of.ensures)
    c.find-found.ensures)
    (search rules) c.put_bytes.ensures.written c.put_closing.ensures.written
