-- `shift_reply::put_lack` meets its contract: one piece after the other, or nothing. Assumes nothing.
use mathlib.Core.Logic.{inl, inr}
use Rattle.text.proofs.RoomLaws.{puts-none, puts-then}
use Rattle.shift_reply.proofs.put_lack.Goals as goal

pub returns-in-Job : goal.returns-in-Job
returns-in-Job c =
    elim c.in-Job.is [
      | inl e ↦ rw e (puts-none c.args.out.now)
      | inr r ↦ elim r [ inl e ↦ rw e (puts-none c.args.out.now) | inr e ↦ rw e (puts-none c.args.out.now) ]
    ]

pub returns-in-Lacks : goal.returns-in-Lacks
returns-in-Lacks c =
    rw c.in-Lacks.is
    (puts-then c.put_byte.ensures (puts-then c.put_name.ensures (puts-then c.put_byte-in-Lacks.ensures c.put_part.ensures)))
