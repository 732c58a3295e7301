-- `cards_writing::check::are_fields` meets its contract. The loop's invariant: the fields before index k are right,
-- so whether all are is said by those from there on. Assumes nothing.
use mathlib.Core.Path.{◌≡◌}
use Rattle.cards_request.specs.Errors.{good}
use Rattle.cards_pty.specs.Pty.{fields_error}
use Rattle.cards_pty.proofs.PtyLaws.{from_index}
use Rattle.cards_writing.specs.Writing.{pty_fields}
use Rattle.cards_writing.proofs.check.are_fields.Given as goal

abbrev pub invariant-loop-k : goal.invariant-loop-k
invariant-loop-k l = good (from_index l.k (pty_fields l.n l.r)) ≡ good (fields_error (pty_fields l.n l.r))
