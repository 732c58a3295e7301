-- `cards_trn::parts_error` meets its contract. The loop's invariant: no part before index k is wrong. Assumes nothing.
use mathlib.Core.Path.{◌≡◌}
use lib.ListN.{drop}
use Rattle.cards_fields.specs.Fields.{spaceless}
use Rattle.cards_request.specs.Errors.{first_of}
use Rattle.cards_trn.specs.Trn.{parts_error}
use Rattle.cards_trn.proofs.TrnLaws.{part_errors}
use Rattle.cards_trn.proofs.parts_error.Given as goal

abbrev pub invariant-loop-k : goal.invariant-loop-k
invariant-loop-k l = first_of (drop l.k (part_errors (spaceless l.t))) ≡ parts_error (spaceless l.t)
