-- `cards_group::request` meets its contract: each part is what its field reads as. Assumes nothing.
use Prim.Native.Nat.{◌≤◌}
use native.Mathlib.Omega.{arith}
use lib.ListN.{length}
use Rattle.cards_fields.specs.Fields.{field, fields}
use Rattle.cards_pty.specs.Pty.{rules}
use Rattle.cards_pty.proofs.PtyLaws.{not-longer}
use Rattle.cards_group.proofs.request.Goals as goal

pub priority_at-p-requires : goal.priority_at-p-requires
unfolding rules
priority_at-p-requires c =
    let h : length (field c.args.card.now 9) ≤ 5 = not-longer (fields c.args.card.now) c.requires 9 (omega arith) in
    omega arith

pub number_at-minutes-requires : goal.number_at-minutes-requires
unfolding rules
number_at-minutes-requires c =
    let h : length (field c.args.card.now 11) ≤ 4 = not-longer (fields c.args.card.now) c.requires 11 (omega arith) in
    omega arith

pub returns : goal.returns
returns c = cc
