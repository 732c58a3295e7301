-- `cards_fac::facilities` meets its contract: one entry further, or the error of the one at hand. Assumes nothing.
use Prim.Native.Nat.{◌+◌}
use mathlib.Core.Path.{sym, ◌∙◌}
use native.Mathlib.Omega.{arith}
use Rattle.std.proofs.lemmas.Result.{err_from_is_err_and}
use Rattle.cards_fields.specs.Fields.{fields}
use Rattle.cards_fac.specs.Fac.{asks_of}
use Rattle.cards_fac.proofs.AskLaws.{entry-wrong, entry-twice, entry_next, entries-done}
use Rattle.cards_fac.proofs.facilities.Goals as goal

pub returns-in_err-e : goal.returns-in_err-e
returns-in_err-e c =
    let p = err_from_is_err_and c.from_residual.result c.from_residual.ensures.1 in
    rw (p.1, p.2)
    (sym (entry-wrong (asks_of c.loop-k.asks) (fields c.args.card.now) c.loop-k.k (omega (arith, c.last_field-k-end.ensures)) c.entry_at.result c.entry_at.ensures.is c.in_err-e.field-0.0 c.in_err-e.was) ∙ c.loop-k.invariant.1)

pub returns-then-number_at-gt0 : goal.returns-then-number_at-gt0
returns-then-number_at-gt0 c =
    sym (entry-twice (asks_of c.loop-k.asks) (fields c.args.card.now) c.loop-k.k (omega (arith, c.last_field-k-end.ensures)) c.entry_at.result c.entry_at.ensures.is c.in_ok-e.e c.in_ok-e.was (rw c.number_at.ensures at c.if-number_at-gt0.true))
    ∙ c.loop-k.invariant.1

pub with_number-asks-requires : goal.with_number-asks-requires
with_number-asks-requires c = (c.in_ok-e.ensures.low, c.in_ok-e.ensures.small)

pub loop-k-preserved : goal.loop-k-preserved
loop-k-preserved c = (
  omega arith,
  rw c.with_number-asks.ensures (sym (entry_next (asks_of c.loop-k.asks) (fields c.args.card.now) c.loop-k.k (omega (arith, c.last_field-k-end.ensures)) c.entry_at.result c.entry_at.ensures.is c.in_ok-e.e c.in_ok-e.was (rw c.number_at.ensures at c.if-number_at-gt0.false))
      ∙ c.loop-k.invariant.1),
)

pub returns-else-number_at-gt0 : goal.returns-else-number_at-gt0
returns-else-number_at-gt0 c =
    sym (entries-done (asks_of c.with_number-asks.result) (fields c.args.card.now) (c.loop-k.k + 1) (omega (arith, c.last_field-k-end.ensures)))
    ∙ rw c.with_number-asks.ensures (sym (entry_next (asks_of c.loop-k.asks) (fields c.args.card.now) c.loop-k.k (omega (arith, c.last_field-k-end.ensures)) c.entry_at.result c.entry_at.ensures.is c.in_ok-e.e c.in_ok-e.was (rw c.number_at.ensures at c.if-number_at-gt0.false))
    ∙ c.loop-k.invariant.1)

pub returns : goal.returns
returns c =
    sym (entries-done (asks_of c.loop-k.asks) (fields c.args.card.now) c.loop-k.k (omega (arith, c.last_field-k-end.ensures))) ∙ c.loop-k.invariant.1
