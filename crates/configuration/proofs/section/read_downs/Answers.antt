-- `configuration::section::read_downs` meets its contract. The loop's invariant is `At` of proofs/Turns.antt. Assumes
-- nothing.
use Rattle.std.proofs.Common.{◌≡◌, ◌∙◌, true, arith, length-set}
use Rattle.std.proofs.lemmas.Result.{err_from_is_err_and}
use Rattle.configuration.specs.Lines.{down_line, down_fits}
use Rattle.configuration.proofs.Told.{told}
use Rattle.configuration.proofs.Lent.{line-is, line-fits}
use Rattle.configuration.proofs.AnySection.{downs-wrong, downs-refused, downs-go}
use Rattle.configuration.proofs.Turns.{at-end, at-stop, at_turn}
use Rattle.configuration.proofs.section.read_downs.Goals as goal

pub returns-in_err-read : goal.returns-in_err-read
returns-in_err-read c =
    let p = err_from_is_err_and c.from_residual.result c.from_residual.ensures.1 in
    let bad : c.in_err-read.field-0.0 ≡ record { 0 = c.loop-line.line } = grind arith in
    rw (p.1, p.2, bad)
    (at-stop c.loop-line.invariant.1 (omega arith)
    (downs-wrong _ (told (line-is c.args.s.now c.loop-line.at down_line c.down_line.ensures.is) c.in_err-read.ensures.ok_part)))

pub returns-then-not-down_allowed : goal.returns-then-not-down_allowed
returns-then-not-down_allowed c =
    let some = c.in_ok-read.ensures.ok_part in
    at-stop c.loop-line.invariant.1 (omega arith)
    (downs-refused _ (told (line-is c.args.s.now c.loop-line.at down_line c.down_line.ensures.is) some)
    (told c.down_allowed.ensures c.if-not-down_allowed.true))

pub loop-line-preserved : goal.loop-line-preserved
loop-line-preserved c =
    let some = c.in_ok-read.ensures.ok_part in (
      length-set c.loop-line.of _ true ∙ c.loop-line.invariant.0,
      at_turn c.loop-line.invariant.1 (omega arith)
          (downs-go _ (told (line-is c.args.s.now c.loop-line.at down_line c.down_line.ensures.is) some)
          (told c.down_allowed.ensures c.if-not-down_allowed.false))
          (line-fits c.args.s.now c.loop-line.at down_fits c.down_line.ensures.fits some).2,
    )

pub returns : goal.returns
returns c = at-end c.loop-line.invariant.1 (omega arith) (omega arith)
