-- `configuration::section::read_codes` meets its contract. The loop's invariant is `At` of proofs/Turns.antt, and that
-- the word so far is below 2 ^ next, so that a code from there on adds its bit. Assumes nothing.
use Rattle.std.proofs.Common.{◌≡◌, arith}
use Rattle.std.proofs.lemmas.Bool.{le-leb, lt-leb}
use Rattle.std.proofs.lemmas.Result.{err_from_is_err_and}
use Rattle.configuration.specs.Lines.{code_line, code_fits}
use Rattle.configuration.proofs.Told.{told}
use Rattle.configuration.proofs.Lent.{line-is, line-fits}
use Rattle.configuration.proofs.AnySection.{codes-wrong, codes-refused, codes-go}
use Rattle.configuration.proofs.Turns.{at-end, at-stop, at_turn}
use Rattle.numbers.proofs.BitLaws.{add-below}
use Rattle.configuration.proofs.Word.{shifted}
use Rattle.configuration.proofs.section.read_codes.Goals as goal

pub returns-in_err-code : goal.returns-in_err-code
returns-in_err-code c =
    let p = err_from_is_err_and c.from_residual.result c.from_residual.ensures.1 in
    let bad : c.in_err-code.field-0.0 ≡ record { 0 = c.loop-line.line } = grind arith in
    rw (p.1, p.2, bad)
    (at-stop c.loop-line.invariant.1 (omega arith)
    (codes-wrong (told (line-is c.args.s.now c.loop-line.at code_line c.code_line.ensures.is) c.in_err-code.ensures.ok_part))).is

pub returns-then-code-next : goal.returns-then-code-next
returns-then-code-next c =
    let some = c.in_ok-code.ensures.ok_part in
    (at-stop c.loop-line.invariant.1 (omega arith)
    (codes-refused (told (line-is c.args.s.now c.loop-line.at code_line c.code_line.ensures.is) some) (lt-leb _ _ c.if-code-next.true))).is

pub loop-line-preserved : goal.loop-line-preserved
loop-line-preserved c =
    let some = c.in_ok-code.ensures.ok_part in
    let fits = line-fits c.args.s.now c.loop-line.at code_fits c.code_line.ensures.fits some in
    let shift = shifted c.in_ok-code.code fits.0 in (
      (
        rw shift (add-below c.loop-line.of c.loop-line.next c.in_ok-code.code c.loop-line.invariant.0.0 c.if-code-next.false),
        omega (arith, fits),
      ),
      rw shift
          (at_turn c.loop-line.invariant.1 (omega arith)
          (codes-go (told (line-is c.args.s.now c.loop-line.at code_line c.code_line.ensures.is) some) (le-leb _ _ c.if-code-next.false))
          fits.1),
    )

pub returns : goal.returns
returns c = (at-end c.loop-line.invariant.1 (omega arith) (omega arith)).is
