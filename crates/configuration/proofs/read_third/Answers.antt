-- `configuration::read_third` meets its contract. Each answer is a case of proofs/Whole.antt. Assumes nothing.
use Rattle.std.proofs.Common.{◌≡◌, arith}
use Rattle.std.proofs.lemmas.Result.{err_from_is_err_and}
use Rattle.numbers.specs.Limits.{most_codes}
use Rattle.configuration.proofs.Within.{number-at, no-number-at, within-at}
use Rattle.configuration.proofs.Whole.{no-codes, bad-codes, more-follows, nothing-follows}
use Rattle.configuration.proofs.read_third.Goals as goal

pub returns-in_err-n : goal.returns-in_err-n
returns-in_err-n c =
    let p = err_from_is_err_and c.from_residual.result c.from_residual.ensures.1 in
    let bad : c.in_err-n.field-0.0 ≡ record { 0 = c.args.line } = grind arith in
    rw (p.1, p.2, bad) (no-codes c.args.s.now c.args.line c.args.at (no-number-at 0 most_codes c.args.s.now c.args.at c.last_number.ensures c.in_err-n.ensures.ok_part))

pub overflow_add-at : goal.overflow_add-at
overflow_add-at c = record { fits = omega (arith, within-at 0 most_codes c.args.s.now c.args.at c.last_number.ensures c.in_ok-n.ensures.ok_part (omega arith)) }

pub read_codes-requires : goal.read_codes-requires
read_codes-requires c = (within-at 0 most_codes c.args.s.now c.args.at c.last_number.ensures c.in_ok-n.ensures.ok_part (omega arith), omega arith)

pub returns-in_err-third : goal.returns-in_err-third
returns-in_err-third c =
    let p = err_from_is_err_and c.from_residual-in_err-third.result c.from_residual-in_err-third.ensures.1 in
    rw (p.1, p.2) (bad-codes c.args.s.now c.args.line c.args.at (number-at 0 most_codes c.args.s.now c.args.at c.last_number.ensures c.in_ok-n.ensures.ok_part) c.in_err-third.ensures)

pub returns-then-third-s : goal.returns-then-third-s
returns-then-third-s c =
    more-follows c.args.s.now c.args.line c.args.at (number-at 0 most_codes c.args.s.now c.args.at c.last_number.ensures c.in_ok-n.ensures.ok_part) c.in_ok-third.ensures
    c.if-third-s.true

pub returns : goal.returns
returns c =
    nothing-follows c.args.s.now c.args.line c.args.at (number-at 0 most_codes c.args.s.now c.args.at c.last_number.ensures c.in_ok-n.ensures.ok_part) c.in_ok-third.ensures
    c.if-third-s.false
