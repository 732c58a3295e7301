-- `configuration::read` meets its contract. Each answer is a case of proofs/Whole.antt. Assumes nothing.
use Rattle.std.proofs.Common.{◌≡◌, arith}
use Rattle.std.proofs.lemmas.Result.{err_from_is_err_and}
use Rattle.configuration.proofs.Told.{told}
use Rattle.configuration.proofs.Within.{last_within, number-at, no-number-at, within-at}
use Rattle.configuration.proofs.Whole.{no-count, bad-first, no-downs, bad-second, bad-third, all_read}
use Rattle.configuration.proofs.read.Goals as goal

pub returns-in_err-n : goal.returns-in_err-n
returns-in_err-n c =
    let p = err_from_is_err_and c.from_residual.result c.from_residual.ensures.1 in
    let bad : c.in_err-n.field-0.0 ≡ record { 0 = 1 } = grind arith in
    rw (p.1, p.2, bad) (no-count c.args.s.now (told c.last_number.ensures c.in_err-n.ensures.ok_part))

pub read_channels-requires : goal.read_channels-requires
read_channels-requires c = last_within 0 16 c.args.s.now (told c.last_number.ensures c.in_ok-n.ensures.ok_part)

pub returns-in_err-first : goal.returns-in_err-first
returns-in_err-first c =
    let p = err_from_is_err_and c.from_residual-in_err-first.result c.from_residual-in_err-first.ensures.1 in
    rw (p.1, p.2) (bad-first c.args.s.now (told c.last_number.ensures c.in_ok-n.ensures.ok_part) c.in_err-first.ensures.is)

pub returns-in_err-m : goal.returns-in_err-m
returns-in_err-m c =
    let p = err_from_is_err_and c.from_residual-in_err-m.result c.from_residual-in_err-m.ensures.1 in
    let bad : c.in_err-m.field-0.0 ≡ record { 0 = c.in_ok-first.first.line } = grind arith in
    rw (p.1, p.2, bad)
    (no-downs c.args.s.now (told c.last_number.ensures c.in_ok-n.ensures.ok_part) c.in_ok-first.ensures.is
    (no-number-at 0 256 c.args.s.now c.in_ok-first.first.at c.last_number-2.ensures c.in_err-m.ensures.ok_part))

pub overflow_add-at : goal.overflow_add-at
overflow_add-at c =
    record { fits = omega (arith, within-at 0 256 c.args.s.now c.in_ok-first.first.at c.last_number-2.ensures c.in_ok-m.ensures.ok_part c.in_ok-first.ensures.ends.0) }

pub read_downs-requires : goal.read_downs-requires
read_downs-requires c = (
  within-at 0 256 c.args.s.now c.in_ok-first.first.at c.last_number-2.ensures c.in_ok-m.ensures.ok_part c.in_ok-first.ensures.ends.0,
  omega (arith, c.in_ok-first.ensures.ends.1),
)

pub returns-in_err-second : goal.returns-in_err-second
returns-in_err-second c =
    let p = err_from_is_err_and c.from_residual-in_err-second.result c.from_residual-in_err-second.ensures.1 in
    rw (p.1, p.2)
    (bad-second c.args.s.now (told c.last_number.ensures c.in_ok-n.ensures.ok_part) c.in_ok-first.ensures.is
    (number-at 0 256 c.args.s.now c.in_ok-first.first.at c.last_number-2.ensures c.in_ok-m.ensures.ok_part) c.in_err-second.ensures.is)

pub returns-in_err-third : goal.returns-in_err-third
returns-in_err-third c =
    let p = err_from_is_err_and c.from_residual-in_err-third.result c.from_residual-in_err-third.ensures.1 in
    rw (p.1, p.2)
    (bad-third c.args.s.now (told c.last_number.ensures c.in_ok-n.ensures.ok_part) c.in_ok-first.ensures.is
    (number-at 0 256 c.args.s.now c.in_ok-first.first.at c.last_number-2.ensures c.in_ok-m.ensures.ok_part) c.in_ok-second.ensures.is c.in_err-third.ensures)

pub returns : goal.returns
returns c =
    all_read c.args.s.now (told c.last_number.ensures c.in_ok-n.ensures.ok_part) c.in_ok-first.ensures.is
    (number-at 0 256 c.args.s.now c.in_ok-first.first.at c.last_number-2.ensures c.in_ok-m.ensures.ok_part) c.in_ok-second.ensures.is c.in_ok-third.ensures
