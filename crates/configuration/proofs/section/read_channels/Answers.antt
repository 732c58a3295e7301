-- `configuration::section::read_channels` meets its contract. The loop's invariant is `At` of proofs/Turns.antt.
-- Assumes nothing.
use Rattle.std.proofs.Common.{◌≡◌, ◌∙◌, arith, length-set}
use Rattle.std.proofs.lemmas.Result.{err_from_is_err_and}
use Rattle.configuration.specs.Lines.{channel_line, channel_fits}
use Rattle.configuration.proofs.Told.{told}
use Rattle.configuration.proofs.Lent.{line-is, line-fits}
use Rattle.configuration.proofs.AnySection.{channels-wrong, channels-refused, channels-go}
use Rattle.configuration.proofs.Turns.{at-end, at-stop, at_turn}
use Rattle.configuration.proofs.section.read_channels.Goals as goal

pub returns-in_err-read : goal.returns-in_err-read
returns-in_err-read c =
    let p = err_from_is_err_and c.from_residual.result c.from_residual.ensures.1 in
    let bad : c.in_err-read.field-0.0 ≡ record { 0 = c.loop-line.line } = grind arith in
    rw (p.1, p.2, bad)
    (at-stop c.loop-line.invariant.1 (omega arith)
    (channels-wrong (told (line-is c.args.s.now c.loop-line.at channel_line c.channel_line.ensures.is) c.in_err-read.ensures.ok_part)))

pub returns-then-not-channel_allowed : goal.returns-then-not-channel_allowed
returns-then-not-channel_allowed c =
    let some = c.in_ok-read.ensures.ok_part in
    at-stop c.loop-line.invariant.1 (omega arith)
    (channels-refused (told (line-is c.args.s.now c.loop-line.at channel_line c.channel_line.ensures.is) some)
    (told c.channel_allowed.ensures c.if-not-channel_allowed.true))

pub loop-line-preserved : goal.loop-line-preserved
loop-line-preserved c =
    let some = c.in_ok-read.ensures.ok_part in (
      length-set c.loop-line.of _ _ ∙ c.loop-line.invariant.0,
      rw c.is_drum-drum.ensures
          (at_turn c.loop-line.invariant.1 (omega arith)
          (channels-go (told (line-is c.args.s.now c.loop-line.at channel_line c.channel_line.ensures.is) some)
          (told c.channel_allowed.ensures c.if-not-channel_allowed.false))
          (line-fits c.args.s.now c.loop-line.at channel_fits c.channel_line.ensures.fits some).1),
    )

pub returns : goal.returns
returns c = at-end c.loop-line.invariant.1 (omega arith) (omega arith)
