-- `shift_script::read_line` meets its contract: each answer by the tests that led there. Assumes nothing.
use mathlib.Core.Path.{sym, ◌∙◌}
use lib.ListN.{length}
use borrow.Author.Tests.{lt-ltb, le-ltb}
use Rattle.shift_script.specs.Script.{line_says}
use Rattle.shift_script.proofs.read_line.Goals as goal

pub returns-then-line-gt255 : goal.returns-then-line-gt255
unfolding line_says
returns-then-line-gt255 c = c.plain.ensures ∙ rw (lt-ltb 255 (length c.args.line.now) c.if-line-gt255.true)

pub returns-then-is_echo : goal.returns-then-is_echo
unfolding line_says
returns-then-is_echo c =
    c.plain-then-is_echo.ensures ∙ rw (le-ltb 255 (length c.args.line.now) c.if-line-gt255.false, sym c.is_echo.ensures ∙ c.if-is_echo.true)

pub returns-then-is_key : goal.returns-then-is_key
unfolding line_says
returns-then-is_key c =
    c.plain-then-is_key.ensures ∙ rw (
      le-ltb 255 (length c.args.line.now) c.if-line-gt255.false,
      sym c.is_echo.ensures ∙ c.if-is_echo.false,
      sym c.is_key.ensures ∙ c.if-is_key.true,
    )

pub returns : goal.returns
unfolding line_says
returns c =
    c.on_packets.ensures ∙ rw (
      le-ltb 255 (length c.args.line.now) c.if-line-gt255.false,
      sym c.is_echo.ensures ∙ c.if-is_echo.false,
      sym c.is_key.ensures ∙ c.if-is_key.false,
    )
