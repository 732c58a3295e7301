-- `cards_pty::is_program_name` meets its contract: a text without a byte has no hyphen first. Assumes nothing.
use mathlib.Core.Path.{sym, ◌∙◌}
use Rattle.cards_pty.proofs.PriorityLaws.{hyphen-first, no-hyphen}
use Rattle.cards_pty.proofs.is_program_name.Goals as goal

pub returns-then-byte_at-eq45 : goal.returns-then-byte_at-eq45
returns-then-byte_at-eq45 c = sym (hyphen-first c.args.t.now (sym c.byte_at.ensures ∙ c.if-byte_at-eq45.true))

pub returns : goal.returns
returns c =
    c.all_of.ensures ∙ sym (no-hyphen c.args.t.now (λ e. c.if-byte_at-eq45.false (c.byte_at.ensures ∙ e)))
