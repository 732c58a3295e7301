-- `keyboard::read` meets its contract: each answer by the tests that led there. Assumes nothing.
use mathlib.Core.Path.{sym, ◌∙◌}
use Rattle.keyboard.specs.Messages.{message_of}
use Rattle.keyboard.proofs.read.Goals as goal

pub returns-then-is_message : goal.returns-then-is_message
unfolding message_of
returns-then-is_message c =
    c.message_of.ensures ∙ rw (c.on_unit.ensures, sym c.is_message.ensures ∙ c.if-is_message.true)

pub returns-then-is_message-2 : goal.returns-then-is_message-2
unfolding message_of
returns-then-is_message-2 c =
    c.message_of-then-is_message-2.ensures ∙ rw (
      c.on_unit-then-is_message-2.ensures,
      sym c.is_message.ensures ∙ c.if-is_message.false,
      sym c.is_message-2.ensures ∙ c.if-is_message-2.true,
    )

pub returns-then-is_message-3 : goal.returns-then-is_message-3
unfolding message_of
returns-then-is_message-3 c =
    c.message_of-then-is_message-3.ensures ∙ rw (
      c.on_request.ensures,
      c.word_at.ensures,
      sym c.is_message.ensures ∙ c.if-is_message.false,
      sym c.is_message-2.ensures ∙ c.if-is_message-2.false,
      sym c.is_message-3.ensures ∙ c.if-is_message-3.true,
    )

pub returns-then-is_message-4 : goal.returns-then-is_message-4
unfolding message_of
returns-then-is_message-4 c =
    c.message_of-then-is_message-4.ensures ∙ rw (
      c.on_request-then-is_message-4.ensures,
      c.word_at-then-is_message-4.ensures,
      sym c.is_message.ensures ∙ c.if-is_message.false,
      sym c.is_message-2.ensures ∙ c.if-is_message-2.false,
      sym c.is_message-3.ensures ∙ c.if-is_message-3.false,
      sym c.is_message-4.ensures ∙ c.if-is_message-4.true,
    )

pub returns : goal.returns
unfolding message_of
returns c =
    c.message_of-2.ensures ∙ rw (
      sym c.is_message.ensures ∙ c.if-is_message.false,
      sym c.is_message-2.ensures ∙ c.if-is_message-2.false,
      sym c.is_message-3.ensures ∙ c.if-is_message-3.false,
      sym c.is_message-4.ensures ∙ c.if-is_message-4.false,
    )
