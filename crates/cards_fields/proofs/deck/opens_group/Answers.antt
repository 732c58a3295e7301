-- `cards_fields::deck::opens_group` meets its contract: the first card is the text up to its first LF. Assumes
-- nothing.
use mathlib.Core.Path.{sym, ◌∙◌}
use native.Mathlib.Omega.{arith}
use lib.ListN.{length}
use borrow.Author.Tests.{eq-eqb}
use lib.Seq.{length-take-le}
use Rattle.words.specs.Words.{isnt}
use Rattle.words.proofs.WordLaws.{leading-most}
use Rattle.cards_fields.proofs.DeckLaws.{opens-none, opens-first}
use Rattle.cards_fields.proofs.deck.opens_group.Goals as goal

pub returns-then-len-rest : goal.returns-then-len-rest
returns-then-len-rest c =
    rw (eq-eqb c.card_len-len.result (length c.args.rest.now) c.if-len-rest.true)
    (sym (opens-none c.args.rest.now c.card_len-len.result c.card_len-len.ensures c.if-len-rest.true))

pub slice_bounds-field_is-end : goal.slice_bounds-field_is-end
slice_bounds-field_is-end c =
    sym (length-take-le c.card_len-len.result c.args.rest.now (omega (arith, leading-most (isnt 10) c.args.rest.now)))

pub returns-else-len-rest : goal.returns-else-len-rest
returns-else-len-rest c =
    c.field_is.ensures ∙ sym (opens-first c.args.rest.now c.card_len-len.result c.card_len-len.ensures c.if-len-rest.false)
