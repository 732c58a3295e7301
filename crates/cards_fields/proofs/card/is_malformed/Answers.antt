-- `cards_fields::card::is_malformed` meets its contract: its length tested, its period found, every character looked at,
-- and what stands behind the period. Assumes nothing.
use Prim.Native.Nat.{◌+◌}
use mathlib.Core.Path.{sym}
use native.Mathlib.Omega.{arith}
use Rattle.words.specs.Words.{isnt}
use Rattle.words.proofs.WordLaws.{leading-most}
use Rattle.cards_fields.proofs.FieldLaws.{too_long, no_period, by_parts, rest-is}
use Rattle.cards_fields.proofs.card.is_malformed.Goals as goal

pub returns-then-card-gt-CARD_LENGTH : goal.returns-then-card-gt-CARD_LENGTH
returns-then-card-gt-CARD_LENGTH c = sym (too_long c.args.card.now c.if-card-gt-CARD_LENGTH.true)

pub returns-then-end-card : goal.returns-then-end-card
returns-then-end-card c =
    sym (no_period c.args.card.now c.until-end.result c.until-end.ensures c.if-card-gt-CARD_LENGTH.false c.if-end-card.true)

pub overflow_add-end : goal.overflow_add-end
overflow_add-end c = omega (arith, leading-most (isnt 46) c.args.card.now)

pub slice_bounds-all_in-count : goal.slice_bounds-all_in-count
slice_bounds-all_in-count c = omega (arith, leading-most (isnt 46) c.args.card.now)

pub slice_bounds-all_in-start : goal.slice_bounds-all_in-start
slice_bounds-all_in-start c = omega (arith, leading-most (isnt 46) c.args.card.now)

pub returns-then-not-are_card_bytes : goal.returns-then-not-are_card_bytes
returns-then-not-are_card_bytes c = rw (by_parts c.args.card.now c.until-end.result c.until-end.ensures (omega arith) (omega (arith, leading-most (isnt 46) c.args.card.now)), ← c.are_card_bytes.ensures, c.if-not-are_card_bytes.true)

pub returns-else-not-are_card_bytes : goal.returns-else-not-are_card_bytes
returns-else-not-are_card_bytes c =
    rw (by_parts c.args.card.now c.until-end.result c.until-end.ensures (omega arith) (omega (arith, leading-most (isnt 46) c.args.card.now)), ← c.are_card_bytes.ensures, c.if-not-are_card_bytes.false, c.all_in.ensures, rest-is c.args.card.now (c.until-end.result + 1))
