-- `cards_pty::priority_of` meets its contract, one law for each way out. Assumes nothing.
use mathlib.Core.Path.{sym, ap, ◌∙◌}
use native.Mathlib.Omega.{arith}
use Rattle.std.proofs.lemmas.Bool.Decides.{nat_tests}
use lib.ListN.{take}
use lib.Seq.{length-take-le}
use Rattle.words.proofs.WordLaws.{number_short}
use Rattle.cards_fields.proofs.FieldLaws.{rest-is}
use Rattle.cards_pty.specs.Pty.{ranked}
use Rattle.cards_pty.proofs.PriorityLaws.{letter-some, lettered, short, no-digits, sequence-low, sequence-high, sequenced}
use Rattle.cards_pty.proofs.priority_of.Goals as goal

pub slice_bounds-rank-count : goal.slice_bounds-rank-count
slice_bounds-rank-count c =
    letter-some c.args.t.now (rw c.byte_at-first.ensures at (sym c.is_letter.ensures ∙ c.if-is_letter.true))

pub slice_bounds-rank-start : goal.slice_bounds-rank-start
slice_bounds-rank-start c = slice_bounds-rank-count c

pub returns-then-is_letter : goal.returns-then-is_letter
returns-then-is_letter c =
    c.rank.ensures ∙ rw (c.byte_at-first.ensures, rest-is c.args.t.now 1)
    (sym (lettered c.args.t.now (rw c.byte_at-first.ensures at (sym c.is_letter.ensures ∙ c.if-is_letter.true))))

pub returns-then-t-lt3 : goal.returns-then-t-lt3
returns-then-t-lt3 c = grind (arith, nat_tests, c.byte_at-first.ensures, short, no-digits)

pub returns-then-sequence-lt1 : goal.returns-then-sequence-lt1
returns-then-sequence-lt1 c = grind (arith, nat_tests, c.byte_at-first.ensures, number_short, length-take-le, sequence-low, sequence-high)

pub returns : goal.returns
returns c =
    c.rank-2.ensures ∙ ap (ranked _ _) (rest-is c.args.t.now 3)
    ∙ sym (sequenced c.args.t.now (rw c.byte_at-first.ensures at (sym c.is_letter.ensures ∙ c.if-is_letter.false)) (sym c.all_of.ensures ∙ c.if-not-all_of.false) c.number-sequence.result
    (c.number-sequence.ensures ∙ number_short (take 2 c.args.t.now) (omega (arith, length-take-le 2 c.args.t.now (omega (arith, c)))))
    (omega arith) (omega arith))
