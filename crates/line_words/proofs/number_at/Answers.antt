-- `line_words::number_at` meets its contract: what the digits of the word write, or 0. Assumes nothing.
use Prim.Native.Nat.{ℕ}
use mathlib.Core.Path.{sym, ap, ◌∙◌}
use native.Mathlib.Omega.{arith}
use Rattle.line_words.specs.Forms.{number_in, value_in}
use Rattle.line_words.proofs.FormLaws.{base-small, number_is, number-value, no_number}
use Rattle.line_words.proofs.number_at.Goals as goal

pub returns-then-not-is_number : goal.returns-then-not-is_number
returns-then-not-is_number c =
    sym (no_number c.args.base c.word_at-word.result.now (sym c.is_number.ensures ∙ c.if-not-is_number.true))
    ∙ ap (number_in c.args.base) c.word_at-word.ensures

pub value_of-requires : goal.value_of-requires
value_of-requires c =
    let n = number_is _ _ (sym c.is_number.ensures ∙ c.if-not-is_number.false) in
    (omega (arith, base-small c.args.base), (n.few, n.all))

pub returns : goal.returns
returns c =
    c.value_of.ensures ∙ ap (λ (b : ℕ). value_in b 0 c.word_at-word.result.now) c.base_of.ensures
    ∙ sym (number-value c.args.base c.word_at-word.result.now (sym c.is_number.ensures ∙ c.if-not-is_number.false))
    ∙ ap (number_in c.args.base) c.word_at-word.ensures
