-- `cards_full::check::further_error` meets its contract, in order. Assumes nothing.
use mathlib.Core.Path.{◌≡◌, sym, ◌∙◌}
use Rattle.std.specs.Prelude.{Err}
use Rattle.std.proofs.lemmas.Result.{err_from_is_err_and}
use Rattle.cards_fields.specs.Deck.{cards_of}
use Rattle.cards_request.proofs.ErrorLaws.{or-else-good}
use Rattle.cards_further.specs.Further.{types_error}
use Rattle.cards_full.specs.Full.{further_error}
use Rattle.cards_full.proofs.check.further_error.Goals as goal

pub returns-in_err-types_error : goal.returns-in_err-types_error
unfolding further_error
returns-in_err-types_error c =
    let p = err_from_is_err_and c.from_residual.result c.from_residual.ensures.1 in
    let a : types_error (cards_of c.args.cards.now) ≡ Err c.in_err-types_error.field-0.0 = sym c.types_error.ensures ∙ c.in_err-types_error.was in
    rw (p.1, p.2, a)

pub returns-in_err-together_error : goal.returns-in_err-together_error
unfolding further_error
returns-in_err-together_error c =
    let p = err_from_is_err_and c.from_residual-in_err-together_error.result c.from_residual-in_err-together_error.ensures.1 in
    rw (
      p.1,
      p.2,
      sym c.types_error.ensures ∙ c.in_ok-types_error.was,
      sym c.together_error.ensures ∙ c.in_err-together_error.was,
    )

pub returns : goal.returns
unfolding further_error
returns c =
    rw (
      sym c.types_error.ensures ∙ c.in_ok-types_error.was,
      sym c.together_error.ensures ∙ c.in_ok-together_error.was,
      ← c.contents_error.ensures,
    ) (sym (or-else-good c.contents_error.result))
