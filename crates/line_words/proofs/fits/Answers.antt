-- `line_words::fits` meets its contract. The loop's invariant: the words passed fit, so those from `at` and `on` on
-- tell. Assumes nothing.
use mathlib.Core.Path.{sym, ◌∙◌}
use native.Mathlib.Omega.{arith}
use Rattle.line_words.proofs.SplitLaws.{fit-not, fit-last, fit-short, fit-more, word}
use Rattle.line_words.proofs.fits.Goals as goal

pub overflow_add-end : goal.overflow_add-end
overflow_add-end c =
    let w = (word c.args.line.now c.loop-at.at c.loop-at.invariant.0.0 c.until-len.result c.until-len.ensures) in
    omega arith

pub overflow_add-stop : goal.overflow_add-stop
overflow_add-stop c =
    let f = (word c.args.form.now c.loop-at.on c.loop-at.invariant.0.1 c.until-size.result c.until-size.ensures) in
    omega arith

pub returns-then-not-word_fits : goal.returns-then-not-word_fits
returns-then-not-word_fits c =
    fit-not c.args.line.now c.args.form.now c.loop-at.at c.until-len.result c.loop-at.on c.until-size.result
    (word c.args.line.now c.loop-at.at c.loop-at.invariant.0.0 c.until-len.result c.until-len.ensures)
    (word c.args.form.now c.loop-at.on c.loop-at.invariant.0.1 c.until-size.result c.until-size.ensures)
    (sym c.word_fits.ensures ∙ c.if-not-word_fits.true)
    ∙ c.loop-at.invariant.1

pub returns-then-end-line : goal.returns-then-end-line
returns-then-end-line c =
    fit-last c.args.line.now c.args.form.now c.loop-at.at c.until-len.result c.loop-at.on c.until-size.result
    (word c.args.line.now c.loop-at.at c.loop-at.invariant.0.0 c.until-len.result c.until-len.ensures)
    (word c.args.form.now c.loop-at.on c.loop-at.invariant.0.1 c.until-size.result c.until-size.ensures)
    (sym c.word_fits.ensures ∙ c.if-not-word_fits.false) c.if-end-line.true
    ∙ c.loop-at.invariant.1

pub returns-then-stop-form : goal.returns-then-stop-form
returns-then-stop-form c =
    fit-short c.args.line.now c.args.form.now c.loop-at.at c.until-len.result c.loop-at.on c.until-size.result
    (word c.args.line.now c.loop-at.at c.loop-at.invariant.0.0 c.until-len.result c.until-len.ensures)
    (word c.args.form.now c.loop-at.on c.loop-at.invariant.0.1 c.until-size.result c.until-size.ensures)
    (sym c.word_fits.ensures ∙ c.if-not-word_fits.false) c.if-end-line.false c.if-stop-form.true
    ∙ c.loop-at.invariant.1

pub overflow_add-at : goal.overflow_add-at
overflow_add-at c =
    let w = (word c.args.line.now c.loop-at.at c.loop-at.invariant.0.0 c.until-len.result c.until-len.ensures) in
    omega arith

pub overflow_add-on : goal.overflow_add-on
overflow_add-on c =
    let f = (word c.args.form.now c.loop-at.on c.loop-at.invariant.0.1 c.until-size.result c.until-size.ensures) in
    omega arith

pub loop-at-smaller : goal.loop-at-smaller
loop-at-smaller c =
    let w = (word c.args.line.now c.loop-at.at c.loop-at.invariant.0.0 c.until-len.result c.until-len.ensures) in
    omega arith

pub loop-at-preserved : goal.loop-at-preserved
loop-at-preserved c =
    let w = (word c.args.line.now c.loop-at.at c.loop-at.invariant.0.0 c.until-len.result c.until-len.ensures) in
    let f = (word c.args.form.now c.loop-at.on c.loop-at.invariant.0.1 c.until-size.result c.until-size.ensures) in (
      (omega arith, omega arith),
      fit-more c.args.line.now c.args.form.now c.loop-at.at c.until-len.result c.loop-at.on c.until-size.result w f
          (sym c.word_fits.ensures ∙ c.if-not-word_fits.false) c.if-end-line.false c.if-stop-form.false
          ∙ c.loop-at.invariant.1,
    )

pub slice_bounds-word_fits-end : goal.slice_bounds-word_fits-end
slice_bounds-word_fits-end c =
    let w = (word c.args.line.now c.loop-at.at c.loop-at.invariant.0.0 c.until-len.result c.until-len.ensures) in
    omega arith

pub slice_bounds-word_fits-end-in-loop-at : goal.slice_bounds-word_fits-end-in-loop-at
slice_bounds-word_fits-end-in-loop-at c =
    let f = (word c.args.form.now c.loop-at.on c.loop-at.invariant.0.1 c.until-size.result c.until-size.ensures) in
    omega arith
