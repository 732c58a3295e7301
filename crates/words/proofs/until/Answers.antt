-- `words::until` meets its contract: the bytes before its place are the others that lead. Assumes nothing.
use Rattle.std.proofs.Common.{rules, arith, tests, ◌∙◌, eqb}
use Rattle.std.proofs.lemmas.Iterator.{YieldsList-from_slice}
use Rattle.std.proofs.lemmas.Iterator.Search.{position_from_yields_List}
use Rattle.words.proofs.WordLaws.{place-or-end}
use Rattle.words.proofs.until.Goals as goal

-- what is answered is compared as a number, so that one more is refused for its value and not for how it is written
pub returns : goal.returns
returns c =
    let place = c.unwrap_or.ensures
    ∙ place-or-end (λ x. eqb x c.args.b) c.args.s.now c.position.result
    (position_from_yields_List (λ x. eqb x c.args.b) _ _ _ c.position.ensures.ran (YieldsList-from_slice c.args.s.now cc)
    (λ x b q k. search (rules, tests))) in
    omega (arith, place)
