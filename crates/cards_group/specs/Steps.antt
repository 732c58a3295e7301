-- The order of a group's errors in the steps in which the code looks for them. Nothing here has to be believed:
-- proofs/GroupLaws shows that, with the content errors behind them, they are the one order (`Group: ordered_error`).
use Rattle.std.specs.Prelude.{ℕ, ◌||◌, not, Result, Ok, Err, List, [], ◌∷◌}
use Rattle.numbers.specs.Elements.{any}
use Rattle.cards_request.specs.Errors.{error_if, first_of}
use Rattle.cards_pty.specs.Pty.{pty_error}
use Rattle.cards_fac.specs.Fac.{is_fac}
use Rattle.cards_further.specs.Further.{types_error, together_error}
use Rattle.cards_request.specs.Requests.{no_request}
use Rattle.cards_request.specs.declared.Request.{Request}
use Rattle.cards_request.specs.declared.CardError.{CardError}
use Rattle.cards_request.specs.declared.CardError.TheVariants.{WrongCount, NoFac, OtherId}
use Rattle.cards_request.specs.Errors.{CardVerdict}
use Rattle.cards_group.specs.declared.Reading.{Reading}
use Rattle.cards_group.specs.Group.{wrong_count, other_id, answer}

-- the errors up to the second card's type
abbrev pub front_error : ℕ → List ℕ → List ℕ → CardVerdict
front_error n pty fac = first_of (pty_error pty ∷ error_if (wrong_count n pty) WrongCount ∷ error_if (not (is_fac fac)) NoFac ∷ [])

-- those behind them that go by number over the whole group
abbrev pub order_error : List ℕ → List ℕ → List (List ℕ) → CardVerdict
order_error pty fac further =
    first_of (types_error further ∷ error_if (other_id pty fac || any (other_id pty) further) OtherId ∷ together_error further ∷ [])

-- the request, or the first error, as a group reads
abbrev pub reading_of : Result Request CardError → Reading
reading_of (Ok r) = answer (Ok tt) r
reading_of (Err e) = answer (Err e) no_request
