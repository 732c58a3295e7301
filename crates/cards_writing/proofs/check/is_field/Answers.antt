-- `cards_writing::check::is_field` meets its contract: a field of over twelve bytes shows as such. Assumes nothing.
use mathlib.Core.Path.{ap, ◌∙◌}
use Rattle.text.proofs.RoomLaws.{written-length}
use Rattle.cards_request.specs.Errors.{good}
use Rattle.cards_writing.proofs.CheckLaws.{field_put}
use Rattle.cards_writing.proofs.check.is_field.Goals as goal

pub slice_bounds-field_error-end : goal.slice_bounds-field_error-end
slice_bounds-field_error-end c = written-length c.put_field.ensures.written

pub returns : goal.returns
returns c =
    c.is_good.ensures ∙ ap good (c.field_error.ensures ∙ field_put c.args.k c.put_field.ensures.written)
