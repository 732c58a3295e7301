-- `cards_group::read_group` meets its contract: its first two cards, how many there are, and the rest. Assumes nothing.
use mathlib.Core.Path.{◌≡◌, sym, ap, ◌∙◌}
use Rattle.std.specs.Prelude.{Err}
use Rattle.cards_fields.specs.Deck.{cards_of}
use Rattle.cards_fields.proofs.Groups.{behind-cards}
use Rattle.cards_request.specs.declared.CardError.{CardError}
use Rattle.cards_request.specs.declared.Request.{Request}
use Rattle.cards_group.specs.declared.Reading.{Reading}
use Rattle.cards_group.specs.Group.{read_cards, read_group}
use Rattle.cards_group.specs.Steps.{reading_of}
use Rattle.cards_group.proofs.read_group.Goals as goal

-- an error beside a request
abbrev alone : CardError → Request → Reading
alone e r = record { verdict = Err e; request = r }

pub returns-in-Ok : goal.returns-in-Ok
returns-in-Ok c =
    let e : read_cards c.card_count-n.result c.card_at-pty.result.now c.card_at-fac.result.now (cards_of c.behind-rest.result.now)
    ≡ read_group (cards_of c.args.group.now) = cc (ap cards_of c.behind-rest.ensures ∙ behind-cards c.args.group.now 2) in
    ap reading_of (sym c.in-Ok.is) ∙ c.read_cards.ensures ∙ e

pub returns-in-Err : goal.returns-in-Err
returns-in-Err c =
    let e : read_cards c.card_count-n.result c.card_at-pty.result.now c.card_at-fac.result.now (cards_of c.behind-rest.result.now)
    ≡ read_group (cards_of c.args.group.now) = cc (ap cards_of c.behind-rest.ensures ∙ behind-cards c.args.group.now 2) in
    ap (alone c.in-Err.error) c.no_request.ensures ∙ ap reading_of (sym c.in-Err.is) ∙ c.read_cards.ensures ∙ e
