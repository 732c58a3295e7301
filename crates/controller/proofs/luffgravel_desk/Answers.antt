-- `controller::luffgravel_desk` meets its contract: by the deck that has the group. Assumes nothing.
use Rattle.std.proofs.Common.{Ok, Err}
use mathlib.Core.Path.{refl}
use Rattle.controller.proofs.ExportsLaws.{located}
use Rattle.controller.proofs.luffgravel_desk.Goals as goal

pub returns-in-Ok : goal.returns-in-Ok
returns-in-Ok c = located c.find-found.result c.find-found.ensures (Ok c.in-Ok.which) c.in-Ok.is refl c.deck_number.ensures refl refl

pub returns-in-Err : goal.returns-in-Err
returns-in-Err c =
    located c.find-found.result c.find-found.ensures (Err c.in-Err.refusal) c.in-Err.is c.number_of.ensures refl refl refl
