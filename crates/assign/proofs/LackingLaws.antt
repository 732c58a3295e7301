-- THE THEOREM: an assignment exists exactly when nothing is lacking. In an assignment each part has a solution; and
-- where each has one, the assigner's answer is an assignment. Assumes nothing.
use Rattle.std.specs.Prelude.{Option, Some, None}
use Rattle.assign.specs.declared.Part.{Part}
use mathlib.Core.Path.{◌≡◌}
use lib.ListN.{length}
use Rattle.cards_request.specs.Requests.{counts}
use Rattle.cards_request.specs.declared.Facilities.{Facilities}
use Rattle.assign.specs.declared.Assigned.{Assigned}
use Rattle.assign.specs.declared.Provision.{Provision}
use Rattle.assign.specs.Assignment.{Supply, IsAssignment}
use Rattle.assign.specs.Parts.{parts, FirstLacking, Has}
use Rattle.assign.specs.Chosen.{Answer, Assigns, Chosen, ExistsExactly}
use Rattle.assign.proofs.FirstLaws.{first_one, not-nothing}
use Rattle.assign.proofs.ChosenLaws.{all_there}
use Rattle.assign.proofs.Computed.{assign_of, assign-answers}

module _ (supply : Supply) (wanted : Facilities) where
  -- where nothing is lacking the assigner's answer is the chosen assignment
  pub chosen-when : FirstLacking supply wanted None → (r : Provision) → Assigns supply wanted r → Chosen supply wanted r.assigned
  chosen-when f r = by_answer r.lacking
    where
      by_answer : (l : Option Part) → Answer l supply wanted r.assigned → Chosen supply wanted r.assigned
      by_answer None p = p
      by_answer (Some x) p = absurd (not-nothing (first_one (Has supply wanted) parts None (Some x) f p.0))

  -- so there is an assignment
  pub exists-when : length supply.channels ≡ 16 → length wanted.units ≡ counts → FirstLacking supply wanted None
      → (b : Assigned) × IsAssignment supply wanted b
  exists-when size full f = ((assign_of supply wanted).assigned, (chosen-when f (assign_of supply wanted) (assign-answers supply wanted size full)).is)

pub exists-exactly : ExistsExactly
exists-exactly = record { only = all_there; when = exists-when }
