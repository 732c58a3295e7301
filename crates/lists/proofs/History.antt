-- The code's outcomes are the steps of the rules: a history of calls of the code is a history of the rules, so that
-- demand 3, the codes and the invariants, which are of any history of the rules, are of the code. Assumes nothing.
use Rattle.std.proofs.Common.{Err, Ok}
use mathlib.Core.Path.{◌≡◌, refl, subst}
use mathlib.Core.List.{List, [], ◌∷◌}
use Rattle.packets.specs.History.{Event, Leads}
use Rattle.packets.specs.Rules.{Call, Do, Take, accept, decided, refusal, step}
use Rattle.packets.proofs.ByNumber.{Complete, End, Return, Start, Submit}
use Rattle.packets.specs.declared.Act.TheVariants as Act'
use Rattle.packets.specs.State.{State}
use Rattle.packets.specs.declared.Lists.{Lists}
use Rattle.packets.specs.State.{Verdict}
use Rattle.packets_queue.proofs.PaddedLaws.{list-padded}
use Rattle.lists.specs.Outcomes.{leaves, lists_of, outcome, settled, state_of}

-- the rules' state of what the code holds of a state
pub state-of : (s : State) → state_of (lists_of s) ≡ s
state-of s = rw (list-padded s.queue)

leaves-is : (r : Lists) (x : Call) → state_of (leaves r x) ≡ accept (state_of r) x
unfolding accept
leaves-is r (Take j asg) = refl
leaves-is r (Do (Act'.Submit j p f c w)) = state-of (accept (state_of r) (Submit j p f c.0 w))
leaves-is r (Do (Act'.Start c)) = state-of (accept (state_of r) (Start c.0))
leaves-is r (Do (Act'.Complete c how)) = state-of (accept (state_of r) (Complete c.0 how))
leaves-is r (Do (Act'.End j e)) = state-of (accept (state_of r) (End j e))
leaves-is r (Do (Act'.Return j c u)) = state-of (accept (state_of r) (Return j c.0 u.0))
leaves-is r (Do (Act'.Mark c u m on)) = refl

-- one call: the rules' answer, and the rules' state
pub outcome-is : (r : Lists) (x : Call)
    → ((outcome r x).answer ≡ (step (state_of r) x).answer) × (state_of (outcome r x).lists ≡ (step (state_of r) x).state)
unfolding outcome step
outcome-is r x = go (refusal (state_of r) x)
  where
    go : (v : Verdict) → ((settled r x v).answer ≡ (decided (state_of r) x v).answer) × (state_of (settled r x v).lists ≡ (decided (state_of r) x v).state)
    go (Ok u) = (refl, leaves-is r x)
    go (Err n) = (refl, refl)

-- the calls of the code one after the other: the state then, and each call with its answer
unfoldable pub runs : Lists → List Call → Lists
runs r [] = r
runs r (x ∷ l) = runs (outcome r x).lists l

unfoldable pub happened : Lists → List Call → List Event
happened r [] = []
happened r (x ∷ l) = record { call = x; answer = (outcome r x).answer } ∷ happened (outcome r x).lists l

-- they lead, by the rules, from what the code held to what it then holds
pub happened-leads : (r : Lists) (l : List Call) → Leads (state_of r) (happened r l) (state_of (runs r l))
unfolding runs happened
happened-leads r [] = refl
happened-leads r (x ∷ l) = (
  (outcome-is r x).0,
  subst (λ (s : State). Leads s (happened (outcome r x).lists l) (state_of (runs (outcome r x).lists l))) (outcome-is r x).1
      (happened-leads (outcome r x).lists l),
)
