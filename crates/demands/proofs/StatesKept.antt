-- WHAT CALLS LEAVE OF THE STATE OF A PLACE: all but a completion and an end leave that of every live place as it was.
-- Assumes nothing.
use Rattle.std.proofs.Common.{Err, Ok}
use Prim.Native.Nat.{ℕ}
use mathlib.Core.Path.{◌≡◌, refl, sym, ap, subst, ◌∙◌}
use mathlib.Core.Bool.{true, false}
use mathlib.Core.List.{List}
use mathlib.Core.Option.{Option, none, some}
use lib.Dec.{eqb}
use lib.ListN.{get_or, set}
use lib.Seq.{get_or-set_other}
use Rattle.numbers.proofs.Tests.{by_bool, never}
use Rattle.numbers.specs.declared.Refusal.{Refusal}
use Rattle.packets.specs.History as Lists
use Rattle.packets.specs.History.{is_accepted}
use Rattle.packets.proofs.Reaching.{accepted-granted, step-accepted}
use Rattle.numbers.specs.Elements.{find}
use Rattle.packets.specs.Rules as Rules
use Rattle.packets.specs.Rules.{fresh_job, is_done, return_if_done}
use Rattle.packets.specs.State.{State, is_empty, no_job, state_in}
use Rattle.packets.specs.declared.Act.{Act}
use Rattle.packets.specs.declared.Act.TheVariants as Act'
use Rattle.packets.specs.declared.Assignment.{Assignment}
use Rattle.packets.specs.declared.Job.{Job}
use Rattle.packets.specs.declared.Site.TheVariants.{AtUnit}
use Rattle.packets.proofs.States.{states-begun, states-handed, states-returned, states-submit}
use Rattle.packets.proofs.Told.{assigns-to}
use Rattle.cell_selection.specs.Selecting.{assignment_of, taking_of}
use Rattle.cell_selection.specs.declared.Selection.{Selection}
use Rattle.cell.specs.declared.Cell.{Cell}
use Rattle.keyboard.specs.declared.Asked.{Asked}
use Rattle.keyboard.specs.declared.Asked.TheVariants as Asked'
use Rattle.cell_history.proofs.MeantLaws.{Plain, by-meant}
use Rattle.cell_history.proofs.ToldLaws.{does-told}
use Rattle.cell_history.specs.Told.{chosen, done_as, inside}
use Rattle.cell_history.specs.History.{Call, Chosen, Deck, Delete, Do, Does, Entered, Key, Mistyped, Release, Reply, Said, Select, Shown, Status, call_of, meant}
use Rattle.demands.specs.Refusing.{refusal_in}
use Rattle.demands.proofs.Accepted.{accepted-is}
use Rattle.demands.proofs.Standing.{stands}

-- ---- a refused call, or an accepted one

pub by-refusal : (c d : Cell) (x : Call) (reply : Reply) → Does c x reply d → (P : Cell → Type 0) → P c → (refusal_in reply ≡ none → P d) → P d
by-refusal c d x reply h P same f = go (refusal_in reply) refl
  where
    go : (o : Option Refusal) → refusal_in reply ≡ o → P d
    go none e = f e
    go (some n) e = subst P (sym (stands c d x reply n h e)) same

-- ---- the state of a place, call by call

states-taken : (s : State) (j : ℕ) (asg : Assignment) (i : ℕ) → is_empty (state_in s.jobs j) ≡ true → is_empty (state_in s.jobs i) ≡ false
    → state_in (set s.jobs j (fresh_job asg)) i ≡ state_in s.jobs i
unfolding state_in
states-taken s j asg i a b =
    ap (λ (k : Job). k.state)
    (get_or-set_other s.jobs j i (fresh_job asg) no_job (λ e. never (ap (λ (n : ℕ). is_empty (get_or s.jobs n no_job).state) e ∙ a) b))

states-started : (s : State) (k i : ℕ) → state_in (Rules.started s k (find (Rules.startable s k) s.queue)).jobs i ≡ state_in s.jobs i
states-started s k i = go (find (Rules.startable s k) s.queue)
  where
    go : (o : Option ℕ) → state_in (Rules.started s k o).jobs i ≡ state_in s.jobs i
    go none = refl
    go (some e) = states-begun s k e i

-- a return, if the job is done, empties its place and no other
pub states-left : (s : State) (j i : ℕ) → eqb i j ≡ false → state_in (return_if_done j s).jobs i ≡ state_in s.jobs i
states-left s j i n = by_bool (is_done s j) (λ d. rw d (states-returned s j d i ∙ rw n)) (λ d. rw d)

abbrev given : Selection → Assignment
given r = assignment_of r.request.facilities r.assigned

done-keeps : (c : Cell) (r : Selection) (i : ℕ) (s : State) → Lists.Leads (inside c) (done_as (Ok tt) r) s
    → is_empty (state_in (inside c).jobs i) ≡ false → state_in s.jobs i ≡ state_in (inside c).jobs i
unfolding Rules.accept
done-keeps c r i s h a =
    let y = taking_of r in
    let g = accepted-granted (inside c) y (sym (ap is_accepted h.0)) in
    ap (λ (t : State). state_in t.jobs i) (h.1 ∙ ap (λ (z : Rules.Answered). z.state) (step-accepted (inside c) y g))
    ∙ states-taken (inside c) r.place (given r) i (assigns-to (inside c) r.place (given r) g).1 a

select-keeps : (c : Cell) (reply : Reply) (i : ℕ) (s : State) → Lists.Leads (inside c) (chosen reply) s
    → is_empty (state_in (inside c).jobs i) ≡ false → state_in s.jobs i ≡ state_in (inside c).jobs i
select-keeps c (Entered o) i s h a = ap (λ (t : State). state_in t.jobs i) h
select-keeps c (Chosen (Ok u) r) i s h a = done-keeps c r i s h a
select-keeps c (Chosen (Err n) r) i s h a = ap (λ (t : State). state_in t.jobs i) h
select-keeps c (Said x) i s h a = ap (λ (t : State). state_in t.jobs i) h
select-keeps c (Shown x) i s h a = ap (λ (t : State). state_in t.jobs i) h
select-keeps c (Mistyped f) i s h a = ap (λ (t : State). state_in t.jobs i) h

-- what leaves the state of every live place: all calls but completions and ends
abbrev OtherAct : Act → Type 0
OtherAct (Act'.Submit j p f k w) = Unit {0}
OtherAct (Act'.Start k) = Unit {0}
OtherAct (Act'.Complete k how) = ⊥
OtherAct (Act'.End j e) = ⊥
OtherAct (Act'.Return j k u) = Unit {0}
OtherAct (Act'.Mark k u m on) = Unit {0}

abbrev Other : Call → Type 0
Other (Deck bytes) = Unit {0}
Other Select = Unit {0}
Other (Do x) = OtherAct x
Other (Release id) = Unit {0}
Other (Delete id) = Unit {0}
Other (Status j p) = Unit {0}
Other (Key message) = Unit {0}

-- of a message: the call that it asks for
abbrev pub OtherBy : Option Call → Type 0
OtherBy none = Unit {0}
OtherBy (some x) = Other x

pub key-other : (a : Asked) (id : List ℕ) → OtherBy (call_of a id)
key-other Asked'.Unknown id = tt
key-other (Asked'.Wrong word fault) id = tt
key-other (Asked'.Mark channel unit on) id = tt
key-other Asked'.Release id = tt
key-other Asked'.Delete id = tt

module _ (c d : Cell) (i : ℕ) (alive : is_empty (state_in (inside c).jobs i) ≡ false) where
  abbrev Same : Cell → Type 0
  Same x = state_in (inside x).jobs i ≡ state_in (inside c).jobs i

  -- what an accepted call leaves
  accept-same : (x : Act) → OtherAct x → state_in (Rules.accept (inside c) (Rules.Do x)).jobs i ≡ state_in (inside c).jobs i
  unfolding Rules.accept
  accept-same (Act'.Submit j p f k w) o = states-submit (inside c) j p f k.0 w i
  accept-same (Act'.Start k) o = states-started (inside c) k.0 i
  accept-same (Act'.Complete k how) o = absurd o
  accept-same (Act'.End j e) o = absurd o
  accept-same (Act'.Return j k u) o = states-handed (inside c) j k.0 (AtUnit u) i
  accept-same (Act'.Mark k u m on) o = refl

  plain-keep : (x : Call) (reply : Reply) → Plain x → Does c x reply d → Other x → Same d
  plain-keep (Deck bytes) reply z h o = ap (λ (s : State). state_in s.jobs i) (does-told c d (Deck bytes) reply h)
  plain-keep Select reply z h o = select-keeps c reply i (inside d) (does-told c d Select reply h) alive
  plain-keep (Do x) reply z h o =
      by-refusal c d (Do x) reply h Same refl
      (λ n. ap (λ (s : State). state_in s.jobs i) (accepted-is c d x reply h n).1 ∙ accept-same x o)
  plain-keep (Release id) reply z h o = ap (λ (s : State). state_in s.jobs i) (does-told c d (Release id) reply h)
  plain-keep (Delete id) reply z h o = ap (λ (s : State). state_in s.jobs i) (does-told c d (Delete id) reply h)
  plain-keep (Status j p) reply z h o = ap (λ (s : State). state_in s.jobs i) (does-told c d (Status j p) reply h)
  plain-keep (Key message) reply z h o = absurd z

  pub others_keep : (x : Call) (reply : Reply) → Does c x reply d → OtherBy (meant x) → Same d
  others_keep x reply h o =
      by-meant (λ m. OtherBy m → Same d) c d reply (λ e o. ap (λ (x : Cell). state_in (inside x).jobs i) e)
      (λ y z k o. plain-keep y reply z k o) x h o
