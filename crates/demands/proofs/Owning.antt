-- WHAT A JOB HAS, shown of every reached cell: after its selection what was assigned to it, and as long
-- as it is in its place just that; an empty place has nothing. Assumes nothing.
use Rattle.std.proofs.Common.{Ok}
use Prim.Native.Nat.{ℕ}
use mathlib.Core.Path.{◌≡◌, refl, sym, ap, subst, ◌∙◌}
use mathlib.Core.Bool.{true, false}
use mathlib.Core.List.{List, [], ◌∷◌, ◌++◌}
use mathlib.Core.Option.{none, some}
use Rattle.units.specs.State.{unit_in}
use Rattle.channels.specs.declared.Configuration.{Configuration}
use Rattle.assign_drum.specs.Drum.{no_area}
use Rattle.packets.specs.History as Lists
use Rattle.packets.specs.Rules as Rules
use Rattle.packets.specs.State.{State, held_by, in_motion, is_empty, job_in, no_core, packet_in, state_in, Verdict}
use Rattle.packets.specs.declared.Answer.TheVariants as Answers
use Rattle.packets.specs.declared.Assignment.{Assignment}
use Rattle.packets.specs.declared.JobState.TheVariants.{Running}
use Rattle.packets.proofs.Inv.{motion-busy}
use Rattle.packets.proofs.InvJobs.{held-once}
use Rattle.packets.proofs.Laws.{eqb-self}
use Rattle.packets.proofs.Store.{state-fresh}
use Rattle.packets_given.specs.Given.{Heads, OnItsOwn, StillOwn, asked_by, asking, has_returned, no_heads, taken_by, taking}
use Rattle.packets_given.proofs.Reckoning.{reckoned-append}
use Rattle.packets_given.proofs.OwnLaws.{is-own}
use Rattle.cell_taken.specs.Taken.{area_of, core_of}
use Rattle.cell_selection.specs.Selecting.{assignment_of, taking_of}
use Rattle.cell_selection.specs.declared.Selection.{Selection}
use Rattle.cell.specs.declared.Cell.{Cell}
use Rattle.cell_history.proofs.Reaching.{reached-inv, reached-more, selected-of, taking-of}
use Rattle.cell_history.proofs.ToldLaws.{told_more}
use Rattle.cell_history.specs.Told.{inside, told}
use Rattle.cell_history.specs.History.{Chosen, Does, Event, Reached, Select}
use Rattle.cell_reached.proofs.ReachedProof.{every-cell}

module _ (configuration : Configuration) (es : List Event) (c : Cell) (l : Reached configuration es c) where
  -- a job of which a packet moves is in its place
  pub still-there : (place packet : ℕ) → in_motion (packet_in (inside c).jobs place packet).status ≡ true
      → is_empty (state_in (inside c).jobs place) ≡ false
  still-there place packet m =
      (every-cell configuration es c l).always.live place packet (motion-busy (packet_in (inside c).jobs place packet).status m)

  pub still-own : (place : ℕ) → is_empty (state_in (inside c).jobs place) ≡ false
      → (given : Assignment) × (taking (told es) place ≡ some given)
      × StillOwn (inside c) place given (asking (told es) place) (has_returned (told es) place)
  still-own place alive =
      let r = every-cell configuration es c l in
      let g = (r.given place).live alive in (
        g.0,
        g.1,
        record {
          there = alive;
          holds = g.2;
          heads = λ i k u p q. held-once (unit_in (inside c).units k u).holder i place q p;
          drum = λ i x a p q. r.drum i place x a alive q p;
          core = λ i x a p q. r.core i place x a alive q p;
        },
      )

  pub free-place : (place : ℕ) → is_empty (state_in (inside c).jobs place) ≡ true
      → ((channel unit : ℕ) → held_by (unit_in (inside c).units channel unit).holder place ≡ false)
      × ((area_of (job_in (inside c).jobs place) ≡ no_area) × (core_of (job_in (inside c).jobs place) ≡ no_core))
  unfolding state_in
  free-place place e = (((every-cell configuration es c l).given place).empty e, (rw e refl, rw e refl))

  pub on-its-own : (place packet : ℕ) → in_motion (packet_in (inside c).jobs place packet).status ≡ true
      → OnItsOwn (inside c) place (packet_in (inside c).jobs place packet)
  on-its-own place packet m =
      let r = every-cell configuration es c l in
      let b = motion-busy (packet_in (inside c).jobs place packet).status m in
      let q = packet_in (inside c).jobs place packet in
      is-own (inside c) place q.channel.0 q.at (r.always.held place packet b) (r.addresses place packet b)

-- ---- one call more

-- after a taking it has that assignment, and has asked for nothing back
module _ (es : List Lists.Event) (j : ℕ) (asg : Assignment) where
  abbrev after : List Lists.Event
  after = es ++ (record { call = Rules.Take j asg; answer = Answers.Done } ∷ [])

  taken_then : taking after j ≡ some asg
  unfolding taken_by
  taken_then = reckoned-append (taken_by j) none es _ ∙ rw (eqb-self j) refl

  none-asked : (c u : ℕ) → asking after j c u ≡ false
  unfolding asked_by
  none-asked c u = ap (λ (f : Heads). f c u) (reckoned-append (asked_by j) no_heads es _) ∙ rw (eqb-self j) refl

  none-returned : (c u : ℕ) → has_returned after j c u ≡ false
  none-returned c u = rw (none-asked c u) refl

-- the same units asked for, and the same returned
own-as : (s : State) (j : ℕ) (asg : Assignment) (asked back asked' back' : Heads) → ((c u : ℕ) → asked c u ≡ asked' c u)
    → ((c u : ℕ) → back c u ≡ back' c u) → StillOwn s j asg asked back → StillOwn s j asg asked' back'
own-as s j asg asked back asked' back' e f o =
    record {
      there = o.there;
      holds = record {
        from = o.holds.from;
        words = o.holds.words;
        core = o.holds.core;
        units = λ c u h l. rw (← f c u) (o.holds.units c u h l);
        returning = λ c u h l x. o.holds.returning c u h l x ∙ e c u;
      };
      heads = o.heads;
      drum = o.drum;
      core = o.core;
    }

-- WHAT WAS ASSIGNED the job holds after its selection
module _ (configuration : Configuration) (es : List Event) (c : Cell) (l : Reached configuration es c) (d : Cell) (s : Selection)
    (k : Does c Select (Chosen (Ok tt) s) d) where
  abbrev event : Event
  event = record { call = Select; reply = Chosen (Ok tt) s }

  abbrev assigned : Assignment
  assigned = assignment_of s.request.facilities s.assigned

  runs-there : state_in (inside d).jobs s.place ≡ Running
  unfolding Rules.step Rules.accept
  runs-there =
      let t = taking-of c d s k in
      let p = (selected-of c d s k).place.0 in
      ap (λ (x : State). state_in x.jobs s.place)
      (t.1 ∙ ap (λ (v : Verdict). (Rules.decided (inside c) (taking_of s) v).state) t.0)
      ∙ state-fresh (inside c).jobs s.place assigned s.place (rw (reached-inv configuration es c l).places p)
      ∙ rw (eqb-self s.place) refl

  -- all that is told by then
  abbrev all : List Lists.Event
  all = after (told es) s.place assigned

  pub holds_then : StillOwn (inside d) s.place assigned no_heads no_heads
  holds_then =
      let j = s.place in
      let g = still-own configuration (es ++ (event ∷ [])) d (reached-more configuration es c d event l k) j (ap is_empty runs-there) in
      let m : told (es ++ (event ∷ [])) ≡ all = told_more es event in
      let e : some g.0 ≡ some assigned = sym g.1 ∙ ap (λ (x : List Lists.Event). taking x j) m ∙ taken_then (told es) j assigned in
      let i : g.0 ≡ assigned = cc in
      own-as (inside d) j assigned (asking all j) (has_returned all j) no_heads no_heads
      (none-asked (told es) j assigned) (none-returned (told es) j assigned)
      (subst (λ (x : List Lists.Event). StillOwn (inside d) j assigned (asking x j) (has_returned x j)) m
      (subst (λ (a : Assignment). StillOwn (inside d) j a (asking (told (es ++ (event ∷ []))) j) (has_returned (told (es ++ (event ∷ []))) j)) i
      g.2))
