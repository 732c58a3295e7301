-- Document 01, 'Selecting and assigning', and document 02's second request. Which request is selected, for which place,
-- with which assignment; else why none is, and what was missing. A reader has to believe this page.
use Rattle.std.specs.Prelude.{ℕ, ◌<◌, ◌≡◌, Bool, true, false, cond, List, map, eqb, length, replicate, Some, None}
use Rattle.numbers.specs.Quoted.{byte}
use Rattle.numbers.specs.Limits.{blocks}
use Rattle.cards_request.specs.declared.Facilities.{Facilities}
use Rattle.cards_request.specs.declared.Request.{Request}
use Rattle.schedule_entries.specs.Entries.{blank}
use Rattle.schedule_entries.specs.declared.Entry.{Entry}
use Rattle.schedule_list.specs.InSchedule.{in_schedule, entry_at}
use Rattle.schedule_list.specs.declared.Schedule.{Schedule}
use Rattle.schedule.specs.Calls.{taken}
use Rattle.schedule_candidates.specs.Candidates.{candidate}
use Rattle.assign_heads.specs.Heads.{is_given}
use Rattle.assign_heads.specs.declared.Head.{Head}
use Rattle.assign.specs.Assignment.{Supply, supply_of, IsAssignment}
use Rattle.assign.specs.Parts.{FirstLacking}
use Rattle.assign.specs.Chosen.{Chosen, nothing}
use Rattle.assign.specs.declared.Assigned.{Assigned}
use Rattle.assign.specs.declared.Part.{Part}
use Rattle.packets.specs.declared.Assignment.{Assignment}
use Rattle.packets.specs.declared.Blocks.{Blocks}
use Rattle.packets.specs.declared.Lists.{Lists}
use Rattle.packets.specs.Rules.{Call, Take}
use Rattle.lists.specs.Outcomes.{outcome}
use Rattle.cell_taken.specs.Taken.{LowestFree, any_has, area_of, core_of, occupancy}
use Rattle.cell_selection.specs.declared.Choice.{Choice}
use Rattle.cell_selection.specs.declared.Choice.TheVariants.{Job, NoPlace, NoCandidates, Lacks}
use Rattle.cell_selection.specs.declared.Selection.{Selection}
use Rattle.cell_selection.specs.declared.Taking.{Taking}

-- what the assigner looks at: the units, the blocks and drum areas that jobs hold, the configured channels
abbrev pub supply_in : Lists → Supply
supply_in lists = supply_of lists.units.of (occupancy (any_has (map core_of lists.jobs)) blocks) (map area_of lists.jobs) lists.channels

-- a request has no assignment
abbrev pub HasNone : Supply → Request → Type 0
HasNone supply request = (b : Assigned) → IsAssignment supply request.facilities b → ⊥

-- the request at an index of the schedule is a candidate
abbrev pub Candidate : List Entry → ℕ → Type 0
Candidate es i = (i < length es) × (candidate es (entry_at es i) ≡ true)

-- "The first candidate with an assignment": at k, with the one chosen
pub record FirstFit (es : List Entry) (supply : Supply) (k : ℕ) (a : Assigned) : Type 0 where
  pub candidate : Candidate es k
  pub chosen : Chosen supply (entry_at es k).request.facilities a
  pub first : (i : ℕ) → i < k → Candidate es i → HasNone supply (entry_at es i).request

-- 18: "no place is free"
abbrev pub AllHeld : Lists → Type 0
AllHeld lists = LowestFree lists.jobs None

-- 19: "there are no candidates"
abbrev pub NoCandidate : List Entry → Type 0
NoCandidate es = (i : ℕ) → Candidate es i → ⊥

-- 20, where there are candidates: "no candidate has an assignment"
abbrev pub NoFit : List Entry → Supply → Type 0
NoFit es supply = (i : ℕ) → Candidate es i → HasNone supply (entry_at es i).request

-- "the first candidate" is at k, and the part is "the first facility lacking for it"
pub record FirstLacks (es : List Entry) (supply : Supply) (k : ℕ) (part : Part) : Type 0 where
  pub candidate : Candidate es k
  pub first : (i : ℕ) → i < k → Candidate es i → ⊥
  pub lacking : FirstLacking supply (entry_at es k).request.facilities (Some part)

-- no ID: six blanks
abbrev pub no_id : List ℕ
no_id = replicate 6 (byte " ")

-- nothing is named where nothing is selected, but for the reason and the first candidate's ID
abbrev pub unselected : Choice → List ℕ → Selection
unselected choice first =
    record { choice = choice; first = first; place = 0; at = 0; request = blank.request; assigned = nothing }

-- SELECTED: "The first candidate with an assignment is taken into the lowest free place"
pub record Selected (es : List Entry) (lists : Lists) (r : Selection) : Type 0 where
  pub place : LowestFree lists.jobs (Some r.place)
  pub fit : FirstFit es (supply_in lists) r.at r.assigned
  pub request : r.request ≡ (entry_at es r.at).request
  pub unnamed : r.first ≡ no_id

-- NOT SELECTED, and the ID beside: 18 "no place is free"; else 19 "there are no candidates". Else 20: none has an
-- assignment, "with the first candidate's ID and the first facility lacking for it"
abbrev pub Unselected : Choice → List Entry → Lists → List ℕ → Type 0
Unselected Job es lists id = ⊥
Unselected NoPlace es lists id = AllHeld lists × (id ≡ no_id)
Unselected NoCandidates es lists id = (AllHeld lists → ⊥) × (NoCandidate es × (id ≡ no_id))
Unselected (Lacks part) es lists id =
    (AllHeld lists → ⊥) × (NoFit es (supply_in lists) × ((k : ℕ) × (FirstLacks es (supply_in lists) k part × (id ≡ (entry_at es k).request.id))))

-- what is selected, or why nothing is; nothing else is named then
abbrev pub SelectsBy : Choice → List Entry → Lists → Selection → Type 0
SelectsBy Job es lists r = Selected es lists r
SelectsBy NoPlace es lists r = Unselected NoPlace es lists r.first × (r ≡ unselected NoPlace r.first)
SelectsBy NoCandidates es lists r = Unselected NoCandidates es lists r.first × (r ≡ unselected NoCandidates r.first)
SelectsBy (Lacks part) es lists r = Unselected (Lacks part) es lists r.first × (r ≡ unselected (Lacks part) r.first)

abbrev pub Selects : Schedule → Lists → Selection → Type 0
Selects schedule lists r = SelectsBy r.choice (in_schedule schedule) lists r

-- a job is selected
abbrev pub is_job : Choice → Bool
is_job Job = true
is_job NoPlace = false
is_job NoCandidates = false
is_job (Lacks part) = false

-- ---- the assignment as the request lists take it

-- a unit is given to some entry of the job
abbrev pub is_taken : Head → Bool
is_taken head = is_given head.to

-- a run of blocks; none where none are asked for
abbrev pub run_of : ℕ → ℕ → Blocks
run_of start count = cond (eqb count 0) (record { start = 0; count = 0 }) (record { start = start; count = count })

-- the units given, the drum area, and the blocks
abbrev pub assignment_of : Facilities → Assigned → Assignment
assignment_of wanted a =
    record {
      units = map is_taken a.heads;
      from = a.drum;
      words = wanted.md;
      core = record { ib = run_of a.ib wanted.ib; db = run_of a.db wanted.db };
    }

-- the starts of blocks that are asked for are numbers of blocks, as those of an assignment are
pub record Starts (wanted : Facilities) (a : Assigned) : Type 0 where
  pub ib : (wanted.ib ≡ 0 → ⊥) → a.ib < blocks
  pub db : (wanted.db ≡ 0 → ⊥) → a.db < blocks

-- ---- what selection leaves

-- the call of the lists that a selection makes
abbrev pub taking_of : Selection → Call
taking_of r = Take r.place (assignment_of r.request.facilities r.assigned)

-- the job runs in its place and its request is marked so; where nothing is selected everything stands
abbrev pub left_by : Bool → Schedule → Lists → Selection → Schedule × Lists
left_by true schedule lists r = (taken schedule r.at r.place, (outcome lists (taking_of r)).lists)
left_by false schedule lists r = (schedule, lists)

-- SELECTION: what is selected, and what schedule and lists then hold
pub record Takes (schedule : Schedule) (lists : Lists) (r : Taking) : Type 0 where
  pub selects : Selects schedule lists r.selection
  pub leaves : (r.schedule, r.lists) ≡ left_by (is_job r.selection.choice) schedule lists r.selection
