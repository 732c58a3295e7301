-- What is noted on the walk over the candidates: what the first lacks; and what is picked at its end. Nothing on this
-- page has to be believed: private functions cite it.
use Rattle.std.specs.Prelude.{ℕ, ◌≡◌, Bool, true, false, List, Option, Some, None}
use Rattle.schedule_entries.specs.declared.Entry.{Entry}
use Rattle.assign.specs.Assignment.{Supply}
use Rattle.assign.specs.Chosen.{nothing}
use Rattle.assign.specs.declared.Part.{Part}
use Rattle.assign.specs.declared.Provision.{Provision}
use Rattle.cell_selection.specs.declared.Noted.{Noted}
use Rattle.cell_selection.specs.declared.Pick.{Pick}
use Rattle.cell_selection.specs.Selecting.{FirstFit, FirstLacks, NoCandidate, NoFit}

-- a candidate that lacks a part is noted if there was none before: what it lacks,
abbrev pub lacking_then : Option Part → Part → Option Part
lacking_then None part = Some part
lacking_then (Some other) part = Some other

-- and its index in the schedule
abbrev pub at_then : Option Part → ℕ → ℕ → ℕ
at_then None before at = at
at_then (Some other) before at = before

abbrev pub noted : Noted → Part → ℕ → Noted
noted before part at = record { lacking = lacking_then before.lacking part; at = at_then before.lacking before.at at }

-- what is picked: a candidate that has an assignment, or none, with what was noted
abbrev pub picked : ℕ → Provision → Pick
picked at given = record { found = true; lacking = None; at = at; assigned = given.assigned }

abbrev pub none_picked : Noted → Pick
none_picked noted = record { found = false; lacking = noted.lacking; at = noted.at; assigned = nothing }

-- no candidate has an assignment: there are none, or the first lacks a part
abbrev pub PicksNone : Option Part → List Entry → Supply → Pick → Type 0
PicksNone None es supply r = NoCandidate es × ((r.at ≡ 0) × (r.assigned ≡ nothing))
PicksNone (Some part) es supply r = NoFit es supply × (FirstLacks es supply r.at part × (r.assigned ≡ nothing))

-- the first candidate with an assignment is found, or there is none
abbrev pub PicksBy : Bool → List Entry → Supply → Pick → Type 0
PicksBy true es supply r = FirstFit es supply r.at r.assigned × (r.lacking ≡ None)
PicksBy false es supply r = PicksNone r.lacking es supply r

abbrev pub Picks : List Entry → Supply → Pick → Type 0
Picks es supply r = PicksBy r.found es supply r
