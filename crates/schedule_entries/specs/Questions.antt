-- What an entry is judged by when a request is entered. Nothing on this page has to be believed: contracts cite it, and
-- what the calls make of a schedule is said without it.
use Rattle.std.specs.Prelude.{ℕ, Bool, List}
use Rattle.words.specs.Words.{same}
use Rattle.schedule_entries.specs.Entries.{key_of}
use Rattle.schedule_entries.specs.declared.Entry.{Entry}
use Rattle.schedule_entries.specs.declared.Heading.{Heading}

-- an entry's heading: what it can be asked about
abbrev pub heading_of : Entry → Heading
heading_of e = record { id = e.request.id; key = key_of e.request; state = e.state }

-- a heading has this ID
abbrev pub is_headed : List ℕ → Heading → Bool
is_headed id m = same m.id id
