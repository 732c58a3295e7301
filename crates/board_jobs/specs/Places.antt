-- The board's lines of places: "for each place with a job, ascending: `PLACE p id RUNS` or `PLACE p id CLOSES`".
use Rattle.std.specs.Prelude.{ℕ, cond, List, [], ◌∷◌, ◌++◌, replicate}
use Rattle.numbers.specs.Quoted.{byte, bytes}
use Rattle.text.specs.Writing.{decimal_text}
use Rattle.cards_fields.specs.Fields.{spaceless}
use Rattle.schedule_entries.specs.Entries.{in_place}
use Rattle.schedule_entries.specs.declared.Entry.{Entry}
use Rattle.packets.specs.State.{job_in}
use Rattle.packets.specs.declared.Job.{Job}
use Rattle.packets.specs.declared.JobState.{JobState}
use Rattle.packets.specs.declared.JobState.TheVariants.{Empty, Running, ClosingNormal, ClosingError}
use Rattle.answer_pieces.specs.Pieces.{each}

-- the ID of the request whose job runs or closes in a place; blanks where there is none, which no calls lead to
unfoldable pub id_in : List Entry → ℕ → List ℕ
id_in [] place = replicate 6 (byte " ")
id_in (e ∷ es) place = cond (in_place place e.state) e.request.id (id_in es place)

abbrev pub job_text : ℕ → List ℕ → List ℕ → List ℕ
job_text place id word = bytes "PLACE " ++ (decimal_text place ++ (bytes " " ++ (spaceless id ++ word)))

-- the line of a place that has a job
abbrev pub place_text : ℕ → List ℕ → JobState → List ℕ
place_text place id Empty = []
place_text place id Running = job_text place id (bytes " RUNS\n")
place_text place id ClosingNormal = job_text place id (bytes " CLOSES\n")
place_text place id ClosingError = job_text place id (bytes " CLOSES\n")

-- THE LINES OF PLACES
abbrev pub places_text : List Job → List Entry → List ℕ
places_text jobs es = each (λ p. place_text p (id_in es p) (job_in jobs p).state) 16
