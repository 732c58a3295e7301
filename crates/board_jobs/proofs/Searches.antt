-- The two searches: for the request whose job is in a place, and for the job that holds a block, as std's methods find
-- them. Assumes nothing.
use Rattle.std.proofs.Common.{ℕ, suc, ◌≡◌, List, [], ◌∷◌, MatchOption, length, replicate, add-one, min, take}
use Rattle.std.specs.List.{find, position, position_from}
use Rattle.std.proofs.lemmas.List.{take_min}
use Rattle.std.proofs.lemmas.Iterator.Adapters.{position_from-zero}
use Rattle.numbers.proofs.Tests.{by_bool}
use Rattle.schedule_entries.specs.Entries.{in_place}
use Rattle.schedule_entries.specs.declared.Entry.{Entry}
use Rattle.packets.specs.declared.Job.{Job}
use Rattle.board_jobs.specs.Places.{id_in}
use Rattle.board_jobs.specs.Blocks.{holds_block, digit, holder_in}

-- the ID of the first entry that is in the place
pub id-by_find : (es : List Entry) (place : ℕ) {r : List ℕ}
    → MatchOption (find (λ (e : Entry). in_place place e.state) es) (r ≡ replicate 6 32) (λ e. r ≡ e.request.id) → r ≡ id_in es place
unfolding id_in
id-by_find [] place h = h
id-by_find (e ∷ es) place h =
    by_bool (in_place place e.state) (λ t. rw t (rw t at h)) (λ f. rw f (id-by_find es place (rw f at h)))

-- of the places from p on, the first that holds the block
holder-from : (js : List Job) (p block : ℕ) {r : ℕ}
    → MatchOption (position_from (λ (j : Job). holds_block j.state j.core block) p js) (r ≡ 46) (λ p. r ≡ digit p) → r ≡ holder_in p js block
unfolding holder_in
holder-from [] p block h = h
holder-from (j ∷ js) p block h =
    by_bool (holds_block j.state j.core block)
    (λ t. rw t (rw t at h))
    (λ f. rw f (holder-from js (suc p) block (rw (f, add-one p) at h)))

pub holder-by_position : (js : List Job) (block : ℕ) {r : ℕ}
    → MatchOption (position (λ (j : Job). holds_block j.state j.core block) js) (r ≡ 46) (λ p. r ≡ digit p) → r ≡ holder_in 0 js block
holder-by_position js block h =
    holder-from js 0 block (rw (position_from-zero (λ (j : Job). holds_block j.state j.core block) js) at h)
