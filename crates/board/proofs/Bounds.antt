-- How long a board is at most: 19,795 bytes, if its numbers and names are what their types let them be. Assumes
-- nothing.
use Prim.Native.Nat.{ℕ, suc, ◌+◌, ◌/◌, ◌%◌, ◌^◌, ◌≤◌, ◌<◌, min}
use mathlib.Core.Bool.{Bool, true, false}
use mathlib.Core.List.{List, [], ◌∷◌, ◌++◌}
use native.Mathlib.Omega.{arith}
use lib.ListN.{length, get_or, length-append, length-take}
use lib.Seq.{get_or-take}
use Rattle.numbers.specs.Quoted.{bytes}
use Rattle.numbers.proofs.Tests.{by_bool}
use Rattle.numbers.specs.Limits.{most_requests}
use Rattle.text.specs.Writing.{two_text, decimal_text}
use Rattle.text.proofs.Undo.{few-digits}
use Rattle.cards_fields.specs.Fields.{spaceless}
use Rattle.cards_fields.proofs.FieldLaws.{spaceless-short}
use Rattle.cards_writing.specs.Writing.{priority_text}
use Rattle.cards_writing.proofs.PutLaws.{priority-short}
use Rattle.schedule_entries.specs.Entries.{blank, in_place}
use Rattle.schedule_entries.specs.declared.State.{State}
use Rattle.schedule_entries.specs.declared.State.TheVariants as S
use Rattle.schedule_entries.specs.declared.Entry.{Entry}
use Rattle.schedule_list.specs.InSchedule.{in_schedule}
use Rattle.schedule_list.specs.declared.Schedule.{Schedule}
use Rattle.units.specs.State.{unit_in, is_returning, assignable}
use Rattle.units.specs.declared.Holder.{Holder}
use Rattle.units.specs.declared.Holder.TheVariants.{Free, Held, Returning}
use Rattle.units.specs.declared.Unit.{Unit as UnitState}
use Rattle.channels.specs.Channels.{no_channel, units_of}
use Rattle.channels.specs.declared.Channel.{Channel}
use Rattle.packets.specs.State.{Motion, job_in, place_of, packet_of, blank as no_packet}
use Rattle.packets.specs.declared.Job.{Job}
use Rattle.packets.specs.declared.JobState.{JobState}
use Rattle.packets.specs.declared.JobState.TheVariants as J
use Rattle.packets.specs.declared.Packet.{Packet}
use Rattle.std.specs.Prelude.{None, Some}
use Rattle.packets.specs.declared.Lists.{Lists}
use Rattle.answer_pieces.specs.Pieces.{packet_text, word_text}
use Rattle.answer_pieces.proofs.PieceLaws.{each-bound, of-bound}
use Rattle.board_jobs.specs.Places.{id_in, job_text, place_text, places_text}
use Rattle.board_jobs.specs.Blocks.{block_byte, blocks_text, core_text}
use Rattle.board_units.specs.Units.{holder_text, is_locked, state_text, unit_line, channel_text, units_text}
use Rattle.board_drum.specs.Areas.{drum_text}
use Rattle.board_lists.specs.Lines.{line_text, motion_text, idle, moves_text, entry_text, listed_line, listed_text, state_word, request_text}
use Rattle.board_lists.specs.Lines.{requests_text}
use Rattle.board.specs.Board.{queue_of, board_text, most}
use Rattle.board.proofs.DrumBounds.{drum-few}

-- ---- what the types say

-- a place that holds a unit, and a packet that moves, is named by bytes
abbrev pub ByteHolder : Holder → Type 0
ByteHolder Free = Unit {0}
ByteHolder (Held p) = p < 256
ByteHolder (Returning p) = p < 256

abbrev pub ByteMotion : Motion → Type 0
ByteMotion None = Unit {0}
ByteMotion (Some (p, k)) = (p < 256) × (k < 256)

pub record InTypes (lists : Lists) (schedule : Schedule) : Type 0 where
  pub entries : length schedule.entries ≤ most_requests
  pub ids : (i : ℕ) → length (get_or schedule.entries i blank).request.id ≤ 6
  pub holders : (c u : ℕ) → ByteHolder (unit_in lists.units.of c u).holder
  pub areas : (p : ℕ) → ((job_in lists.jobs p).from < 2 ^ 32) × ((job_in lists.jobs p).words < 2 ^ 32)
  pub motions : (c : ℕ) → ByteMotion (get_or lists.moving c idle).motion
  pub queue : length lists.list.entries ≤ 256
  pub packets : (i : ℕ) → get_or lists.list.entries i 0 < 256

-- ---- names and numbers
word-few : (b : Bool) (w : List ℕ) → length (word_text b w) ≤ length w
word-few true w = omega arith
word-few false w = omega arith

-- ---- places
id-few : (es : List Entry) (p : ℕ) → ((i : ℕ) → i < length es → length (get_or es i blank).request.id ≤ 6) → length (id_in es p) ≤ 6
unfolding id_in
id-few [] p h = omega arith
id-few (e ∷ es) p h = by_bool (in_place p e.state) (λ t. rw t (h 0 (omega arith))) (λ f. rw f (id-few es p (λ i k. h (suc i) (omega arith))))

job-few : (p : ℕ) (id word : List ℕ) → p < 16 → length id ≤ 6 → length (job_text p id word) ≤ 15 + length word
job-few p id word h k =
    omega (
      arith,
      length-append (decimal_text p) (bytes " " ++ (spaceless id ++ word)),
      length-append (spaceless id) word,
      few-digits 1 p (omega arith),
      spaceless-short id,
    )

place-few : (p : ℕ) (id : List ℕ) (state : JobState) → p < 16 → length id ≤ 6 → length (place_text p id state) ≤ 23
place-few p id J.Empty h k = omega arith
place-few p id J.Running h k = omega (arith, job-few p id (bytes " RUNS\n") h k)
place-few p id J.ClosingNormal h k = job-few p id (bytes " CLOSES\n") h k
place-few p id J.ClosingError h k = job-few p id (bytes " CLOSES\n") h k

-- ---- units
holder-few : (h : Holder) → ByteHolder h → length (holder_text h) ≤ 9
holder-few Free b = omega arith
holder-few (Held p) b = omega (arith, few-digits 2 p (omega arith))
holder-few (Returning p) b = omega (arith, few-digits 2 p (omega arith))

state-few : (c u : ℕ) (unit : UnitState) → ByteHolder unit.holder → length (state_text c u unit) ≤ 51
unfolding state_text
state-few c u unit b =
    let v = word-few (is_returning unit.holder) (bytes " RETURNING") in
    let w = word-few unit.down (bytes " DOWN") in
    let x = word-few unit.reserved (bytes " RESERVED") in
    let y = word-few (is_locked unit) (bytes " LOCKED") in
    let h = holder-few unit.holder b in
    let l = word_text (is_locked unit) (bytes " LOCKED") ++ bytes "\n" in
    let r = word_text unit.reserved (bytes " RESERVED") ++ l in
    let d = word_text unit.down (bytes " DOWN") ++ r in
    let back = word_text (is_returning unit.holder) (bytes " RETURNING") ++ d in
    omega (
      arith,
      length-append (holder_text unit.holder) back,
      length-append (word_text (is_returning unit.holder) (bytes " RETURNING")) d,
      length-append (word_text unit.down (bytes " DOWN")) r,
      length-append (word_text unit.reserved (bytes " RESERVED")) l,
      length-append (word_text (is_locked unit) (bytes " LOCKED")) (bytes "\n"),
    )

line-few : (c u : ℕ) (unit : UnitState) → ByteHolder unit.holder → length (unit_line c u unit) ≤ 51
unfolding unit_line
line-few c u unit b = by_bool (assignable unit) (λ t. rw t (omega arith)) (λ f. rw f (state-few c u unit b))

channel-few : (grid : List (List UnitState)) (c : ℕ) (channel : Channel) → ((u : ℕ) → ByteHolder (unit_in grid c u).holder)
    → length (channel_text grid c channel) ≤ 816
unfolding channel_text
channel-few grid c channel h =
    omega (arith, each-bound (λ u. unit_line c u (unit_in grid c u)) 51 (min (units_of channel) 16) 0 (λ u a b. line-few c u (unit_in grid c u) (h u)))

-- ---- core
core-few : (jobs : List Job) → length (core_text jobs) ≤ 38
core-few jobs =
    omega (arith, length-append (blocks_text jobs) (bytes "\n"), each-bound (λ b. block_byte jobs b ∷ []) 1 32 0 (λ b h k. omega arith))

-- ---- what moves and what is listed
line-few-of : (word : List ℕ) (c p k : ℕ) (d : ℕ) → length (packet_text p k) ≤ d → length (line_text word c p k) ≤ length word + (4 + d)
line-few-of word c p k d h =
    omega (arith, length-append word (two_text c ++ (bytes " " ++ (packet_text p k ++ bytes "\n"))), length-append (packet_text p k) (bytes "\n"))

motion-few : (c : ℕ) (m : Motion) → ByteMotion m → length (motion_text c m) ≤ 17
motion-few c None b = omega arith
motion-few c (Some (p, k)) b =
    line-few-of (bytes "MOVES ") c p k 7
    (omega (
      arith,
      length-append (decimal_text p) (bytes " " ++ decimal_text k),
      few-digits 2 p (omega (arith, b.0)),
      few-digits 2 k (omega (arith, b.1)),
    ))

entry-few : (ps : List Packet) (e : ℕ) → e < 256 → length (entry_text ps e) ≤ 16
unfolding entry_text place_of packet_of
entry-few ps e h =
    line-few-of (bytes "LISTED ") (get_or ps (e % 16) no_packet).channel.0 (e / 16) (e % 16) 5
    (omega (
      arith,
      length-append (decimal_text (e / 16)) (bytes " " ++ decimal_text (e % 16)),
      few-digits 1 (e / 16) (omega arith),
      few-digits 1 (e % 16) (omega arith),
    ))

-- ---- requests
word-of-few : (s : State) → length (state_word s) ≤ 11
word-of-few S.Waiting = omega arith
word-of-few S.Suspended = omega arith
word-of-few (S.Running p) = omega arith
word-of-few (S.Closing p) = omega arith

request-few : (e : Entry) → length e.request.id ≤ 6 → length (request_text e) ≤ 23
unfolding request_text
request-few e h =
    omega (
      arith,
      length-append (spaceless e.request.id) (bytes " " ++ (priority_text e.request ++ state_word e.state)),
      length-append (priority_text e.request) (state_word e.state),
      spaceless-short e.request.id,
      priority-short e.request,
      word-of-few e.state,
    )

-- ---- the whole
module _ (lists : Lists) (schedule : Schedule) (t : InTypes lists schedule) where
  ids-few : (i : ℕ) → i < length (in_schedule schedule) → length (get_or (in_schedule schedule) i blank).request.id ≤ 6
  ids-few i h =
      let l = length-take schedule.count schedule.entries in
      rw (get_or-take schedule.count schedule.entries i blank (omega arith)) (t.ids i)

  places-few : length (places_text lists.jobs (in_schedule schedule)) ≤ 368
  places-few =
      each-bound (λ p. place_text p (id_in (in_schedule schedule) p) (job_in lists.jobs p).state) 23 16 0
      (λ p a b. place-few p (id_in (in_schedule schedule) p) (job_in lists.jobs p).state b (id-few (in_schedule schedule) p ids-few))

  units-few : length (units_text lists.channels lists.units.of) ≤ 13056
  units-few =
      each-bound (λ c. channel_text lists.units.of c (get_or lists.channels c no_channel)) 816 16 0
      (λ c a b. channel-few lists.units.of c (get_or lists.channels c no_channel) (t.holders c))

  moves-few : length (moves_text lists.moving) ≤ 272
  moves-few =
      each-bound (λ c. motion_text c (get_or lists.moving c idle).motion) 17 16 0
      (λ c a b. motion-few c (get_or lists.moving c idle).motion (t.motions c))

  listed-few : length (listed_text lists.jobs (queue_of lists)) ≤ 4096
  listed-few =
      let l = length-take lists.list.count lists.list.entries in
      omega (
        arith,
        t.queue,
        of-bound (listed_line lists.jobs) 0 16 (queue_of lists)
            (λ i h. entry-few _ (get_or (queue_of lists) i 0)
            (rw (get_or-take lists.list.count lists.list.entries i 0 (omega arith)) (t.packets i))),
      )

  requests-few : length (requests_text (in_schedule schedule)) ≤ 1472
  requests-few =
      let l = length-take schedule.count schedule.entries in
      omega (
        arith,
        t.entries,
        of-bound request_text blank 23 (in_schedule schedule) (λ i h. request-few (get_or (in_schedule schedule) i blank) (ids-few i h)),
      )

  -- every board fits
  pub board-bound : length (board_text lists schedule) ≤ most
  board-bound =
      let jobs = lists.jobs in
      let last = bytes "END OF BOARD\n" in
      let requests = requests_text (in_schedule schedule) ++ last in
      let listed = listed_text jobs (queue_of lists) ++ requests in
      let moves = moves_text lists.moving ++ listed in
      let drum = drum_text jobs ++ moves in
      let core = core_text jobs ++ drum in
      let units = units_text lists.channels lists.units.of ++ core in
      omega (
        arith,
        places-few,
        units-few,
        core-few jobs,
        drum-few jobs t.areas,
        moves-few,
        listed-few,
        requests-few,
        length-append (places_text jobs (in_schedule schedule)) units,
        length-append (units_text lists.channels lists.units.of) core,
        length-append (core_text jobs) drum,
        length-append (drum_text jobs) moves,
        length-append (moves_text lists.moving) listed,
        length-append (listed_text jobs (queue_of lists)) requests,
        length-append (requests_text (in_schedule schedule)) last,
      )
