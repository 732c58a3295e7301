-- THE THREE DEMANDS, one page, to be laid beside the words of the people who asked. Each is a theorem, proved in
-- proofs/Proved.antt, about any cell and call as the contracts of the public functions give them, and about any
-- history of calls from a fresh cell. Keyboard messages are among the calls, and a history with them is one with the
-- calls that they are (`spelled`): the demands read on unchanged. A reader has to believe this page.
use Rattle.std.specs.Prelude.{ℕ, ◌≤◌, ◌<◌, ◌*◌, ◌/◌, ◌%◌, ◌≡◌, Bool, true, false, cond, ◌&&◌, ◌||◌, Ok, Err, List, [], ◌∷◌, ◌++◌, ◌⊎◌, eqb, length, get_or, take, drop, Some}
use Rattle.std.proofs.Math.Option.{none, some}
use Rattle.numbers.specs.Quoted.{byte, bytes}
use Rattle.numbers.specs.declared.ChannelNumber.{ChannelNumber}
use Rattle.numbers.specs.declared.UnitNumber.{UnitNumber}
use Rattle.cell.specs.Calls.{Outcome, Enters, Keys, cell_of, fresh_cell, outcome_of}
use Rattle.numbers.specs.declared.Refusal.{Refusal}
use Rattle.numbers.specs.declared.Refusal.TheVariants.{BadDeck, NoAssignment, NoCandidates, NoGroup, NoPlaceFree, NoRoom, WrongRequest}
use Rattle.text.specs.Class.{is_alnum}
use Rattle.words.specs.Words.{every}
use Rattle.line_words.specs.Forms.{IsWord, id_of}
use Rattle.units.specs.State.{assignable, is_returning, marked_unit, unit_in, unit_set, units_from}
use Rattle.units.specs.declared.Holder.TheVariants.{Free, Returning}
use Rattle.units.specs.declared.Mark.{Mark as UnitMark}
use Rattle.units.specs.declared.Unit.{Unit as UnitState}
use Rattle.channels.specs.Channels.{has_unit, sets_interlock}
use Rattle.channels.specs.declared.Channel.{Channel}
use Rattle.channels.specs.declared.Configuration.{Configuration}
use Rattle.keyboard.specs.Messages.{message_words, read_message}
use Rattle.keyboard.specs.Typed.{known}
use Rattle.keyboard.specs.declared.Asked.TheVariants.{Wrong}
use Rattle.keyboard.specs.declared.Fault.{Fault}
use Rattle.keyboard.specs.declared.Word.{Word}
use Rattle.keyboard_answers.specs.MessageAnswers.{answer_text}
use Rattle.configuration.specs.Configured.{configuration_of, good, refused}
use Rattle.configuration_form.specs.Form.{FirstBad, InForm, lists_code}
use Rattle.configuration_form.specs.Means.{Means}
use Rattle.configuration_units.specs.Fresh.{fresh_units}
use Rattle.configuration_listing.specs.Listing.{Listed, assignable_units, error_text, lines_from}
use Rattle.cards_fields.specs.Deck.{cards_of, deck_groups}
use Rattle.cards_fields.specs.Fields.{fields, is_name, malformed, spaceless}
use Rattle.cards_fac.specs.Fac.{entries_of}
use Rattle.cards_further.specs.Further.{canonicals, held}
use Rattle.cards_group.specs.Group.{ordered_error, read_full, read_group}
use Rattle.cards_request.specs.declared.FullRequest.{FullRequest}
use Rattle.cards_full.specs.Full.{behind_id, cards_in, fits, text_of, write_answer, written}
use Rattle.cards_report.specs.Cards.{begin, cards_text, turns}
use Rattle.cards_table.specs.Table.{place, table_size}
use Rattle.cards_round.specs.Allowed.{Name}
use Rattle.cards_round.specs.AllowedFurther.{AllowedFull, Card, Kept, sheet_at, sheet_rows, texts_of}
use Rattle.cards_round.specs.NoLonger.{NoLonger}
use Rattle.cards_round.specs.Permuted.{Permuted}
use Rattle.desk_show.specs.Showing.{FirstOf, IsBad, IsRead, NoneHas, Shows, part_of, Shown as Shown'}
use Rattle.desk_show.specs.declared.Extent.{Extent}
use Rattle.desk_show.specs.declared.Which.TheVariants as Which'
use Rattle.desk_hearing.specs.Hearing as Desk
use Rattle.desk_hearing.specs.Printing.{Prints}
use Rattle.schedule_entries.specs.Entries.{is_named, key_of, precedes}
use Rattle.schedule_list.specs.InSchedule.{entry_at, in_schedule}
use Rattle.schedule.specs.Calls as Schedule
use Rattle.schedule_orderly.specs.Orderly.{Each, requests}
use Rattle.schedule_deck.specs.Report.{deck_notes, deck_schedule}
use Rattle.text.specs.Room.{Whole}
use Rattle.assign_drum.specs.Drum.{no_area}
use Rattle.assign_heads.specs.Sums.{how_many}
use Rattle.packets.specs.Before.{AllListed, AsBefore, OnlyCompletions, all60}
use Rattle.packets.specs.Codes.{status_after}
use Rattle.packets.specs.Demand.{Holding, Holds, Isolated, Stretch}
use Rattle.packets.specs.History as Lists
use Rattle.packets.specs.History.{Along, is_accepted}
use Rattle.packets.specs.Interlocks.{interlock_after}
use Rattle.numbers.specs.Elements.{find, keep}
use Rattle.packets.specs.State.{State, entry_of, held_by, in_motion, is_closing, is_empty, is_still, job_in, motion_on, no_core, packet_in, state_in}
use Rattle.packets.specs.Rules.{closing, is_at}
use Rattle.packets.specs.declared.Act.{Act}
use Rattle.packets.specs.declared.Act.TheVariants.{Complete, End, Mark, Return, Start, Submit}
use Rattle.packets.specs.declared.Answer.{Answer}
use Rattle.packets.specs.declared.Answer.TheVariants as Answers
use Rattle.packets.specs.declared.How.{How}
use Rattle.packets.specs.declared.JobState.TheVariants.{Empty, Running}
use Rattle.packets.specs.declared.Site.TheVariants.{AtUnit}
use Rattle.packets.specs.declared.Spot.{Spot}
use Rattle.packets.specs.declared.Status.{Status}
use Rattle.cell_taken.specs.Taken.{area_of, core_of}
use Rattle.assign.specs.Parts.{FirstLacking}
use Rattle.assign.specs.Chosen.{ExistsExactly}
use Rattle.assign.specs.declared.Part.{Part}
use Rattle.cell_selection.specs.Selecting.{AllHeld, Candidate, HasNone, NoCandidate, NoFit, Selected, assignment_of, no_id, supply_in, unselected}
use Rattle.cell_selection.specs.declared.Choice.TheVariants.{Lacks}
use Rattle.cell_selection.specs.declared.Selection.{Selection}
use Rattle.cell.specs.declared.Cell.{Cell}
use Rattle.cell.specs.declared.DeckAnswer.{DeckAnswer}
use Rattle.cell.specs.declared.KeyAnswer.{KeyAnswer}
use Rattle.cell_history.specs.Told.{inside, told, told_of}
use Rattle.cell_history.specs.Spelled.{SpelledAlways}
use Rattle.cell_history.specs.History.{
  Call,
  Chosen,
  Delete,
  Do,
  Does,
  Event,
  Key,
  Leads,
  Mistyped,
  Reached,
  Release,
  Reply,
  Said,
  Select,
  Shown,
  meant,
}
use Rattle.cell_agreement.specs.Agreement.{standing, states_in}
use Rattle.demands.specs.Refusing.{refusal_in}
use Rattle.demands.specs.Table.{RefusedBy, is_select}
use Rattle.packets.specs.declared.Assignment.{Assignment}
use Rattle.packets.specs.declared.Status.TheVariants.{Stopping}
use Rattle.packets_given.specs.Given.{OnItsOwn, StillOwn, asking, has_returned, no_heads, taking}
use Rattle.packets.specs.Rules as Rules

-- a fact holds exactly when another does
abbrev pub Exactly : Type 0 → Type 0 → Type 0
Exactly A B = (A → B) × (B → A)

-- for an ID and two decks on the desk: each of the four answers exactly when its sentence holds
pub record ShownSo (id repair day : List ℕ) (r : Extent) (part : List ℕ) : Type 0 where
  -- "11 first": exactly where a deck is refused, whatever the other one has,
  pub bad : Exactly (r.which ≡ Err BadDeck) (IsBad repair ⊎ IsBad day)
  -- else "from the repair deck if they are there",
  pub of_repair : Exactly (r.which ≡ Ok Which'.Repair) ((IsRead repair × IsRead day) × (NoneHas id (deck_groups repair) → ⊥))
  -- "else from the day's deck",
  pub of_day : Exactly (r.which ≡ Ok Which'.Day)
      ((IsRead repair × IsRead day) × (NoneHas id (deck_groups repair) × (NoneHas id (deck_groups day) → ⊥)))
  -- and "22 no group with that ID in either deck":
  pub nobody : Exactly (r.which ≡ Err NoGroup)
      ((IsRead repair × IsRead day) × (NoneHas id (deck_groups repair) × NoneHas id (deck_groups day)))
  -- "An id that isn't 1-6 of A-Z and 0-9 has none";
  pub no_id : is_name id ≡ false → IsRead repair × IsRead day → r.which ≡ Err NoGroup
  -- and no card is shown exactly where there is a refusal
  pub empty : Exactly (part ≡ []) ((n : Refusal) × (r.which ≡ Err n))

-- "1. Every card, deck, configuration and call is answered, whatever is in it. Bad input gets the numbered refusal from
-- document 01, and after a refused call the cell and the schedule stand as they did before." That each is answered is
-- what the check says of the public functions: none has a condition on its input, and each ends.
pub record Demand1 : Type 0 where
  -- "Bad input gets the numbered refusal from document 01": a call is refused with the first number, in the table's order, whose sentence
  -- holds, and only then: the lowest, but that 17 comes before all and 21 after 3
  pub numbers : (c d : Cell) (x : Call) (reply : Reply) → Does c x reply d → RefusedBy (is_select x) c x (refusal_in reply)
  -- "after a refused call the cell and the schedule stand as they did before": the cell,
  pub stands : (c d : Cell) (x : Call) (reply : Reply) (n : Refusal) → Does c x reply d → refusal_in reply ≡ some n → d ≡ c
  -- the room that was lent for a deck's answer,
  pub lent : (c : Cell) (deck room after : List ℕ) (r : DeckAnswer) (n : Refusal) → Enters c deck room after r
      → r.outcome ≡ Err n → after ≡ room
  -- and the room that was lent for cards to be written, after 13 and after 12
  pub kept : (v : FullRequest) (room : List ℕ) (n : Refusal) → write_answer v (length room) ≡ Err n → written v room ≡ room
  -- "13 comes before 12": 13 for a request with its further cards against a rule, and else (`wrote`) for none; 12 for a
  -- "card to write over 80 characters, or lent room too short"
  pub wrong : (v : FullRequest) (room : ℕ) → (AllowedFull v → ⊥) → write_answer v room ≡ Err WrongRequest
  pub short : (v : FullRequest) (room : ℕ) → AllowedFull v → fits v room ≡ false → write_answer v room ≡ Err NoRoom
  -- Every group of any cards is answered, with its first error alone, or with its request; what a schedule enters of it and
  -- what is read with the further cards are the same verdict and the same request
  pub groups : (group : List (List ℕ))
      → ((read_full group).verdict ≡ (read_group group).verdict) × ((read_full group).full.request ≡ (read_group group).request)
  pub group : (cards : List (List ℕ))
      → (read_group cards).verdict ≡ ordered_error (length cards) (get_or cards 0 []) (get_or cards 1 []) (drop 2 cards)
  -- The room that was lent for a keyboard message's answer holds that answer, refused or not, whole at its start; every
  -- byte behind it stands as before
  pub answered : (c : Cell) (message room after : List ℕ) (r : KeyAnswer) → Keys c message room after r
      → Whole (answer_text (read_message message).asks r.told) room after r.at
  -- "17 unknown message word, checked before everything else": it is answered `--- 17 IN ER` and changes nothing
  pub unknown : (c : Cell) (message room after : List ℕ) (r : KeyAnswer) → Keys c message room after r
      → known (message_words message) ≡ false → Whole (bytes "--- 17 IN ER") room after r.at × (r.cell ≡ c)
  -- a message in whose fields a fault is read is told that and changes nothing, and any other is told of none
  pub mistyped : (c d : Cell) (message : List ℕ) (reply : Reply) (word : Word) (fault : Fault) → Does c (Key message) reply d
      → (read_message message).asks ≡ Wrong word fault → (reply ≡ Mistyped fault) × (d ≡ c)
  pub faulty : (c d : Cell) (message : List ℕ) (fault : Fault) → Does c (Key message) (Mistyped fault) d
      → (word : Word) × ((read_message message).asks ≡ Wrong word fault)
  -- a configuration, with its three sections, is read exactly if it is the written form of one; else refusal 14 names
  -- the first bad or missing line
  pub configuration : (s : List ℕ) → Means s (configuration_of s)
  pub read : (s : List ℕ) (of : List Channel) (marks : List Bool) (word : ℕ) → InForm s of marks word
      → configuration_of s ≡ good of marks word
  pub named : (s : List ℕ) (line : ℕ) → FirstBad s line → configuration_of s ≡ refused line
  -- the third section is "the codes that set interlock": those that its lines list, and no other
  pub section : (s : List ℕ) (of : List Channel) (marks : List Bool) (word : ℕ) (form : InForm s of marks word) (code : ℕ)
      → sets_interlock word code ≡ lists_code form.reads.items code
  -- The cards program prints its text, one piece behind the other: as many turns as its loop takes are enough for whatever
  -- its buffer holds
  pub pieces : (deck : List ℕ) → length deck ≤ 65536 → turns 65537 deck (begin deck) ≡ cards_text deck
  -- and the second program prints that line
  pub printed : (s room after : List ℕ) (r line : ℕ) → FirstBad s line → Listed s room after r → 96 ≤ length room
      → take r after ≡ error_text line
  -- Of two decks on the desk and any ID a part of one of them is shown, or a refusal answers, each exactly when its
  -- sentence holds,
  pub desk : (id repair day part : List ℕ) (r : Extent) → Shows id repair day r part → ShownSo id repair day r part
  -- where the one function says which deck and from which byte on, the other shows just that part,
  pub tied : (id repair day part : List ℕ) (r : Extent) → Shows id repair day r (part_of r repair day) → Shown' id repair day part
      → part ≡ part_of r repair day
  -- and the desk program prints what is due for its input, in whatever pieces that comes
  pub desk_prints : (s t : Desk.Standing) (calls : List Desk.Call) (last : List ℕ) → Desk.Begins s → Desk.Runs s calls t
      → Desk.Ends t.desk.stage t last → Prints (Desk.input_of calls) (Desk.printed calls ++ last)

-- the cell with other units
abbrev pub with_units : Cell → List (List UnitState) → Cell
with_units c units =
    cell_of c.schedule
    (record {
      channels = c.lists.channels;
      codes = c.lists.codes;
      jobs = c.lists.jobs;
      list = c.lists.list;
      moving = c.lists.moving;
      units = units_from units;
    })

-- two units have the same marks
abbrev pub SameMarks : UnitState → UnitState → Type 0
SameMarks u v = (u.down ≡ v.down) × (u.reserved ≡ v.reserved)

-- a job ends by this call, or is closing since its end: in error or not
abbrev pub Ends : Cell → Call → ℕ → Bool → Type 0
Ends c x place in_error = (x ≡ Do (End place in_error)) ⊎ (state_in (inside c).jobs place ≡ closing in_error)

-- what joins the list of listed packets: one that is submitted with a function other than 07 and 23
abbrev pub joins : Rules.Call → List ℕ
joins (Rules.Take place given) = []
joins (Rules.Do (Submit place packet function channel spot)) = cond (eqb function 0o07 || eqb function 0o23) [] (entry_of place packet ∷ [])
joins (Rules.Do (Start channel)) = []
joins (Rules.Do (Complete channel how)) = []
joins (Rules.Do (End place in_error)) = []
joins (Rules.Do (Return place channel unit)) = []
joins (Rules.Do (Mark channel unit mark on)) = []

-- a job was taken into a place with an assignment
abbrev pub taken_into : ℕ → Assignment → Lists.Event
taken_into place given = record { call = Rules.Take place given; answer = Answers.Done }

-- each accepted call of a history of the request lists is answered as the rules say, from the state before it
abbrev pub AnsweredSo : State → List Lists.Event → Type 0
AnsweredSo s [] = Unit {0}
AnsweredSo s (e ∷ l) =
    (is_accepted e.answer ≡ true → e.answer ≡ Rules.answer s e.call) × AnsweredSo (Rules.step s e.call).state l

-- a selection "refused" is "these three together", each exactly when its sentence holds
pub record RefusedSo (c : Cell) (o : Outcome) : Type 0 where
  -- "18 means no place is free",
  pub no_place : Exactly (o ≡ Err NoPlaceFree) (AllHeld c.lists)
  -- else "19 that there are no candidates",
  pub no_candidates : Exactly (o ≡ Err NoCandidates) ((AllHeld c.lists → ⊥) × NoCandidate (in_schedule c.schedule))
  -- else "20 that there are some", and none of them has an assignment;
  pub no_assignment : Exactly (o ≡ Err NoAssignment)
      ((AllHeld c.lists → ⊥) × ((NoCandidate (in_schedule c.schedule) → ⊥) × NoFit (in_schedule c.schedule) (supply_in c.lists)))
  -- and it is refused "exactly when no place is free or no such job exists"
  pub together : Exactly (o ≡ Ok tt → ⊥) (AllHeld c.lists ⊎ NoFit (in_schedule c.schedule) (supply_in c.lists))

-- what comes with 20: "the first candidate's ID and the first facility lacking for it, in the order core, drum, MA, MT,
-- PR", and "20 names the new kinds after PR": MC, CR, PT
pub record Missing (c : Cell) (s : Selection) : Type 0 where
  pub at : ℕ
  pub candidate : Candidate (in_schedule c.schedule) at
  pub first : (i : ℕ) → Candidate (in_schedule c.schedule) i → (i ≡ at → ⊥)
      → precedes (key_of (entry_at (in_schedule c.schedule) at).request) (key_of (entry_at (in_schedule c.schedule) i).request) ≡ true
  pub id : s.first ≡ (entry_at (in_schedule c.schedule) at).request.id
  pub part : Part
  pub lacking : FirstLacking (supply_in c.lists) (entry_at (in_schedule c.schedule) at).request.facilities (Some part)
  pub told : s.choice ≡ Lacks part

-- "2. It is right against UP-2577 Rev. 1 as document 01 condenses it. Cards written are read back as the same request. The
-- job selected is the first in order, of those allowed to run, for which all its facilities can be found, and selection is
-- refused exactly when no place is free or no job allowed to run has such an assignment. Packets end with the stated codes."
pub record Demand2 : Type 0 where
  -- "cards written are read back as the same request": every request with its further cards that breaks no rule is
  -- written where its cards fit, and they are read as it,
  pub wrote : (v : FullRequest) (room : ℕ) → AllowedFull v → fits v room ≡ true → write_answer v room ≡ Ok (length (text_of v))
  pub bytes : (v : FullRequest) (room : List ℕ) → AllowedFull v → fits v (length room) ≡ true
      → written v room ≡ text_of v ++ drop (length (text_of v)) room
  pub cards : (v : FullRequest) (room : List ℕ) → AllowedFull v → fits v (length room) ≡ true
      → read_full (cards_of (take (length (text_of v)) (written v room))) ≡ record { verdict = Ok tt; full = v }
  -- and every request that was read from cards is written where the room has 1,296 bytes: neither 13 nor 12 arises
  pub again : (group : List (List ℕ)) (v : FullRequest) (room : List ℕ) → read_full group ≡ record { verdict = Ok tt; full = v }
      → 1296 ≤ length room
      → (write_answer v (length room) ≡ Ok (length (text_of v)))
      × (read_full (cards_of (take (length (text_of v)) (written v room))) ≡ record { verdict = Ok tt; full = v })
  -- "Written cards keep the division read": each further card is written as the one read, in canonical form and behind the
  -- ID; PTY has at most 64 characters, and each other card is no longer than the one read
  pub division : (group : List (List ℕ)) (v : FullRequest) → read_full group ≡ record { verdict = Ok tt; full = v }
      → (drop 2 (cards_in v) ≡ behind_id (spaceless v.request.id) (canonicals (drop 2 group)))
      × ((length (get_or (cards_in v) 0 []) ≤ 64) × NoLonger (drop 1 (cards_in v)) (drop 1 group))
  -- "equal requests, entry order apart": where one FAC card is good, another that is not malformed, of the same ID and
  -- with the same entries in any order, is good with the same further cards, and the same request, so its cards are the
  -- same; further cards that are held alike say the same, one by one in order
  pub same : (pty fac other : List ℕ) (further : List (List ℕ)) → malformed other ≡ false → take 2 (fields other) ≡ take 2 (fields fac)
      → Permuted (entries_of fac) (entries_of other) → (v : FullRequest)
      → read_full (pty ∷ fac ∷ further) ≡ record { verdict = Ok tt; full = v }
      → read_full (pty ∷ other ∷ further) ≡ record { verdict = Ok tt; full = v }
  pub alike : (cards others : List Card) → Kept cards → Kept others → held (texts_of cards) ≡ held (texts_of others) → cards ≡ others
  -- "With highest digit N the parameter table has 66 times (N+1) characters, blanks filling a short or omitted card's 66":
  -- of cards that keep the rules, the character at place i is character i mod 66 of the PM text with digit i div 66, or a
  -- blank
  pub table : (cards : List Card) → Kept cards → (i : ℕ) → place (held (texts_of cards)) i ≡ get_or (sheet_at (i / 66) cards) (i % 66) (byte " ")
  pub rows : (cards : List Card) → Kept cards → table_size (held (texts_of cards)) ≡ 66 * sheet_rows cards
  -- "A card error bars only its own request": what a deck asks for is entered, group by group, or gets its card error;
  -- a released request waits, a deleted one is gone
  pub entered : (c : Cell) (deck room after : List ℕ) (r : DeckAnswer) → Enters c deck room after r
      → r.cell.schedule ≡ deck_schedule c.schedule deck
  pub released : (c d : Cell) (id : List ℕ) (reply : Reply) → Does c (Release id) reply d
      → d.schedule ≡ (Schedule.released c.schedule id).schedule
  pub deleted : (c d : Cell) (id : List ℕ) (reply : Reply) → Does c (Delete id) reply d
      → d.schedule ≡ (Schedule.deleted c.schedule id).schedule
  -- "ID, 1-6 letters or digits": such is the ID of every request in a schedule that any calls lead to,
  pub identified : (configuration : Configuration) (es : List Event) (c : Cell) → Reached configuration es c
      → Each (λ r. Name is_alnum 1 6 r.id) (requests (in_schedule c.schedule))
  -- so that a word is no request's ID if it has over six bytes or one that is no letter or digit: the answer is
  -- 15, "no such ID"
  pub nobody : (configuration : Configuration) (es : List Event) (c : Cell) → Reached configuration es c
      → (word : List ℕ) → IsWord word → (6 < length word) ⊎ (every is_alnum word ≡ false)
      → find (is_named (id_of word)) (in_schedule c.schedule) ≡ none
  -- the answer to a deck, "errors .. in deck order" and "the last good ID", is the first bytes of the lent room, cut
  -- nowhere, and every byte behind it is kept
  pub noted : (c : Cell) (deck room after : List ℕ) (r : DeckAnswer) → Enters c deck room after r
      → Whole (deck_notes c.schedule deck) room after r.at
  -- "the job selected" is a candidate with an assignment, the one chosen, and the place the lowest that is free,
  pub selected : (c d : Cell) (s : Selection) → Does c Select (Chosen (Ok tt) s) d → Selected (in_schedule c.schedule) c.lists s
  -- it runs then, so that it is not selected again,
  pub runs : (c d : Cell) (s : Selection) → Does c Select (Chosen (Ok tt) s) d
      → d.schedule ≡ Schedule.taken c.schedule s.at s.place
  -- and it is "the first in order": by letter, then precedence, then sequence no candidate with an assignment comes
  -- before it
  pub first : (configuration : Configuration) (es : List Event) (c : Cell) → Reached configuration es c
      → (d : Cell) (s : Selection) → Does c Select (Chosen (Ok tt) s) d
      → (i : ℕ) → Candidate (in_schedule c.schedule) i
      → precedes (key_of (entry_at (in_schedule c.schedule) i).request) (key_of s.request) ≡ true
      → HasNone (supply_in c.lists) (entry_at (in_schedule c.schedule) i).request
  -- "taken into the lowest free place": what was assigned it then holds, exactly those units, that drum area and that
  -- core, none of it being returned, and no other job has any of it
  pub holds : (configuration : Configuration) (es : List Event) (c : Cell) → Reached configuration es c
      → (d : Cell) (s : Selection) → Does c Select (Chosen (Ok tt) s) d
      → StillOwn (inside d) s.place (assignment_of s.request.facilities s.assigned) no_heads no_heads
  -- "selection is refused exactly when no place is free or no such job exists", with 18, 19 or 20;
  pub refused : (c d : Cell) (o : Outcome) (s : Selection) → Does c Select (Chosen o s) d → RefusedSo c o
  -- 20 says what was missing, and something is missing exactly when there is no assignment;
  pub missing : (configuration : Configuration) (es : List Event) (c : Cell) → Reached configuration es c
      → (d : Cell) (s : Selection) → Does c Select (Chosen (Err NoAssignment) s) d → Missing c s
  pub exists : ExistsExactly
  -- but for that "a refused call returns the number alone"
  pub alone : (c d : Cell) (s : Selection) (n : Refusal) → Does c Select (Chosen (Err n) s) d
      → (outcome_of s.choice ≡ Err n) × ((s ≡ unselected s.choice s.first) × ((n ≡ NoAssignment → ⊥) → s.first ≡ no_id))
  -- "Each message does what the existing call does": it is answered as that call is, and leaves the cell that it leaves
  pub typed : (c d : Cell) (message : List ℕ) (reply : Reply) (x : Call) → Does c (Key message) reply d → meant (Key message) ≡ some x
      → Does c x reply d
  -- "Marks may change at any time": the unit is marked or the mark cleared, and nothing else changes
  pub marked : (c d : Cell) (channel : ChannelNumber) (unit : UnitNumber) (mark : UnitMark) (on : Bool) (reply : Reply)
      → Does c (Do (Mark channel unit mark on)) reply d → refusal_in reply ≡ none
      → let units = c.lists.units.of in
      d ≡ with_units c (unit_set units channel.0 unit.0 (marked_unit mark on (unit_in units channel.0 unit.0)))
  -- by no other call, typed or not, does a mark change, nor by any call what "a channel has"
  pub marks : (c d : Cell) (x : Call) (reply : Reply) → Does c x reply d
      → ((channel : ChannelNumber) (unit : UnitNumber) (mark : UnitMark) (on : Bool) → meant x ≡ some (Do (Mark channel unit mark on)) → ⊥)
      → (channel unit : ℕ) → SameMarks (unit_in (inside d).units channel unit) (unit_in (inside c).units channel unit)
  pub channels : (c d : Cell) (x : Call) (reply : Reply) → Does c x reply d → (inside d).channels ≡ (inside c).channels
  -- and the codes that set interlock are those of the configuration through any calls
  pub section_stays : (configuration : Configuration) (es : List Event) (c : Cell) → Reached configuration es c
      → (inside c).codes ≡ configuration.codes
  -- "only then a normal end removes its request; an error end suspends it if its sequence is 1 or more, else removes
  -- it": a job that ends is closing so, until a call empties its place; that call does this to its request
  pub ended : (c d : Cell) (x : Call) (reply : Reply) → Does c x reply d → refusal_in reply ≡ none
      → (place : ℕ) (in_error : Bool) → Ends c x place in_error
      → (state_in (inside d).jobs place ≡ closing in_error)
      ⊎ ((state_in (inside d).jobs place ≡ Empty) × (d.schedule ≡ Schedule.returned c.schedule place in_error))
  -- while it is closing its request is, and nothing else in the schedule changes; nor does anything there change by a
  -- submission, a start, a unit's return, or a completion that empties no place
  pub closes : (c d : Cell) (place : ℕ) (in_error : Bool) (reply : Reply) → Does c (Do (End place in_error)) reply d
      → state_in (inside d).jobs place ≡ closing in_error → refusal_in reply ≡ none → d.schedule ≡ Schedule.closing c.schedule place
  pub submits : (c d : Cell) (place packet function : ℕ) (channel : ChannelNumber) (spot : Spot) (reply : Reply)
      → Does c (Do (Submit place packet function channel spot)) reply d → d.schedule ≡ c.schedule
  pub starts : (c d : Cell) (channel : ChannelNumber) (reply : Reply) → Does c (Do (Start channel)) reply d → d.schedule ≡ c.schedule
  pub returns : (c d : Cell) (place : ℕ) (channel : ChannelNumber) (unit : UnitNumber) (reply : Reply)
      → Does c (Do (Return place channel unit)) reply d → d.schedule ≡ c.schedule
  pub completes : (c d : Cell) (channel : ChannelNumber) (how : How) (reply : Reply) → Does c (Do (Complete channel how)) reply d
      → ((place : ℕ) → is_empty (state_in (inside d).jobs place) ≡ is_empty (state_in (inside c).jobs place)) → d.schedule ≡ c.schedule
  -- a job runs until its end is called,
  pub runs_on : (c d : Cell) (x : Call) (reply : Reply) → Does c x reply d → (place : ℕ)
      → state_in (inside c).jobs place ≡ Running → ((in_error : Bool) → x ≡ Do (End place in_error) → ⊥)
      → state_in (inside d).jobs place ≡ Running
  -- and as long as it runs or closes, its request stands in the schedule once, running or closing there
  pub stays : (configuration : Configuration) (es : List Event) (c : Cell) → Reached configuration es c
      → (place : ℕ) → place < 16
      → states_in place (in_schedule c.schedule) ≡ standing (state_in (inside c).jobs place) place
  -- "one in progress per channel", and a stopping one counts as such: what a channel is taken to carry is a packet
  -- that is in progress or stopping there, and each such packet is what its channel carries
  pub busy : (configuration : Configuration) (es : List Event) (c : Cell) → Reached configuration es c
      → (channel place packet : ℕ)
      → (motion_on (inside c) channel ≡ Some (place, packet)
      → (in_motion (packet_in (inside c).jobs place packet).status ≡ true) × ((packet_in (inside c).jobs place packet).channel.0 ≡ channel))
      × (in_motion (packet_in (inside c).jobs place packet).status ≡ true
      → motion_on (inside c) (packet_in (inside c).jobs place packet).channel.0 ≡ Some (place, packet))
  -- A call on packets, jobs, units or marks is told to the request lists as itself, with the answer that was replied,
  pub itself : (c d : Cell) (x : Act) (reply : Reply) → Does c (Do x) reply d
      → (a : Answer) × (reply ≡ Said a) × (told_of (Do x) reply ≡ record { call = Rules.Do x; answer = a } ∷ [])
  -- and a selection that is answered Done as the taking of its job, done.
  pub selection : (c d : Cell) (s : Selection) → Does c Select (Chosen (Ok tt) s) d
      → told_of Select (Chosen (Ok tt) s) ≡ taken_into s.place (assignment_of s.request.facilities s.assigned) ∷ []
  -- A call is told as none, one or several of theirs: these, each answered so, lead from the lists before it to those after
  pub leads : (c d : Cell) (x : Call) (reply : Reply) → Does c x reply d → Lists.Leads (inside c) (told_of x reply) (inside d)
  -- "packets end with the stated codes": over any history, after each of these that is accepted each packet's status is
  -- the stated one,
  pub codes : (configuration : Configuration) (es : List Event) (c : Cell) → Reached configuration es c
      → (d : Cell) (x : Call) (reply : Reply) → Does c x reply d
      → Along (λ before y after. (place packet : ℕ)
      → (packet_in after.jobs place packet).status ≡ status_after before y place packet) (inside c) (told_of x reply)
  -- and each unit's interlock is what such a call makes of it: set by a failure there with one of the codes of the
  -- section, "any other failure code sets none"; cleared by 07 there, and for the job that gets the unit,
  pub interlocks : (configuration : Configuration) (es : List Event) (c : Cell) → Reached configuration es c
      → (d : Cell) (x : Call) (reply : Reply) → Does c x reply d
      → Along (λ before y after. (channel unit : ℕ)
      → (unit_in after.units channel unit).interlock ≡ interlock_after before y channel unit) (inside c) (told_of x reply)
  -- so that where all 60 codes are listed, and a section can list all, a completion leaves and answers what it did when
  -- document 01 "had every failure set it"; and nothing else goes by the section
  pub before : AllListed all60 × AsBefore
  pub elsewhere : OnlyCompletions
  -- what an accepted call answers: "a completion answers the place and number of the packet it ends", and like an end
  -- whether the job's facilities returned; a start what begins; a submission, a unit's return and a mark are done,
  pub answers : (c d : Cell) (x : Call) (reply : Reply) → Does c x reply d → AnsweredSo (inside c) (told_of x reply)
  -- and so are a release and a deletion
  pub changes : (c d : Cell) (id : List ℕ) (a : Answer) → Does c (Release id) (Said a) d ⊎ Does c (Delete id) (Said a) d
      → refusal_in (Said a) ≡ none → a ≡ Answers.Done
  -- "the oldest listed packet" is meant of an order of submission: those still listed keep their order, and what is
  -- submitted and listed joins at the list's end,
  pub order : (configuration : Configuration) (es : List Event) (c : Cell) → Reached configuration es c
      → (d : Cell) (x : Call) (reply : Reply) → Does c x reply d
      → Along (λ before y after. after.queue ≡ keep (is_still after.jobs) before.queue ++ joins y) (inside c) (told_of x reply)
  -- and a call of which the request lists are told nothing leaves all packets as they are,
  pub others : (c d : Cell) (x : Call) (reply : Reply) → Does c x reply d → told_of x reply ≡ [] → inside d ≡ inside c
  -- and that is the status that is shown, and nothing changes by it
  pub shown : (c d : Cell) (place packet : ℕ) (status : Status) → Does c (Call.Status place packet) (Shown (Ok status)) d
      → (status ≡ (packet_in (inside c).jobs place packet).status) × (d ≡ c)
  -- "For an ID the reader shall show us the request's own cards": what is shown is read as the first group of that ID in the
  -- repair deck, or where that has none in the day's
  pub own_repair : (id repair day part : List ℕ) (r : Extent) → Shows id repair day r part → r.which ≡ Ok Which'.Repair
      → (v : FirstOf id (deck_groups repair) r.from part) × (cards_of part ≡ v.own)
  pub own_day : (id repair day part : List ℕ) (r : Extent) → Shows id repair day r part → r.which ≡ Ok Which'.Day
      → NoneHas id (deck_groups repair) × ((v : FirstOf id (deck_groups day) r.from part) × (cards_of part ≡ v.own))
  -- "the second program": for each channel but the drum's its number and how many of its units are assignable in
  -- the fresh cell
  pub listing : (s room after : List ℕ) (r : ℕ) (of : List Channel) (marks : List Bool) (word : ℕ) → InForm s of marks word
      → Listed s room after r → 96 ≤ length room → take r after ≡ lines_from (record { channels = of; down = marks; codes = word }) 16 0
  pub counted : (configuration : Configuration) (channel : ChannelNumber)
      → assignable_units configuration (fresh_units configuration.down) channel 16
      ≡ how_many 16 (λ u. has_unit configuration channel (record { 0 = u })
      && assignable (unit_in (inside (fresh_cell configuration)).units channel.0 u))

-- a packet of the job in a place is in progress or stopping on a unit
abbrev pub MovesThere : Cell → ℕ → ChannelNumber → UnitNumber → Type 0
MovesThere c place channel unit =
    (packet : ℕ) × (in_motion (packet_in (inside c).jobs place packet).status ≡ true)
    × (is_at channel.0 (AtUnit unit) (packet_in (inside c).jobs place packet) ≡ true)

-- "3. Take any sequence of calls from a fresh cell, and a stretch in which one job holds one unit or a piece of drum, from
-- its assignment up to its return or any earlier moment. List only the accepted calls that acted on that holding, as
-- document 01 names them. Given to a lone unit that follows the written rules, they make the same starts in the same order
-- and leave the same status in every packet last submitted there. On a unit that isn't the drum, nothing of another job
-- starts or is still moving during that stretch."
pub record Demand3 : Type 0 where
  -- a history with keyboard messages is one with the calls that they are
  pub spelled : SpelledAlways
  pub alike :
      -- any sequence of calls from a fresh cell
      (configuration : Configuration) (before : List Event) (c : Cell) → Reached configuration before c
      -- then a call that is told as a taking of a job, with others before it and after it or none; the lists are then s
      → (d : Cell) (x : Call) (reply : Reply) → Does c x reply d
      → (early late : List Lists.Event) (place : ℕ) (given : Assignment) → told_of x reply ≡ early ++ (taken_into place given ∷ late)
      → (s : State) → Lists.Leads (inside c) (early ++ (taken_into place given ∷ [])) s
      -- one holding of it: a unit, or its piece of the drum
      → (h : Holding) → h.place ≡ place → Holds s h
      -- the rest of that call, and any calls after it. Before each the job has the holding: up to its return, "the unit's
      -- own" or with the rest of the job's facilities, or any earlier moment
      → (during : List Event) (e : Cell) → Leads d during e → Stretch h s (late ++ told during)
      -- by what the caller was told: the lone unit, which "takes the same section", takes every call that acted, makes
      -- the same starts in the same order and leaves the same statuses; what starts or moves on a unit this job has
      -- submitted there since its taking, so that it is of no other job, nor of one that had the same place before; and a
      -- unit whose return was asked for is the job's exactly as long as the lone unit moves
      → Isolated configuration.codes h (late ++ told during) (inside e)
  -- "the head is handed on at once" cannot happen: while a packet of a job is in progress or stopping, on whatever
  -- channel, the job is in its place,
  pub moving : (configuration : Configuration) (es : List Event) (c : Cell) → Reached configuration es c
      → (place packet : ℕ) → in_motion (packet_in (inside c).jobs place packet).status ≡ true
      → is_empty (state_in (inside c).jobs place) ≡ false
  -- and as long as it is, everything that its selection gave it (units, drum area, core) less what it has returned is its
  -- own, and nothing else: the rest "return together". It has returned a unit when it asked for that and nothing moves there
  pub own : (configuration : Configuration) (es : List Event) (c : Cell) → Reached configuration es c
      → (place : ℕ) → is_empty (state_in (inside c).jobs place) ≡ false
      → (given : Assignment) × (taking (told es) place ≡ some given)
      × StillOwn (inside c) place given (asking (told es) place) (has_returned (told es) place)
  -- among it the unit, or on the drum the address, that the packet is on
  pub head : (configuration : Configuration) (es : List Event) (c : Cell) → Reached configuration es c
      → (place packet : ℕ) → in_motion (packet_in (inside c).jobs place packet).status ≡ true
      → OnItsOwn (inside c) place (packet_in (inside c).jobs place packet)
  -- With one head back early: its return leaves a unit being returned while a packet of the job is in progress or stopping
  -- there, and frees it "at once if nothing moves",
  pub back : (configuration : Configuration) (es : List Event) (c : Cell) → Reached configuration es c
      → (d : Cell) (place : ℕ) (channel : ChannelNumber) (unit : UnitNumber) (reply : Reply)
      → Does c (Do (Return place channel unit)) reply d → refusal_in reply ≡ none
      → (MovesThere c place channel unit → (unit_in (inside d).units channel.0 unit.0).holder ≡ Returning place)
      × ((MovesThere c place channel unit → ⊥) → (unit_in (inside d).units channel.0 unit.0).holder ≡ Free)
  -- on a unit that is being returned a packet of the job that holds it is stopping,
  pub waits : (configuration : Configuration) (es : List Event) (c : Cell) → Reached configuration es c
      → (channel unit : ℕ) → is_returning (unit_in (inside c).units channel unit).holder ≡ true
      → (place packet : ℕ) × (held_by (unit_in (inside c).units channel unit).holder place ≡ true)
      × (motion_on (inside c) channel ≡ Some (place, packet))
      × ((packet_in (inside c).jobs place packet).at ≡ AtUnit (record { 0 = unit }))
      × ((packet_in (inside c).jobs place packet).status ≡ Stopping)
  -- "the unit is free when that completion comes", full, cut or failed,
  pub frees : (configuration : Configuration) (es : List Event) (c : Cell) → Reached configuration es c
      → (d : Cell) (channel : ChannelNumber) (unit : ℕ) (how : How) (reply : Reply)
      → Does c (Do (Complete channel how)) reply d → refusal_in reply ≡ none
      → is_returning (unit_in (inside c).units channel.0 unit).holder ≡ true
      → (unit_in (inside d).units channel.0 unit).holder ≡ Free
  -- and no other call, the job's end among them, changes who holds it
  pub until : (configuration : Configuration) (es : List Event) (c : Cell) → Reached configuration es c
      → (d : Cell) (x : Call) (reply : Reply) → Does c x reply d
      → (channel unit : ℕ) → is_returning (unit_in (inside c).units channel unit).holder ≡ true
      → ((how : How) → x ≡ Do (Complete (record { 0 = channel }) how) → ⊥)
      → (unit_in (inside d).units channel unit).holder ≡ (unit_in (inside c).units channel unit).holder
  -- and a closing job always has a packet stopping, so that nothing of it, a unit given back early apart, is handed on
  -- before the last completion
  pub closing : (configuration : Configuration) (es : List Event) (c : Cell) → Reached configuration es c
      → (place : ℕ) → is_closing (state_in (inside c).jobs place) ≡ true
      → (packet : ℕ) × ((packet_in (inside c).jobs place packet).status ≡ Stopping)
  -- and what returned is free: an empty place has no unit, no word of drum and no block of core
  pub free : (configuration : Configuration) (es : List Event) (c : Cell) → Reached configuration es c
      → (place : ℕ) → is_empty (state_in (inside c).jobs place) ≡ true
      → ((channel unit : ℕ) → held_by (unit_in (inside c).units channel unit).holder place ≡ false)
      × ((area_of (job_in (inside c).jobs place) ≡ no_area) × (core_of (job_in (inside c).jobs place) ≡ no_core))
