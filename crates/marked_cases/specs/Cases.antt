-- THE MARKED CASES K1 TO K9 of document 01, one list, and what it is that each holds. A reader has to believe this
-- page.
use Rattle.std.specs.Prelude.{ℕ, ◌+◌, ◌-◌, ◌≡◌, cond, false, List, [], ◌∷◌, ◌++◌, eqb, set, Err, Ok}
use Rattle.numbers.specs.declared.ChannelNumber.{ChannelNumber}
use Rattle.numbers.specs.Quoted.{bytes}
use Rattle.numbers.specs.Kinds.{order_of}
use Rattle.numbers.specs.declared.Kind.TheVariants.{Mt, Md}
use Rattle.numbers.specs.declared.Refusal.{Refusal}
use Rattle.numbers.specs.declared.Refusal.TheVariants.{NoAssignment}
use Rattle.numbers.specs.Limits.{most_words}
use Rattle.units.specs.State.{unit_in}
use Rattle.units.specs.declared.Holder.{Holder}
use Rattle.units.specs.declared.Holder.TheVariants.{Free, Held}
use Rattle.channels.specs.Channels.{fitted, no_channels, no_down}
use Rattle.channels.specs.declared.Channel.{Channel}
use Rattle.channels.specs.declared.Configuration.{Configuration}
use Rattle.words.specs.Lines.{lf}
use Rattle.cards_fields.specs.Deck.{termination}
use Rattle.cards_request.specs.Errors.{error_number, CardVerdict}
use Rattle.cards_group.specs.Group.{read_group}
use Rattle.schedule_deck.specs.Report.{deck_text}
use Rattle.assign_channels.specs.Choice.{on}
use Rattle.assign.specs.Assignment.{channels_of}
use Rattle.assign.specs.declared.Part.{Part}
use Rattle.assign.specs.declared.Part.TheVariants.{Units}
use Rattle.packets.specs.declared.Answer.{Answer}
use Rattle.packets.specs.declared.Act.TheVariants.{Complete, End, Start, Submit}
use Rattle.packets.specs.declared.Answer.TheVariants.{Closed, Completed, Done, Started}
use Rattle.packets.specs.declared.How.TheVariants.{Full}
use Rattle.packets.specs.declared.Leaving.TheVariants.{AfterNormal, Stays}
use Rattle.packets.specs.declared.Site.TheVariants.{AtUnit}
use Rattle.packets.specs.declared.Spot.TheVariants.{OnUnit}
use Rattle.cell_selection.specs.declared.Choice.{Choice}
use Rattle.cell_selection.specs.declared.Choice.TheVariants.{Job, NoPlace, NoCandidates, Lacks}
use Rattle.cell_selection.specs.declared.Selection.{Selection}
use Rattle.cell.specs.Calls.{fresh_cell}
use Rattle.cell.specs.declared.Cell.{Cell}
use Rattle.cell_history.specs.Told.{inside}
use Rattle.keyboard.specs.declared.Fault.{Fault}
use Rattle.cell_history.specs.History.{Call, Chosen, Deck, Do, Does, Entered, Reply, Said, Select}

-- ---- what is seen of a reply

-- of a selection: the job's place, the starts of IB and DB, the first and last word of its drum area. Also the channels
-- of MT's entries 1 and 2. Of one that is refused for a facility: the first candidate's ID, and what is lacking
pub data Seen : Type 0 where
  Accepted : Seen
  Refused : Refusal → Seen
  Given : (place ib db first last mt1 mt2 : ℕ) → Seen
  Missing : Refusal → List ℕ → Part → Seen
  Answered : Answer → Seen
  Faulty : Fault → Seen

-- MT's place in the written order of the kinds
abbrev pub mt : ℕ
mt = order_of Mt

-- a drum area has words from its start on; 0 where none are asked for
abbrev pub last_word : ℕ → ℕ → ℕ
last_word start words = cond (eqb words 0) 0 (start + words - 1)

abbrev pub given : Selection → Seen
given s =
    Given s.place s.assigned.ib s.assigned.db s.assigned.drum (last_word s.assigned.drum s.request.facilities.md)
    (on (channels_of s.assigned mt) 1) (on (channels_of s.assigned mt) 2)

abbrev pub missing : Refusal → List ℕ → Choice → Seen
missing n id Job = Refused n
missing n id NoPlace = Refused n
missing n id NoCandidates = Refused n
missing n id (Lacks part) = Missing n id part

abbrev pub seen : Reply → Seen
seen (Entered (Ok u)) = Accepted
seen (Entered (Err n)) = Refused n
seen (Chosen (Ok u) s) = given s
seen (Chosen (Err n) s) = missing n s.first s.choice
seen (Said a) = Answered a
seen (Reply.Shown (Ok status)) = Accepted
seen (Reply.Shown (Err n)) = Refused n
seen (Reply.Mistyped fault) = Faulty fault

-- ---- the cases

-- a call, and what is seen of its reply
pub record Step : Type 0 where
  pub call : Call
  pub seen : Seen

-- the same, and who then holds the unit that is watched
pub record Watched : Type 0 where
  pub call : Call
  pub seen : Seen
  pub holder : Holder

-- what a case gives, and what must come out
pub data Case : Type 0 where
  -- a deck, and what the deck program prints
  Prints : List ℕ → List ℕ → Case
  -- the cards of a group, and the number of its card error
  Errs : List (List ℕ) → ℕ → Case
  -- calls on the fresh cell of a configuration, and what is seen of each reply
  Plays : Configuration → List Step → Case
  -- calls on the fresh cell of a configuration. Of each call what is seen of its reply, and who then holds a unit of a
  -- channel
  Keeps : Configuration → (channel unit : ℕ) → List Watched → Case

-- the number of a group's card error; 0 without
abbrev pub number_in : CardVerdict → ℕ
number_in (Ok u) = 0
number_in (Err e) = error_number e

-- calls one after the other: whatever reply and cell the contracts allow, this is seen. That there is a reply is what
-- the check of `cell` says
abbrev pub Follows : Cell → List Step → Type 0
Follows c [] = Unit {0}
Follows c (s ∷ ss) =
    (reply : Reply) (d : Cell) → Does c s.call reply d
    → (seen reply ≡ s.seen) × Follows d ss

-- the same, and after each call who holds the unit
abbrev pub Watches : ℕ → ℕ → Cell → List Watched → Type 0
Watches channel unit c [] = Unit {0}
Watches channel unit c (s ∷ ss) =
    (reply : Reply) (d : Cell) → Does c s.call reply d
    → (seen reply ≡ s.seen) × (((unit_in (inside d).units channel unit).holder ≡ s.holder) × Watches channel unit d ss)

-- a case holds: of the definitions that the functions' contracts cite
abbrev pub Holds : Case → Type 0
Holds (Prints deck text) = deck_text deck ≡ text
Holds (Errs cards number) = number_in (read_group cards).verdict ≡ number
Holds (Plays configuration steps) = Follows (fresh_cell configuration) steps
Holds (Keeps configuration channel unit steps) = Watches channel unit (fresh_cell configuration) steps

-- ---- what they give

-- cards with the termination card behind them
abbrev pub deck : List ℕ → List ℕ
deck cards = cards ++ (termination ++ (lf ∷ []))

-- a request by its ID, its priority and its entries
abbrev pub job : List ℕ → List ℕ → List ℕ → List ℕ
job id priority entries =
    id ++ (bytes ",PTY,2,,ECU,,T,PROG,P," ++ (priority ++ (bytes ",P,3.\n" ++ (id ++ (bytes ",FAC," ++ (entries ++ bytes ".\n"))))))

-- a cell with these codes that set interlock and these channels, and no unit down
abbrev pub with· : ℕ → List Channel → Configuration
with· codes channels = record { channels = channels; down = no_down; codes = codes }

-- MT channel 3 with four free and 5 with two
abbrev pub mt_channels : List Channel
mt_channels = set (set no_channels 3 (fitted Mt 4)) 5 (fitted Mt 2)

-- MT channel 3 with four free, and no other
abbrev pub one_channel : List Channel
one_channel = set no_channels 3 (fitted Mt 4)

-- a drum
abbrev pub drum_channels : List Channel
drum_channels = set no_channels 7 (fitted Md most_words)

abbrev pub step : Call → Seen → Step
step call seen = record { call = call; seen = seen }

-- one request is entered and selected in a fresh cell
abbrev pub alone : List ℕ → Seen → List Step
alone entries seen = step (Deck (deck (job (bytes "A1") (bytes "A5") entries))) Accepted ∷ step Select seen ∷ []

-- four jobs take blocks 2-4, 5-7, 8-9 and 10-29, and the first and third end: blocks 2-4 and 8-9 are free
abbrev pub four_jobs : List ℕ
four_jobs =
    job (bytes "A1") (bytes "A1") (bytes "IB/3")
    ++ (job (bytes "A2") (bytes "A2") (bytes "IB/3")
    ++ (job (bytes "A3") (bytes "A3") (bytes "IB/2")
    ++ (job (bytes "A4") (bytes "A4") (bytes "IB/20")
    ++ job (bytes "A5") (bytes "A5") (bytes "IB/2,DB/3"))))

abbrev pub k4_steps : List Step
k4_steps =
    step (Deck (deck four_jobs)) Accepted
    ∷ step Select (Given 0 2 0 0 0 0 0)
    ∷ step Select (Given 1 5 0 0 0 0 0)
    ∷ step Select (Given 2 8 0 0 0 0 0)
    ∷ step Select (Given 3 10 0 0 0 0 0)
    ∷ step (Do (End 0 false)) (Answered (Closed 0 AfterNormal))
    ∷ step (Do (End 2 false)) (Answered (Closed 2 AfterNormal))
    ∷ step Select (Given 0 8 2 0 0 0 0)
    ∷ []

abbrev pub watched : Call → Seen → Holder → Watched
watched call seen holder = record { call = call; seen = seen; holder = holder }

abbrev three : ChannelNumber
three = record { 0 = 3 }

-- the job's packet 5 is submitted for unit 0 of channel 3 with function 02 (octal) and starts. Then the job ends, and
-- last the packet completes
abbrev pub k9_ending : List Watched
k9_ending =
    watched (Do (Submit 0 5 0o02 three (OnUnit (record { 0 = 0 })))) (Answered Done) (Held 0)
    ∷ watched (Do (Start three)) (Answered (Started (record { place = 0; packet = 5; function = 0o02; at = AtUnit (record { 0 = 0 }) }))) (Held 0)
    ∷ watched (Do (End 0 false)) (Answered (Closed 0 Stays)) (Held 0)
    ∷ watched (Do (Complete three Full)) (Answered (Completed 0 5 AfterNormal)) Free
    ∷ []

-- before, a request for one unit is entered and selected
abbrev pub k9_deck : List ℕ
k9_deck = deck (job (bytes "A1") (bytes "A5") (bytes "IB/1,MT1/1"))

abbrev pub k9_steps : List Watched
k9_steps =
    watched (Deck k9_deck) Accepted Free
    ∷ watched Select (Given 0 2 0 0 0 3 0) (Held 0)
    ∷ k9_ending

-- K1's cards and termination card
abbrev pub k1_deck : List ℕ
k1_deck =
    deck
    (bytes "A1,PTY,2,,ECU,,T,PROG,P,02A5,P,3.\nA1,FAC,IB/2,MT1/2.\n"
    ++ (bytes "B7,PTY,2,,LABEL,,T,PROG,P,A5,C,1.\nB7,FAC,IB/1.\n" ++ bytes "D4,PTY,2,,KEY,,T,PROG,P,01A5,C,1.\nD4,FAC,IB/1.\n"))

-- whatever codes set interlock
abbrev pub marked : ℕ → List Case
marked codes =
    -- K1's priorities in order
    Prints k1_deck (bytes "SP B7 ER 31\nD4 01A05\nA1 02A05\nD4 SCH ACK\n")
    -- K2 fresh core, IB/28 starts at 2
    ∷ Plays (with· codes no_channels) (alone (bytes "IB/28") (Given 0 2 0 0 0 0 0))
    -- K3 IB/14 with DB/15 gives card error 14
    ∷ Errs (bytes "A1,PTY,2,,ECU,,T,PROG,P,A5,P,3." ∷ bytes "A1,FAC,IB/14,DB/15." ∷ []) 14
    -- K4 free blocks 2-4 and 8-9, IB/2 and DB/3: IB at 8, DB at 2
    ∷ Plays (with· codes no_channels) k4_steps
    -- K5 MT channel 3 with four free and 5 with two, MT1/2 and MT2/3: 1 to channel 5, 2 to 3
    ∷ Plays (with· codes mt_channels) (alone (bytes "IB/1,MT1/2,MT2/3") (Given 0 2 0 0 0 5 3))
    -- K6 same channels, MT1/2 and MT/4 fit
    ∷ Plays (with· codes mt_channels) (alone (bytes "IB/1,MT1/2,MT/4") (Given 0 2 0 0 0 3 0))
    -- K7 MT1/2 and MT/5 don't: MT is lacking
    ∷ Plays (with· codes mt_channels) (alone (bytes "IB/1,MT1/2,MT/5") (Missing NoAssignment (bytes "A1    ") (Units Mt)))
    -- K8 fresh drum, MD/1500 holds 35,329 to 36,828
    ∷ Plays (with· codes drum_channels) (alone (bytes "IB/1,MD/1500") (Given 0 2 0 35329 36828 0 0))
    -- K9 job ends while moving: unit not free until the completion
    ∷ Keeps (with· codes one_channel) 3 0 k9_steps
    ∷ []

-- each of a list
abbrev pub All : List Case → Type 0
All [] = Unit {0}
All (k ∷ ks) = Holds k × All ks
