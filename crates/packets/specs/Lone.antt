-- A lone unit, or a lone piece of drum, that one job has to itself: what it refuses and what it does, written from
-- document 01 and requests 3 and 5 of document 02, and not from the rules of the cell. It knows nothing of channels,
-- places or other units, and hears calls of its own. A reader has to believe this page. It shares with the rules only
-- the statuses and how a packet completes. It takes the section of the codes that set interlock as its own parameter.
use Rattle.std.specs.Prelude.{ℕ, zero, suc, ◌/◌, ◌%◌, Bool, true, false, not, cond, ◌&&◌, List, [], ◌∷◌, ◌++◌, leb, eqb}
use Rattle.std.proofs.Math.Option.{Option, none, some}
use Rattle.packets.specs.declared.How.{How}
use Rattle.packets.specs.declared.How.TheVariants.{Cut, Failed, Full}
use Rattle.packets.specs.declared.Status.{Status}
use Rattle.packets.specs.declared.Status.TheVariants.{Blank, Ended, InProgress, Listed, Stopping}

-- what a submission is for: the unit itself; on a piece of drum the word X, for 23 the words L to H
pub data Target : Type 0 where
  Itself : Target
  Words : ℕ → ℕ → Target

pub data LoneCall : Type 0 where
  -- the job submits a packet: its number, its function, what it is for
  Submits : ℕ → ℕ → Target → LoneCall
  -- the oldest listed packet starts
  Starts : LoneCall
  -- what moves completes
  Completes : How → LoneCall
  -- the job ends
  Ends : LoneCall
  -- the job gives the unit back
  Returns : LoneCall

-- a packet as it was last submitted here; on a unit it has no word
pub record Request : Type 0 where
  pub status : Status
  pub function : ℕ
  pub word : Option ℕ

-- a start tells the packet's number, its function and, on a piece of drum, its word
pub record LoneStart : Type 0 where
  pub packet : ℕ
  pub function : ℕ
  pub word : Option ℕ

pub record Lone : Type 0 where
  -- what was last submitted here under each number
  pub packets : ℕ → Request
  -- the numbers of the listed ones, the oldest first
  pub order : List ℕ
  -- the one in progress or stopping
  pub moving : Option ℕ
  -- a failure with a code of the section sets it; a piece of drum never has it, since a failure there sets none
  pub interlock : Bool
  -- the job has ended
  pub job_over : Bool
  -- the job has asked for its return; a piece of drum returns with the job alone
  pub returning : Bool

abbrev pub unused : Request
unused = record { status = Blank; function = 0; word = none }

abbrev pub new_lone : Lone
new_lone = record { packets = λ n. unused; order = []; moving = none; interlock = false; job_over = false; returning = false }

-- a packet is listed
abbrev pub waits : Status → Bool
waits Blank = false
waits Listed = true
waits InProgress = false
waits Stopping = false
waits (Ended k) = false

-- a listed packet ends with this code
abbrev pub ends_with : ℕ → Status → Status
ends_with k Blank = Blank
ends_with k Listed = Ended k
ends_with k InProgress = InProgress
ends_with k Stopping = Stopping
ends_with k (Ended i) = Ended i

-- a packet in progress is stopping
abbrev pub stops : Status → Status
stops Blank = Blank
stops Listed = Listed
stops InProgress = Stopping
stops Stopping = Stopping
stops (Ended i) = Ended i

abbrev pub become : Request → Status → Request
become r t = record { status = t; function = r.function; word = r.word }

abbrev pub write : (ℕ → Request) → ℕ → Request → ℕ → Request
write t n r m = cond (eqb m n) r (t m)

-- those of a list that are still listed, in their order
abbrev pub still : (ℕ → Request) → List ℕ → List ℕ
still t [] = []
still t (n ∷ l) = cond (waits (t n).status) (n ∷ still t l) (still t l)

-- the packets are now these; whoever is still listed keeps its turn
abbrev pub settle : Lone → (ℕ → Request) → Lone
settle l t = record {
  packets = t;
  order = still t l.order;
  moving = l.moving;
  interlock = l.interlock;
  job_over = l.job_over;
  returning = l.returning;
}

abbrev pub locks : Lone → Bool → Lone
locks l b = record { packets = l.packets; order = l.order; moving = l.moving; interlock = b; job_over = l.job_over; returning = l.returning }

abbrev pub carries : Lone → Option ℕ → Lone
carries l m = record { packets = l.packets; order = l.order; moving = m; interlock = l.interlock; job_over = l.job_over; returning = l.returning }

-- the job has ended
abbrev pub closes : Lone → Lone
closes l = record { packets = l.packets; order = l.order; moving = l.moving; interlock = l.interlock; job_over = true; returning = l.returning }

-- the unit is being returned
abbrev pub asks_back : Lone → Lone
asks_back l =
    record { packets = l.packets; order = l.order; moving = l.moving; interlock = l.interlock; job_over = l.job_over; returning = true }

abbrev pub joins : Lone → ℕ → Lone
joins l n =
    record {
      packets = l.packets;
      order = l.order ++ (n ∷ []);
      moving = l.moving;
      interlock = l.interlock;
      job_over = l.job_over;
      returning = l.returning;
    }

-- packet n is now this
abbrev pub stores : Lone → ℕ → Request → Lone
stores l n r = settle l (write l.packets n r)

abbrev pub request : Status → ℕ → Option ℕ → Request
request t f a = record { status = t; function = f; word = a }

-- an ordinary function is listed as the youngest
abbrev pub lists : Lone → ℕ → ℕ → Option ℕ → Lone
lists l n f a = joins (stores l n (request Listed f a)) n

-- every listed packet ends with 01
abbrev pub fails : Lone → Lone
fails l = settle l (λ m. become (l.packets m) (ends_with 0o01 (l.packets m).status))

-- 07: under interlock what is listed ends with 01 and the interlock goes; 07 ends with 00
abbrev pub unlocks : Lone → ℕ → ℕ → Option ℕ → Bool → Lone
unlocks l n f a true = stores (locks (fails l) false) n (request (Ended 0o00) f a)
unlocks l n f a false = stores l n (request (Ended 0o00) f a)

-- what 23 is for: on a unit all packets, on a piece of drum those with L ≤ X ≤ H
abbrev pub meant : Target → Option ℕ → Bool
meant Itself a = true
meant (Words l h) none = false
meant (Words l h) (some x) = leb l x && leb x h

-- what is listed, and meant, ends with 16o; what is in progress, and meant, is stopping
abbrev pub halts : (Option ℕ → Bool) → Lone → Lone
halts t l =
    settle l (λ m. cond (t (l.packets m).word) (become (l.packets m) (stops (ends_with 0o16 (l.packets m).status))) (l.packets m))

-- the oldest listed packet is in progress
abbrev pub sets_off : Lone → List ℕ → Lone
sets_off l [] = l
sets_off l (n ∷ r) = carries (stores l n (become (l.packets n) InProgress)) (some n)

abbrev pub ends : Lone → ℕ → ℕ → Lone
ends l n k = stores (carries l none) n (become (l.packets n) (Ended k))

-- is a code in the section? The section is a word that has bit k for code k: halved k times it is odd
unfoldable pub is_in : ℕ → ℕ → Bool
is_in section zero = eqb (section % 2) 1
is_in section (suc k) = is_in (section / 2) k

-- a failure with a code of the section, on a unit that isn't the drum, sets the interlock and ends with 01 what is
-- listed; with any other code it does nothing more
abbrev pub breaks : Bool → Bool → Lone → Lone
breaks listed drum l = cond (listed && not drum) (locks (fails l) true) l

abbrev pub completes_as : ℕ → Bool → Lone → How → Option ℕ → Lone
completes_as section drum l how none = l
completes_as section drum l Full (some n) = ends l n 0o00
completes_as section drum l Cut (some n) = ends l n 0o17
completes_as section drum l (Failed k) (some n) = breaks (is_in section k) drum (ends l n k)

-- the word that a submission goes to: on a piece of drum X or L
abbrev pub goes_to : Target → Option ℕ
goes_to Itself = none
goes_to (Words x h) = some x

-- 07, 23, or a packet to be listed
abbrev pub hears : Lone → ℕ → ℕ → Target → Lone
hears l n f w =
    let a = goes_to w in
    cond (eqb f 0o07) (unlocks l n f a l.interlock)
    (cond (eqb f 0o23) (stores (halts (meant w) l) n (request (Ended 0o00) f a)) (lists l n f a))

-- ---- what it refuses

-- a packet is listed, in progress or stopping
abbrev pub in_use : Status → Bool
in_use Blank = false
in_use Listed = true
in_use InProgress = true
in_use Stopping = true
in_use (Ended k) = false

abbrev pub is_halting : Status → Bool
is_halting Blank = false
is_halting Listed = false
is_halting InProgress = false
is_halting Stopping = true
is_halting (Ended k) = false

-- nothing is in progress or stopping
abbrev pub is_at_rest : Option ℕ → Bool
is_at_rest none = true
is_at_rest (some n) = false

-- a packet is listed
abbrev pub has_listed : List ℕ → Bool
has_listed [] = false
has_listed (n ∷ r) = true

-- a cut is for a stopping packet alone; a failure has none of the codes 00, 01, 16, 17 (octal), and none over 77
abbrev pub may_end : Status → How → Bool
may_end t Full = true
may_end t Cut = is_halting t
may_end t (Failed k) = not (eqb k 0o00) && (not (eqb k 0o01) && (not (eqb k 0o16) && (not (eqb k 0o17) && leb k 0o77)))

-- a completion is of what moves
abbrev pub may_complete : Lone → How → Option ℕ → Bool
may_complete l how none = false
may_complete l how (some n) = may_end (l.packets n).status how

-- the calls that it takes: a submission of a packet that is not listed, in progress or stopping, unless the unit is being
-- returned (21); a start while nothing is in progress or stopping, without interlock, of something listed; a completion
-- of what moves; the job's end, once, and after that end nothing but completions; its return, once (21), and of no piece
-- of drum (1)
unfoldable pub lone_takes : Bool → Lone → LoneCall → Bool
lone_takes drum l (Submits n f w) = not l.job_over && (not l.returning && not (in_use (l.packets n).status))
lone_takes drum l Starts = not l.job_over && (is_at_rest l.moving && (not l.interlock && has_listed l.order))
lone_takes drum l (Completes how) = may_complete l how l.moving
lone_takes drum l Ends = not l.job_over
lone_takes drum l Returns = not drum && (not l.job_over && not l.returning)

-- ---- what it does

-- what a call that it takes does; section: the codes that set interlock; drum: it is a piece of drum
unfoldable pub lone_does : ℕ → Bool → Lone → LoneCall → Lone
lone_does section drum l (Submits n f w) = hears l n f w
lone_does section drum l Starts = sets_off l l.order
lone_does section drum l (Completes how) = completes_as section drum l how l.moving
lone_does section drum l Ends = closes (halts (λ x. true) l)
lone_does section drum l Returns = asks_back (halts (λ x. true) l)

-- a refused call leaves it as it was
unfoldable pub lone_step : ℕ → Bool → Lone → LoneCall → Lone
lone_step section drum l x = cond (lone_takes drum l x) (lone_does section drum l x) l

-- the start that a call makes, if it makes one
abbrev pub start_of : Lone → List ℕ → List LoneStart
start_of l [] = []
start_of l (n ∷ r) = (record { packet = n; function = (l.packets n).function; word = (l.packets n).word }) ∷ []

unfoldable pub start_by : Lone → LoneCall → List LoneStart
start_by l (Submits n f w) = []
start_by l Starts = start_of l l.order
start_by l (Completes how) = []
start_by l Ends = []
start_by l Returns = []

-- a refused call starts nothing
unfoldable pub lone_start : Bool → Lone → LoneCall → List LoneStart
lone_start drum l x = cond (lone_takes drum l x) (start_by l x) []

-- ---- calls one after the other

unfoldable pub lone_run : ℕ → Bool → Lone → List LoneCall → Lone
lone_run section drum l [] = l
lone_run section drum l (x ∷ xs) = lone_run section drum (lone_step section drum l x) xs

unfoldable pub lone_starts : ℕ → Bool → Lone → List LoneCall → List LoneStart
lone_starts section drum l [] = []
lone_starts section drum l (x ∷ xs) = lone_start drum l x ++ lone_starts section drum (lone_step section drum l x) xs

-- it takes every one of them, each at the moment when it comes
unfoldable pub lone_takes_all : ℕ → Bool → Lone → List LoneCall → Bool
lone_takes_all section drum l [] = true
lone_takes_all section drum l (x ∷ xs) = lone_takes drum l x && lone_takes_all section drum (lone_step section drum l x) xs
