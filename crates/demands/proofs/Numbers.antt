-- DEMAND 1: each call is refused with the number of its table's lowest sentence that holds, and accepted if none
-- does. By the kinds of call: the rules' chain of tests is the chain of rows. Assumes nothing.
use Rattle.std.proofs.Common.{Err, None, Ok, Some}
use Prim.Native.Nat.{ℕ}
use mathlib.Core.Path.{◌≡◌, refl, sym, ap, subst, ◌∙◌}
use mathlib.Core.Bool.{Bool, not, cond, ◌&&◌}
use mathlib.Core.List.{List, [], ◌∷◌}
use mathlib.Core.Logic.{inl, inr}
use mathlib.Core.Option.{Option, none, some}
use lib.Dec.{eqb, leb, ltb}
use lib.ListN.{length}
use Rattle.numbers.specs.declared.UnitNumber.{UnitNumber}
use Rattle.numbers.proofs.Tests.{by_bool}
use Rattle.numbers.specs.declared.Refusal.{Refusal}
use Rattle.numbers.specs.declared.Refusal.TheVariants.{BadDeck, ChannelBusy, JobRuns, NoSuchRequest, NothingStartable, OutOfRange, UnknownMessage}
use Rattle.units.specs.State.{unit_in}
use Rattle.units.specs.declared.Mark.TheVariants as Mark''
use Rattle.keyboard.proofs.ReadBack.{is_known, known_by}
use Rattle.keyboard.specs.Messages.{read_message, message_words}
use Rattle.keyboard.specs.Typed.{known}
use Rattle.keyboard.specs.declared.Asked.{Asked}
use Rattle.keyboard.specs.declared.Asked.TheVariants as Asked'
use Rattle.cards_fields.specs.Deck.{cards_of, deck_end, terminated}
use Rattle.schedule_entries.specs.Entries.{active, is_named, suspended}
use Rattle.schedule_entries.specs.declared.Entry.{Entry}
use Rattle.schedule_list.specs.InSchedule.{in_schedule}
use Rattle.schedule_list.specs.declared.Schedule.{Schedule}
use Rattle.schedule_deck.specs.Report.{outcome_by}
use Rattle.schedule.specs.Calls.{deleted_by, released_by}
use Rattle.numbers.specs.Elements.{any, find}
use Rattle.numbers.specs.Limits.{deck_bytes}
use Rattle.packets.specs.Rules as Rules
use Rattle.packets.specs.State.{Fitting, State, configured, fitted_on, is_idle, job_in, motion_on, packet_in, packet_of, place_of, state_in, unit_at, Motion, Verdict}
use Rattle.packets.specs.declared.Act.{Act}
use Rattle.packets.specs.declared.Act.TheVariants as Act'
use Rattle.packets.specs.declared.How.{How}
use Rattle.packets.specs.declared.How.TheVariants.{Cut, Failed, Full}
use Rattle.packets.specs.declared.Site.{Site}
use Rattle.packets.specs.declared.Site.TheVariants.{AtAddress, AtUnit}
use Rattle.packets.specs.declared.Spot.{Spot}
use Rattle.packets.specs.declared.Spot.TheVariants.{OnDrum, OnUnit}
use Rattle.lists.specs.Outcomes.{outcome, settled, state_of}
use Rattle.cell_selection.specs.Selecting.{SelectsBy}
use Rattle.cell_selection.proofs.SelectingLaws.{not-both}
use Rattle.cell_selection.specs.declared.Choice.{Choice}
use Rattle.cell_selection.specs.declared.Choice.TheVariants as Choices
use Rattle.cell_selection.specs.declared.Choice.TheVariants.{Job, NoPlace, Lacks}
use Rattle.cell_selection.specs.declared.Selection.{Selection}
use Rattle.cell.specs.Calls.{SelectsIn, acted, answer_of, heeded, outcome_of, status_of}
use Rattle.cell.specs.declared.SelectAnswer.{SelectAnswer}
use Rattle.cell.specs.declared.Cell.{Cell}
use Rattle.cell.specs.declared.Heeded.{Heeded}
use Rattle.cell_history.proofs.MeantLaws.{Plain}
use Rattle.cell_history.specs.Told.{inside}
use Rattle.cell_history.specs.History.{Call, Deck, Delete, Do, Does, Key, Release, Reply, Select, Status, call_of, reply_of}
use Rattle.demands.specs.Refusing.{of_answer, of_outcome, of_status, refusal_in}
use Rattle.demands.specs.Table.{RefusedBy, Row, SelectRefused, act_rows, can_start, has, is_active, is_open, is_select, is_suspended, is_there, lowest, meant_rows, return_rows, row, rows, submit_rows}

-- a verdict as a refusal, if it is one
abbrev pub of_verdict : Verdict → Option Refusal
of_verdict (Ok u) = none
of_verdict (Err n) = some n

-- rows as a chain of tests
abbrev chain : List Row → Verdict
chain [] = Ok tt
chain (r ∷ rs) = Rules.first r.holds r.refusal (chain rs)

chained : (rs : List Row) → of_verdict (chain rs) ≡ lowest rs
chained [] = refl
chained (r ∷ rs) = by_bool r.holds (λ e. rw e refl) (λ e. rw e (chained rs))

-- ---- the calls of the lists

begins-none : (s : State) (o : Option ℕ) → of_answer (Rules.begins s o) ≡ none
begins-none s none = refl
begins-none s (some x) = refl

completes-none : (s : State) (c : ℕ) (how : How) (m : Motion) → of_answer (Rules.completes s c how m) ≡ none
completes-none s c how None = refl
completes-none s c how (Some (j, p)) = refl

accepted-none : (s : State) (x : Rules.Call) → of_answer (Rules.answer s x) ≡ none
unfolding Rules.answer
accepted-none s (Rules.Take j asg) = refl
accepted-none s (Rules.Do (Act'.Submit j p f c w)) = refl
accepted-none s (Rules.Do (Act'.Start c)) = begins-none s (find (Rules.startable s c.0) s.queue)
accepted-none s (Rules.Do (Act'.Complete c how)) = completes-none s c.0 how (motion_on s c.0)
accepted-none s (Rules.Do (Act'.End j b)) = refl
accepted-none s (Rules.Do (Act'.Return j c u)) = refl
accepted-none s (Rules.Do (Act'.Mark c u m on)) = refl

-- what is answered is what the rules say
pub answers_by : (c : Cell) (x : Act) → of_answer (acted c x).answer ≡ of_verdict (Rules.refusal (state_of c.lists) (Rules.Do x))
unfolding acted outcome
answers_by c x = go (Rules.refusal (state_of c.lists) (Rules.Do x))
  where
    go : (v : Verdict) → of_answer (settled c.lists (Rules.Do x) v).answer ≡ of_verdict v
    go (Ok u) = accepted-none (state_of c.lists) (Rules.Do x)
    go (Err n) = refl

-- the rules' tests of each call are its rows
submit-is : (s : State) (on : Fitting) (j p f k : ℕ) (w : Spot)
    → Rules.submit_refusal on (job_in s.jobs j) (unit_at s.units k (Rules.site_of w)) j p f k w ≡ chain (submit_rows s on j p f k w)
unfolding state_in
submit-is s None j p f k (OnUnit u) = refl
submit-is s None j p f k (OnDrum x h) = refl
submit-is s (Some on) j p f k (OnUnit u) = refl
submit-is s (Some on) j p f k (OnDrum x h) = refl

submit-rows : (s : State) (j p f k : ℕ) (w : Spot)
    → of_verdict (Rules.submit_refusal (fitted_on s.channels k) (job_in s.jobs j) (unit_at s.units k (Rules.site_of w)) j p f k w)
    ≡ lowest (submit_rows s (fitted_on s.channels k) j p f k w)
submit-rows s j p f k w =
    ap of_verdict (submit-is s (fitted_on s.channels k) j p f k w) ∙ chained (submit_rows s (fitted_on s.channels k) j p f k w)

-- a word of the drum has no interlock in the rules either
open_is : (s : State) (k : ℕ) (a : Site) → not (unit_at s.units k a).interlock ≡ is_open s k a
open_is s k (AtUnit u) = refl
open_is s k (AtAddress x) = refl

can-is : (s : State) (k e : ℕ) → Rules.startable s k e ≡ can_start s k e
can-is s k e =
    let p = packet_in s.jobs (place_of e) (packet_of e) in
    ap (λ (b : Bool). eqb p.channel.0 k && b) (open_is s k p.at)

none-can : (t u : ℕ → Bool) → ((e : ℕ) → t e ≡ u e) → (q : List ℕ) → Rules.is_none (find t q) ≡ not (any u q)
none-can t u same [] = refl
none-can t u same (e ∷ q) =
    let is = same e in
    by_bool (u e) (λ h. rw (is, h) refl) (λ h. rw (is, h) (none-can t u same q))

-- a return, by what the channel has
return-is : (s : State) (on : Fitting) (j k u : ℕ)
    → Rules.return_refusal on (state_in s.jobs j) (unit_in s.units k u) j k u ≡ chain (return_rows s on j k u)
return-is s None j k u = refl
return-is s (Some on) j k u = refl

reach-is : (f : Fitting) (u : UnitNumber) → Rules.reaches f (OnUnit u) ≡ has f (OnUnit u)
reach-is None u = refl
reach-is (Some on) u = refl

-- the rules' tests of a call on packets, jobs, units or marks are its rows
rules-rows : (s : State) (x : Act) → of_verdict (Rules.refusal s (Rules.Do x)) ≡ lowest (act_rows s x)
unfolding Rules.refusal
rules-rows s (Act'.Submit j p f k w) = submit-rows s j p f k.0 w
rules-rows s (Act'.Start k) =
    ap (λ (b : Bool). of_verdict (Rules.first (not (configured s.channels k.0)) OutOfRange
    (Rules.first (not (is_idle (motion_on s k.0))) ChannelBusy (Rules.first b NothingStartable (Ok tt)))))
    (none-can (Rules.startable s k.0) (can_start s k.0) (can-is s k.0) s.queue)
    ∙ chained (act_rows s (Act'.Start k))
rules-rows s (Act'.Complete k Full) = chained (act_rows s (Act'.Complete k Full))
rules-rows s (Act'.Complete k Cut) = chained (act_rows s (Act'.Complete k Cut))
rules-rows s (Act'.Complete k (Failed n)) = chained (act_rows s (Act'.Complete k (Failed n)))
rules-rows s (Act'.End j e) = chained (act_rows s (Act'.End j e))
rules-rows s (Act'.Return j k u) =
    let on = fitted_on s.channels k.0 in
    ap of_verdict (return-is s on j k.0 u.0) ∙ chained (return_rows s on j k.0 u.0)
rules-rows s (Act'.Mark k u m on) =
    ap (λ (b : Bool). of_verdict (Rules.first (not (ltb k.0 16 && b)) OutOfRange (Ok tt))) (reach-is (fitted_on s.channels k.0) u)
    ∙ chained (act_rows s (Act'.Mark k u m on))

-- ---- a deck, release, delete, a status

deck-rows : (bytes : List ℕ) → of_outcome (outcome_by (deck_end bytes))
    ≡ cond (not (leb (length bytes) deck_bytes && terminated (cards_of bytes))) (some BadDeck) none
unfolding deck_end
deck-rows bytes = by_bool (leb (length bytes) deck_bytes && terminated (cards_of bytes)) (λ e. rw e refl) (λ e. rw e refl)

release-rows : (o : Option Entry) (s : Schedule) (id : List ℕ)
    → of_answer (answer_of (released_by o s id).outcome) ≡ cond (not (is_suspended o)) (some NoSuchRequest) none
release-rows none s id = refl
release-rows (some e) s id = by_bool (suspended e.state) (λ t. rw t refl) (λ t. rw t refl)

delete-rows : (o : Option Entry) (s : Schedule) (id : List ℕ) → of_answer (answer_of (deleted_by o s id).outcome)
    ≡ cond (not (is_there o)) (some NoSuchRequest) (cond (is_active o) (some JobRuns) none)
delete-rows none s id = refl
delete-rows (some e) s id = by_bool (active e.state) (λ t. rw t refl) (λ t. rw t refl)

status-rows : (c : Cell) (j p : ℕ) → of_status (status_of c j p) ≡ cond (not (ltb j 16 && ltb p 16)) (some OutOfRange) none
status-rows c j p = by_bool (ltb j 16 && ltb p 16) (λ e. rw e refl) (λ e. rw e refl)

-- ---- selection

module _ (c : Cell) (r : Selection) where
  by-choice : (x : Choice) → SelectsBy x (in_schedule c.schedule) c.lists r → SelectRefused c (of_outcome (outcome_of x))
  by-choice Job h =
      let none = not-both (in_schedule c.schedule) c.lists r h in
      inr (λ f. none (inl f), inr (λ n. none (inr (λ i k. absurd (n i k))), inr (λ n. none (inr n), refl)))
  by-choice NoPlace h = inl (refl, h.0.0)
  by-choice Choices.NoCandidates h = inr (h.0.0, inl (refl, h.0.1.0))
  by-choice (Lacks part) h = inr (h.0.0, inr (λ n. n h.0.1.1.0 h.0.1.1.1.0.candidate, inl (refl, h.0.1.0)))

select-by : (c : Cell) (r : SelectAnswer) → SelectsIn c r → SelectRefused c (of_outcome r.outcome)
select-by c r h = subst (SelectRefused c) (sym (ap of_outcome h.outcome)) (by-choice c r.selection r.selection.choice h.takes.selects)

-- which number answers a call that is no message
plain-numbers : (c d : Cell) (x : Call) (reply : Reply) → Plain x → Does c x reply d → RefusedBy (is_select x) c x (refusal_in reply)
plain-numbers c d (Deck bytes) reply z h = ap refusal_in h.2.1.1.0 ∙ ap of_outcome h.2.1.0.deck.outcome ∙ deck-rows bytes
plain-numbers c d Select reply z h = subst (SelectRefused c) (sym (ap refusal_in h.1.1.0)) (select-by c h.0 h.1.0)
plain-numbers c d (Do x) reply z h = ap refusal_in h.0 ∙ answers_by c x ∙ rules-rows (state_of c.lists) x
plain-numbers c d (Release id) reply z h = ap refusal_in h.0 ∙ release-rows (find (is_named id) (in_schedule c.schedule)) c.schedule id
plain-numbers c d (Delete id) reply z h = ap refusal_in h.0 ∙ delete-rows (find (is_named id) (in_schedule c.schedule)) c.schedule id
plain-numbers c d (Status j p) reply z h = ap refusal_in h.0 ∙ status-rows c j p
plain-numbers c d (Key message) reply z h = absurd z

-- a message: 17, or what the call that it asks for is refused with
key-numbers : (c d : Cell) (message : List ℕ) (reply : Reply) → Does c (Key message) reply d → refusal_in reply ≡ lowest (rows c (Key message))
key-numbers c d message reply h =
    go (read_message message).asks (read_message message).id (record { told = h.2.0.told; cell = h.2.0.cell })
    h.2.1.0.does h.2.1.1.0 h.2.1.1.1 (known_by message)
  where
    go : (a : Asked) (id : List ℕ) (x : Heeded) → x ≡ heeded c a id → reply ≡ reply_of x.told → d ≡ x.cell
        → known (message_words message) ≡ is_known a
        → refusal_in reply ≡ lowest (row UnknownMessage (not (known (message_words message)))
        ∷ meant_rows (inside c) (in_schedule c.schedule) (call_of a id))
    go Asked'.Unknown id x e r s k = rw k (ap refusal_in (r ∙ ap (λ (y : Heeded). reply_of y.told) e))
    go (Asked'.Wrong word fault) id x e r s k = rw k (ap refusal_in (r ∙ ap (λ (y : Heeded). reply_of y.told) e))
    go (Asked'.Mark channel unit on) id x e r s k =
        rw k (plain-numbers c d (Do (Act'.Mark channel unit Mark''.Down on)) reply tt
        (r ∙ ap (λ (y : Heeded). reply_of y.told) e, s ∙ ap (λ (y : Heeded). y.cell) e))
    go Asked'.Release id x e r s k =
        rw k (plain-numbers c d (Release id) reply tt (r ∙ ap (λ (y : Heeded). reply_of y.told) e, s ∙ ap (λ (y : Heeded). y.cell) e))
    go Asked'.Delete id x e r s k =
        rw k (plain-numbers c d (Delete id) reply tt (r ∙ ap (λ (y : Heeded). reply_of y.told) e, s ∙ ap (λ (y : Heeded). y.cell) e))

-- WHICH NUMBER ANSWERS
pub numbers : (c d : Cell) (x : Call) (reply : Reply) → Does c x reply d → RefusedBy (is_select x) c x (refusal_in reply)
numbers c d (Deck bytes) reply h = plain-numbers c d (Deck bytes) reply tt h
numbers c d Select reply h = plain-numbers c d Select reply tt h
numbers c d (Do x) reply h = plain-numbers c d (Do x) reply tt h
numbers c d (Release id) reply h = plain-numbers c d (Release id) reply tt h
numbers c d (Delete id) reply h = plain-numbers c d (Delete id) reply tt h
numbers c d (Status j p) reply h = plain-numbers c d (Status j p) reply tt h
numbers c d (Key message) reply h = key-numbers c d message reply h
