-- THE THREE DEMANDS ARE MET. What the request lists' own theorems say of any history of the rules is carried to any
-- history of the cell by what the lists hear of it. Assumes nothing.
use Rattle.std.proofs.Common.{Err, Ok}
use Prim.Native.Nat.{ℕ}
use mathlib.Core.Path.{◌≡◌, refl, sym, ap, subst, ◌∙◌}
use mathlib.Core.Bool.{Bool, true, ◌&&◌}
use mathlib.Core.List.{List, [], ◌∷◌, ◌++◌, append_assoc}
use native.Mathlib.Omega.{arith}
use lib.Dec.{ltb}
use Rattle.numbers.proofs.Tests.{by_bool}
use Rattle.numbers.specs.declared.Refusal.{Refusal}
use Rattle.numbers.specs.declared.Refusal.TheVariants.{OutOfRange}
use Rattle.channels.specs.declared.Configuration.{Configuration}
use Rattle.configuration_form.proofs.Meaning.{meaning}
use Rattle.configuration_form.proofs.Listed.{listed-exactly}
use Rattle.configuration_form.proofs.Unique.{first-named, read_back}
use Rattle.cards_report.proofs.Whole.{all-printed}
use Rattle.cards_round.proofs.AllowingFull.{allowed-no-room, allowed-written, full-taken, others-refused}
use Rattle.cards_round.proofs.Fits.{always-written, no_longer}
use Rattle.cards_round.proofs.FullRound.{room-read}
use Rattle.cards_round.proofs.HeldLaws.{held-once}
use Rattle.cards_round.proofs.Order.{same-request}
use Rattle.cards_round.proofs.TableRound.{table-place, table-size}
use Rattle.desk_show.proofs.Own.{bad-if, bad-then, day-cards, day-if, day-then, empty-if, empty-then, no-id, nobody-if, nobody-then, repair-cards, repair-if, repair-then}
use Rattle.desk_show.proofs.Unique.{tied}
use Rattle.desk_hearing.proofs.Program.{program}
use Rattle.units.specs.State.{unit_in}
use Rattle.packets.specs.Codes.{status_after}
use Rattle.packets.proofs.CodesProof.{codes}
use Rattle.packets.specs.Demand.{Holds, Isolated, Stretch, Holding}
use Rattle.packets.specs.History as Lists
use Rattle.packets.specs.History.{Along, is_accepted}
use Rattle.packets.proofs.Reaching.{accepted-granted, along, leads-append, leads-once, leads-split, reached-append}
use Rattle.packets.proofs.Stays.{Configured, leads-has}
use Rattle.packets.proofs.Steps as Lists'
use Rattle.packets.specs.Interlocks.{interlock_after}
use Rattle.packets.specs.declared.Assignment.{Assignment}
use Rattle.packets.proofs.DemandProof.{demand3}
use Rattle.packets.proofs.BeforeProof.{all_listed, as_before, only-completions}
use Rattle.packets.proofs.InterlocksProof.{lock-after}
use Rattle.numbers.specs.Elements.{keep}
use Rattle.packets.specs.State.{State, is_still, packet_in}
use Rattle.packets.specs.declared.Status.{Status}
use Rattle.assign.proofs.LackingLaws.{exists-exactly}
use Rattle.cell_selection.specs.Selecting.{is_job, left_by}
use Rattle.cell_selection.specs.declared.Selection.{Selection}
use Rattle.cell.specs.Calls.{Enters, acted}
use Rattle.cell.specs.declared.Cell.{Cell}
use Rattle.cell_history.specs.Told.{inside, said, told, told_of}
use Rattle.cell_history.specs.History.{Call, Chosen, Does, Event, Leads, Reached, Reply, Select, Shown}
use Rattle.demands.specs.Demands.{Demand1, Demand2, Demand3, joins, taken_into}
use Rattle.demands.proofs.InOrder.{first-in-order}
use Rattle.demands.proofs.Named.{named-so, nobody-so}
use Rattle.demands.proofs.Oldest.{ordered}
use Rattle.demands.proofs.Owning.{free-place, holds_then, on-its-own, still-own, still-there}
use Rattle.demands.proofs.Marks.{answers-so, changes-so, channels-stay, codes-stay, marks_stay}
use Rattle.demands.proofs.Missing.{refused-so, missing-so, alone-so}
use Rattle.demands.proofs.Places.{ended_so, marked-so, runs_on}
use Rattle.demands.proofs.Requests.{closes-so, completes-so, returns-so, starts-so, submits-so}
use Rattle.demands.proofs.Returning.{back-so, frees-so, until-so}
use Rattle.demands.proofs.Typed.{faulty-so, mistyped-so, typed-so, unknown-so}
use Rattle.demands.proofs.Texts.{counted-fresh, group-first, groups-alike, kept-room, listed, listed-bad, written-so}
use Rattle.demands.proofs.Numbers.{numbers}
use Rattle.demands.proofs.Standing.{deck-lent, stands}
use Rattle.cell_history.proofs.Reaching.{chosen_is, done-job, reached-lists, selected-of}
use Rattle.cell_history.proofs.SpelledProof.{spelled_out}
use Rattle.cell_history.proofs.ToldLaws.{does-told, leads-told}
use Rattle.cell_agreement.proofs.AgreementProof.{agrees-always}
use Rattle.cell_reached.proofs.ReachedProof.{every-cell}
use Rattle.packets.specs.Rules as Rules
use Rattle.schedule.specs.Calls.{taken as taken'}
use Rattle.schedule_list.specs.declared.Schedule.{Schedule}
use Rattle.schedule_deck.specs.Report.{deck_schedule}
use Rattle.packets.specs.declared.Lists.{Lists as Held}
use Rattle.cell.specs.declared.DeckAnswer.{DeckAnswer}

-- ---- demand 1

pub demand-1 : Demand1
demand-1 =
    record {
      numbers = numbers;
      stands = stands;
      lent = deck-lent;
      kept = kept-room;
      mistyped = mistyped-so;
      faulty = faulty-so;
      answered = λ c message room after r h. h.text;
      unknown = unknown-so;
      wrong = others-refused;
      short = allowed-no-room;
      groups = groups-alike;
      group = group-first;
      configuration = meaning;
      read = read_back;
      named = first-named;
      section = listed-exactly;
      pieces = λ deck h. (all-printed deck 65537 (omega arith)).whole;
      printed = listed-bad;
      desk = λ id repair day part r w. record {
        bad = (bad-if id repair day w, bad-then id repair day w);
        of_repair = (repair-if id repair day w, repair-then id repair day w);
        of_day = (day-if id repair day w, day-then id repair day w);
        no_id = no-id id repair day w;
        nobody = (nobody-if id repair day w, nobody-then id repair day w);
        empty = (empty-if id repair day w, empty-then id repair day w);
      };
      tied = λ id repair day part r v w. tied v w;
      desk_prints = program;
    }

-- ---- demand 2

-- what is so of each call that the rules grant in a reached state is so of each accepted call that is told
told-so : (P : State → Rules.Call → State → Type 0)
    → ((l : List Lists.Event) (s : State) (y : Rules.Call) → Lists.Reached l s → Rules.refusal s y ≡ Ok tt → P s y (Rules.accept s y))
    → (configuration : Configuration) (es : List Event) (c : Cell) → Reached configuration es c
    → (d : Cell) (x : Call) (reply : Reply) → Does c x reply d → Along P (inside c) (told_of x reply)
told-so P f configuration es c r d x reply h =
    along P f (told es) (inside c) (reached-lists configuration es c r) (told_of x reply) (inside d) (does-told c d x reply h)

others-stay : (c d : Cell) (x : Call) (reply : Reply) → Does c x reply d → told_of x reply ≡ [] → inside d ≡ inside c
others-stay c d x reply k q = subst (λ (l : List Lists.Event). Lists.Leads (inside c) l (inside d)) q (does-told c d x reply k)

-- a status that is shown is the packet's
shown-is : (c d : Cell) (place packet : ℕ) (status : Status) → Does c (Call.Status place packet) (Shown (Ok status)) d
    → status ≡ (packet_in (inside c).jobs place packet).status
shown-is c d place packet status h =
    by_bool (ltb place 16 && ltb packet 16)
    (λ t. is (packet_in c.lists.jobs place packet).status (h.0 ∙ rw t refl))
    (λ t. absurd (not-refused {n = OutOfRange} (h.0 ∙ rw t refl)))
  where
    is : (s : Status) → Shown (Ok status) ≡ Shown (Ok s) → status ≡ s
    is s e = cc

    not-refused : {n : Refusal} → Shown (Ok status) ≡ Shown (Err n) → ⊥
    not-refused {n} e = let z : ◌≡◌ {A = ℕ} 0 1 = cc in omega arith

-- a deck that is taken is entered
entered_so : (c : Cell) (deck room after : List ℕ) (r : DeckAnswer) → Enters c deck room after r → r.cell.schedule ≡ deck_schedule c.schedule deck
entered_so c deck room after r h = h.deck.then

-- the request of the job selected runs in its place
runs_then : (c d : Cell) (s : Selection) → Does c Select (Chosen (Ok tt) s) d → d.schedule ≡ taken' c.schedule s.at s.place
runs_then c d s h =
    let e = chosen_is h.1.1.0 in
    let f : is_job h.0.selection.choice ≡ true = done-job h.0.selection.choice (sym h.1.0.outcome ∙ sym e.0) in
    ap (λ (x : Cell). x.schedule) h.1.1.1
    ∙ ap (λ (x : Schedule × Held). x.0) (h.1.0.takes.leaves ∙ ap (λ (b : Bool). left_by b c.schedule c.lists h.0.selection) f)
    ∙ ap (λ (x : Selection). taken' c.schedule x.at x.place) (sym e.1)

pub demand-2 : Demand2
demand-2 =
    record {
      bytes = λ v room a f. written-so v room (full-taken v a) f;
      cards = λ v room a f. (room-read v room (full-taken v a) f).1;
      again = always-written;
      division = no_longer;
      alike = held-once;
      table = table-place;
      rows = table-size;
      wrote = allowed-written;
      same = same-request;
      own_repair = λ id repair day part r w. repair-cards id repair day w;
      own_day = λ id repair day part r w. day-cards id repair day w;
      entered = entered_so;
      noted = λ c deck room after r h. h.deck.text;
      selected = selected-of;
      holds = holds_then;
      typed = typed-so;
      marked = marked-so;
      marks = marks_stay;
      channels = channels-stay;
      section_stays = codes-stay;
      ended = λ c d x reply h ok place in_error. ended_so c d reply ok place in_error x h;
      closes = closes-so;
      submits = submits-so;
      returns = returns-so;
      starts = starts-so;
      completes = completes-so;
      runs_on = λ c d x reply h place e. runs_on c d reply place e x h;
      stays = λ configuration es c h. (agrees-always configuration es c h).places;
      runs = runs_then;
      released = λ c d id reply h. ap (λ (x : Cell). x.schedule) h.1;
      deleted = λ c d id reply h. ap (λ (x : Cell). x.schedule) h.1;
      identified = named-so;
      nobody = λ configuration es c h word w. nobody-so configuration es c h word w.plain;
      first = λ configuration es c h d s k. first-in-order configuration es c h s (selected-of c d s k);
      refused = refused-so;
      missing = missing-so;
      exists = exists-exactly;
      alone = alone-so;
      busy = λ configuration es c h channel place packet. (
        (every-cell configuration es c h).always.moving channel place packet,
        (every-cell configuration es c h).always.movers place packet,
      );
      itself = λ c d x reply h. ((acted c x).answer, h.0, ap (said x) h.0);
      selection = λ c d s h. refl;
      leads = does-told;
      codes = told-so (λ before y after. (place packet : ℕ) → (packet_in after.jobs place packet).status ≡ status_after before y place packet)
          (λ l s y r g. codes l s r y g);
      interlocks = told-so
          (λ before y after. (channel unit : ℕ) → (unit_in after.units channel unit).interlock ≡ interlock_after before y channel unit)
          (λ l s y r g channel unit. lock-after s (Lists'.reached-inv l s r) channel unit y g);
      before = (all_listed, as_before);
      elsewhere = only-completions;
      answers = answers-so;
      changes = changes-so;
      order = told-so (λ before y after. after.queue ≡ keep (is_still after.jobs) before.queue ++ joins y)
          (λ l s y r g. ordered s (Lists'.reached-inv l s r) y g);
      others = others-stay;
      shown = λ c d place packet status h. (shown-is c d place packet status h, h.1);
      listing = listed;
      counted = counted-fresh;
    }

-- ---- demand 3

-- a holding that begins with a taking, whatever call it is of
module _ (configuration : Configuration) (before : List Event) (c : Cell) (r : Reached configuration before c) (d : Cell) (x : Call)
    (reply : Reply) (k : Does c x reply d) (early late : List Lists.Event) (place : ℕ) (given : Assignment)
    (is : told_of x reply ≡ early ++ (taken_into place given ∷ late)) (s : State)
    (leads : Lists.Leads (inside c) (early ++ (taken_into place given ∷ [])) s) where
  abbrev taking : Rules.Call
  taking = Rules.Take place given

  -- the lists before the taking, and after it
  between : (t : State) × Lists.Leads (inside c) early t × Lists.Leads t (taken_into place given ∷ []) s
  between = leads-split (inside c) early (taken_into place given ∷ []) s leads

  abbrev free : State
  free = between.0

  reached-free : Lists.Reached (told before ++ early) free
  reached-free = reached-append (told before) (inside c) (reached-lists configuration before c r) early free between.1

  granted : Rules.refusal free taking ≡ Ok tt
  granted = accepted-granted free taking (sym (ap is_accepted between.2.0))

  same_codes : free.codes ≡ configuration.codes
  same_codes =
      ap (λ (z : Configured). z.codes) (leads-has (inside c) early free between.1) ∙ codes-stay configuration before c r

  as-told : (h : Holding) → h.place ≡ place → Holds s h → (during : List Event) (e : Cell) → Leads d during e
      → Stretch h s (late ++ told during) → Isolated configuration.codes h (late ++ told during) (inside e)
  as-told h at H during e l stretch =
      let after : s ≡ (Rules.step free taking).state = between.2.1 in
      let all : Lists.Leads (inside c) ((early ++ (taken_into place given ∷ [])) ++ late) (inside d) =
      subst (λ (m : List Lists.Event). Lists.Leads (inside c) m (inside d))
      (is ∙ sym (append_assoc early (taken_into place given ∷ []) late)) (does-told c d x reply k) in
      let rest = leads-split (inside c) (early ++ (taken_into place given ∷ [])) late (inside d) all in
      let q : rest.0 ≡ s = leads-once (inside c) (early ++ (taken_into place given ∷ [])) rest.0 s rest.1 leads in
      let m : Lists.Leads s (late ++ told during) (inside e) =
      leads-append s late (inside d) (told during) (inside e)
      (subst (λ (t : State). Lists.Leads t late (inside d)) q rest.2) (leads-told d e during l) in
      subst (λ (n : ℕ). Isolated n h (late ++ told during) (inside e)) same_codes
      (demand3 (told before ++ early) free reached-free place given granted h at (subst (λ (t : State). Holds t h) after H)
      (late ++ told during) (inside e) (subst (λ (t : State). Lists.Leads t (late ++ told during) (inside e)) after m)
      (subst (λ (t : State). Stretch h t (late ++ told during)) after stretch))

pub demand-3 : Demand3
demand-3 =
    record {
      spelled = spelled_out;
      alike = λ configuration before c r d x reply k early late place given is s leads h at H during e l stretch.
          as-told configuration before c r d x reply k early late place given is s leads h at H during e l stretch;
      moving = still-there;
      own = still-own;
      free = free-place;
      head = on-its-own;
      back = back-so;
      waits = λ configuration es c l. (every-cell configuration es c l).always.returning;
      frees = frees-so;
      until = until-so;
      closing = λ configuration es c l. (every-cell configuration es c l).always.closing;
    }
