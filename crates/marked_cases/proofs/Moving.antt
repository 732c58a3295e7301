-- K9, A HISTORY OF CALLS on the cell: the deck is computed; of the selection everything but the units is computed, and
-- that the lowest unit of the channel is among them follows from what an assignment is; the calls after it are computed
-- with the other units left open. Assumes nothing.
use mathlib.Core.Path.{◌≡◌, refl, sym, ap, subst, ◌∙◌}
use mathlib.Core.Bool.{true, false}
use mathlib.Core.List.{List, [], ◌∷◌, map}
use Rattle.units.specs.State.{unit_in, assignable, units_from}
use Rattle.channels.specs.Channels.{no_down}
use Rattle.packets.specs.History.{fresh}
use Rattle.cell.specs.Calls.{acted, fresh_cell, cell_of}
use Rattle.cell.specs.declared.Cell.{Cell}
use Rattle.marked_cases.proofs.Computed.{cell_after, reply_of, sized, select_of, selects}
use Rattle.cell_history.specs.History.{Deck, Select}
use Rattle.cards_lines.specs.Shown.{shown_by}
use Rattle.schedule_deck.specs.Report.{after}
use Rattle.cards_fac.specs.Fac.{asked_of, code_error, codes, entry_of, form_error, fac_error, fac_of}
use Rattle.schedule.specs.Calls.{taken}
use Rattle.schedule_candidates.specs.Candidates.{candidate}
use Rattle.cards_fields.specs.Fields.{card_byte, fields, is_name, malformed}
use Rattle.cards_fields.specs.Deck.{deck_end}
use Rattle.text.specs.Writing.{digits_text}
use Rattle.cards_further.specs.Together.{apart}
use Rattle.cards_further.specs.Further.{pm_wrong}
use Rattle.cards_group.specs.Group.{ordered_error, read_cards}
use Rattle.cards_pty.specs.Pty.{pty_error, priority_of, program_name, ranked, rules}
use Rattle.schedule_list.specs.InSchedule.{changed_at, inserted, removed, schedule_of, set_state as set_state_in, with_state, in_schedule}
use Rattle.numbers.specs.Quoted.{is2}
use Rattle.text.specs.Class.{is_alnum, is_digit, is_letter}
use Rattle.numbers.specs.Kinds.{kind_of}
use Rattle.schedule_entries.specs.Entries.{lower_sequence, precedes, same_key, same_rank}
use Rattle.words.specs.Words.{number_in as number_of_text}
use Rattle.text.specs.Reading.{two_digits_of}
use Rattle.functions.specs.Legal.{legal_of}
use Rattle.configuration_units.specs.Fresh.{fresh_units}
use Rattle.assign_core.proofs.Computed.{search_of, run_b, fits_b}
use Rattle.assign_drum.proofs.Computed.{start_of, area_b}
use Rattle.assign_channels.specs.Greedy.{ge, tests_b, lowest_from, picks, choose_of}
use Rattle.assign_heads.specs.Sums.{sum_to}
use Rattle.assign_heads.proofs.Computed.{give_from, service_of, serve_of}
use Rattle.assign_free.specs.Assignable.{is_free_of}
use Rattle.assign.specs.Assignment.{drum_length, channels_of, free_of, given, given_of, wants_of}
use Rattle.assign.proofs.Computed.{kinds_from, assign_of}
use Rattle.packets.specs.Rules.{accept, answer, refusal, fresh_job}
use Rattle.packets.specs.State.{configured, drum_on, enlisted, entry_of as entry_of', fitted_on, packet_in, packet_of, place_of, put}
use Rattle.packets.specs.State.{relist, release_all, restatus_all, set_state, state_in}
use Rattle.lists.specs.Outcomes.{outcome, lists_of}
use Rattle.cell_taken.specs.Taken.{word_from}
use Rattle.marked_cases.specs.Cases.{Given, seen, with·, Accepted, Holds, Keeps, k9_deck, k9_ending, k9_steps, one_channel, watched}
use Prim.Native.Nat.{ℕ, ◌+◌, ◌*◌, ◌/◌}
use native.Mathlib.Omega.{arith}
use native.Mathlib.Decide.{dec_lt}
use lib.ListN.{get_or, set, get_or-map}
use Rattle.assign_heads.specs.Whose.{blank}
use Rattle.assign_heads.specs.Heads.{is_to}
use Rattle.assign_heads.specs.declared.Head.{Head}
use Rattle.assign_heads.proofs.GivingLaws.{to-given}
use Rattle.assign_channels.specs.Choice.{on, want}
use Rattle.assign.specs.Chosen.{Chosen}
use Rattle.assign.specs.declared.Assigned.{Assigned}
use Rattle.cards_request.specs.declared.Request.{Request}
use Rattle.schedule_entries.specs.declared.State.TheVariants.{Waiting}
use Rattle.schedule_entering.specs.Entering.{clash_error, enter_error, same_there}
use Rattle.packets.specs.declared.Lists.{Lists}
use Rattle.cell_selection.specs.Selecting.{is_job, is_taken, no_id, supply_in, SelectsBy, left_by}
use Rattle.cell_selection.specs.declared.Choice.{Choice}
use Rattle.cell_selection.specs.declared.Choice.TheVariants.{Job}
use Rattle.cell_selection.specs.declared.Selection.{Selection}
use Rattle.units.specs.declared.Holder.TheVariants.{Held, Free}
use Rattle.units.specs.declared.Unit.{Unit as UnitState}
use Rattle.configuration_units.proofs.FreshLaws.{fresh-square}
use Rattle.assign.specs.declared.KindChannels.{KindChannels}
use Rattle.packets.proofs.UnitLaws.{take-square}
use Rattle.cell_history.specs.Told.{inside}
use Rattle.assign.specs.Assignment as Assign
use Rattle.marked_cases.proofs.MovingParts.{Computed, watches, wants, asks, some_of, sel, plain, units_of, mine, unit-so, shaped}

-- ---- the cell after the deck, as it stands

module _ (section : ℕ) where
  -- the cell after the deck
  abbrev lists₁ : Lists
  lists₁ = lists_of (fresh one_channel section (fresh_units no_down))

  abbrev c₁ : Cell
  c₁ = cell_of (schedule_of (record { request = asks; state = Waiting } ∷ [])) lists₁

  entered : cell_after (fresh_cell (with· section one_channel)) (Deck k9_deck) ≡ c₁
  unfolding after apart asked_of card_byte clash_error code_error codes deck_end digits_text enter_error entry_of fac_error fac_of fields form_error
      fresh_cell inserted is2 is_alnum is_digit is_letter is_name kind_of lower_sequence malformed number_of_text ordered_error pm_wrong precedes
      priority_of program_name pty_error ranked read_cards removed rules same_key same_rank same_there schedule_of shown_by two_digits_of
  entered = refl

  -- ---- the unit that the selection gives: the lowest of channel 3

  chosen-so : ((select_of c₁).selection.choice ≡ Job)
      × (((select_of c₁).selection.place ≡ 0) × (((select_of c₁).selection.at ≡ 0) × ((select_of c₁).selection.first ≡ no_id)))
  unfolding area_b assign_of assignable candidate choose_of drum_length fits_b fresh fresh_units ge give_from is_free_of kinds_from lower_sequence
      lowest_from picks run_b same_rank schedule_of search_of serve_of service_of start_of state_in sum_to tests_b unit_in word_from
  chosen-so = (refl, (refl, (refl, refl)))

  what-so : ((select_of c₁).selection.assigned.ib ≡ 2)
      × (((select_of c₁).selection.assigned.db ≡ 0)
      × (((select_of c₁).selection.assigned.drum ≡ 0) × (on (channels_of (select_of c₁).selection.assigned 1) 1 ≡ 3)))
  unfolding area_b assign_of assignable candidate choose_of drum_length fits_b fresh fresh_units ge give_from is_free_of kinds_from lower_sequence
      lowest_from picks run_b same_rank schedule_of search_of serve_of service_of start_of state_in sum_to tests_b unit_in word_from
  what-so = (refl, (refl, (refl, refl)))

  seen-so : seen (reply_of c₁ Select) ≡ Given 0 2 0 0 0 3 0
  unfolding area_b assign_of assignable candidate choose_of drum_length fits_b fresh fresh_units ge give_from is_free_of kinds_from lower_sequence
      lowest_from picks run_b same_rank schedule_of search_of serve_of service_of start_of state_in sum_to tests_b unit_in word_from
  seen-so = refl

  sized-so : sized c₁ ≡ true
  unfolding fresh schedule_of
  sized-so = refl

  abbrev seen₁ : Assign.Supply
  seen₁ = supply_in lists₁

  free-48 : free_of seen₁ 1 48 ≡ true
  unfolding assignable fresh fresh_units is_free_of unit_in
  free-48 = refl

  wants-1 : want (wants_of wants 1) 1 ≡ 1
  wants-1 = refl

  -- the lowest unit of channel 3 is given, whatever else is said of the chosen assignment
  unit-given : (a : Assigned) → Chosen seen₁ wants a → on (channels_of a 1) 1 ≡ 3 → get_or (map is_taken a.heads) 48 false ≡ true
  unit-given a c o =
      let served = c.is.kinds 1 (omega arith) in
      let some = some_of 256 (λ i. is_to 1 (given_of seen₁ 1 a i)) (omega (arith, served.all 1 (omega arith), wants-1)) in
      let i = some.0 in
      let there : i / 16 ≡ 3 = served.there i 1 (omega arith) some.1 ∙ o in
      let low : is_to 1 (given_of seen₁ 1 a 48) ≡ true = elim (dec_lt 48 i) [
        | yes l ↦ (c.units 1 (omega arith)).units 48 i 1 l (omega arith) some.1 (omega arith) free-48
        | no l ↦ (let q : i ≡ 48 = omega arith in subst (λ (n : ℕ). is_to 1 (given_of seen₁ 1 a n) ≡ true) q some.1)
      ] in
      let g : is_to 1 (given a 48) ≡ true = rw free-48 at low in
      get_or-map is_taken a.heads 48 blank ∙ to-given (given a 48) 1 g

  -- ---- the selection, its channels and units left open

  abbrev S : Selection
  S = (select_of c₁).selection

  request-so : S.request ≡ asks
  unfolding area_b assign_of assignable candidate choose_of drum_length fits_b fresh fresh_units ge give_from is_free_of kinds_from lower_sequence
      lowest_from picks run_b same_rank schedule_of search_of serve_of service_of start_of state_in sum_to tests_b unit_in word_from
  request-so = refl

  selection-so : S ≡ sel S.assigned.channels S.assigned.heads
  selection-so = λ i.
      record {
        choice = chosen-so.0 i;
        first = chosen-so.1.1.1 i;
        place = chosen-so.1.0 i;
        at = chosen-so.1.1.0 i;
        request = request-so i;
        assigned = record {
          ib = what-so.0 i;
          db = what-so.1.0 i;
          drum = what-so.1.1.0 i;
          channels = S.assigned.channels;
          heads = S.assigned.heads;
        };
      }

  -- the chosen assignment is one
  chosen-one : Chosen seen₁ wants S.assigned
  chosen-one =
      let w : SelectsBy Job (in_schedule c₁.schedule) lists₁ S =
      subst (λ (x : Choice). SelectsBy x (in_schedule c₁.schedule) lists₁ S) chosen-so.0 (selects c₁ sized-so).takes.selects in
      subst (λ (r : Request). Chosen seen₁ r.facilities S.assigned) (sym w.request ∙ request-so) w.fit.chosen

  -- ---- the cell after it

  abbrev after₂ : Selection → Cell
  after₂ s = cell_of (left_by (is_job s.choice) c₁.schedule lists₁ s).0 (left_by (is_job s.choice) c₁.schedule lists₁ s).1

  abbrev base : List (List UnitState) → Cell
  base units =
      cell_of (taken c₁.schedule 0 0)
      (record {
        channels = one_channel;
        codes = section;
        jobs = set lists₁.jobs 0 (fresh_job plain);
        list = lists₁.list;
        moving = lists₁.moving;
        units = units_from units;
      })

  based : (named : List KindChannels) (heads : List Head) → after₂ (sel named heads) ≡ base (units_of heads)
  unfolding outcome refusal accept state_in fresh
  based named heads = refl

  -- the calls that follow, whatever the other units
  ends_so : (r₀ r₁ r₂ row : List UnitState) (rest : List (List UnitState)) → Computed 3 0 (base (r₀ ∷ r₁ ∷ r₂ ∷ (mine ∷ row) ∷ rest)) k9_ending
  unfolding accept acted answer changed_at configured drum_on enlisted entry_of' fitted_on fresh legal_of outcome packet_in packet_of place_of put
      refusal relist release_all removed restatus_all schedule_of set_state set_state_in state_in unit_in with_state
  ends_so r₀ r₁ r₂ row rest = (refl, (refl, (refl, (refl, (refl, (refl, (refl, (refl, (refl, (refl, (refl, (refl, tt))))))))))))

  -- ---- all together

  abbrev heads₁ : List Head
  heads₁ = S.assigned.heads

  taken-48 : get_or (map is_taken heads₁) 48 false ≡ true
  taken-48 = unit-given S.assigned chosen-one what-so.1.1.1

  selected-is : cell_after c₁ Select ≡ base (units_of heads₁)
  selected-is = ap after₂ selection-so ∙ based S.assigned.channels heads₁

  selected : Computed 3 0 c₁ (watched Select (Given 0 2 0 0 0 3 0) (Held 0) ∷ k9_ending)
  selected = (
    sized-so,
    (
      seen-so,
      (
        ap (λ (y : Cell). (unit_in (inside y).units 3 0).holder) selected-is ∙ ap (λ (v : UnitState). v.holder) (unit-so heads₁ taken-48),
        subst (λ (y : Cell). Computed 3 0 y k9_ending) (sym selected-is)
            (shaped mine (λ units. Computed 3 0 (base units) k9_ending) ends_so (units_of heads₁)
            (take-square (fresh_units no_down) 0 (λ c u. get_or (map is_taken heads₁) (c * 16 + u) false) (fresh-square no_down))
            (unit-so heads₁ taken-48)),
      ),
    ),
  )

  first-sized : sized (fresh_cell (with· section one_channel)) ≡ true
  unfolding fresh_cell fresh schedule_of
  first-sized = refl

  first-seen : seen (reply_of (fresh_cell (with· section one_channel)) (Deck k9_deck)) ≡ Accepted
  unfolding after apart asked_of card_byte clash_error code_error codes deck_end digits_text enter_error entry_of fac_error fac_of fields form_error
      fresh_cell inserted is2 is_alnum is_digit is_letter is_name kind_of lower_sequence malformed number_of_text ordered_error pm_wrong precedes
      priority_of program_name pty_error ranked read_cards removed rules same_key same_rank same_there schedule_of shown_by two_digits_of
  first-seen = refl

  first-free : (unit_in (inside c₁).units 3 0).holder ≡ Free
  unfolding fresh fresh_units unit_in
  first-free = refl

  -- K9
  pub k9 : Holds (Keeps (with· section one_channel) 3 0 k9_steps)
  k9 =
      watches 3 0 (fresh_cell (with· section one_channel)) k9_steps (
        first-sized,
        (
          first-seen,
          (
            ap (λ (y : Cell). (unit_in (inside y).units 3 0).holder) entered ∙ first-free,
            subst (λ (y : Cell). Computed 3 0 y (watched Select (Given 0 2 0 0 0 3 0) (Held 0) ∷ k9_ending)) (sym entered) selected,
          ),
        ),
      )
