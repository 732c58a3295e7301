-- THE MARKED CASES HOLD, all of them, by computing: decks and cards from their bytes, calls by the computed cell,
-- which is what the contracts allow. Assumes nothing.
use Prim.Native.Nat.{ℕ}
use mathlib.Core.Path.{◌≡◌, refl, sym, ap, subst, ◌∙◌}
use mathlib.Core.Bool.{true}
use mathlib.Core.List.{List, [], ◌∷◌}
use Rattle.numbers.specs.declared.Refusal.TheVariants.{NoAssignment}
use Rattle.units.specs.State.{unit_in, unit_set, assignable}
use Rattle.channels.specs.Channels.{no_channels}
use Rattle.packets.specs.History.{fresh}
use Rattle.cell.specs.Calls.{acted, fresh_cell}
use Rattle.cell.specs.declared.Cell.{Cell}
use Rattle.marked_cases.proofs.Computed.{cell_after, does-computed, reply_of, sized}
use Rattle.marked_cases.proofs.Moving.{k9}
use Rattle.cards_lines.specs.Shown.{shown_by}
use Rattle.schedule_deck.specs.Report.{after, group_text, report_text}
use Rattle.cards_writing.specs.Writing.{priority_text}
use Rattle.cards_fac.specs.Fac.{asked_of, code_error, codes, entry_of, form_error, fac_error, fac_of}
use Rattle.schedule_candidates.specs.Candidates.{candidate}
use Rattle.cards_fields.specs.Fields.{card_byte, fields, is_name, malformed}
use Rattle.cards_fields.specs.Deck.{deck_end}
use Rattle.text.specs.Writing.{digits_text}
use Rattle.cards_further.specs.Together.{apart}
use Rattle.cards_further.specs.Further.{pm_wrong}
use Rattle.cards_group.specs.Group.{ordered_error, read_cards}
use Rattle.cards_pty.specs.Pty.{pty_error, priority_of, program_name, ranked, rules}
use Rattle.schedule_list.specs.InSchedule.{changed_at, inserted, removed, schedule_of, set_state as set_state_in, with_state}
use Rattle.numbers.specs.Quoted.{is2, bytes}
use Rattle.text.specs.Class.{is_alnum, is_digit, is_letter}
use Rattle.numbers.specs.Kinds.{kind_of}
use Rattle.numbers.specs.declared.Kind.TheVariants.{Mt}
use Rattle.assign.specs.declared.Part.TheVariants.{Units}
use Rattle.schedule_entries.specs.Entries.{lower_sequence, precedes, same_key, same_rank}
use Rattle.schedule_entering.specs.Entering.{clash_error, enter_error, same_there}
use Rattle.words.specs.Words.{number_in as number_of_text}
use Rattle.text.specs.Reading.{two_digits_of}
use Rattle.functions.specs.Legal.{legal_of}
use Rattle.configuration_units.specs.Fresh.{fresh_units}
use Rattle.assign_core.proofs.Computed.{search_of, run_b, fits_b}
use Rattle.assign_drum.proofs.Computed.{start_of, area_b}
use Rattle.assign_channels.specs.Greedy.{ge, tests_b, lowest_from, picks, choose_of}
use Rattle.assign_heads.specs.Sums.{sum_to}
use Rattle.assign_heads.proofs.Computed.{give_from, service_of, serve_of}
use Rattle.assign_free.specs.Assignable.{is_free_of}
use Rattle.assign.specs.Assignment.{drum_length}
use Rattle.assign.proofs.Computed.{kinds_from, assign_of}
use Rattle.packets.specs.Rules.{accept, answer, refusal}
use Rattle.packets.specs.State.{configured, drum_on, enlisted, entry_of as entry_of', fitted_on, packet_in, packet_of, place_of}
use Rattle.packets.specs.State.{put, relist, release_all, restatus_all, set_state, state_in, take_all}
use Rattle.lists.specs.Outcomes.{outcome}
use Rattle.cell_taken.specs.Taken.{word_from}
use Rattle.marked_cases.specs.Cases.{All, Errs, Follows, Given, Holds, Missing, Plays, Prints, Step, alone}
use Rattle.marked_cases.specs.Cases.{drum_channels, k1_deck, k4_steps, marked, mt_channels, seen, with·}

-- what computing has to show
abbrev Computes : Cell → List Step → Type 0
Computes c [] = Unit {0}
Computes c (s ∷ ss) = (sized c ≡ true) × ((seen (reply_of c s.call) ≡ s.seen) × Computes (cell_after c s.call) ss)

follows : (c : Cell) (ss : List Step) → Computes c ss → Follows c ss
follows c [] k = tt
follows c (s ∷ ss) k = λ reply d h.
    let e = does-computed c d s.call reply k.0 h in
    (ap seen e.0 ∙ k.1.0, subst (λ (x : Cell). Follows x ss) (sym e.1) (follows (cell_after c s.call) ss k.1.1))

-- ---- K1 and K3, from the cards' bytes

k1 : Holds (Prints k1_deck (bytes "SP B7 ER 31\nD4 01A05\nA1 02A05\nD4 SCH ACK\n"))
unfolding after apart asked_of card_byte clash_error code_error codes deck_end digits_text enter_error entry_of fac_error fac_of fields form_error
    group_text inserted is2 is_alnum is_digit is_letter is_name kind_of lower_sequence malformed number_of_text ordered_error pm_wrong precedes priority_of
    priority_text program_name pty_error ranked read_cards report_text rules same_key same_rank same_there schedule_of shown_by two_digits_of
    removed set_state_in
k1 = refl

k3 : Holds (Errs (bytes "A1,PTY,2,,ECU,,T,PROG,P,A5,P,3." ∷ bytes "A1,FAC,IB/14,DB/15." ∷ []) 14)
unfolding apart asked_of card_byte code_error codes digits_text entry_of fac_error fac_of fields form_error is2 is_alnum is_digit is_letter is_name kind_of
    malformed number_of_text ordered_error pm_wrong priority_of program_name pty_error ranked read_cards rules two_digits_of
k3 = refl

-- ---- K2 and K4 to K8, by the computed cell

module _ (section : ℕ) where
  k2 : Holds (Plays (with· section no_channels) (alone (bytes "IB/28") (Given 0 2 0 0 0 0 0)))
  unfolding after apart asked_of card_byte clash_error code_error codes deck_end digits_text enter_error entry_of fac_error fac_of fields form_error
      inserted is2 is_alnum is_digit is_letter is_name kind_of lower_sequence malformed number_of_text ordered_error pm_wrong precedes priority_of
      program_name pty_error ranked read_cards rules same_key same_rank same_there schedule_of shown_by two_digits_of assign_of kinds_from search_of run_b
      fits_b start_of area_b drum_length serve_of service_of give_from choose_of picks lowest_from tests_b ge sum_to is_free_of unit_in unit_set assignable
      legal_of refusal accept answer fresh fitted_on drum_on configured packet_in state_in put relist enlisted entry_of' place_of packet_of set_state
      restatus_all take_all release_all fresh_cell acted outcome candidate word_from fresh_units changed_at with_state removed set_state_in
  k2 =
      let k : Computes (fresh_cell (with· section no_channels)) (alone (bytes "IB/28") (Given 0 2 0 0 0 0 0)) =
      (refl, (refl, (refl, (refl, tt)))) in
      follows (fresh_cell (with· section no_channels)) (alone (bytes "IB/28") (Given 0 2 0 0 0 0 0)) k

  k4 : Holds (Plays (with· section no_channels) k4_steps)
  unfolding after apart asked_of card_byte clash_error code_error codes deck_end digits_text enter_error entry_of fac_error fac_of fields form_error
      inserted is2 is_alnum is_digit is_letter is_name kind_of lower_sequence malformed number_of_text ordered_error pm_wrong precedes priority_of
      program_name pty_error ranked read_cards rules same_key same_rank same_there schedule_of shown_by two_digits_of assign_of kinds_from search_of run_b
      fits_b start_of area_b drum_length serve_of service_of give_from choose_of picks lowest_from tests_b ge sum_to is_free_of unit_in unit_set assignable
      legal_of refusal accept answer fresh fitted_on drum_on configured packet_in state_in put relist enlisted entry_of' place_of packet_of set_state
      restatus_all take_all release_all fresh_cell acted outcome candidate word_from fresh_units changed_at with_state removed set_state_in
  k4 =
      let k : Computes (fresh_cell (with· section no_channels)) k4_steps =
      (refl, (refl, (refl, (refl, (refl, (refl, (refl, (refl, (refl, (refl, (refl, (refl, (refl, (refl, (refl, (refl, tt)))))))))))))))) in
      follows (fresh_cell (with· section no_channels)) k4_steps k

  k5 : Holds (Plays (with· section mt_channels) (alone (bytes "IB/1,MT1/2,MT2/3") (Given 0 2 0 0 0 5 3)))
  unfolding after apart asked_of card_byte clash_error code_error codes deck_end digits_text enter_error entry_of fac_error fac_of fields form_error
      inserted is2 is_alnum is_digit is_letter is_name kind_of lower_sequence malformed number_of_text ordered_error pm_wrong precedes priority_of
      program_name pty_error ranked read_cards rules same_key same_rank same_there schedule_of shown_by two_digits_of assign_of kinds_from search_of run_b
      fits_b start_of area_b drum_length serve_of service_of give_from choose_of picks lowest_from tests_b ge sum_to is_free_of unit_in unit_set assignable
      legal_of refusal accept answer fresh fitted_on drum_on configured packet_in state_in put relist enlisted entry_of' place_of packet_of set_state
      restatus_all take_all release_all fresh_cell acted outcome candidate word_from fresh_units changed_at with_state removed set_state_in
  k5 =
      let k : Computes (fresh_cell (with· section mt_channels)) (alone (bytes "IB/1,MT1/2,MT2/3") (Given 0 2 0 0 0 5 3)) =
      (refl, (refl, (refl, (refl, tt)))) in
      follows (fresh_cell (with· section mt_channels)) (alone (bytes "IB/1,MT1/2,MT2/3") (Given 0 2 0 0 0 5 3)) k

  k6 : Holds (Plays (with· section mt_channels) (alone (bytes "IB/1,MT1/2,MT/4") (Given 0 2 0 0 0 3 0)))
  unfolding after apart asked_of card_byte clash_error code_error codes deck_end digits_text enter_error entry_of fac_error fac_of fields form_error
      inserted is2 is_alnum is_digit is_letter is_name kind_of lower_sequence malformed number_of_text ordered_error pm_wrong precedes priority_of
      program_name pty_error ranked read_cards rules same_key same_rank same_there schedule_of shown_by two_digits_of assign_of kinds_from search_of run_b
      fits_b start_of area_b drum_length serve_of service_of give_from choose_of picks lowest_from tests_b ge sum_to is_free_of unit_in unit_set assignable
      legal_of refusal accept answer fresh fitted_on drum_on configured packet_in state_in put relist enlisted entry_of' place_of packet_of set_state
      restatus_all take_all release_all fresh_cell acted outcome candidate word_from fresh_units changed_at with_state removed set_state_in
  k6 =
      let k : Computes (fresh_cell (with· section mt_channels)) (alone (bytes "IB/1,MT1/2,MT/4") (Given 0 2 0 0 0 3 0)) =
      (refl, (refl, (refl, (refl, tt)))) in
      follows (fresh_cell (with· section mt_channels)) (alone (bytes "IB/1,MT1/2,MT/4") (Given 0 2 0 0 0 3 0)) k

  k7 : Holds (Plays (with· section mt_channels) (alone (bytes "IB/1,MT1/2,MT/5") (Missing NoAssignment (bytes "A1    ") (Units Mt))))
  unfolding after apart asked_of card_byte clash_error code_error codes deck_end digits_text enter_error entry_of fac_error fac_of fields form_error
      inserted is2 is_alnum is_digit is_letter is_name kind_of lower_sequence malformed number_of_text ordered_error pm_wrong precedes priority_of
      program_name pty_error ranked read_cards rules same_key same_rank same_there schedule_of shown_by two_digits_of assign_of kinds_from search_of run_b
      fits_b start_of area_b drum_length serve_of service_of give_from choose_of picks lowest_from tests_b ge sum_to is_free_of unit_in unit_set assignable
      legal_of refusal accept answer fresh fitted_on drum_on configured packet_in state_in put relist enlisted entry_of' place_of packet_of set_state
      restatus_all take_all release_all fresh_cell acted outcome candidate word_from fresh_units changed_at with_state removed set_state_in
  k7 =
      let k : Computes (fresh_cell (with· section mt_channels))
      (alone (bytes "IB/1,MT1/2,MT/5") (Missing NoAssignment (bytes "A1    ") (Units Mt))) =
      (refl, (refl, (refl, (refl, tt)))) in
      follows (fresh_cell (with· section mt_channels)) (alone (bytes "IB/1,MT1/2,MT/5") (Missing NoAssignment (bytes "A1    ") (Units Mt))) k

  k8 : Holds (Plays (with· section drum_channels) (alone (bytes "IB/1,MD/1500") (Given 0 2 0 35329 36828 0 0)))
  unfolding after apart asked_of card_byte clash_error code_error codes deck_end digits_text enter_error entry_of fac_error fac_of fields form_error
      inserted is2 is_alnum is_digit is_letter is_name kind_of lower_sequence malformed number_of_text ordered_error pm_wrong precedes priority_of
      program_name pty_error ranked read_cards rules same_key same_rank same_there schedule_of shown_by two_digits_of assign_of kinds_from search_of run_b
      fits_b start_of area_b drum_length serve_of service_of give_from choose_of picks lowest_from tests_b ge sum_to is_free_of unit_in unit_set assignable
      legal_of refusal accept answer fresh fitted_on drum_on configured packet_in state_in put relist enlisted entry_of' place_of packet_of set_state
      restatus_all take_all release_all fresh_cell acted outcome candidate word_from fresh_units changed_at with_state removed set_state_in
  k8 =
      let k : Computes (fresh_cell (with· section drum_channels)) (alone (bytes "IB/1,MD/1500") (Given 0 2 0 35329 36828 0 0)) =
      (refl, (refl, (refl, (refl, tt)))) in
      follows (fresh_cell (with· section drum_channels)) (alone (bytes "IB/1,MD/1500") (Given 0 2 0 35329 36828 0 0)) k

-- K1 TO K9
pub marked-cases : (section : ℕ) → All (marked section)
marked-cases section = (k1, (k2 section, (k3, (k4 section, (k5 section, (k6 section, (k7 section, (k8 section, (k9 section, tt)))))))))
