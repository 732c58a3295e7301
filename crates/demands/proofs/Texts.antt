-- What the writer answers and keeps, and what the listing prints and counts: what the demands say of texts. Assumes
-- nothing.
use Prim.Native.Nat.{ℕ, zero, suc, ◌≤◌}
use mathlib.Core.Path.{◌≡◌, refl, sym, ap, ◌∙◌}
use mathlib.Core.Bool.{Bool, true, ◌&&◌}
use mathlib.Core.List.{List, [], ◌++◌}
use native.Mathlib.Omega.{arith}
use lib.ListN.{length, get_or, take, drop}
use Rattle.numbers.proofs.Tests.{by_bool}
use Rattle.numbers.specs.declared.ChannelNumber.{ChannelNumber}
use Rattle.numbers.specs.declared.Refusal.{Refusal}
use Rattle.units.specs.State.{assignable, unit_in}
use Rattle.units.specs.declared.Unit.{Unit as UnitState}
use Rattle.channels.specs.Channels.{has_unit}
use Rattle.channels.specs.declared.Channel.{Channel}
use Rattle.channels.specs.declared.Configuration.{Configuration}
use Rattle.configuration_units.specs.Fresh.{fresh_units}
use Rattle.configuration_form.specs.Form.{InForm, FirstBad}
use Rattle.configuration_form.proofs.Unique.{first-named, read_back}
use Rattle.configuration_listing.specs.Listing.{Listed, answer_text, assignable_units, counted, lines_from, error_text}
use Rattle.cards_fac.specs.Fac.{asked}
use Rattle.cards_group.specs.Group.{answer, full_answer, further_of, ordered_error, read_cards, read_full, read_group, request_of}
use Rattle.cards_request.specs.declared.FullRequest.{FullRequest}
use Rattle.cards_request.specs.declared.Further.{Further}
use Rattle.cards_request.specs.declared.Request.{Request}
use Rattle.cards_request.specs.Errors.{CardVerdict}
use Rattle.cards_full.specs.Full.{fits, takes_full, write_answer, written, text_of}
use Rattle.assign_heads.specs.Sums.{how_many, sum_to}
use Rattle.packets.specs.History.{fresh}
use Rattle.packets.specs.State.{State}
use Rattle.cell.specs.Calls.{fresh_cell}
use Rattle.cell_history.specs.Told.{inside}
use Rattle.cell_history.proofs.Reaching.{fresh-inside}
use Rattle.std.specs.Prelude.{Ok, Err}

-- the writer keeps every byte where it refuses
pub kept-room : (r : FullRequest) (room : List ℕ) (n : Refusal) → write_answer r (length room) ≡ Err n → written r room ≡ room
unfolding write_answer written
kept-room r room n e =
    by_bool (takes_full r)
    (λ t. by_bool (fits r (length room)) (λ f. absurd (not-cards (rw (t, f) at e))) (λ f. rw (t, f) refl))
    (λ t. rw t refl)
  where
    not-cards : {k : ℕ} → Ok k ≡ Err n → ⊥
    not-cards {k} q = let z : ◌≡◌ {A = ℕ} 0 1 = cc in omega arith

-- what is entered and what is read with the further cards are the same
pub groups-alike : (group : List (List ℕ))
    → ((read_full group).verdict ≡ (read_group group).verdict) × ((read_full group).full.request ≡ (read_group group).request)
unfolding read_full read_cards
groups-alike group =
    by (ordered_error (length group) (get_or group 0 []) (get_or group 1 []) (drop 2 group)) (request_of (get_or group 0 []) (asked (get_or group 1 [])))
    (further_of group)
  where
    by : (v : CardVerdict) (q : Request) (f : Further)
        → ((full_answer (answer v q).verdict (answer v q).request f).verdict ≡ (answer v q).verdict)
        × ((full_answer (answer v q).verdict (answer v q).request f).full.request ≡ (answer v q).request)
    by (Ok u) q f = (refl, refl)
    by (Err e) q f = (refl, refl)

pub group-first : (cards : List (List ℕ)) → (read_group cards).verdict ≡ ordered_error (length cards) (get_or cards 0 []) (get_or cards 1 []) (drop 2 cards)
unfolding read_cards
group-first cards =
    by (ordered_error (length cards) (get_or cards 0 []) (get_or cards 1 []) (drop 2 cards)) (request_of (get_or cards 0 []) (asked (get_or cards 1 [])))
  where
    by : (v : CardVerdict) (q : Request) → (answer v q).verdict ≡ v
    by (Ok u) q = refl
    by (Err e) q = refl

-- what a bad configuration is listed as
pub listed-bad : (s room after : List ℕ) (r line : ℕ) → FirstBad s line → Listed s room after r → 96 ≤ length room → take r after ≡ error_text line
listed-bad s room after r line f l h =
    (l.whole h).0 ∙ ap answer_text (first-named s line f)

-- and where it does not, holds the cards
pub written-so : (r : FullRequest) (room : List ℕ) → takes_full r ≡ true → fits r (length room) ≡ true
    → written r room ≡ text_of r ++ drop (length (text_of r)) room
unfolding written
written-so r room t f = rw (t, f) refl

-- what the listing program puts for the written form of a configuration
pub listed : (s room after : List ℕ) (r : ℕ) (of : List Channel) (marks : List Bool) (word : ℕ) → InForm s of marks word → Listed s room after r
    → 96 ≤ length room → take r after ≡ lines_from (record { channels = of; down = marks; codes = word }) 16 0
listed s room after r of marks word f l h =
    (l.whole h).0 ∙ ap answer_text (read_back s of marks word f)

-- the units that it counts are those of the fresh cell
counted-to : (configuration : Configuration) (grid : List (List UnitState)) (channel : ChannelNumber) (n : ℕ)
    → assignable_units configuration grid channel n
    ≡ how_many n (λ u. has_unit configuration channel (record { 0 = u }) && assignable (unit_in grid channel.0 u))
unfolding assignable_units counted sum_to
counted-to configuration grid channel zero = refl
counted-to configuration grid channel (suc n) = omega (arith, counted-to configuration grid channel n)

pub counted-fresh : (configuration : Configuration) (channel : ChannelNumber)
    → assignable_units configuration (fresh_units configuration.down) channel 16
    ≡ how_many 16
    (λ u. has_unit configuration channel (record { 0 = u }) && assignable (unit_in (inside (fresh_cell configuration)).units channel.0 u))
unfolding fresh
counted-fresh configuration channel =
    counted-to configuration (fresh_units configuration.down) channel 16
    ∙ ap (λ (s : State). how_many 16 (λ u. has_unit configuration channel (record { 0 = u }) && assignable (unit_in s.units channel.0 u)))
    (sym (fresh-inside configuration))
