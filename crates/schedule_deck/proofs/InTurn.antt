-- The groups of a part of a deck, each read in turn: what the loop keeps, and that the whole is the text of all
-- groups. Then the lines of the schedule, and one group's answer. Assumes nothing.
use Prim.Native.Nat.{ℕ, ◌+◌, ◌-◌, ◌≤◌, ◌<◌}
use mathlib.Core.Path.{◌≡◌, refl, sym, ap, subst, ◌∙◌}
use mathlib.Core.List.{List, [], ◌∷◌, ◌++◌}
use native.Mathlib.Omega.{arith}
use lib.ListN.{length, take, drop, length-take, length-drop, drop_of_length-le}
use lib.Seq.{drop-drop, length-take-le}
use Rattle.text.specs.Room.{Written, Whole, Puts}
use Rattle.text.specs.declared.room.Room.{Room}
use Rattle.text.proofs.RoomLaws.{Goes, goes-start, goes-turn, goes-end, puts-then, none, entire}
use Rattle.cards_fields.proofs.FieldLaws.{rest-is}
use Rattle.cards_fields.specs.Deck.{cards_of, groups_of, group_size, deck_end, deck_groups}
use Rattle.cards_fields.proofs.Groups.{no-groups, first_group_lem, ends, deck-cards}
use Rattle.cards_fields.specs.Deck.{DeckEnd}
use Rattle.std.specs.Prelude.{Ok, Err}
use Rattle.schedule_list.specs.InSchedule.{in_schedule, schedule_of}
use Rattle.schedule_list.specs.declared.Schedule.{Schedule}
use Rattle.schedule_entering.specs.Outlines.{Outlines}
use Rattle.schedule_entering.specs.declared.Outline.{Outline}
use Rattle.numbers.specs.declared.Refusal.{Refusal}
use Rattle.cards_lines.specs.Shown.{refused_text}
use Rattle.schedule_deck.specs.Report.{schedule_text, begin, errors_from, end_from, last_line, closing_text, report_text}
use Rattle.schedule_deck.specs.Report.{deck_text, text_by, notes_text, notes_by, schedule_by, outcome_by}
use Rattle.schedule_deck.proofs.Pieces.{Read}
use Rattle.schedule_deck.proofs.Bounds.{deck_room, noted-whole}
use Rattle.schedule_deck.specs.Reading.{ReadAll, Noted, DeckEntered}
use Rattle.schedule_deck.specs.declared.Progress.{Progress}
use Rattle.schedule_deck.specs.declared.Entered.{Entered}

-- the group that the code found, and those of the rest
next-group : (d : List ℕ) → (length (take (group_size d) d) ≡ 0 → ⊥)
    → groups_of (cards_of d) ≡ cards_of (take (group_size d) d) ∷ groups_of (cards_of (drop (length (take (group_size d) d)) d))
next-group d n = let f = first_group_lem d n in rw (length-take-le (group_size d) d f.within) f.next

pub record AtGroups (part : List ℕ) (room : Room) (first : Progress) (out : Room) (p : Progress) (from : ℕ) : Type 0 where
  pub within : from ≤ length part
  pub going : Goes room (errors_from first (groups_of (cards_of part))) out (errors_from p (groups_of (cards_of (drop from part))))
  pub then : end_from p (groups_of (cards_of (drop from part))) ≡ end_from first (groups_of (cards_of part))

pub groups-start : (part : List ℕ) (room : Room) (p : Progress) → AtGroups part room p room p 0
groups-start part room p = record { within = omega arith; going = goes-start room _; then = refl }

-- the group that the code has found
module _ {part : List ℕ} {room out : Room} {first p : Progress} {from : ℕ} (w : AtGroups part room first out p from) where
  all_read : groups_of (cards_of (drop from part)) ≡ [] → ReadAll room first (groups_of (cards_of part)) out p
  all_read e = record {
    text = goes-end (rw e at w.going);
    then = rw e at w.then;
  }

  pub groups-end : length part ≤ from → ReadAll room first (groups_of (cards_of part)) out p
  groups-end h = all_read (rw (drop_of_length-le part h))

  module _ {g : List ℕ} (is : g ≡ take (group_size (take (length part - from) (drop from part))) (take (length part - from) (drop from part))) where
    group-is : g ≡ take (group_size (drop from part)) (drop from part)
    group-is = is ∙ ap (λ (l : List ℕ). take (group_size l) l) (rest-is part from)

    pub groups-over : length g ≡ 0 → ReadAll room first (groups_of (cards_of part)) out p
    groups-over h = all_read (no-groups (drop from part) (ap length (sym group-is) ∙ h))

    pub group-within : from < length part → from + length g ≤ length part
    group-within h = omega (arith, ap length group-is, length-take (group_size (drop from part)) (drop from part), length-drop from part)

    pub groups-turn : from < length part → (length g ≡ 0 → ⊥) → {out' : Room} {r : Progress} → Read out p (cards_of g) out' r
        → AtGroups part room first out' r (from + length g)
    groups-turn h n {out'} {r} d =
        let e : groups_of (cards_of (drop from part)) ≡ cards_of g ∷ groups_of (cards_of (drop (from + length g) part)) =
        rw (← drop-drop (length g) from part, group-is) (next-group (drop from part) (λ z. n (ap length group-is ∙ z))) in
        record {
          within = group-within h;
          going = rw d.then (goes-turn (rw e at w.going) d.text);
          then = rw d.then (rw e at w.then);
        }

-- where the code's two ways meet, what each local then holds
pub groups-meet : {part shown last last₁ : List ℕ} {room out out₁ : Room} {first : Progress} {s s₁ : Schedule} {from : ℕ} → out ≡ out₁ → s ≡ s₁
    → last ≡ last₁
    → AtGroups part room first out₁ (record { schedule = s₁; shown = shown; last = last₁ }) from
    → AtGroups part room first out (record { schedule = s; shown = shown; last = last }) from
groups-meet {part} {shown} {last} {last₁} {room} {out} {out₁} {first} {s} {s₁} {from} o k l w =
    subst (λ (x : Room). AtGroups part room first x (record { schedule = s; shown = shown; last = last }) from) (sym o)
    (subst (λ (x : Schedule). AtGroups part room first out₁ (record { schedule = x; shown = shown; last = last }) from) (sym k)
    (subst (λ (x : List ℕ). AtGroups part room first out₁ (record { schedule = s₁; shown = shown; last = x }) from) (sym l) w))

pub outline-meet : {s s₁ : Schedule} {o o₁ : Outline} → s ≡ s₁ → o ≡ o₁ → Outlines (in_schedule s₁) o₁ → Outlines (in_schedule s) o
outline-meet {s} {s₁} {o} {o₁} k l w =
    subst (λ (x : Schedule). Outlines (in_schedule x) o) (sym k) (subst (λ (x : Outline). Outlines (in_schedule s₁) x) (sym l) w)

-- the errors, then the schedule, then the last line, from an empty schedule on
pub report-put : {room out then after· : Room} {schedule : Schedule} {first p : Progress} (gs : List (List (List ℕ)))
    → schedule ≡ schedule_of [] → first ≡ begin schedule → ReadAll room first gs out p
    → Puts out (schedule_text (in_schedule p.schedule)) then
    → Puts then (last_line p.last) after·
    → Puts room (report_text gs) after·
unfolding report_text
report-put {room} {out} {after· = after·} {first = first} {p = p} gs e f d b c =
    let w : Puts room (errors_from first gs ++ closing_text (end_from first gs)) after· =
    puts-then d.text (subst (λ (q : Progress). Puts out (closing_text q) after·) d.then (puts-then b c)) in
    subst (λ (q : Progress). Puts room (errors_from q gs ++ closing_text (end_from q gs)) after·) (f ∙ ap begin e) w

-- the errors, then the last line, and the schedule that follows
pub noted : {room out after· : Room} {schedule : Schedule} {first p : Progress} (gs : List (List (List ℕ)))
    → first ≡ begin schedule → ReadAll room first gs out p
    → Puts out (last_line p.last) after· → room.at ≡ 0
    → Noted room.bytes.now schedule gs after·.bytes.now (record { outcome = Ok tt; schedule = p.schedule; at = after·.at })
unfolding notes_text
noted {room} {out} {after·} {schedule} {first} {p} gs f d c z = record {
  done = refl;
  then = ap (λ (q : Progress). q.schedule) d.then ∙ ap (λ (q : Progress). (end_from q gs).schedule) f;
  text =
      let w : Puts room (errors_from first gs ++ last_line (end_from first gs).last) after· =
      puts-then d.text (subst (λ (q : Progress). Puts out (last_line q.last) after·) d.then c) in
      let x = subst (λ (q : Progress). Puts room (errors_from q gs ++ last_line (end_from q gs).last) after·) f w in
      subst (λ (n : ℕ). Written room.bytes.now n (notes_text schedule gs) after·.bytes.now after·.at) z x.written;
}

-- the text of a deck, and what entering it leaves, by where it ends
module _ (s : List ℕ) {end : DeckEnd} (is : end ≡ deck_end s) where
  pub part-long : (n : ℕ) → end ≡ Ok n → n ≡ length (take n s)
  part-long n e = sym (length-take-le n s (omega (arith, (ends s n (sym is ∙ e)).within)))

  groups-are : (n : ℕ) → end ≡ Ok n → groups_of (cards_of (take n s)) ≡ deck_groups s
  groups-are n e = ap groups_of (deck-cards s n (sym is ∙ e))

  pub good-text : (n : ℕ) → end ≡ Ok n → report_text (groups_of (cards_of (take n s))) ≡ deck_text s
  good-text n e = ap report_text (groups-are n e) ∙ ap (λ (x : DeckEnd). text_by x s) (sym (sym is ∙ e))

  pub refused-text : (refusal : Refusal) → end ≡ Err refusal → refused_text refusal ≡ deck_text s
  refused-text refusal e = ap (λ (x : DeckEnd). text_by x s) (sym (sym is ∙ e))

  pub good-entered : (n : ℕ) → end ≡ Ok n → {schedule : Schedule} {room after· : List ℕ} {r : Entered} → length room ≡ deck_room
      → Noted room schedule (groups_of (cards_of (take n s))) after· r → DeckEntered schedule s room after· r
  good-entered n e {schedule} {room} {after·} {r} l d =
      let q : deck_end s ≡ Ok n = sym is ∙ e in
      record {
        outcome = d.done ∙ ap outcome_by (sym q);
        then = d.then ∙ ap (λ (gs : List (List (List ℕ))). (end_from (begin schedule) gs).schedule) (groups-are n e)
            ∙ ap (λ (x : DeckEnd). schedule_by x schedule s) (sym q);
        text = noted-whole l schedule s
            (subst (λ (p : List ℕ). Written room 0 p after· r.at)
            (ap (notes_text schedule) (groups-are n e) ∙ ap (λ (x : DeckEnd). notes_by x schedule s) (sym q)) d.text);
      }

  pub refused-entered : (refusal : Refusal) → end ≡ Err refusal → (schedule : Schedule) (room : List ℕ)
      → DeckEntered schedule s room room (record { outcome = Err refusal; schedule = schedule; at = 0 })
  refused-entered refusal e schedule room =
      let q : deck_end s ≡ Err refusal = sym is ∙ e in
      record {
        outcome = ap outcome_by (sym q);
        then = ap (λ (x : DeckEnd). schedule_by x schedule s) (sym q);
        text = subst (λ (p : List ℕ). Whole p room room 0) (ap (λ (x : DeckEnd). notes_by x schedule s) (sym q)) (entire (none room 0) (omega arith));
      }
