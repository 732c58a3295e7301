-- How long the texts are: 53,248 bytes of room hold every report, and what entering any deck puts. An error's line
-- has at most 16 bytes, a request's 13, the last 15, and there are at most 3,261 groups and 64 requests. Assumes
-- nothing.
use Prim.Native.Nat.{ℕ, ◌+◌, ◌*◌, ◌≤◌, ◌<◌}
use mathlib.Core.Path.{◌≡◌, refl, sym, ap, subst, ◌∙◌}
use mathlib.Core.List.{List, [], ◌∷◌, ◌++◌}
use native.Mathlib.Omega.{arith}
use lib.ListN.{length, get_or, drop, length-append, length-drop}
use lib.Seq.{sets-eq}
use Rattle.numbers.specs.Quoted.{bytes}
use Rattle.numbers.specs.declared.Refusal.{Refusal}
use Rattle.text.specs.Room.{Written, Whole}
use Rattle.text.proofs.RoomLaws.{entire}
use Rattle.text.specs.Writing.{decimal_text}
use Rattle.text.proofs.Undo.{few-digits}
use Rattle.cards_fields.specs.Fields.{field, spaceless}
use Rattle.cards_fields.proofs.FieldLaws.{padded-length}
use Rattle.cards_fields.specs.Deck.{deck_end, deck_groups}
use Rattle.cards_fields.proofs.Groups.{refused-bad}
use Rattle.cards_fields.specs.Deck.{DeckEnd}
use Rattle.std.specs.Prelude.{Ok, Err}
use Rattle.cards_fac.specs.Fac.{asked}
use Rattle.cards_group.specs.Group.{read_group, read_cards, ordered_error, request_of, answer}
use Rattle.cards_request.specs.Errors.{CardVerdict}
use Rattle.std.specs.Prelude.{Ok, Err}
use Rattle.cards_request.specs.declared.Request.{Request}
use Rattle.cards_writing.specs.Writing.{priority_text}
use Rattle.schedule_entries.specs.declared.Entry.{Entry}
use Rattle.schedule_list.specs.InSchedule.{in_schedule, schedule_of}
use Rattle.schedule_list.specs.declared.Schedule.{Schedule}
use Rattle.schedule_orderly.specs.Orderly.{Each, requests}
use Rattle.schedule_orderly.proofs.Reachable.{sound_empty}
use Rattle.schedule_deck.specs.Report.{request_line, schedule_text, last_line, begin, line_by, last_by, shown_at}
use Rattle.schedule_deck.specs.Report.{tried_at, group_text, after, errors_from, end_from, closing_text, report_text}
use Rattle.schedule_deck.specs.Report.{text_by, deck_text, notes_text, notes_by, deck_notes}
use Rattle.schedule_deck.specs.Reading.{Reported}
use Rattle.schedule_deck.proofs.DeckLaws.{sound-groups, each-groups}
use Rattle.schedule_deck.specs.declared.Progress.{Progress}
use Rattle.cards_fields.proofs.FieldLaws.{spaceless-short}
use Rattle.cards_writing.proofs.PutLaws.{priority-short}
use Rattle.cards_lines.specs.Shown.{refused_text}
use Rattle.cards_lines.proofs.ShownLaws.{error-short, shown-few}
use Rattle.schedule_deck.proofs.Few.{deck-few}

-- the length of the lent room: 52 times 1,024 bytes
abbrev pub deck_room : ℕ
deck_room = 53248

-- the lines
abbrev Short : Request → Type 0
Short r = length r.id ≤ 6

request-short : (r : Request) → Short r → length (request_line r) ≤ 13
request-short r h =
    omega (
      arith,
      length-append (spaceless r.id) (bytes " " ++ (priority_text r ++ bytes "\n")),
      length-append (priority_text r) (bytes "\n"),
      spaceless-short r.id,
      priority-short r,
    )

lines-short : (es : List Entry) → Each Short (requests es) → length (schedule_text es) ≤ 13 * length es
lines-short [] h = omega arith
lines-short (e ∷ es) h =
    omega (arith, length-append (request_line e.request) (schedule_text es), request-short e.request h.0, lines-short es h.1)

last-short : (id : List ℕ) → length id ≤ 6 → length (last_line id) ≤ 15
last-short id h = omega (arith, length-append (spaceless id) (bytes " SCH ACK\n"), spaceless-short id)

-- the IDs shown and last have six bytes at most, as that of every request read
read_short : (g : List (List ℕ)) → Short (read_group g).request
unfolding read_cards
read_short g = by (ordered_error (length g) (get_or g 0 []) (get_or g 1 []) (drop 2 g))
  where
    by : (v : CardVerdict) → Short (answer v (request_of (get_or g 0 []) (asked (get_or g 1 [])))).request
    by (Ok tt) = omega (arith, padded-length 6 (field (get_or g 0 []) 0))
    by (Err e) = omega arith

record Ids (p : Progress) : Type 0 where
  shown : length p.shown ≤ 6
  last : length p.last ≤ 6

ids-after : (p : Progress) (g : List (List ℕ)) → Ids p → Ids (after p g)
unfolding after
ids-after p g i = record { shown = shown-few (get_or g 0 []) p.shown i.shown; last = by (tried_at p g).verdict }
  where
    by : (v : CardVerdict) → length (last_by v p.last (read_group g).request.id) ≤ 6
    by (Ok tt) = read_short g
    by (Err e) = i.last

ids-end : (p : Progress) (gs : List (List (List ℕ))) → Ids p → Ids (end_from p gs)
ids-end p [] i = i
ids-end p (g ∷ gs) i = ids-end (after p g) gs (ids-after p g i)

ids-begin : (s : Schedule) → Ids (begin s)
ids-begin s = record { shown = omega arith; last = omega arith }

group-short : (p : Progress) (g : List (List ℕ)) → Ids p → length (group_text p g) ≤ 16
unfolding group_text
group-short p g i = by (tried_at p g).verdict
  where
    by : (v : CardVerdict) → length (line_by v (shown_at p g)) ≤ 16
    by (Ok tt) = omega arith
    by (Err e) = error-short (shown_at p g) e (shown-few (get_or g 0 []) p.shown i.shown)

errors-short : (p : Progress) (gs : List (List (List ℕ))) → Ids p → length (errors_from p gs) ≤ 16 * length gs
errors-short p [] i = omega arith
errors-short p (g ∷ gs) i =
    omega (arith, length-append (group_text p g) (errors_from (after p g) gs), group-short p g i, errors-short (after p g) gs (ids-after p g i))

-- the texts
notes-short : (s : Schedule) (gs : List (List (List ℕ))) → length gs ≤ 3261 → length (notes_text s gs) < deck_room
unfolding notes_text
notes-short s gs h =
    omega (
      arith,
      length-append (errors_from (begin s) gs) (last_line (end_from (begin s) gs).last),
      errors-short (begin s) gs (ids-begin s),
      last-short (end_from (begin s) gs).last (ids-end (begin s) gs (ids-begin s)).last,
    )

none-held : Each Short (requests (in_schedule (schedule_of [])))
unfolding schedule_of
none-held = tt

report-short : (gs : List (List (List ℕ))) → length gs ≤ 3261 → length (report_text gs) ≤ deck_room
unfolding report_text
report-short gs h =
    let p = begin (schedule_of []) in
    let q = end_from (begin (schedule_of [])) gs in
    let few = (sound-groups p gs sound_empty).orderly.few in
    let short = each-groups Short (λ g e. read_short g) p gs sound_empty none-held in
    omega (
      arith,
      length-append (errors_from p gs) (closing_text q),
      length-append (schedule_text (in_schedule q.schedule)) (last_line q.last),
      errors-short p gs (ids-begin (schedule_of [])),
      lines-short (in_schedule q.schedule) short,
      few,
      last-short q.last (ids-end p gs (ids-begin (schedule_of []))).last,
    )

refused-short : (s : List ℕ) (refusal : Refusal) → deck_end s ≡ Err refusal → length (refused_text refusal) ≤ deck_room
refused-short s refusal e =
    subst (λ (x : Refusal). length (refused_text x) ≤ deck_room) (sym (refused-bad s refusal e))
    (omega (arith, length-append (decimal_text 11) (bytes "\n"), few-digits 1 11 (omega arith)))

text-short : (s : List ℕ) → length (deck_text s) ≤ deck_room
text-short s = by (deck_end s) refl
  where
    by : (end : DeckEnd) → deck_end s ≡ end → length (text_by end s) ≤ deck_room
    by (Ok n) e = report-short (deck_groups s) (deck-few s n e)
    by (Err refusal) e = refused-short s refusal e

deck-notes-short : (schedule : Schedule) (s : List ℕ) → length (deck_notes schedule s) < deck_room
deck-notes-short schedule s = by (deck_end s) refl
  where
    by : (end : DeckEnd) → deck_end s ≡ end → length (notes_by end schedule s) < deck_room
    by (Ok n) e = notes-short schedule (deck_groups s) (deck-few s n e)
    by (Err refusal) e = omega arith

module _ {room after· : List ℕ} {r : ℕ} (l : length room ≡ deck_room) where
  pub reported : (s : List ℕ) → Written room 0 (deck_text s) after· r → Reported s room after· r
  reported s w = record { text = entire w (omega (arith, text-short s)) }

  pub noted-whole : (schedule : Schedule) (s : List ℕ) → Written room 0 (deck_notes schedule s) after· r → Whole (deck_notes schedule s) room after· r
  noted-whole schedule s w = entire w (omega (arith, deck-notes-short schedule s))

-- what entering a deck put, from what stands in the room whole: another piece can be put behind it
pub noted-put : (schedule : Schedule) (s : List ℕ) {room after· : List ℕ} {r : ℕ} → length after· ≡ deck_room
    → Whole (deck_notes schedule s) room after· r
    → Written room 0 (deck_notes schedule s) after· r
noted-put schedule s {room} {after·} {r} l w =
    let p : List ℕ = deck_notes schedule s in
    let long : length room ≡ deck_room =
    omega (arith, l, w.ends, deck-notes-short schedule s, ap length w.bytes, length-append p (drop r room), length-drop r room) in
    let h : 0 + length p ≤ length room = omega (arith, deck-notes-short schedule s) in
    let k : r ≡ 0 + length p = omega (arith, w.ends) in
    record {
      bytes = w.bytes ∙ ap (λ (n : ℕ). p ++ drop n room) k ∙ sym (sets-eq p room 0 h);
      reached = omega arith;
    }
