-- How long the pieces are at most, so that each stands whole in 2,048 bytes; and the cards that the writer has written.
-- Assumes nothing.
use Prim.Native.Nat.{ℕ, ◌≤◌}
use mathlib.Core.Path.{◌≡◌, refl, sym, ap, subst, ◌∙◌}
use mathlib.Core.Bool.{◌&&◌}
use mathlib.Core.List.{List, ◌++◌}
use native.Mathlib.Omega.{arith}
use lib.Dec.{leb}
use lib.ListN.{length, take, drop, replicate, length-append}
use lib.Seq.{take_at}
use borrow.Author.Tests.{leb-true}
use Rattle.numbers.proofs.Tests.{by_bool, both}
use Rattle.numbers.proofs.RefusalLaws.{two_digits}
use Rattle.numbers.specs.Quoted.{bytes}
use Rattle.numbers.specs.Refusals.{number_of}
use Rattle.numbers.specs.declared.Refusal.{Refusal}
use Rattle.numbers.specs.declared.Refusal.TheVariants.{NoRoom, WrongRequest}
use Rattle.numbers.specs.Limits.{cards_room}
use Rattle.text.specs.Writing.{decimal_text}
use Rattle.text.specs.Room.{Puts}
use Rattle.text.specs.declared.room.Room.{Room}
use Rattle.text.proofs.RoomLaws.{puts-then}
use Rattle.text.proofs.Undo.{few-digits}
use Rattle.cards_fields.specs.Fields.{spaceless}
use Rattle.cards_fields.proofs.FieldLaws.{spaceless-short}
use Rattle.cards_lines.specs.Shown.{refused_text}
use Rattle.cards_lines.proofs.ShownLaws.{error-short}
use Rattle.cards_request.specs.declared.FullRequest.{FullRequest}
use Rattle.cards_request.specs.Errors.{CardVerdict}
use Rattle.std.specs.Prelude.{Ok, Err}
use Rattle.cards_group.specs.Group.{read_full}
use Rattle.cards_group.specs.declared.FullReading.{FullReading}
use Rattle.cards_full.specs.Full.{text_of, fits, short, cards_in, takes_full, write_answer, written}
use Rattle.std.specs.Prelude.{Result, Ok, Err}
use Rattle.cards_report.specs.Cards.{table_text, refusal_line, good_text, text_by}
use Rattle.cards_report.proofs.TableLines.{table-short}

pub refused-short : (r : Refusal) → length (refused_text r) ≤ 10
refused-short r = omega (arith, length-append (decimal_text (number_of r)) (bytes "\n"), few-digits 1 (number_of r) (two_digits r))

refusal-short : (id : List ℕ) (r : Refusal) → length id ≤ 6 → length (refusal_line id r) ≤ 16
refusal-short id r h =
    omega (
      arith,
      length-append (spaceless id) (bytes " NO " ++ (decimal_text (number_of r) ++ bytes "\n")),
      length-append (decimal_text (number_of r)) (bytes "\n"),
      spaceless-short id,
      few-digits 1 (number_of r) (two_digits r),
    )

-- WHAT WAS WRITTEN: the cards stand at the room's start, and take no more than it has
pub record Stands (v : FullRequest) (n : ℕ) (room : List ℕ) : Type 0 where
  pub is : n ≡ length (text_of v)
  pub within : n ≤ length room
  pub now : written v room ≡ text_of v ++ drop n room

wrote : (v : FullRequest) (n : ℕ) (room : List ℕ) → write_answer v (length room) ≡ Ok n → Stands v n room
unfolding write_answer written fits
wrote v n room e =
    by_bool (takes_full v)
    (λ t. by_bool (short (cards_in v) && leb (length (text_of v)) (length room))
    (λ u.
    let q : Ok (length (text_of v)) ≡ Ok n = rw (t, u) at e in
    let k : length (text_of v) ≡ n = cc in
    record {
      is = sym k;
      within = omega (arith, k, leb-true (length (text_of v)) (length room) (both (short (cards_in v)) (leb (length (text_of v)) (length room)) u).1);
      now = rw (t, u) (ap (λ (m : ℕ). text_of v ++ drop m room) k);
    })
    (λ u. let q : Err NoRoom ≡ Ok n = rw (t, u) at e in let z : ◌≡◌ {A = ℕ} 0 1 = cc in absurd (omega arith)))
    (λ t. let q : Err WrongRequest ≡ Ok n = rw t at e in let z : ◌≡◌ {A = ℕ} 0 1 = cc in absurd (omega arith))

module _ (v : FullRequest) (room : List ℕ) {w : Result ℕ Refusal} {after· : List ℕ} (a : w ≡ write_answer v (length room)) (h : after· ≡ written v room)
    (l : length room ≡ cards_room) where
  module _ (n : ℕ) (e : w ≡ Ok n) where
    so : Stands v n room
    so = wrote v n room (sym a ∙ e)

    front : take n after· ≡ text_of v
    front = ap (take n) (h ∙ so.now) ∙ take_at (text_of v) (drop n room) n (sym so.is)

    pub cards-long : n ≡ length (take n after·)
    cards-long = so.is ∙ ap length (sym front)

    pub cards-within : n ≤ length after·
    cards-within = omega (arith, ap length (h ∙ so.now), length-append (text_of v) (drop n room), so.is)

    pub cards-put : (shown : List ℕ) {out b c : Room} → Puts out (take n after·) b
        → Puts b (table_text v.further) c → Puts out (text_by (Ok tt) v shown) c
    cards-put shown {out} {b} {c} x y =
        let p : Puts out (text_of v) b = rw front at x in
        let q : Ok n ≡ write_answer v cards_room = sym e ∙ a ∙ ap (write_answer v) l in
        subst (λ (u : Result ℕ Refusal). Puts out (good_text u v shown) c) q (puts-then p y)

  pub not-put : (refusal : Refusal) → w ≡ Err refusal → (shown : List ℕ) {out b : Room}
      → Puts out (refusal_line shown refusal) b → Puts out (text_by (Ok tt) v shown) b
  not-put refusal e shown {out} {b} x =
      let q : Err refusal ≡ write_answer v cards_room = sym e ∙ a ∙ ap (write_answer v) l in
      subst (λ (u : Result ℕ Refusal). Puts out (good_text u v shown) b) q x

-- EACH TEXT OF A GROUP HAS AT MOST 2,048 BYTES
good-short : (v : FullRequest) (shown room : List ℕ) (w : Result ℕ Refusal) → length room ≡ cards_room → write_answer v (length room) ≡ w → length shown ≤ 6
    → length (good_text w v shown) ≤ 2048
good-short v shown room (Ok n) l e h =
    let q = wrote v n room e in
    omega (arith, length-append (text_of v) (table_text v.further), table-short v.further, q.is, q.within, l)
good-short v shown room (Err refusal) l e h = omega (arith, refusal-short shown refusal h)

pub text-short : (verdict : CardVerdict) (v : FullRequest) (shown : List ℕ) → length shown ≤ 6 → length (text_by verdict v shown) ≤ 2048
text-short (Ok tt) v shown h = good-short v shown (replicate cards_room 0) (write_answer v cards_room) refl refl h
text-short (Err e) v shown h = omega (arith, error-short shown e h)

-- what was read of a group, by its verdict
pub group-by : (cards : List (List ℕ)) (shown : List ℕ) {reading : FullReading} → reading ≡ read_full cards → {v : CardVerdict}
    → reading.verdict ≡ v
    → {out b : Room} → Puts out (text_by v reading.full shown) b
    → Puts out (text_by (read_full cards).verdict (read_full cards).full shown) b
group-by cards shown {reading} e {v} q {out} {b} w =
    subst (λ (x : FullReading). Puts out (text_by x.verdict x.full shown) b) e
    (subst (λ (x : CardVerdict). Puts out (text_by x reading.full shown) b) (sym q) w)
