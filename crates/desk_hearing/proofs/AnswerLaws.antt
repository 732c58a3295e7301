-- AN ANSWER STANDS WHOLE IN ITS ROOM: a deck that is read has at most 16,384 bytes, so its part has no more, and the line
-- behind it at most twelve. Then what a call leaves, by what the line belongs to. Assumes nothing.
use Prim.Native.Nat.{ℕ, ◌≤◌}
use mathlib.Core.Path.{◌≡◌, refl, ap, ◌∙◌}
use mathlib.Core.List.{List, [], ◌++◌}
use native.Mathlib.Omega.{arith}
use lib.ListN.{length, take, drop, length-append, length-take, length-drop}
use Rattle.std.specs.Prelude.{Result, Ok, Err}
use Rattle.numbers.specs.Quoted.{bytes}
use Rattle.numbers.specs.Refusals.{number_of}
use Rattle.numbers.specs.declared.Refusal.{Refusal}
use Rattle.numbers.specs.declared.Refusal.TheVariants.{BadDeck}
use Rattle.numbers.proofs.RefusalLaws.{two_digits}
use Rattle.numbers.specs.Limits.{deck_bytes}
use Rattle.text.specs.Room.{Written, Whole}
use Rattle.text.specs.Writing.{decimal_text}
use Rattle.text.proofs.RoomLaws.{none, and_then, entire}
use Rattle.text.proofs.Undo.{few-digits}
use Rattle.cards_fields.proofs.Groups.{ends}
use Rattle.answer_pieces.specs.Pieces.{no_text, no_line}
use Rattle.desk_show.specs.Showing.{IsRead, ShowsFrom, bad, of_repair, of_day, nobody, part_in, Shows}
use Rattle.desk_show.specs.declared.Extent.{Extent}
use Rattle.desk_show.specs.declared.Which.{Which}
use Rattle.desk_show.specs.declared.Which.TheVariants.{Repair, Day}
use Rattle.desk_hearing.specs.Printing.{closing}
use Rattle.desk_hearing.specs.Putting.{Answered}

refused-few : (refusal : Refusal) → length (no_line refusal) ≤ 6
refused-few refusal =
    omega (
      arith,
      length-append (no_text refusal) (bytes "\n"),
      length-append (bytes "NO ") (decimal_text (number_of refusal)),
      few-digits 1 (number_of refusal) (two_digits refusal),
    )

closing-few : (which : Result Which Refusal) → length (closing which) ≤ 12
closing-few (Ok Repair) = omega arith
closing-few (Ok Day) = omega arith
closing-few (Err refusal) = omega (arith, refused-few refusal)

-- a part of a deck that is read
part-few : (deck : List ℕ) (from len : ℕ) → IsRead deck → length (take len (drop from deck)) ≤ deck_bytes
part-few deck from len r = omega (arith, (ends deck r.0 r.1).most, length-take len (drop from deck), length-drop from deck)

module _ {id repair day : List ℕ} {r : Extent} {part : List ℕ} (w : Shows id repair day r part) where
  there-by : (which : Result Which Refusal) → r.which ≡ which → part ≡ part_in which r.from r.len repair day
  there-by which e = w.there ∙ ap (λ (x : Result Which Refusal). part_in x r.from r.len repair day) e

  few : length part ≤ deck_bytes
  few = by w.answers
    where
      by : ShowsFrom id repair day r.which r.from part → length part ≤ deck_bytes
      by (bad e b z n) = omega (arith, ap length n)
      by (of_repair e d f) = omega (arith, ap length (there-by (Ok Repair) e), part-few repair r.from r.len d.0)
      by (of_day e d n f) = omega (arith, ap length (there-by (Ok Day) e), part-few day r.from r.len d.1)
      by (nobody e d n z p) = omega (arith, ap length p)

  -- the part is put, and then the line behind it
  pub answered : {out mid after· : List ℕ} {end at : ℕ} → length out ≡ 16396 → Written out 0 part mid end
      → Written mid end (closing r.which) after· at
      → Answered id repair day out after· at
  answered l p c = record {
    text = part ++ closing r.which;
    says = record { found = r; part = part; shows = w; is = refl };
    put = entire (and_then p c) (omega (arith, l, few, closing-few r.which, length-append part (closing r.which)));
  }

pub refused-put : {out after· : List ℕ} {at : ℕ} → length out ≡ 16396 → Written out 0 (no_line BadDeck) after· at
    → Whole (no_line BadDeck) out after· at
refused-put l w = entire w (omega (arith, l, refused-few BadDeck))

pub nothing_put : (out : List ℕ) → Whole [] out out 0
nothing_put out = entire (none out 0) (omega arith)
