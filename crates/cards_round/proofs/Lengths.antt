-- HOW LONG WRITTEN PTY AND FAC CARDS ARE: a PTY card's fields have at most 50 characters, and a FAC card is no longer than
-- the one that it was read from. Assumes nothing.
use Prim.Native.Nat.{ℕ, zero, suc, ◌+◌, ◌≤◌}
use mathlib.Core.Path.{◌≡◌, ap}
use mathlib.Core.Bool.{true, false}
use mathlib.Core.List.{List, [], ◌∷◌}
use native.Mathlib.Omega.{arith}
use lib.Dec.{eqb}
use lib.ListN.{length, get_or, drop, length-append}
use Rattle.numbers.specs.Quoted.{bytes}
use Rattle.numbers.proofs.Tests.{by_bool}
use Rattle.words.proofs.WordLaws.{same-equal}
use Rattle.cards_fields.specs.Fields.{field, fields, spaceless, padded, malformed, tail_text, card_text}
use Rattle.cards_fields.proofs.RoundLaws.{total, tail-total, total-two, fields-total}
use Rattle.cards_request.specs.declared.Request.{Request}
use Rattle.std.specs.Prelude.{Ok}
use Rattle.cards_pty.specs.Pty.{rules, fields_error}
use Rattle.cards_pty.proofs.PtyLaws.{not-longer}
use Rattle.cards_fac.specs.Fac.{nothing, entries_error, is_fac, entries_of, asked}
use Rattle.cards_writing.specs.Writing.{front, pty_fields, pty_text, takes, trimmed, entry_texts}
use Rattle.cards_full.proofs.Round.{taken}
use Rattle.cards_round.proofs.Short.{entries-short}

-- ---- a card by its fields

card-total : (f : List ℕ) (fs : List (List ℕ)) → length (card_text (f ∷ fs)) ≡ total (f ∷ fs)
card-total f fs = omega (arith, length-append f (tail_text fs), tail-total fs)

-- fields left off at the end
trimmed-short : (f : List ℕ) (fs : List (List ℕ)) → length (card_text (trimmed (f ∷ fs))) ≤ total (f ∷ fs)
trimmed-short f fs = fronted f (trimmed fs) (trimmed-total fs)
  where
    grown : (g : List ℕ) (gs hs : List (List ℕ)) → total gs ≤ total hs → total (front g gs) ≤ length g + 1 + total hs
    grown [] [] hs h = omega arith
    grown [] (x ∷ gs) hs h = omega arith
    grown (b ∷ g) gs hs h = omega arith

    trimmed-total : (gs : List (List ℕ)) → total (trimmed gs) ≤ total gs
    trimmed-total [] = omega arith
    trimmed-total (g ∷ gs) = grown g (trimmed gs) gs (trimmed-total gs)

    fronted : (g : List ℕ) (gs : List (List ℕ)) → total gs ≤ total fs → length (card_text (front g gs)) ≤ length g + 1 + total fs
    fronted [] [] h = omega arith
    fronted [] (x ∷ gs) h = omega (arith, card-total [] (x ∷ gs))
    fronted (b ∷ g) gs h = omega (arith, card-total (b ∷ g) gs)

-- ---- the PTY card

pty-total : (n : ℕ) (r : Request) → fields_error (pty_fields n r) ≡ Ok tt → total (pty_fields n r) ≤ 64
unfolding pty_fields rules
pty-total n r e =
    let a = not-longer (pty_fields n r) e 0 (omega arith) in
    let z = not-longer (pty_fields n r) e 2 (omega arith) in
    let b = not-longer (pty_fields n r) e 3 (omega arith) in
    let c = not-longer (pty_fields n r) e 4 (omega arith) in
    let d = not-longer (pty_fields n r) e 5 (omega arith) in
    let f = not-longer (pty_fields n r) e 6 (omega arith) in
    let g = not-longer (pty_fields n r) e 7 (omega arith) in
    let h = not-longer (pty_fields n r) e 8 (omega arith) in
    let i = not-longer (pty_fields n r) e 9 (omega arith) in
    let j = not-longer (pty_fields n r) e 10 (omega arith) in
    let k = not-longer (pty_fields n r) e 11 (omega arith) in
    let l = not-longer (pty_fields n r) e 12 (omega arith) in
    let m = not-longer (pty_fields n r) e 13 (omega arith) in
    omega (arith, a, z, b, c, d, f, g, h, i, j, k, l, m)

-- THE PTY CARD OF A REQUEST THAT THE WRITER TAKES has at most 64 characters
pub pty-short : (n : ℕ) (r : Request) → takes n r ≡ true → length (pty_text n r) ≤ 64
unfolding pty_text pty_fields
pty-short n r t = omega (arith, trimmed-short (spaceless r.id) (drop 1 (pty_fields n r)), pty-total n r (taken n r t).fields)

-- ---- the FAC card

-- the card with this ID that is written for what a good FAC card asks for
pub fac-short : (id fac : List ℕ) → malformed fac ≡ false → is_fac fac ≡ true → length id ≤ length (field fac 0)
    → entries_error nothing (entries_of fac) ≡ Ok tt
    → length (card_text (id ∷ bytes "FAC" ∷ entry_texts 0 (asked fac))) ≤ length fac
fac-short id fac m i l e =
    let three : length (field fac 1) ≡ 3 = ap length (same-equal (field fac 1) (bytes "FAC") i) in
    omega (
      arith,
      card-total id (bytes "FAC" ∷ entry_texts 0 (asked fac)),
      total-two (fields fac) (second (fields fac) (omega arith)),
      fields-total fac m,
      entries-short (entries_of fac) e,
    )
  where
    second : (fs : List (List ℕ)) → 1 ≤ length (get_or fs 1 []) → 2 ≤ length fs
    second [] h = absurd (omega arith)
    second (f ∷ []) h = absurd (omega arith)
    second (f ∷ g ∷ fs) h = omega arith

-- a name without the blanks that fill it
pub name-short : (w : ℕ) (s : List ℕ) → length (spaceless (padded w s)) ≤ length s
name-short zero s = omega arith
name-short (suc w) [] = name-short w []
name-short (suc w) (b ∷ s) = by_bool (eqb b 32) (λ e. rw e (omega (arith, name-short w s))) (λ e. rw e (omega (arith, name-short w s)))
