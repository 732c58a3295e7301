-- What adding a card comes to, and what a deck gathered so holds: its cards, each with its LF, as long as it is not
-- too long. Assumes nothing.
use Prim.Native.Nat.{ℕ, ◌+◌, ◌≤◌, ◌<◌}
use mathlib.Core.Path.{◌≡◌, refl, sym, subst, ◌∙◌}
use Rattle.std.specs.Prelude.{Option, Some, None}
use mathlib.Core.List.{List, [], ◌∷◌, ◌++◌}
use native.Mathlib.Omega.{arith}
use lib.ListN.{length, take, drop, length-append}
use lib.Seq.{sets, sets-eq, take-append_seam}
use borrow.Author.Tests.{le-leb, lt-leb, leb-true, leb-false}
use Rattle.numbers.proofs.Tests.{by_bool}
use Rattle.numbers.specs.Limits.{deck_bytes}
use Rattle.text.specs.Room.{Written}
use Rattle.words.specs.Lines.{line_text}
use Rattle.shift_deck.specs.Gathering.{Adds, has_room}

module _ (room : List ℕ) (kept : ℕ) (line : List ℕ) where
  pub too_long : deck_bytes < kept + (length line + 1) → Adds room kept line room None
  too_long h = let e = lt-leb (kept + (length line + 1)) deck_bytes h in record { is = rw e; bytes = rw e }

  pub added : (after : List ℕ) (next : ℕ) → length room ≡ deck_bytes → kept + (length line + 1) ≤ deck_bytes
      → Written room kept (line_text line) after next → Adds room kept line after (Some next)
  added after next l h w =
      let e = le-leb (kept + (length line + 1)) deck_bytes h in
      let n : next ≡ kept + (length line + 1) = omega (arith, w.reached, length-append line (10 ∷ [])) in
      record { is = rw (e, n); bytes = rw e w.bytes }

-- what stands in the room of a deck that has the bytes s so far
abbrev pub Holds : List ℕ → List ℕ → Option ℕ → Type 0
Holds s room (Some n) = (n ≡ length s) × (length s ≤ deck_bytes) × (take n room ≡ s)
Holds s room None = deck_bytes < length s

-- nothing at first
pub holds-none : (room : List ℕ) → Holds [] room (Some 0)
holds-none room = (refl, omega arith, refl)

-- a card more
pub holds_more : (s room line after : List ℕ) (kept : ℕ) (r : Option ℕ) → length room ≡ deck_bytes → Holds s room (Some kept)
    → Adds room kept line after r → Holds (s ++ line_text line) after r
holds_more s room line after kept r l h a =
    by_bool (has_room kept line)
    (λ t. let m = leb-true (kept + (length line + 1)) deck_bytes t in
    let e : r ≡ Some (kept + (length line + 1)) = a.is ∙ rw t in
    let b : after ≡ sets room kept (line_text line) = a.bytes ∙ rw t in
    subst (Holds (s ++ line_text line) after) (sym e) (omega (arith, n, h.0), omega (arith, n, h.0), within m b))
    (λ t. let m = leb-false (kept + (length line + 1)) deck_bytes t in
    let e : r ≡ None = a.is ∙ rw t in
    subst (Holds (s ++ line_text line) after) (sym e) (omega (arith, n, h.0)))
  where
    n : length (s ++ line_text line) ≡ length s + (length line + 1)
    n = omega (arith, length-append s (line_text line), length-append line (10 ∷ []))

    within : kept + (length line + 1) ≤ deck_bytes → after ≡ sets room kept (line_text line)
        → take (kept + (length line + 1)) after ≡ s ++ line_text line
    within m b =
        let c : length (line_text line) ≡ length line + 1 = length-append line (10 ∷ []) in
        let f = sets-eq (line_text line) room kept (omega arith) in
        let k : kept + (length line + 1) ≡ length (s ++ line_text line) = omega (arith, n, h.0) in
        rw (b, f, h.2, k) (take-append_seam (s ++ line_text line) (drop (kept + length (line_text line)) room))
