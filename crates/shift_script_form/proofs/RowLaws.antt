-- What the words of each row of the table say, whatever words write its numbers. The table's words are compared by
-- computing. Assumes nothing.
use Prim.Native.Nat.{ℕ, min, ◌≤◌, ◌<◌}
use mathlib.Core.Path.{◌≡◌, refl}
use mathlib.Core.Bool.{true, false}
use mathlib.Core.List.{List, [], ◌∷◌}
use native.Mathlib.Omega.{arith}
use lib.ListN.{length}
use borrow.Author.Tests.{lt-ltb}
use Rattle.numbers.specs.Quoted.{bytes}
use Rattle.text.specs.Class.{is_letter}
use Rattle.units.specs.declared.Mark.TheVariants as Mark'
use Rattle.packets.specs.declared.Spot.TheVariants.{OnDrum}
use Rattle.packets.specs.declared.How.TheVariants.{Full, Cut, Failed}
use Rattle.line_words.specs.declared.Base.TheVariants.{Decimal, Octal}
use Rattle.line_words.specs.Forms.{words_of, word_fits, fitting, id_of}
use Rattle.packets.specs.declared.Act.TheVariants.{Submit, Start, Complete, End, Return, Mark}
use Rattle.shift_script.specs.declared.Said.{Said}
use Rattle.shift_script.specs.declared.Line.TheVariants.{Deck, Select, Board, Release, Delete, Status, Do}
use Rattle.shift_script.specs.Script.{said, table, say_by}
use Rattle.shift_script_form.proofs.NumberLaws.{Writes}

small : (n : ℕ) → n ≤ 255 → min n 255 ≡ n
small n h = omega arith

pub deck-row : say_by table (bytes "DECK" ∷ []) ≡ said Deck
unfolding say_by table fitting word_fits words_of is_letter
deck-row = refl

pub select_row : say_by table (bytes "SELECT" ∷ []) ≡ said Select
unfolding say_by table fitting word_fits words_of is_letter
select_row = refl

pub board-row : say_by table (bytes "BOARD" ∷ []) ≡ said Board
unfolding say_by table fitting word_fits words_of is_letter
board-row = refl

module _ {a : List ℕ} {m : ℕ} (v : Writes Decimal m a) (h : m ≤ 255) where
  pub start-row : say_by table (bytes "START" ∷ a ∷ []) ≡ said (Do (Start (record { 0 = m })))
  unfolding say_by table fitting word_fits words_of is_letter
  start-row = rw (v.number, v.value, small m h)

  pub done-row : say_by table (bytes "DONE" ∷ a ∷ []) ≡ said (Do (Complete (record { 0 = m }) Full))
  unfolding say_by table fitting word_fits words_of is_letter
  done-row = rw (v.number, v.value, small m h)

  pub cut-row : say_by table (bytes "CUT" ∷ a ∷ []) ≡ said (Do (Complete (record { 0 = m }) Cut))
  unfolding say_by table fitting word_fits words_of is_letter
  cut-row = rw (v.number, v.value, small m h)

  pub end_row : say_by table (bytes "END" ∷ a ∷ []) ≡ said (Do (End m false))
  unfolding say_by table fitting word_fits words_of is_letter
  end_row = rw (v.number, v.value, small m h)

  pub abort-row : say_by table (bytes "ABORT" ∷ a ∷ []) ≡ said (Do (End m true))
  unfolding say_by table fitting word_fits words_of is_letter
  abort-row = rw (v.number, v.value, small m h)

  module _ {c : List ℕ} {n : ℕ} (w : Writes Decimal n c) (k : n ≤ 255) where
    pub down-row : say_by table (bytes "DOWN" ∷ a ∷ c ∷ []) ≡ said (Do (Mark (record { 0 = m }) (record { 0 = n }) Mark'.Down true))
    unfolding say_by table fitting word_fits words_of is_letter
    down-row = rw (v.number, v.value, w.number, w.value, small m h, small n k)

    pub up-row : say_by table (bytes "UP" ∷ a ∷ c ∷ []) ≡ said (Do (Mark (record { 0 = m }) (record { 0 = n }) Mark'.Down false))
    unfolding say_by table fitting word_fits words_of is_letter
    up-row = rw (v.number, v.value, w.number, w.value, small m h, small n k)

    pub reserve-row : say_by table (bytes "RESERVE" ∷ a ∷ c ∷ []) ≡ said (Do (Mark (record { 0 = m }) (record { 0 = n }) Mark'.Reserved true))
    unfolding say_by table fitting word_fits words_of is_letter
    reserve-row = rw (v.number, v.value, w.number, w.value, small m h, small n k)

    pub unreserve-row : say_by table (bytes "UNRESERVE" ∷ a ∷ c ∷ []) ≡ said (Do (Mark (record { 0 = m }) (record { 0 = n }) Mark'.Reserved false))
    unfolding say_by table fitting word_fits words_of is_letter
    unreserve-row = rw (v.number, v.value, w.number, w.value, small m h, small n k)

    pub status-row : say_by table (bytes "STATUS" ∷ a ∷ c ∷ []) ≡ said (Status m n)
    unfolding say_by table fitting word_fits words_of is_letter
    status-row = rw (v.number, v.value, w.number, w.value, small m h, small n k)

    pub return-row : {d : List ℕ} {i : ℕ} → Writes Decimal i d → i ≤ 255
        → say_by table (bytes "RETURN" ∷ a ∷ c ∷ d ∷ []) ≡ said (Do (Return m (record { 0 = n }) (record { 0 = i })))
    unfolding say_by table fitting word_fits words_of is_letter
    return-row {i = i} x l = rw (v.number, v.value, w.number, w.value, x.number, x.value, small m h, small n k, small i l)

  pub fail-row : {c : List ℕ} {n : ℕ} → Writes Octal n c → n ≤ 255
      → say_by table (bytes "FAIL" ∷ a ∷ c ∷ []) ≡ said (Do (Complete (record { 0 = m }) (Failed n)))
  unfolding say_by table fitting word_fits words_of is_letter
  fail-row {n = n} w k = rw (v.number, v.value, w.number, w.value, small m h, small n k)

module _ (a : List ℕ) (h : 0 < length a) where
  pub release-row : say_by table (bytes "RELEASE" ∷ a ∷ []) ≡ record { line = Release; id = id_of a }
  unfolding say_by table fitting word_fits words_of is_letter
  release-row = rw (lt-ltb 0 (length a) h)

  pub delete-row : say_by table (bytes "DELETE" ∷ a ∷ []) ≡ record { line = Delete; id = id_of a }
  unfolding say_by table fitting word_fits words_of is_letter
  delete-row = rw (lt-ltb 0 (length a) h)

-- a submission with H; without, H is 0
module _ {j k f m x : ℕ} (place : j ≤ 255) (packet : k ≤ 255) (function : f ≤ 255) (channel : m ≤ 255) {p q r u v : List ℕ}
    (a : Writes Decimal j p) (b : Writes Decimal k q) (d : Writes Octal f r) (e : Writes Decimal m u) (g : Writes Decimal x v) where
  abbrev submitted : ℕ → Said
  submitted to = said (Do (Submit j k f (record { 0 = m }) (OnDrum x to)))

  pub submit-row : {y : List ℕ} {to : ℕ} → Writes Decimal to y → say_by table (bytes "SUBMIT" ∷ p ∷ q ∷ r ∷ u ∷ v ∷ y ∷ []) ≡ submitted to
  unfolding say_by table fitting word_fits words_of is_letter
  submit-row w =
      rw (a.number, b.number, d.number, e.number, g.number, w.number, a.value, b.value, d.value, e.value, g.value, w.value)
      (rw (small j place, small k packet, small f function, small m channel))

  pub short_row : say_by table (bytes "SUBMIT" ∷ p ∷ q ∷ r ∷ u ∷ v ∷ []) ≡ submitted 0
  unfolding say_by table fitting word_fits words_of is_letter
  short_row =
      rw (a.number, b.number, d.number, e.number, g.number, a.value, b.value, d.value, e.value, g.value)
      (rw (small j place, small k packet, small f function, small m channel))
