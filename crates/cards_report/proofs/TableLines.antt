-- The lines of a table, cut out of the room that holds it, are the lines by place; and how long they are. Assumes
-- nothing.
use Prim.Native.Nat.{ℕ, zero, suc, ◌+◌, ◌-◌, ◌*◌, ◌/◌, ◌%◌, ◌≤◌, ◌<◌}
use mathlib.Core.Path.{◌≡◌, refl, sym, ap, ◌∙◌}
use mathlib.Core.List.{List, [], ◌∷◌, ◌++◌}
use native.Mathlib.Omega.{arith}
use lib.Dec.{eqb}
use lib.ListN.{length, get_or, take, drop, length-append}
use lib.Seq.{drop-cons}
use borrow.Author.Tests.{eq-eqb, ne_eqb}
use Rattle.numbers.specs.Quoted.{byte, bytes}
use Rattle.numbers.proofs.Tests.{by_bool}
use Rattle.numbers.specs.Limits.{pm_length, table_length}
use Rattle.text.specs.Room.{Puts}
use Rattle.text.specs.declared.room.Room.{Room}
use Rattle.text.specs.Writing.{decimal_text}
use Rattle.text.proofs.RoomLaws.{Goes, goes-turn, goes-end, puts-none, puts-then}
use Rattle.text.proofs.Undo.{few-digits}
use Rattle.words.specs.Lines.{lf, line_text}
use Rattle.cards_fields.proofs.DeckLaws.{part-is}
use Rattle.cards_request.specs.Requests.{texts}
use Rattle.cards_request.specs.declared.Further.{Further}
use Rattle.cards_table.specs.Table.{place, table_size, Table}
use Rattle.cards_table.proofs.TableLaws.{rows-most}
use Rattle.cards_report.specs.Cards.{places_from, row_lines, table_text}

-- k lines of the room from `from` on
abbrev pub lines_from : List ℕ → ℕ → ℕ → List ℕ
lines_from table from zero = []
lines_from table from (suc k) = line_text (byte "=" ∷ take pm_length (drop from table)) ++ lines_from table (from + pm_length) k

-- whole lines, ten at most
pub size_is : (f : Further) (n : ℕ) → n ≡ table_size f → (n % pm_length ≡ 0) × (n ≤ table_length)
unfolding table_size
size_is f n e = (omega (arith, e), omega (arith, e, rows-most (texts f)))

-- a line is put
pub line-turn : {first room a b c : Room} {whole : List ℕ} (table : List ℕ) (n from : ℕ) → n % pm_length ≡ 0 → from % pm_length ≡ 0 → from < n
    → Goes first whole room (lines_from table from ((n - from) / pm_length))
    → Puts room (byte "=" ∷ []) a → Puts a (take (from + pm_length - from) (drop from table)) b → Puts b (lf ∷ []) c
    → Goes first whole c (lines_from table (from + pm_length) ((n - (from + pm_length)) / pm_length))
line-turn {first} {room} {a} {b} {c} {whole} table n from m z h g v w x =
    let e : (n - from) / pm_length ≡ suc ((n - (from + pm_length)) / pm_length) = omega arith in
    let y : Puts a (take pm_length (drop from table)) b = rw (part-is table from pm_length) at w in
    let p : Puts room (line_text (byte "=" ∷ take pm_length (drop from table))) c = puts-then v (puts-then y x) in
    let q : Goes first whole room
    (line_text (byte "=" ∷ take pm_length (drop from table)) ++ lines_from table (from + pm_length) ((n - (from + pm_length)) / pm_length)) =
    rw e at g in
    goes-turn q p

pub lines_end : {first room : Room} {whole : List ℕ} (table : List ℕ) (n from : ℕ) → n ≤ from
    → Goes first whole room (lines_from table from ((n - from) / pm_length)) → Puts first whole room
lines_end table n from h g = let e : (n - from) / pm_length ≡ 0 = omega arith in goes-end (rw e at g)

-- by place
module _ (f : Further) {room table : List ℕ} {n : ℕ} (t : Table f room table n) (l : length room ≡ table_length) where
  w : n ≤ length table
  w = omega (arith, t.long, l, (size_is f n t.size).1)

  places-are : (k i : ℕ) → i + k ≤ n → take k (drop i table) ≡ places_from f i k
  places-are zero i h = refl
  places-are (suc k) i h =
      let d : drop i table ≡ get_or table i 0 ∷ drop (suc i) table = drop-cons table i 0 (omega (arith, w)) in
      ap (take (suc k)) d ∙ ap (λ (b : ℕ). b ∷ take k (drop (suc i) table)) (t.places i (omega arith))
      ∙ ap (λ (l : List ℕ). place f i ∷ l) (places-are k (suc i) (omega arith))

  lines_are : (k d : ℕ) → pm_length * d + pm_length * k ≤ n → lines_from table (pm_length * d) k ≡ row_lines f d k
  lines_are zero d h = refl
  lines_are (suc k) d h =
      let e : pm_length * d + pm_length ≡ pm_length * suc d = omega arith in
      let a : lines_from table (pm_length * d + pm_length) k ≡ row_lines f (suc d) k =
      ap (λ (j : ℕ). lines_from table j k) e ∙ lines_are k (suc d) (omega arith) in
      ap (λ (l : List ℕ). line_text (byte "=" ∷ l) ++ lines_from table (pm_length * d + pm_length) k)
      (places-are pm_length (pm_length * d) (omega arith))
      ∙ ap (λ (l : List ℕ). line_text (byte "=" ∷ places_from f (pm_length * d) pm_length) ++ l) a

  pub table-lines : lines_from table 0 (n / pm_length) ≡ row_lines f 0 (table_size f / pm_length)
  table-lines = lines_are (n / pm_length) 0 (omega arith) ∙ ap (λ (m : ℕ). row_lines f 0 (m / pm_length)) t.size

  -- no table, and all of one
  pub no_table : n ≡ 0 → (out : Room) → Puts out (table_text f) out
  unfolding table_text
  no_table e out = rw (eq-eqb (table_size f) 0 (sym t.size ∙ e)) (puts-none out)

  pub all-table : (n ≡ 0 → ⊥) → {out a b c r : Room} → Puts out (bytes "PMT ") a → Puts a (decimal_text n) b
      → Puts b (lf ∷ []) c
      → Puts c (lines_from table 0 ((n - 0) / pm_length)) r → Puts out (table_text f) r
  unfolding table_text
  all-table z {out} {a} {b} {c} {r} u v x y =
      let same : n - 0 ≡ n = omega arith in
      let d : Puts a (decimal_text (table_size f)) b = rw t.size at v in
      let e : Puts c (row_lines f 0 (table_size f / pm_length)) r = rw (same, table-lines) at y in
      rw (ne_eqb (table_size f) 0 (λ (q : table_size f ≡ 0). z (t.size ∙ q))) (puts-then u (puts-then d (puts-then x e)))

-- how long
places-length : (f : Further) (i k : ℕ) → length (places_from f i k) ≡ k
places-length f i zero = refl
places-length f i (suc k) = ap suc (places-length f (suc i) k)

rows-length : (f : Further) (d k : ℕ) → length (row_lines f d k) ≡ 68 * k
rows-length f d zero = refl
rows-length f d (suc k) =
    let a : length (places_from f (pm_length * d) pm_length) ≡ pm_length = places-length f (pm_length * d) pm_length in
    let b : length (places_from f (pm_length * d) pm_length ++ (lf ∷ [])) ≡ 67 =
    length-append (places_from f (pm_length * d) pm_length) (lf ∷ []) ∙ ap (λ (n : ℕ). n + 1) a in
    let c : length (line_text (byte "=" ∷ places_from f (pm_length * d) pm_length)) ≡ 68 = ap suc b in
    omega (arith, length-append (line_text (byte "=" ∷ places_from f (pm_length * d) pm_length)) (row_lines f (suc d) k), c, rows-length f (suc d) k)

pub table-short : (f : Further) → length (table_text f) ≤ 688
unfolding table_text
table-short f =
    let s = size_is f (table_size f) refl in
    let d : length (decimal_text (table_size f)) ≤ 3 = few-digits 2 (table_size f) (omega (arith, s.1)) in
    by_bool (eqb (table_size f) 0)
    (λ e. rw e (omega arith))
    (λ e. rw e (omega (
      arith,
      s.1,
      d,
      length-append (decimal_text (table_size f)) (bytes "\n" ++ row_lines f 0 (table_size f / pm_length)),
      rows-length f 0 (table_size f / pm_length),
    )))
