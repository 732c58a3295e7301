-- How long the line of a job selected is at most: 9,786 bytes, if its numbers and name are what their types let them
-- be. A unit is given to one entry of a kind at most, so a kind's entries name 256 units at most, together. Assumes
-- nothing.
use Prim.Native.Nat.{ℕ, zero, suc, ◌+◌, ◌*◌, ◌-◌, ◌/◌, ◌^◌, ◌≤◌, ◌<◌}
use mathlib.Core.Path.{◌≡◌, refl}
use mathlib.Core.Bool.{false, cond, ◌&&◌}
use mathlib.Core.List.{List, [], ◌++◌}
use native.Mathlib.Omega.{arith}
use native.Mathlib.Nat.{suc-mul}
use lib.Dec.{eqb, leb, ltb}
use lib.ListN.{length, get_or, length-append}
use borrow.Author.Tests.{le-leb, leb-true, lt-leb, lt-ltb, ltb-true, eqb-true}
use Rattle.numbers.specs.Quoted.{bytes}
use Rattle.numbers.specs.Kinds.{code_of, unit_kinds, kind_at}
use Rattle.numbers.specs.declared.Kind.{Kind}
use Rattle.numbers.proofs.Tests.{both, by_bool}
use Rattle.numbers.proofs.KindLaws.{code-long}
use Rattle.text.specs.Writing.{decimal_text}
use Rattle.text.proofs.Undo.{few-digits}
use Rattle.cards_request.specs.declared.Request.{Request}
use Rattle.cards_fields.specs.Fields.{spaceless}
use Rattle.cards_fields.proofs.FieldLaws.{spaceless-short}
use Rattle.channels.specs.Channels.{no_channel}
use Rattle.channels.specs.declared.Channel.{Channel}
use Rattle.assign_heads.specs.Whose.{logical, blank}
use Rattle.std.proofs.Common.{Option, Some, None}
use Rattle.numbers.specs.declared.LogicalChannel.{LogicalChannel}
use Rattle.assign_heads.specs.declared.Head.{Head}
use Rattle.assign.specs.declared.Assigned.{Assigned}
use Rattle.answer_pieces.specs.Pieces.{each_from, span_text}
use Rattle.shift_selected.specs.Selected.{areas_text, asked, asked_text, entry_text, given_text, is_of_kind, is_to, kind_text, kinds_text, run_text}
use Rattle.shift_selected.specs.Selected.{selected_text, unit_at, units_text}

-- ---- sums over the numbers of a text
unfoldable total : (ℕ → ℕ) → ℕ → ℕ → ℕ
total f zero k = 0
total f (suc n) k = f k + total f n (k + 1)

long : (piece : ℕ → List ℕ) (n k : ℕ) → length (each_from piece n k) ≡ total (λ i. length (piece i)) n k
unfolding each_from total
long piece zero k = refl
long piece (suc n) k = omega (arith, length-append (piece k) (each_from piece n (k + 1)), long piece n (k + 1))

together : (f g h : ℕ → ℕ) (n k : ℕ) → ((i : ℕ) → f i + g i ≤ h i) → total f n k + total g n k ≤ total h n k
unfolding total
together f g h zero k p = omega arith
together f g h (suc n) k p = omega (arith, p k, together f g h n (k + 1) p)

at_most : (f : ℕ → ℕ) (m n k : ℕ) → ((i : ℕ) → f i ≤ m) → total f n k ≤ n * m
unfolding total
at_most f m zero k p = omega arith
at_most f m (suc n) k p = omega (arith, suc-mul n m, p k, at_most f m n (k + 1) p)

-- ---- one kind
-- six bytes for a unit that is given to one of n logical channels from k on
abbrev share : ℕ → ℕ → Option LogicalChannel → ℕ
share n k None = 0
share n k (Some l) = cond (leb k l.0 && ltb l.0 (k + n)) 6 0

share-most : (n k : ℕ) (to : Option LogicalChannel) → share n k to ≤ 6
share-most n k None = omega arith
share-most n k (Some l) = by_bool (leb k l.0 && ltb l.0 (k + n)) (λ t. rw t (omega arith)) (λ f. rw f (omega arith))

given-most : (kind : Kind) (l : ℕ) (channel : Channel) (to : Option LogicalChannel) (i : ℕ) → length (given_text kind (logical l) channel to i) ≤ 6
unfolding given_text
given-most kind l channel to i =
    by_bool (is_of_kind kind channel && is_to (logical l) to) (λ t. rw t (omega arith)) (λ f. rw f (omega arith))

-- a unit that entry k names is none that an entry after it names
apart : (kind : Kind) (n k : ℕ) (channel : Channel) (to : Option LogicalChannel) (i : ℕ)
    → length (given_text kind (logical k) channel to i) + share n (k + 1) to ≤ share (suc n) k to
unfolding given_text
apart kind n k channel None i =
    by_bool (is_of_kind kind channel) (λ t. rw t (omega arith)) (λ f. rw f (omega arith))
apart kind n k channel (Some l) i =
    by_bool (eqb l.0 k)
    (λ t.
    let e = eqb-true l.0 k t in
    rw (lt-leb (k + 1) l.0 (omega arith), le-leb k l.0 (omega arith), lt-ltb l.0 (k + suc n) (omega arith))
    (omega (arith, given-most kind k channel (Some l) i)))
    (λ f.
    let nothing : length (given_text kind (logical k) channel (Some l) i) ≡ 0 = none_named f in
    by_bool (leb (k + 1) l.0 && ltb l.0 (k + 1 + n))
    (λ t.
    let b = both (leb (k + 1) l.0) (ltb l.0 (k + 1 + n)) t in
    rw (
      t,
      le-leb k l.0 (omega (arith, leb-true (k + 1) l.0 b.0)),
      lt-ltb l.0 (k + suc n) (omega (arith, ltb-true l.0 (k + 1 + n) b.1)),
    )
    (omega arith))
    (λ g. rw g (omega arith)))
  where
    none_named : eqb l.0 k ≡ false → length (given_text kind (logical k) channel (Some l) i) ≡ 0
    none_named f = by_bool (is_of_kind kind channel) (λ t. rw (t, f) refl) (λ t. rw t refl)

module _ (units : List ℕ) (channels : List Channel) (heads : List Head) (kind : Kind) where
  abbrev share_of : ℕ → ℕ → ℕ → ℕ
  share_of n k i = share n k (get_or heads i blank).to

  abbrev named : ℕ → ℕ → ℕ
  named k i = length (unit_at channels heads kind (logical k) i)

  entry-most : (k : ℕ) → k < 16 → length (asked_text units channels heads kind (logical k)) ≤ 5 + total (named k) 256 0
  unfolding asked_text entry_text
  entry-most k h =
      by_bool (eqb (asked units kind (logical k)) 0) (λ t. rw t (omega arith))
      (λ f. let tail = units_text channels heads kind (logical k) in
      let digits = cond (eqb k 0) [] (decimal_text k) in
      rw f (omega (
        arith,
        length-append (code_of kind) (digits ++ tail),
        length-append digits tail,
        code-long kind,
        digits-most k h,
        long (unit_at channels heads kind (logical k)) 256 0,
      )))
    where
      digits-most : (k : ℕ) → k < 16 → length (cond (eqb k 0) [] (decimal_text k)) ≤ 2
      digits-most k h = by_bool (eqb k 0) (λ t. rw t (omega arith)) (λ f. rw f (few-digits 1 k (omega arith)))

  entries-most : (n k : ℕ) → k + n ≤ 16
      → length (each_from (λ l. asked_text units channels heads kind (logical l)) n k) ≤ n * 5 + total (share_of n k) 256 0
  unfolding each_from
  entries-most zero k h = omega arith
  entries-most (suc n) k h =
      omega (
        arith,
        suc-mul n 5,
        length-append (asked_text units channels heads kind (logical k))
            (each_from (λ l. asked_text units channels heads kind (logical l)) n (k + 1)),
        entry-most k (omega arith),
        entries-most n (k + 1) (omega arith),
        together (named k) (share_of n (k + 1)) (share_of (suc n) k) 256 0
            (λ i. apart kind n k (get_or channels (i / 16) no_channel) (get_or heads i blank).to i),
      )

  kind-most : length (kind_text units channels heads kind) ≤ 1616
  kind-most =
      omega (arith, entries-most 16 0 (omega arith), at_most (share_of 16 0) 6 256 0 (λ i. share-most 16 0 (get_or heads i blank).to))

-- ---- the whole
run-most : (code : List ℕ) (first count : ℕ) → length code ≡ 4 → first < 2 ^ 32 → count < 2 ^ 32 → length (run_text code first count) ≤ 25
run-most code first count c f h =
    by_bool (eqb count 0) (λ t. rw t (omega arith))
    (λ e. rw e (omega (
      arith,
      length-append code (span_text first count),
      length-append (decimal_text first) (bytes "-" ++ decimal_text (first + (count - 1))),
      few-digits 9 first (omega (arith, f)),
      few-digits 9 (first + (count - 1)) (omega (arith, f, h)),
    )))

-- what the types say of a selection: its place is a byte, its name has six, its numbers have 32 bits
pub record InTypes (place : ℕ) (request : Request) (assigned : Assigned) : Type 0 where
  pub places : place < 256
  pub id : length request.id ≤ 6
  pub ib : (assigned.ib < 2 ^ 32) × (request.facilities.ib < 2 ^ 32)
  pub db : (assigned.db < 2 ^ 32) × (request.facilities.db < 2 ^ 32)
  pub md : (assigned.drum < 2 ^ 32) × (request.facilities.md < 2 ^ 32)

-- every line of a job selected has at most so many bytes
pub selected-bound : (place : ℕ) (request : Request) (assigned : Assigned) (channels : List Channel) → InTypes place request assigned
    → length (selected_text place request assigned channels) ≤ 9786
selected-bound place request assigned channels t =
    let wanted = request.facilities in
    let ib = run_text (bytes " IB ") assigned.ib wanted.ib in
    let db = run_text (bytes " DB ") assigned.db wanted.db in
    let md = run_text (bytes " MD ") assigned.drum wanted.md in
    let kind : ℕ → List ℕ = λ i. kind_text wanted.units channels assigned.heads (kind_at i) in
    let kinds = kinds_text wanted.units channels assigned.heads ++ bytes "\n" in
    let areas = areas_text wanted assigned.ib assigned.db assigned.drum ++ kinds in
    let name = spaceless request.id ++ areas in
    omega (
      arith,
      length-append (decimal_text place) (bytes " " ++ name),
      length-append (spaceless request.id) areas,
      length-append (areas_text wanted assigned.ib assigned.db assigned.drum) kinds,
      length-append ib (db ++ md),
      length-append db md,
      length-append (kinds_text wanted.units channels assigned.heads) (bytes "\n"),
      long kind unit_kinds 0,
      at_most (λ i. length (kind i)) 1616 unit_kinds 0 (λ i. kind-most wanted.units channels assigned.heads (kind_at i)),
      few-digits 2 place (omega (arith, t.places)),
      spaceless-short request.id,
      run-most (bytes " IB ") assigned.ib wanted.ib refl t.ib.0 t.ib.1,
      run-most (bytes " DB ") assigned.db wanted.db refl t.db.0 t.db.1,
      run-most (bytes " MD ") assigned.drum wanted.md refl t.md.0 t.md.1,
    )
