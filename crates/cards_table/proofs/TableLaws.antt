-- The table put row by row is the table by place; a card's row, the number of rows and the card of a digit, by the tests
-- that the code makes; and a table leaves one outcome. Assumes nothing.
use Prim.Native.Nat.{ℕ, zero, suc, ◌+◌, ◌-◌, ◌*◌, ◌/◌, ◌%◌, ◌≤◌, ◌<◌, max}
use mathlib.Core.Path.{◌≡◌, refl, sym, ap, ◌∙◌}
use mathlib.Core.Bool.{Bool, true, false, cond, ◌&&◌}
use mathlib.Core.Logic.{⊎_elim}
use mathlib.Core.List.{List, [], ◌∷◌, ◌++◌}
use native.Mathlib.Nat.{eq-zero-or-pos, le_of_suc-le-suc, zero-add}
use native.Mathlib.Omega.{arith}
use lib.Dec.{eqb, ltb}
use lib.ListN.{length, get_or, take, drop, length-take, length-append, get_or-eq_default, get_or-append}
use lib.Seq.{take-take, get_or-take, get_or-drop, drop-drop, length-take-le, get_or-append-add, ext_get_or}
use borrow.Author.Tests.{eq-eqb, ne_eqb, ltb-true, ltb-false}
use Rattle.numbers.specs.Quoted.{byte, bytes}
use Rattle.numbers.proofs.Tests.{by_bool, both}
use Rattle.numbers.specs.Limits.{pm_length, table_length}
use Rattle.text.specs.Class.{is_digit}
use Rattle.text.proofs.ClassLaws.{digit-bounds}
use Rattle.text.specs.Room.{Written, Puts}
use Rattle.text.specs.declared.room.Room.{Room}
use Rattle.text.proofs.RoomLaws.{Goes, goes-turn, goes-end, same-room, entire}
use Rattle.words.specs.Words.{same}
use Rattle.words.proofs.WordLaws.{and-false}
use Rattle.cards_fields.specs.Fields.{padded}
use Rattle.cards_fields.proofs.FieldLaws.{padded-length}
use Rattle.cards_request.specs.declared.Further.{Further}
use Rattle.cards_request.specs.declared.FurtherCard.{FurtherCard}
use Rattle.cards_request.specs.Requests.{texts_in, texts}
use Rattle.cards_pm.proofs.PmLaws.{and-true}
use Rattle.cards_further.proofs.Fourteen.{text_of, cards-step, cards-end}
use Rattle.cards_table.specs.Table.{is_pm_text, digit_in, letters_in, rows, card_at, table_size, place, Table}
use Rattle.cards_table.specs.TableText.{rows_from, table_text}

-- ---- a card's row

begins-pm : (s : List ℕ) → same (take 2 s) (bytes "PM") ≡ (eqb (get_or s 0 0) 80 && eqb (get_or s 1 0) 77)
begins-pm [] = refl
begins-pm (x ∷ []) = refl
begins-pm (x ∷ y ∷ s) = ap (λ (b : Bool). eqb x 80 && b) (and-true (eqb y 77))

-- the row that a text fills, the first being 1, and 0 for none
abbrev pub row_of : List ℕ → ℕ
row_of t = cond (is_pm_text t) (digit_in t + 1) 0

module _ (s : List ℕ) (n : ℕ) where
  pub row-short : n < 3 → 0 ≡ row_of (take n s)
  unfolding is_digit
  row-short h =
      let e : get_or (take n s) 2 0 ≡ 0 = get_or-eq_default (take n s) 0 {n = 2} (omega (arith, length-take n s)) in
      rw e (sym (ap (λ (b : Bool). cond b (0 - 48 + 1) 0) (and-false (same (take 2 (take n s)) (bytes "PM")))))

  module _ (h : 3 ≤ n) where
    by_bytes : is_pm_text (take n s) ≡ ((eqb (get_or s 0 0) 80 && eqb (get_or s 1 0) 77) && is_digit (get_or s 2 0))
    by_bytes =
        let a : take 2 (take n s) ≡ take 2 s = take-take 2 n s (omega arith) in
        let b : get_or (take n s) 2 0 ≡ get_or s 2 0 = get_or-take n s 2 0 (omega arith) in
        rw (a, b) (ap (λ (x : Bool). x && is_digit (get_or s 2 0)) (begins-pm s))

    none_of : is_pm_text (take n s) ≡ false → 0 ≡ row_of (take n s)
    none_of e = rw e

    pub row-no-p : (get_or s 0 0 ≡ 80 → ⊥) → 0 ≡ row_of (take n s)
    row-no-p e = none_of (by_bytes ∙ rw (ne_eqb (get_or s 0 0) 80 e))

    pub row-no-m : get_or s 0 0 ≡ 80 → (get_or s 1 0 ≡ 77 → ⊥) → 0 ≡ row_of (take n s)
    row-no-m d e = none_of (by_bytes ∙ rw (eq-eqb (get_or s 0 0) 80 d, ne_eqb (get_or s 1 0) 77 e))

    module _ (d : get_or s 0 0 ≡ 80) (e : get_or s 1 0 ≡ 77) where
      pub row-no-digit : is_digit (get_or s 2 0) ≡ false → 0 ≡ row_of (take n s)
      row-no-digit f = none_of (by_bytes ∙ rw (eq-eqb (get_or s 0 0) 80 d, eq-eqb (get_or s 1 0) 77 e, f))

      pub row-digit : is_digit (get_or s 2 0) ≡ true → get_or s 2 0 - 48 + 1 ≡ row_of (take n s)
      row-digit f =
          let p : is_pm_text (take n s) ≡ true = by_bytes ∙ rw (eq-eqb (get_or s 0 0) 80 d, eq-eqb (get_or s 1 0) 77 e, f) in
          let b : get_or (take n s) 2 0 ≡ get_or s 2 0 = get_or-take n s 2 0 (omega arith) in
          rw (p, b)

-- ---- the cards, one after the other

-- the rows of the cards that are left, by the first of them
pub rows-step : (cards : List FurtherCard) (n : ℕ) → n ≤ length cards → (i : ℕ) (d : FurtherCard) → i < n → (row : ℕ)
    → row ≡ row_of (text_of (get_or cards i d))
    → rows (texts_in (drop i (take n cards))) ≡ max row (rows (texts_in (drop (i + 1) (take n cards))))
rows-step cards n w i d h row is =
    ap rows (cards-step cards n w i d h) ∙ ap (λ (k : ℕ). max k (rows (texts_in (drop (i + 1) (take n cards))))) (sym is)

pub rows_end : (cards : List FurtherCard) (n i most all : ℕ) → n ≤ i → max most (rows (texts_in (drop i (take n cards)))) ≡ all → most ≡ all
rows_end cards n i most all h inv = omega (arith, ap rows (cards-end cards n i h), inv)

-- the first card of a digit among those that are left
row_is : (t : List ℕ) (digit : ℕ) → row_of t ≡ digit + 1 → (is_pm_text t && eqb (digit_in t) digit) ≡ true
row_is t digit e =
    by_bool (is_pm_text t)
    (λ p. let f : digit_in t + 1 ≡ digit + 1 = rw p at e in rw (p, eq-eqb (digit_in t) digit (omega (arith, f))))
    (λ p. let f : 0 ≡ digit + 1 = rw p at e in absurd (omega (arith, f)))

row-not : (t : List ℕ) (digit : ℕ) → (row_of t ≡ digit + 1 → ⊥) → (is_pm_text t && eqb (digit_in t) digit) ≡ false
row-not t digit n =
    by_bool (is_pm_text t)
    (λ p. rw (p, ne_eqb (digit_in t) digit (λ e. n (rw (p, e)))))
    (λ p. rw p)

module _ (cards : List FurtherCard) (n : ℕ) (w : n ≤ length cards) (i : ℕ) (d : FurtherCard) (h : i < n) (digit row : ℕ)
    (is : row ≡ row_of (text_of (get_or cards i d))) where
  pub card-here : row ≡ digit + 1 → letters_in (text_of (get_or cards i d)) ≡ card_at digit (texts_in (drop i (take n cards)))
  card-here e = rw (cards-step cards n w i d h, row_is (text_of (get_or cards i d)) digit (sym is ∙ e))

  pub card-later : (row ≡ digit + 1 → ⊥) → card_at digit (texts_in (drop (i + 1) (take n cards))) ≡ card_at digit (texts_in (drop i (take n cards)))
  card-later e = rw (cards-step cards n w i d h, row-not (text_of (get_or cards i d)) digit (λ g. e (is ∙ g)))

pub card-none : (cards : List FurtherCard) (n i digit : ℕ) → n ≤ i → [] ≡ card_at digit (texts_in (drop i (take n cards)))
card-none cards n i digit h = rw (cards-end cards n i h)

-- ---- a row, character by character

pub padded-step : (w : ℕ) (s : List ℕ) (k : ℕ) → k < w → padded (w - k) (drop k s) ≡ get_or s k (byte " ") ∷ padded (w - (k + 1)) (drop (k + 1) s)
padded-step w s k h =
    let e : w - k ≡ suc (w - (k + 1)) = omega arith in
    let j : suc k ≡ k + 1 = omega arith in
    rw e (first (w - (k + 1)) (drop k s) ∙ ap (λ (b : ℕ). b ∷ padded (w - (k + 1)) (drop 1 (drop k s))) (here s k)
    ∙ ap (λ (l : List ℕ). get_or s k 32 ∷ padded (w - (k + 1)) l) (behind s k))
  where
    first : (m : ℕ) (l : List ℕ) → padded (suc m) l ≡ get_or l 0 32 ∷ padded m (drop 1 l)
    first m [] = refl
    first m (b ∷ l) = refl

    here : (s : List ℕ) (k : ℕ) → get_or (drop k s) 0 32 ≡ get_or s k 32
    here s k = let z : k + 0 ≡ k = omega arith in get_or-drop k s 0 32 ∙ ap (λ (j : ℕ). get_or s j 32) z

    behind : (s : List ℕ) (k : ℕ) → drop 1 (drop k s) ≡ drop (k + 1) s
    behind s k = drop-drop 1 k s

pub padded-end : (w : ℕ) (s : List ℕ) (k : ℕ) → w ≤ k → padded (w - k) (drop k s) ≡ []
padded-end w s k h = let e : w - k ≡ 0 = omega arith in rw e

-- the character of a row: one of the card's, or a blank
module _ (s : List ℕ) (n : ℕ) (w : n ≤ length s) (k : ℕ) where
  pub letter-here : k + 5 < n → get_or (letters_in (take n s)) k (byte " ") ≡ get_or s (k + 4) 0
  letter-here h =
      let l : length (take n s) ≡ n = length-take-le n s w in
      let j : 4 + k ≡ k + 4 = omega arith in
      get_or-take (length (take n s) - 5) (drop 4 (take n s)) k 32 (omega arith)
      ∙ get_or-drop 4 (take n s) k 32
      ∙ ap (λ (i : ℕ). get_or (take n s) i 32) j
      ∙ get_or-take n s (k + 4) 32 (omega arith)
      ∙ within s (k + 4) (omega arith)
    where
      within : (s : List ℕ) (i : ℕ) → i < length s → get_or s i 32 ≡ get_or s i 0
      within [] i h = absurd (omega arith)
      within (x ∷ s) zero h = refl
      within (x ∷ s) (suc i) h = within s i (le_of_suc-le-suc h)

  pub letter-none : n ≤ k + 5 → get_or (letters_in (take n s)) k (byte " ") ≡ 32
  letter-none h =
      let l : length (take n s) ≡ n = length-take-le n s w in
      get_or-eq_default (letters_in (take n s)) 32 {n = k} (omega (arith, length-take (length (take n s) - 5) (drop 4 (take n s))))

-- one more character of a row is put
pub row-turn : {first room next : Room} {whole : List ℕ} {b : ℕ} (s : List ℕ) (k : ℕ) → k < pm_length → b ≡ get_or s k (byte " ")
    → Goes first whole room (padded (pm_length - k) (drop k s)) → Puts room (b ∷ []) next
    → Goes first whole next (padded (pm_length - (k + 1)) (drop (k + 1) s))
row-turn {first} {room} {whole = whole} {b = b} s k h e g p =
    let z : Goes first whole room (b ∷ padded (pm_length - (k + 1)) (drop (k + 1) s)) = rw e (rw (padded-step pm_length s k h) at g) in
    goes-turn z p

pub row-end : {first room : Room} {whole : List ℕ} (s : List ℕ) (k : ℕ) → pm_length ≤ k
    → Goes first whole room (padded (pm_length - k) (drop k s)) → Puts first whole room
row-end s k h g = goes-end (rw (padded-end pm_length s k h) at g)

-- ---- the rows, one after the other

pub rows-length : (n d : ℕ) (ts : List (List ℕ)) → length (rows_from n d ts) ≡ pm_length * n
rows-length zero d ts = refl
rows-length (suc n) d ts =
    omega (
      arith,
      length-append (padded pm_length (card_at d ts)) (rows_from n (suc d) ts),
      padded-length pm_length (card_at d ts),
      rows-length n (suc d) ts,
    )

-- no row is put, and one more
pub table-start : (f : Further) (room : Room) (n : ℕ) → n ≡ rows (texts f) → Goes room (table_text f) room (rows_from (n - 0) 0 (texts f))
table-start f room n e after p = let k : n - 0 ≡ rows (texts f) = omega (arith, e) in rw k at p

pub table-turn : {first room next : Room} {whole : List ℕ} (n d : ℕ) (ts : List (List ℕ)) (s : List ℕ) → d < n → s ≡ card_at d ts
    → Goes first whole room (rows_from (n - d) d ts) → Puts room (padded pm_length s) next
    → Goes first whole next (rows_from (n - (d + 1)) (d + 1) ts)
table-turn {first} {room} {whole = whole} n d ts s h e g p =
    let k : n - d ≡ suc (n - (d + 1)) = omega arith in
    let j : suc d ≡ d + 1 = omega arith in
    let z : Goes first whole room (padded pm_length (card_at d ts) ++ rows_from (n - (d + 1)) (suc d) ts) = rw k at g in
    goes-turn (rw (← e, j) at z) p

pub table-end : {first room : Room} {whole : List ℕ} (n d : ℕ) (ts : List (List ℕ)) → n ≤ d
    → Goes first whole room (rows_from (n - d) d ts) → Puts first whole room
table-end n d ts h g = let k : n - d ≡ 0 = omega arith in goes-end (rw k at g)

-- at most ten rows
pub rows-most : (ts : List (List ℕ)) → rows ts ≤ 10
rows-most [] = omega arith
rows-most (t ∷ ts) =
    by_bool (is_pm_text t)
    (λ p. let b = digit-bounds (get_or t 2 0) (both (same (take 2 t) (bytes "PM")) (is_digit (get_or t 2 0)) p).1 in rw p (omega (arith, rows-most ts)))
    (λ p. rw p (omega (arith, rows-most ts)))

-- ---- by place

padded-at : (w : ℕ) (s : List ℕ) (k : ℕ) → k < w → get_or (padded w s) k 0 ≡ get_or s k (byte " ")
padded-at zero s k h = absurd (omega arith)
padded-at (suc w) [] zero h = refl
padded-at (suc w) [] (suc k) h = padded-at w [] k (le_of_suc-le-suc h) ∙ get_or-eq_default [] 32 {n = k} (omega arith)
padded-at (suc w) (b ∷ s) zero h = refl
padded-at (suc w) (b ∷ s) (suc k) h = padded-at w s k (le_of_suc-le-suc h)

rows-place : (n d : ℕ) (ts : List (List ℕ)) (i : ℕ) → i < pm_length * n
    → get_or (rows_from n d ts) i 0 ≡ get_or (card_at (d + i / pm_length) ts) (i % pm_length) (byte " ")
rows-place zero d ts i h = absurd (omega arith)
rows-place (suc n) d ts i h =
    let l : length (padded pm_length (card_at d ts)) ≡ pm_length = padded-length pm_length (card_at d ts) in
    ⊎_elim
    (λ z.
    let q : d + i / pm_length ≡ d = omega arith in
    let m : i % pm_length ≡ i = omega arith in
    rw (q, m) (get_or-append (padded pm_length (card_at d ts)) (rows_from n (suc d) ts) 0 i (omega arith)
    ∙ padded-at pm_length (card_at d ts) i (omega arith)))
    (λ z.
    let j : length (padded pm_length (card_at d ts)) + (i - pm_length) ≡ i = omega arith in
    let q : suc d + (i - pm_length) / pm_length ≡ d + i / pm_length = omega arith in
    let m : (i - pm_length) % pm_length ≡ i % pm_length = omega arith in
    ap (λ (k : ℕ). get_or (rows_from (suc n) d ts) k 0) (sym j)
    ∙ get_or-append-add (padded pm_length (card_at d ts)) (rows_from n (suc d) ts) (i - pm_length) 0
    ∙ rows-place n (suc d) ts (i - pm_length) (omega arith)
    ∙ ap (λ (k : ℕ). get_or (card_at k ts) ((i - pm_length) % pm_length) 32) q
    ∙ ap (λ (k : ℕ). get_or (card_at (d + i / pm_length) ts) k 32) m)
    (eq-zero-or-pos (i - 65))

-- THE ROWS PUT AT THE START OF THE ROOM ARE THE TABLE
pub table-put : (f : Further) {room after : List ℕ} {r : ℕ} → length room ≡ table_length → Written room 0 (table_text f) after r → Table f room after r
unfolding table_size place
table-put f {room} {after} {r} l w =
    let t : length (table_text f) ≡ pm_length * rows (texts f) = rows-length (rows (texts f)) 0 (texts f) in
    let v = entire w (omega (arith, t, l, rows-most (texts f))) in
    let s : r ≡ pm_length * rows (texts f) = v.ends ∙ t in
    record {
      size = s;
      places = λ i h. ap (λ (a : List ℕ). get_or a i 0) v.bytes
          ∙ get_or-append (table_text f) (drop r room) 0 i (omega (arith, h, v.ends))
          ∙ rows-place (rows (texts f)) 0 (texts f) i (omega (arith, h, s))
          ∙ ap (λ (k : ℕ). get_or (card_at k (texts f)) (i % pm_length) 32) (zero-add (i / pm_length));
      kept = λ i h.
          let j : length (table_text f) + (i - r) ≡ i = omega (arith, h, v.ends) in
          let k : r + (i - r) ≡ i = omega (arith, h) in
          ap (λ (a : List ℕ). get_or a i 0) v.bytes
          ∙ ap (λ (m : ℕ). get_or (table_text f ++ drop r room) m 0) (sym j)
          ∙ get_or-append-add (table_text f) (drop r room) (i - r) 0
          ∙ get_or-drop r room (i - r) 0
          ∙ ap (λ (m : ℕ). get_or room m 0) k;
      long = same-room w;
    }

-- A TABLE LEAVES ONE OUTCOME
pub table-one : {f : Further} {room after₁ after₂ : List ℕ} {r₁ r₂ : ℕ} → Table f room after₁ r₁ → Table f room after₂ r₂
    → (after₁ ≡ after₂) × (r₁ ≡ r₂)
table-one {f} {room} {after₁} {after₂} {r₁} {r₂} v w =
    let e : r₁ ≡ r₂ = v.size ∙ sym w.size in (
      ext_get_or 0 after₁ after₂ (v.long ∙ sym w.long)
          (λ i h.
          by_bool (ltb i r₁)
          (λ t. v.places i (ltb-true i r₁ t) ∙ sym (w.places i (omega (arith, e, ltb-true i r₁ t))))
          (λ t. v.kept i (ltb-false i r₁ t) ∙ sym (w.kept i (omega (arith, e, ltb-false i r₁ t))))),
      e,
    )
