-- Pieces of the two cards put one after the other: what the code's loops keep, and what a card that was put holds.
-- Assumes nothing.
use Prim.Native.Nat.{ℕ, zero, suc, ◌+◌, ◌-◌, ◌/◌, ◌%◌, ◌≤◌, ◌<◌}
use mathlib.Core.Path.{◌≡◌, refl, ap, ◌∙◌}
use mathlib.Core.List.{List, [], ◌∷◌, ◌++◌}
use mathlib.Core.Logic.{⊎_elim}
use native.Mathlib.Nat.{eq-zero-or-pos}
use native.Mathlib.Numerals.{add-one}
use native.Mathlib.Omega.{arith}
use lib.Dec.{eqb}
use lib.ListN.{length, get_or, take, drop, drop_of_length-le, length-append, length-replicate, replicate, get_or-eq_default}
use lib.Seq.{drop-cons, take-append_seam}
use borrow.Author.Tests.{eq-eqb, ne_eqb}
use Rattle.numbers.proofs.Tests.{by_bool}
use Rattle.text.specs.Room.{reach, Written, Puts}
use Rattle.text.specs.declared.room.Room.{Room}
use Rattle.text.proofs.RoomLaws.{Goes, goes-turn, fitted}
use Rattle.text.specs.Writing.{decimal_text}
use Rattle.text.proofs.Tens.{one-digit, more-digits}
use Rattle.cards_fields.specs.Fields.{card_text, tail_text}
use Rattle.cards_fac.specs.Fac.{codes, last_code}
use Rattle.cards_request.specs.declared.Request.{Request}
use Rattle.cards_writing.specs.Writing.{priority_text, pty_fields, front, trimmed, entry_text, entry_texts, pty_text}

-- a written number is never empty
pub number-some : (n : ℕ) → 0 < length (decimal_text n)
number-some n =
    ⊎_elim
    (λ z. rw (one-digit n (omega arith)) (omega arith))
    (λ p. rw (more-digits n (omega arith)) (omega (arith, length-append (decimal_text (n / 10)) ((48 + n % 10) ∷ []))))
    (eq-zero-or-pos (n - 9))

-- no field before one that is written is left off
front_kept : (f g : List ℕ) (gs : List (List ℕ)) → front f (g ∷ gs) ≡ f ∷ g ∷ gs
front_kept [] g gs = refl
front_kept (b ∷ f) g gs = refl

front-some : (f : List ℕ) (gs : List (List ℕ)) → 0 < length f → front f gs ≡ f ∷ gs
front-some [] gs h = absurd (omega arith)
front-some (b ∷ f) gs h = refl

front-none : (f : List ℕ) → length f ≡ 0 → front f [] ≡ []
front-none [] h = refl
front-none (b ∷ f) h = absurd (omega arith)

pub trimmed-to : (fs : List (List ℕ)) (g : List ℕ) (gs : List (List ℕ)) → 0 < length g → trimmed (fs ++ (g ∷ gs)) ≡ fs ++ (g ∷ trimmed gs)
trimmed-to [] g gs h = front-some g (trimmed gs) h
trimmed-to (f ∷ fs) g gs h = ap (front f) (trimmed-to fs g gs h) ∙ kept fs
  where
    kept : (fs : List (List ℕ)) → front f (fs ++ (g ∷ trimmed gs)) ≡ f ∷ (fs ++ (g ∷ trimmed gs))
    kept [] = front_kept f g (trimmed gs)
    kept (e ∷ fs) = front_kept f e (fs ++ (g ∷ trimmed gs))

-- fields left off at the end are empty
pub trimmed-at : (fs : List (List ℕ)) (k : ℕ) → get_or (trimmed fs) k [] ≡ get_or fs k []
trimmed-at [] k = refl
trimmed-at (f ∷ fs) zero = here f (trimmed fs)
  where
    here : (f : List ℕ) (gs : List (List ℕ)) → get_or (front f gs) 0 [] ≡ f
    here [] [] = refl
    here [] (g ∷ gs) = refl
    here (b ∷ f) gs = refl
trimmed-at (f ∷ fs) (suc k) = later f (trimmed fs) k ∙ trimmed-at fs k
  where
    none : (k : ℕ) → ◌≡◌ {A = List ℕ} [] (get_or [] k [])
    none zero = refl
    none (suc k) = refl

    later : (f : List ℕ) (gs : List (List ℕ)) (k : ℕ) → get_or (front f gs) (suc k) [] ≡ get_or gs k []
    later [] [] k = none k
    later [] (g ∷ gs) k = refl
    later (b ∷ f) gs k = refl

-- the fields of a PTY card up to the estimated minutes, and the two behind them
module _ (n : ℕ) (r : Request) where
  abbrev store : List ℕ
  store = get_or (pty_fields n r) 12 []

  abbrev library : List ℕ
  library = get_or (pty_fields n r) 13 []

  pub trimmed-pty : trimmed (pty_fields n r) ≡ take 12 (pty_fields n r) ++ trimmed (store ∷ library ∷ [])
  unfolding pty_fields
  trimmed-pty = trimmed-to (take 11 (pty_fields n r)) (decimal_text r.minutes) (store ∷ library ∷ []) (number-some r.minutes)

  twelve : length (take 12 (pty_fields n r)) ≡ 12
  unfolding pty_fields
  twelve = refl

  counted : length (trimmed (pty_fields n r)) ≡ 12 + length (trimmed (store ∷ library ∷ []))
  counted = ap (length {A = List ℕ}) trimmed-pty ∙ length-append (take 12 (pty_fields n r)) (trimmed (store ∷ library ∷ [])) ∙ rw twelve

  pub all-written : (length library ≡ 0 → ⊥) → length (trimmed (pty_fields n r)) ≡ 14
  all-written n = counted ∙ rw (front-some library [] (omega arith), front_kept store library []) refl

  pub library-left : length library ≡ 0 → (length store ≡ 0 → ⊥) → length (trimmed (pty_fields n r)) ≡ 13
  library-left z n = counted ∙ rw (front-none library z, front-some store [] (omega arith)) refl

  pub both_left : length library ≡ 0 → length store ≡ 0 → length (trimmed (pty_fields n r)) ≡ 12
  both_left z y = counted ∙ rw (front-none library z, front-none store y) refl

  pub some_written : 0 < length (trimmed (pty_fields n r))
  some_written = omega (arith, counted)

  -- the card starts with the first field
  pub pty-first : pty_text n r ≡ get_or (pty_fields n r) 0 [] ++ tail_text (drop 1 (trimmed (pty_fields n r)))
  unfolding pty_text
  pty-first =
      cards-first (trimmed (pty_fields n r)) some_written
      ∙ ap (λ (f : List ℕ). f ++ tail_text (drop 1 (trimmed (pty_fields n r)))) (trimmed-at (pty_fields n r) 0)
    where
      cards-first : (fs : List (List ℕ)) → 0 < length fs → card_text fs ≡ get_or fs 0 [] ++ tail_text (drop 1 fs)
      cards-first [] h = absurd (omega arith)
      cards-first (f ∷ fs) h = refl

  module _ {first : Room} {whole : List ℕ} where
    pub pty-turn : {room comma next : Room} (k : ℕ) → k < length (trimmed (pty_fields n r))
        → Goes first whole room (tail_text (drop k (trimmed (pty_fields n r))))
        → Puts room (44 ∷ []) comma → Puts comma (get_or (pty_fields n r) k []) next
        → Goes first whole next (tail_text (drop (k + 1) (trimmed (pty_fields n r))))
    pty-turn k h g v w =
        let e : drop k (trimmed (pty_fields n r)) ≡ get_or (pty_fields n r) k [] ∷ drop (k + 1) (trimmed (pty_fields n r)) =
        rw (add-one k) (drop-cons (trimmed (pty_fields n r)) k [] h)
        ∙ ap (λ (f : List ℕ). f ∷ drop (k + 1) (trimmed (pty_fields n r))) (trimmed-at (pty_fields n r) k) in
        goes-turn {whole = whole} (goes-turn {whole = whole} (rw e at g) v) w

    pub pty-end : {room next : Room} (k : ℕ) → length (trimmed (pty_fields n r)) ≤ k
        → Goes first whole room (tail_text (drop k (trimmed (pty_fields n r))))
        → Puts room (46 ∷ []) next → Puts first whole next
    pty-end {next = next} k h g w = (rw (drop_of_length-le (trimmed (pty_fields n r)) {i = k} h) at g) next w

-- the entries of a FAC card, one slot further
module _ (asks : List ℕ) where
  abbrev from : ℕ → List ℕ
  from k = tail_text (entry_texts k (drop k asks))

  module _ {first : Room} where
    pub entry-skip : {room : Room} (k n : ℕ) → k < length asks → n ≡ get_or asks k 0 → n ≡ 0
        → Goes first (from 0) room (from k) → Goes first (from 0) room (from (k + 1))
    entry-skip k n h e z g =
        let d : entry_texts k (drop k asks) ≡ entry_texts (k + 1) (drop (k + 1) asks) = rw (add-one k, drop-cons asks k 0 h, ← e, eq-eqb n 0 z) in
        rw d at g

    pub entry-turn : {room comma next : Room} (k n : ℕ) → k < length asks → n ≡ get_or asks k 0 → (n ≡ 0 → ⊥)
        → Goes first (from 0) room (from k) → Puts room (44 ∷ []) comma → Puts comma (entry_text k n) next
        → Goes first (from 0) next (from (k + 1))
    entry-turn k n h e z g v w =
        let d : entry_texts k (drop k asks) ≡ entry_text k n ∷ entry_texts (k + 1) (drop (k + 1) asks) =
        rw (add-one k, drop-cons asks k 0 h, ← e, ne_eqb n 0 z) in
        goes-turn {whole = from 0} (goes-turn {whole = from 0} (rw d at g) v) w

    pub entry-end : {room next : Room} (k : ℕ) → length asks ≤ k → Goes first (from 0) room (from k) → Puts room (46 ∷ []) next
        → Puts first (from 0) next
    entry-end {next = next} k h g w = (rw (drop_of_length-le asks {i = k} h) at g) next w

-- what was put into an array of m bytes, by whether it shows as longer than a card or a field may be
module _ (m : ℕ) {p after : List ℕ} {next : ℕ} (w : Written (replicate m 0) 0 p after next) where
  pub put-reached : next ≡ reach 0 (length p) m
  put-reached = w.reached ∙ ap (reach 0 (length p)) (length-replicate {A = ℕ} m 0)

  pub put_whole : length p ≤ m → (next ≡ length p) × (take next after ≡ p)
  put_whole h =
      let f = fitted w (omega (arith, length-replicate {A = ℕ} m 0)) in
      let e : next ≡ length p = omega (arith, f.0) in
      (e, rw (f.1, e) (take-append_seam p (drop (0 + length p) (replicate m 0))))

-- a piece is empty where nothing of it is put
pub put-empty : {p after : List ℕ} {next : ℕ} → Written (replicate 1 0) 0 p after next → eqb next 0 ≡ eqb (length p) 0
put-empty {p} {after} {next} w =
    let e = put-reached 1 w in
    ⊎_elim
    (λ z. rw (eq-eqb next 0 (omega arith), eq-eqb (length p) 0 z))
    (λ q. rw (ne_eqb next 0 (λ i. omega arith), ne_eqb (length p) 0 (λ i. omega arith)))
    (eq-zero-or-pos (length p))

-- past the last field, and past the last code, there is none
pub no_field : (n : ℕ) (r : Request) (k : ℕ) → 14 ≤ k → get_or (pty_fields n r) k [] ≡ []
unfolding pty_fields
no_field n r k h = get_or-eq_default (pty_fields n r) [] {n = k} h

pub no_code : (k : ℕ) → last_code < k → get_or codes k [] ≡ []
unfolding codes
no_code k h = get_or-eq_default codes [] {n = k} h

-- a priority has at most five characters
pub priority-short : (r : Request) → length (priority_text r) ≤ 5
unfolding priority_text
priority-short r = by_bool (eqb r.sequence 0) (λ t. rw t (omega arith)) (λ f. rw f (omega arith))
