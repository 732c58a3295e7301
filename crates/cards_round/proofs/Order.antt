-- EQUAL REQUESTS, ENTRY ORDER APART: two FAC cards whose entries are permutations of each other ask for the same,
-- so that the groups read as the same request. Two neighbouring entries fill different slots, or the second of them
-- would be wrong. Assumes nothing.
use Prim.Native.Nat.{ℕ, zero, suc, ◌≤◌, ◌<◌}
use mathlib.Core.Path.{◌≡◌, refl, sym, ap, subst, ◌∙◌}
use mathlib.Core.Bool.{false, ◌&&◌}
use mathlib.Core.List.{List, [], ◌∷◌}
use native.Mathlib.Omega.{arith}
use lib.Dec.{ltb, leb}
use lib.ListN.{length, get_or, set, length-set, take}
use lib.Seq.{get_or-set_same, get_or-set_other}
use borrow.Author.Tests.{leb-true, ltb-false, le-ltb}
use Rattle.numbers.proofs.Tests.{by_bool, both}
use Rattle.text.specs.Class.{is_digit}
use Rattle.words.specs.Words.{every, value}
use Rattle.cards_request.specs.Errors.{error_if, or_else}
use Rattle.cards_request.proofs.ErrorLaws.{not-error, or_else_none}
use Rattle.cards_fields.specs.Fields.{field, fields, malformed}
use Rattle.cards_fac.specs.Fac.{core_error, fac_error, channel_text, code_of, entered, entries_error, entry_error, all_entered}
use Rattle.cards_fac.specs.Fac.{form_error, most, nothing, number_text, slot_of, slots, asked, entries_of}
use Rattle.cards_fac.proofs.EntryLaws.{channel-low, code-low, good-number}
use Rattle.cards_further.specs.Further.{canonicals, held}
use Rattle.cards_group.specs.Group.{ordered_error, request_of, read_full}
use Rattle.cards_group.proofs.GroupLaws.{front_error, order_error, in-steps}
use Rattle.cards_request.specs.declared.CardError.TheVariants.{FacMalformed, WrongEntry}
use Rattle.cards_request.specs.declared.FullRequest.{FullRequest}
use Rattle.std.specs.Prelude.{Ok}
use Rattle.cards_round.specs.Permuted.{Permuted}
use Rattle.cards_round.proofs.Short.{channelled, known}
use Rattle.cards_round.proofs.FullRound.{read_as}
use Rattle.cards_round.proofs.Fits.{answered, entries-good, steps}

-- two stores at different indices come to the same in either order
set-swap : (l : List ℕ) (i j a b : ℕ) → (i ≡ j → ⊥) → set (set l i a) j b ≡ set (set l j b) i a
set-swap [] i j a b n = refl
set-swap (x ∷ l) zero zero a b n = absurd (n refl)
set-swap (x ∷ l) zero (suc j) a b n = refl
set-swap (x ∷ l) (suc i) zero a b n = refl
set-swap (x ∷ l) (suc i) (suc j) a b n = ap (λ (m : List ℕ). x ∷ m) (set-swap l i j a b (λ e. n (ap suc e)))

-- a good entry has a slot, and asks for something
slot-low : (t : List ℕ) → form_error t ≡ Ok tt → slot_of t < slots
slot-low t e =
    let c = code-low t (known t e) in
    let h = channel-low (code_of t) (channel_text t) (channelled t e) in
    by_bool (ltb (code_of t) 3) (λ b. rw b (omega arith)) (λ b. rw b (omega (arith, ltb-false (code_of t) 3 b)))

number-some : (t : List ℕ) → form_error t ≡ Ok tt → 1 ≤ value (number_text t)
number-some t e =
    let s = number_text t in
    let p = (both (leb (length s) (most (code_of t))) (every is_digit s && leb 1 (value s)) (good-number t e)).1 in
    leb-true 1 (value s) (both (every is_digit s) (leb 1 (value s)) p).1

-- an entry that is right here: good by itself, and its slot is empty
right : (asks t : List ℕ) → entry_error asks t ≡ Ok tt → (form_error t ≡ Ok tt) × (get_or asks (slot_of t) 0 ≤ 0)
right asks t e =
    let y = or_else_none (form_error t) (error_if (ltb 0 (get_or asks (slot_of t) 0)) WrongEntry) e in
    (y.0, ltb-false 0 (get_or asks (slot_of t) 0) (not-error (ltb 0 (get_or asks (slot_of t) 0)) WrongEntry y.1))

is_right : (asks t : List ℕ) → form_error t ≡ Ok tt → get_or asks (slot_of t) 0 ≤ 0 → entry_error asks t ≡ Ok tt
is_right asks t e h = rw (e, le-ltb 0 (get_or asks (slot_of t) 0) h)

-- ORDER DOES NOT MATTER
pub permuted : {ts us : List (List ℕ)} → Permuted ts us → (asks : List ℕ) → length asks ≡ slots → entries_error asks ts ≡ Ok tt
    → (entries_error asks us ≡ Ok tt) × (all_entered asks ts ≡ all_entered asks us)
permuted Permuted.none asks l e = (refl, refl)
permuted (Permuted.more {t} {ts} {us} p) asks l e =
    let x = or_else_none (entry_error asks t) (entries_error (entered asks t) ts) e in
    let q = permuted p (entered asks t) (length-set asks (slot_of t) (value (number_text t)) ∙ l) x.1 in
    (rw x.0 q.0, q.1)
permuted (Permuted.swap {t} {u} {ts}) asks l e =
    let x = or_else_none (entry_error asks t) (entries_error (entered asks t) (u ∷ ts)) e in
    let y = or_else_none (entry_error (entered asks t) u) (entries_error (entered (entered asks t) u) ts) x.1 in
    let a = right asks t x.0 in
    let b = right (entered asks t) u y.0 in
    let n : slot_of t ≡ slot_of u → ⊥ = apart t u a b.1 in
    let c : entered (entered asks t) u ≡ entered (entered asks u) t =
    set-swap asks (slot_of t) (slot_of u) (value (number_text t)) (value (number_text u)) n in
    let o : get_or (entered asks t) (slot_of u) 0 ≡ get_or asks (slot_of u) 0 =
    get_or-set_other asks (slot_of t) (slot_of u) (value (number_text t)) 0 (λ i. n (sym i)) in
    let m : get_or (entered asks u) (slot_of t) 0 ≡ get_or asks (slot_of t) 0 = get_or-set_other asks (slot_of u) (slot_of t) (value (number_text u)) 0 n in
    let f : entry_error asks u ≡ (Ok tt) = is_right asks u b.0 (omega (arith, o, b.1)) in
    let g : entry_error (entered asks u) t ≡ (Ok tt) = is_right (entered asks u) t a.0 (omega (arith, m, a.1)) in
    (rw (f, g) (subst (λ (z : List ℕ). entries_error z ts ≡ Ok tt) c y.1), ap (λ (z : List ℕ). all_entered z ts) c)
  where
    apart : (v w : List ℕ) → (form_error v ≡ Ok tt) × (get_or asks (slot_of v) 0 ≤ 0) → get_or (entered asks v) (slot_of w) 0 ≤ 0 → slot_of v ≡ slot_of w → ⊥
    apart v w a h i =
        let s : get_or (entered asks v) (slot_of v) 0 ≡ value (number_text v) =
        get_or-set_same asks (slot_of v) (value (number_text v)) 0 (omega (arith, slot-low v a.0)) in
        let k : get_or (entered asks v) (slot_of v) 0 ≤ 0 = subst (λ (x : ℕ). get_or (entered asks v) x 0 ≤ 0) (sym i) h in
        omega (arith, number-some v a.0)
permuted (Permuted.next {ts} {us} {vs} p q) asks l e =
    let x = permuted p asks l e in
    let y = permuted q asks l x.0 in
    (y.0, x.1 ∙ y.1)

-- the first two fields of a card
front_at : (l : List (List ℕ)) (k : ℕ) → k < 2 → get_or (take 2 l) k [] ≡ get_or l k []
front_at [] zero h = refl
front_at [] (suc k) h = refl
front_at (x ∷ l) zero h = refl
front_at (x ∷ []) (suc k) h = refl
front_at (x ∷ y ∷ l) (suc zero) h = refl
front_at (x ∷ y ∷ l) (suc (suc k)) h = absurd (omega arith)

-- EQUAL REQUESTS: where a group is read, one with the same PTY card, the same further cards and, on a FAC card that is not
-- malformed, the same ID and the same entries in any order is read as the same request
module _ (pty fac other : List ℕ) (further : List (List ℕ)) (well : malformed other ≡ false) (front : take 2 (fields other) ≡ take 2 (fields fac))
    (p : Permuted (entries_of fac) (entries_of other)) where
  field-as : (k : ℕ) → k < 2 → field other k ≡ field fac k
  field-as k h = sym (front_at (fields other) k h) ∙ ap (λ (l : List (List ℕ)). get_or l k []) front ∙ front_at (fields fac) k h

  front-as : (n : ℕ) → front_error n pty other ≡ front_error n pty fac
  front-as n = rw (field-as 1 (omega arith)) refl

  order-as : order_error pty other further ≡ order_error pty fac further
  order-as = rw (field-as 0 (omega arith)) refl

  fac-as : fac_error fac ≡ Ok tt → entries_error nothing (entries_of fac) ≡ Ok tt → fac_error other ≡ Ok tt
  unfolding fac_error
  fac-as g e =
      let q = permuted p nothing refl e in
      let core : core_error (asked fac) ≡ (Ok tt) =
      (or_else_none (core_error (asked fac)) (Ok tt) (or_else_none (entries_error nothing (entries_of fac)) (or_else (core_error (asked fac)) (Ok tt))
      (or_else_none (error_if (malformed fac) FacMalformed)
      (or_else (entries_error nothing (entries_of fac)) (or_else (core_error (asked fac)) (Ok tt))) g).1).1).0 in
      rw (well, q.0, ← q.1, core)

  pub same-request : (v : FullRequest) → read_full (pty ∷ fac ∷ further) ≡ record { verdict = Ok tt; full = v }
      → read_full (pty ∷ other ∷ further) ≡ record { verdict = Ok tt; full = v }
  same-request v e =
      let n = length (pty ∷ fac ∷ further) in
      let a = answered (pty ∷ fac ∷ further) v e in
      let s = steps n pty fac further a.0 in
      let g = (entries-good n pty fac further a.0).1 in
      let w : ordered_error n pty other further ≡ (Ok tt) =
      in-steps n pty other further ∙ rw (front-as n, s.0, order-as, s.1.0, fac-as s.1.1.0 g) s.1.1.1 in
      let q : asked other ≡ asked fac = sym (permuted p nothing refl g).1 in
      read_as pty other further w
      ∙ ap (λ (x : FullRequest). record { verdict = Ok tt; full = x })
      (ap (λ (l : List ℕ). record { request = request_of pty l; further = held (canonicals further) }) q ∙ a.1)
