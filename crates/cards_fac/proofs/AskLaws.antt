-- What the entries of a FAC card ask for, one entry further; the numbers that are asked for, as the code holds them;
-- and the card by the tests that the code makes. Assumes nothing.
use Prim.Native.Nat.{ℕ, zero, suc, ◌+◌, ◌-◌, ◌≤◌, ◌<◌}
use mathlib.Core.Path.{◌≡◌, refl, sym, ap, ◌∙◌}
use mathlib.Core.Bool.{true, false}
use mathlib.Core.List.{List, [], ◌∷◌}
use native.Mathlib.Numerals.{add-one}
use native.Mathlib.Omega.{arith}
use lib.ListN.{length, get_or, drop, set, drop_of_length-le}
use lib.Seq.{drop-cons}
use borrow.Author.Tests.{le-ltb, lt-ltb, eq-eqb, ne_eqb}
use Rattle.numbers.specs.Limits.{most_blocks}
use Rattle.words.specs.Words.{value}
use Rattle.cards_fields.specs.Fields.{malformed}
use Rattle.cards_request.proofs.ErrorLaws.{or-else-good, and-err, and-ok}
use Rattle.cards_fac.specs.Fac.{number_text, slot_of, form_error, nothing, entry_of, entries_error}
use Rattle.cards_fac.specs.Fac.{asks_of, facilities_of, asked_of, core_error, entries_of, asked, fac_error, fac_of}
use Rattle.cards_fac.proofs.EntryLaws.{small-number}
use Rattle.cards_request.specs.declared.CardError.{CardError}
use Rattle.cards_request.specs.declared.CardError.TheVariants.{FacMalformed, WrongEntry, TooMuchCore, NoIb}
use Rattle.cards_request.specs.Errors.{CardVerdict}
use Rattle.std.specs.Prelude.{Result, Ok, Err}
use Rattle.std.specs.Result.{result_and}
use Rattle.cards_fac.specs.declared.Entry.{Entry}
use Rattle.cards_request.specs.declared.Facilities.{Facilities}

module _ (t : List ℕ) (r : Result Entry CardError) (is : r ≡ entry_of t) where
  form-err : (x : CardError) → r ≡ Err x → form_error t ≡ Err x
  unfolding entry_of
  form-err x e = and-err (form_error t) _ x (sym is ∙ e)

  form-ok : (e : Entry) → r ≡ Ok e → (form_error t ≡ Ok tt) × (e ≡ record { slot = slot_of t; number = value (number_text t) })
  unfolding entry_of
  form-ok e o = and-ok (form_error t) _ e (sym is ∙ o)

-- a good entry's number is below 100, but that of MD
pub small-entry : (t : List ℕ) (e : Entry) → Ok e ≡ entry_of t → (e.slot ≡ 2 → ⊥) → e.number < 100
small-entry t e is n =
    let f = form-ok t (Ok e) is e refl in
    rw f.1 (small-number t f.0 (λ q. n (rw f.1 q)))

module _ (asks : List ℕ) (ts : List (List ℕ)) (k : ℕ) (h : k < length ts) (r : Result Entry CardError) (is : r ≡ entry_of (get_or ts k [])) where
  abbrev t : List ℕ
  t = get_or ts k []

  at : drop k ts ≡ t ∷ drop (k + 1) ts
  at = rw (add-one k) (drop-cons ts k [] h)

  pub entry-wrong : (x : CardError) → r ≡ Err x → asked_of asks (drop k ts) ≡ Err x
  unfolding asked_of
  entry-wrong x e = rw (at, form-err t r is x e)

  module _ (e : Entry) (o : r ≡ Ok e) where
    pub entry-twice : 0 < get_or asks e.slot 0 → asked_of asks (drop k ts) ≡ Err WrongEntry
    unfolding asked_of
    entry-twice g =
        let f = form-ok t r is e o in
        rw (at, f.0, lt-ltb 0 (get_or asks (slot_of t) 0) (rw f.1 at g))

    pub entry_next : get_or asks e.slot 0 ≤ 0 → asked_of asks (drop k ts) ≡ asked_of (set asks e.slot e.number) (drop (k + 1) ts)
    unfolding asked_of
    entry_next g =
        let f = form-ok t r is e o in
        rw (at, f.0, f.1, le-ltb 0 (get_or asks (slot_of t) 0) (rw f.1 at g))

pub entries-done : (asks : List ℕ) (ts : List (List ℕ)) (k : ℕ) → length ts ≤ k → asked_of asks (drop k ts) ≡ Ok (facilities_of asks)
unfolding asked_of
entries-done asks ts k h = rw (drop_of_length-le ts {i = k} h)

-- the FAC card
module _ (s : List ℕ) where
  pub fac-malformed : malformed s ≡ true → fac_of s ≡ Err FacMalformed
  unfolding fac_of fac_error
  fac-malformed e = rw e

  module _ (m : malformed s ≡ false) (r : Result Facilities CardError) (is : r ≡ asked_of nothing (entries_of s)) where
    pub fac-entries : (x : CardError) → r ≡ Err x → fac_of s ≡ Err x
    unfolding fac_of fac_error asked_of
    fac-entries x e = rw (m, and-err (entries_error nothing (entries_of s)) (facilities_of (asked s)) x (sym is ∙ e))

    pub fac-core : (f : Facilities) → r ≡ Ok f → (v : CardVerdict) → v ≡ core_error (asks_of f) → fac_of s ≡ result_and v (Ok f)
    unfolding fac_of fac_error asked_of
    fac-core f o v c =
        let p = and-ok (entries_error nothing (entries_of s)) (facilities_of (asked s)) f (sym is ∙ o) in
        let e : core_error (asked s) ≡ v = sym (c ∙ ap (λ (g : Facilities). core_error (asks_of g)) p.1) in
        rw (m, p.0, e, or-else-good v, p.1)
