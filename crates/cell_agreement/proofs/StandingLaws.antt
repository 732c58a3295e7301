-- What becomes of the states of the requests in a place as a request is taken out of the list, put into it, or
-- changes its state: the list is parted before and behind that request, and what stands there is as it was. Assumes
-- nothing.
use Prim.Native.Nat.{ℕ, suc, ◌≤◌, ◌<◌}
use mathlib.Core.Path.{◌≡◌, refl, sym, ap, ◌∙◌}
use mathlib.Core.Bool.{true, false, cond, not}
use mathlib.Core.List.{List, [], ◌∷◌, ◌++◌, append-nil}
use native.Mathlib.Numerals.{add-one}
use native.Mathlib.Omega.{arith}
use lib.Dec.{eqb, ltb}
use lib.ListN.{length, get_or, take, drop, length-append, take-append-drop, drop_of_length-le}
use lib.Seq.{drop-cons, take_all}
use borrow.Author.Tests.{eqb-true, eqb-false, ne_eqb, ltb-true, ltb-false}
use Rattle.numbers.proofs.Tests.{by_bool}
use Rattle.schedule_entries.specs.Entries.{blank, in_place, key_of, precedes}
use Rattle.schedule_entries.specs.declared.Entry.{Entry}
use Rattle.schedule_entries.specs.declared.State.{State}
use Rattle.schedule_entries.specs.declared.State.TheVariants.{Closing, Running, Suspended, Waiting}
use Rattle.schedule_list.specs.InSchedule.{entry_at, inserted, with_state}
use Rattle.schedule_list.proofs.IndexLaws.{inserted-at}
use Rattle.schedule_list.specs.Queries.{first, spliced, without}
use Rattle.schedule.specs.ByIndex.{of_job}
use Rattle.cell_agreement.specs.Agreement.{states_in}

-- ---- lists

empty_of : {A : Type 0} (l : List A) → length l ≡ 0 → l ≡ []
empty_of [] e = refl
empty_of (x ∷ l) e = absurd (omega arith)

none_of_two : {A : Type 0} (a b : List A) → a ++ b ≡ [] → (a ≡ []) × (b ≡ [])
none_of_two a b e =
    let n : length (a ++ b) ≡ 0 = ap length e in
    (empty_of a (omega (arith, n, length-append a b)), empty_of b (omega (arith, n, length-append a b)))

none_beside : {A : Type 0} (a b : List A) (x y : A) → a ++ (x ∷ b) ≡ y ∷ [] → (a ≡ []) × (b ≡ [])
none_beside a b x y e =
    let n : length (a ++ (x ∷ b)) ≡ 1 = ap length e in
    (empty_of a (omega (arith, n, length-append a (x ∷ b))), empty_of b (omega (arith, n, length-append a (x ∷ b))))

parted : (k : ℕ) (es : List Entry) → k < length es → es ≡ take k es ++ (entry_at es k ∷ drop (suc k) es)
parted k es h = sym (take-append-drop k es) ∙ ap (λ (l : List Entry). take k es ++ l) (drop-cons es k blank h)

past : (k : ℕ) (es : List Entry) → length es ≤ k → take k es ++ drop (suc k) es ≡ es
past k es h = let g : length es ≤ suc k = omega arith in rw (drop_of_length-le es g, take_all k es h) (append-nil es)

-- ---- a place

-- a request is in one place only
pub in_one : (i j : ℕ) (x : State) → eqb i j ≡ false → in_place j x ≡ true → in_place i x ≡ false
in_one i j Waiting d e = refl
in_one i j Suspended d e = refl
in_one i j (Running p) d e = ne_eqb p i (λ q. eqb-false i j d (sym q ∙ eqb-true p j e))
in_one i j (Closing p) d e = ne_eqb p i (λ q. eqb-false i j d (sym q ∙ eqb-true p j e))

module _ (j : ℕ) where
  -- the part of one request
  abbrev pub part : State → List State
  part x = cond (in_place j x) (x ∷ []) []

  states-cons : (e : Entry) (es : List Entry) → states_in j (e ∷ es) ≡ part e.state ++ states_in j es
  states-cons e es = by_bool (in_place j e.state) (λ t. rw t) (λ t. rw t)

  states-append : (head rest : List Entry) → states_in j (head ++ rest) ≡ states_in j head ++ states_in j rest
  states-append [] rest = refl
  states-append (e ∷ head) rest = by_bool (in_place j e.state) (λ t. rw (t, states-append head rest)) (λ t. rw (t, states-append head rest))

  states-beside : (e : Entry) (head rest : List Entry) → states_in j (head ++ (e ∷ rest)) ≡ states_in j head ++ (part e.state ++ states_in j rest)
  states-beside e head rest = states-append head (e ∷ rest) ∙ ap (λ (l : List State). states_in j head ++ l) (states-cons e rest)

  -- an entry that is not in the place
  states-apart : (e : Entry) (head rest : List Entry) → in_place j e.state ≡ false → states_in j (head ++ (e ∷ rest)) ≡ states_in j (head ++ rest)
  states-apart e head rest n = states-beside e head rest ∙ rw n (sym (states-append head rest))

  -- ---- what stands before and behind the request at k

  abbrev before : ℕ → List Entry → List State
  before k es = states_in j (take k es)

  abbrev behind : ℕ → List Entry → List State
  behind k es = states_in j (drop (suc k) es)

  as-parted : (k : ℕ) (es : List Entry) → k < length es → states_in j es ≡ before k es ++ (part (entry_at es k).state ++ behind k es)
  as-parted k es h = ap (states_in j) (parted k es h) ∙ states-beside (entry_at es k) (take k es) (drop (suc k) es)

  as-changed : (k : ℕ) (x : State) (es : List Entry) → states_in j (with_state k x es) ≡ before k es ++ (part x ++ behind k es)
  unfolding with_state
  as-changed k x es = rw (add-one k) (states-beside (record { request = (entry_at es k).request; state = x }) (take k es) (drop (suc k) es))

  as-without : (k : ℕ) (es : List Entry) → states_in j (without k es) ≡ before k es ++ behind k es
  unfolding without
  as-without k es = rw (add-one k) (states-append (take k es) (drop (suc k) es))

  -- ---- A REQUEST THAT IS NOT IN THE PLACE: taken out, put in, changed

  pub without-apart : (k : ℕ) (es : List Entry) → in_place j (entry_at es k).state ≡ false → states_in j (without k es) ≡ states_in j es
  without-apart k es n =
      by_bool (ltb k (length es))
      (λ t. as-without k es ∙ sym (as-parted k es (ltb-true k (length es) t) ∙ rw n))
      (λ t. out (ltb-false k (length es) t))
    where
      out : length es ≤ k → states_in j (without k es) ≡ states_in j es
      out h = unfold without in rw (add-one k) (ap (states_in j) (past k es h))

  pub inserted-apart : (e : Entry) (es : List Entry) → in_place j e.state ≡ false → states_in j (inserted e es) ≡ states_in j es
  unfolding spliced
  inserted-apart e es n =
      let k = first (λ f. not (precedes (key_of f.request) (key_of e.request))) es in
      ap (states_in j) (inserted-at e es) ∙ states-apart e (take k es) (drop k es) n ∙ ap (states_in j) (take-append-drop k es)

  pub changed-apart : (k : ℕ) (x : State) (es : List Entry) → k < length es → in_place j (entry_at es k).state ≡ false → in_place j x ≡ false
      → states_in j (with_state k x es) ≡ states_in j es
  changed-apart k x es h n m = as-changed k x es ∙ rw m (sym (as-parted k es h ∙ rw n))

  -- ---- A REQUEST THAT COMES INTO THE PLACE, where there was none

  pub changed-into : (k : ℕ) (x : State) (es : List Entry) → k < length es → in_place j (entry_at es k).state ≡ false → states_in j es ≡ []
      → states_in j (with_state k x es) ≡ part x ++ []
  changed-into k x es h n e =
      let two = none_of_two (before k es) (behind k es) (rw n at (sym (as-parted k es h) ∙ e)) in
      as-changed k x es ∙ rw (two.0, two.1)

  -- ---- THE ONE REQUEST IN THE PLACE: changed, taken out

  alone : (k : ℕ) (y : State) (es : List Entry) → k < length es → in_place j (entry_at es k).state ≡ true → states_in j es ≡ y ∷ []
      → (before k es ≡ []) × (behind k es ≡ [])
  alone k y es h i e = none_beside (before k es) (behind k es) (entry_at es k).state y (rw i at (sym (as-parted k es h) ∙ e))

  pub changed-alone : (k : ℕ) (x y : State) (es : List Entry) → k < length es → in_place j (entry_at es k).state ≡ true → states_in j es ≡ y ∷ []
      → states_in j (with_state k x es) ≡ part x ++ []
  changed-alone k x y es h i e = let two = alone k y es h i e in as-changed k x es ∙ rw (two.0, two.1)

  pub without-alone : (k : ℕ) (y : State) (es : List Entry) → k < length es → in_place j (entry_at es k).state ≡ true → states_in j es ≡ y ∷ []
      → states_in j (without k es) ≡ []
  without-alone k y es h i e = let two = alone k y es h i e in as-without k es ∙ rw (two.0, two.1)

  -- a request in the place is the one, if one is there
  pub is-alone : (k : ℕ) (y : State) (es : List Entry) → k < length es → in_place j (entry_at es k).state ≡ true → states_in j es ≡ y ∷ []
      → (entry_at es k).state ≡ y
  is-alone k y es h i e =
      let two = alone k y es h i e in
      let one : states_in j es ≡ (entry_at es k).state ∷ [] = as-parted k es h ∙ rw (two.0, two.1, i) in
      ap (λ (l : List State). get_or l 0 y) (sym one ∙ e)

  -- and there is one, if a request is there
  pub not_none : (k : ℕ) (es : List Entry) → k < length es → in_place j (entry_at es k).state ≡ true → states_in j es ≡ [] → ⊥
  not_none k es h i e =
      let x = (entry_at es k).state in
      let l : before k es ++ (x ∷ behind k es) ≡ [] = rw i at (sym (as-parted k es h) ∙ e) in
      let n : length (before k es ++ (x ∷ behind k es)) ≡ 0 = ap length l in
      omega (arith, n, length-append (before k es) (x ∷ behind k es))

  -- ---- where the first of the place stands

  pub first-there : (y : State) (l : List State) (es : List Entry) → states_in j es ≡ y ∷ l
      → (of_job j es < length es) × (in_place j (entry_at es (of_job j es)).state ≡ true)
  first-there y l [] e = absurd (let z : ◌≡◌ {A = ℕ} 0 (suc (length l)) = ap length e in omega arith)
  first-there y l (e ∷ es) h =
      by_bool (in_place j e.state)
      (λ t. rw t (omega arith, t))
      (λ t. let r = first-there y l es (rw t at h) in rw t (omega (arith, r.0), r.1))
