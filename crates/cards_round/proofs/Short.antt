-- THE WRITTEN ENTRIES OF A FAC CARD ARE NO LONGER than those that were read: each good entry is no longer when it is
-- written again, and no two fill one slot. Assumes nothing.
use Prim.Native.Nat.{ℕ, zero, suc, ◌+◌, ◌-◌, ◌*◌, ◌≤◌, ◌<◌}
use mathlib.Core.Path.{◌≡◌, refl, sym, ap}
use mathlib.Core.Bool.{true, false, cond, ◌&&◌, not}
use mathlib.Core.List.{List, [], ◌∷◌, ◌++◌}
use native.Mathlib.Omega.{arith}
use lib.Dec.{eqb, ltb, leb}
use lib.ListN.{length, get_or, set, length-append, length-drop}
use borrow.Author.Tests.{eqb-true, leb-true, lt-ltb, ltb-true, ltb-false}
use Rattle.numbers.proofs.Tests.{by_bool, never, both}
use Rattle.text.specs.Writing.{decimal_text}
use Rattle.text.specs.Class.{is_digit}
use Rattle.words.specs.Words.{every, same, value}
use Rattle.words.proofs.WordLaws.{same-equal}
use Rattle.cards_fields.proofs.RoundLaws.{total, digits-few}
use Rattle.cards_fac.specs.Fac.{codes, code_text, code_of, channel_text, slash_at, number_text, channel_good, most, number_good, entry_good, slot}
use Rattle.cards_fac.specs.Fac.{slot_of, code_error, form_error, entry_error, entered, entries_error, all_entered, nothing}
use Rattle.cards_fac.specs.Fac.{index_in, last_code}
use Rattle.cards_request.specs.Errors.{error_if}
use Rattle.cards_request.proofs.ErrorLaws.{or_else_none, not_good}
use Rattle.cards_request.specs.declared.CardError.TheVariants.{WrongEntry}
use Rattle.std.specs.Prelude.{Ok}
use Rattle.cards_fac.proofs.EntryLaws.{code-low, channel-low}
use Rattle.cards_writing.specs.Writing.{code_at, channel_at, entry_text, entry_texts}

-- ---- an entry, read and written again

-- the slot of a code and a logical channel gives both back
code-again : (code channel : ℕ) → code ≤ last_code → channel ≤ 15 → code_at (slot code channel) ≡ code
code-again code channel h l =
    by_bool (ltb code 3)
    (λ t. rw (t, t))
    (λ t.
    let n = ltb-false code 3 t in
    rw t (by_bool (ltb (3 + (code - 3) * 16 + channel) 3) (λ u. absurd (omega (arith, ltb-true (3 + (code - 3) * 16 + channel) 3 u)))
    (λ u. rw u (omega arith))))

channel-again : (code channel : ℕ) → channel ≤ 15 → (code < 3 → channel ≡ 0) → channel_at (slot code channel) ≡ channel
channel-again code channel l z =
    by_bool (ltb code 3)
    (λ t. let e = z (ltb-true code 3 t) in rw (t, t) (sym e))
    (λ t. rw t (by_bool (ltb (3 + (code - 3) * 16 + channel) 3) (λ u. absurd (omega (arith, ltb-true (3 + (code - 3) * 16 + channel) 3 u)))
    (λ u. rw u (omega arith))))

-- a known code is as long as its text
code-length : (ks : List (List ℕ)) (c : List ℕ) → index_in ks c < length ks → length (get_or ks (index_in ks c) []) ≡ length c
code-length [] c h = absurd (omega arith)
code-length (k ∷ ks) c h =
    by_bool (same k c) (λ t. rw t (ap length (same-equal k c t))) (λ t. rw t (code-length ks c (less t)))
  where
    less : same k c ≡ false → index_in ks c < length ks
    less t = let g : suc (index_in ks c) < suc (length ks) = rw t at h in omega arith

-- the channel of a good entry, written again; 0 is not written
channel-few : (code : ℕ) (s : List ℕ) → channel_good code s ≡ true → length (cond (eqb (value s) 0) [] (decimal_text (value s))) ≤ length s
channel-few code s g =
    by_bool (eqb (value s) 0)
    (λ e. rw e (omega arith))
    (λ e. rw e (some s g e))
  where
    digits : (t : List ℕ) → channel_good code t ≡ true → every is_digit t ≡ true
    digits t h =
        by_bool (ltb code 3)
        (λ b. none t (eqb-true (length t) 0 (rw b at h)))
        (λ b. (both (every is_digit t) (leb (value t) 15) (both (leb (length t) 2) (every is_digit t && leb (value t) 15) (rw b at h)).1).0)
      where
        none : (u : List ℕ) → length u ≡ 0 → every is_digit u ≡ true
        none [] z = refl
        none (x ∷ u) z = absurd (omega arith)

    some : (t : List ℕ) → channel_good code t ≡ true → eqb (value t) 0 ≡ false → length (decimal_text (value t)) ≤ length t
    some [] h e = never refl e
    some (x ∷ t) h e = digits-few (x ∷ t) (digits (x ∷ t) h) (omega arith)

-- A GOOD ENTRY IS NO LONGER WHEN IT IS WRITTEN AGAIN
module _ (t : List ℕ) (e : form_error t ≡ Ok tt) where
  pub known : code_error t ≡ Ok tt
  unfolding form_error
  known = (or_else_none (code_error t) (error_if (not (entry_good (code_of t) t)) WrongEntry) e).0

  good : entry_good (code_of t) t ≡ true
  unfolding form_error
  good =
      by_bool (entry_good (code_of t) t) (λ g. g)
      (λ g. not_good (rw g at (or_else_none (code_error t) (error_if (not (entry_good (code_of t) t)) WrongEntry) e).1))

  slashed : slash_at t < length t
  slashed =
      ltb-true (slash_at t) (length t)
      (both (ltb (slash_at t) (length t)) (channel_good (code_of t) (channel_text t) && number_good (code_of t) (number_text t)) good).0

  pub channelled : channel_good (code_of t) (channel_text t) ≡ true
  channelled =
      (both (channel_good (code_of t) (channel_text t)) (number_good (code_of t) (number_text t))
      (both (ltb (slash_at t) (length t)) (channel_good (code_of t) (channel_text t) && number_good (code_of t) (number_text t)) good).1).0

  numbered : number_good (code_of t) (number_text t) ≡ true
  numbered =
      (both (channel_good (code_of t) (channel_text t)) (number_good (code_of t) (number_text t))
      (both (ltb (slash_at t) (length t)) (channel_good (code_of t) (channel_text t) && number_good (code_of t) (number_text t)) good).1).1

  -- IB, DB and MD have no channel
  channelless : code_of t < 3 → value (channel_text t) ≡ 0
  channelless h = none (channel_text t) (eqb-true (length (channel_text t)) 0 (rw (lt-ltb (code_of t) 3 h) at channelled))
    where
      none : (s : List ℕ) → length s ≡ 0 → value s ≡ 0
      none [] z = refl
      none (b ∷ s) z = absurd (omega arith)

  number-few : length (decimal_text (value (number_text t))) ≤ length (number_text t)
  number-few = some (number_text t) numbered
    where
      some : (s : List ℕ) → number_good (code_of t) s ≡ true → length (decimal_text (value s)) ≤ length s
      some s g =
          let p = (both (leb (length s) (most (code_of t))) (every is_digit s && leb 1 (value s)) g).1 in
          let q = both (every is_digit s) (leb 1 (value s)) p in
          digits-few s q.0 (long s (leb-true 1 (value s) q.1))
        where
          long : (u : List ℕ) → 1 ≤ value u → 1 ≤ length u
          long [] h = absurd (omega arith)
          long (b ∷ u) h = omega arith

  pub entry-short : length (entry_text (slot_of t) (value (number_text t))) ≤ length t
  unfolding entry_text codes
  entry-short =
      let c = code-again (code_of t) (value (channel_text t)) (code-low t known) (channel-low (code_of t) (channel_text t) channelled) in
      let h = channel-again (code_of t) (value (channel_text t)) (channel-low (code_of t) (channel_text t) channelled) channelless in
      let l = code-length codes (code_text t) (omega (arith, code-low t known)) in
      rw (
        c,
        h,
        length-append (get_or codes (code_of t) [])
            (cond (eqb (value (channel_text t)) 0) [] (decimal_text (value (channel_text t))) ++ (47 ∷ decimal_text (value (number_text t)))),
        length-append (cond (eqb (value (channel_text t)) 0) [] (decimal_text (value (channel_text t)))) (47 ∷ decimal_text (value (number_text t))),
      )
      (omega (arith, l, channel-few (code_of t) (channel_text t) channelled, number-few, slashed, length-drop (slash_at t + 1) t))

-- ---- all entries

-- how many characters the written entries take, from slot k on, each with the comma or period behind it
abbrev weight : ℕ → List ℕ → ℕ
weight k [] = 0
weight k (n ∷ ns) = cond (eqb n 0) 0 (length (entry_text k n) + 1) + weight (suc k) ns

weighed : (k : ℕ) (ns : List ℕ) → total (entry_texts k ns) ≡ weight k ns
weighed k [] = refl
weighed k (n ∷ ns) = by_bool (eqb n 0) (λ e. rw e (omega (arith, weighed (suc k) ns))) (λ e. rw e (omega (arith, weighed (suc k) ns)))

weight-set : (k i v : ℕ) (ns : List ℕ) → weight k (set ns i v) ≤ weight k ns + (length (entry_text (k + i) v) + 1)
weight-set k i v [] = omega arith
weight-set k zero v (n ∷ ns) =
    let e : k + 0 ≡ k = omega arith in
    rw e (by_bool (eqb v 0) (λ t. rw t (omega arith)) (λ t. rw t (omega arith)))
weight-set k (suc i) v (n ∷ ns) =
    let e : k + suc i ≡ suc k + i = omega arith in
    rw e (omega (arith, weight-set (suc k) i v ns))

all_short : (asks : List ℕ) (ts : List (List ℕ)) → entries_error asks ts ≡ Ok tt → weight 0 (all_entered asks ts) ≤ weight 0 asks + total ts
all_short asks [] e = omega arith
all_short asks (t ∷ ts) e =
    let x = or_else_none (entry_error asks t) (entries_error (entered asks t) ts) e in
    let y = or_else_none (form_error t) (error_if (ltb 0 (get_or asks (slot_of t) 0)) WrongEntry) x.0 in
    let w = weight-set 0 (slot_of t) (value (number_text t)) asks in
    let z : 0 + slot_of t ≡ slot_of t = omega arith in
    omega (arith, all_short (entered asks t) ts x.1, rw z at w, entry-short t y.0)

-- THE WRITTEN ENTRIES ARE NO LONGER than those that were read
pub entries-short : (ts : List (List ℕ)) → entries_error nothing ts ≡ Ok tt → total (entry_texts 0 (all_entered nothing ts)) ≤ total ts
entries-short ts e = let z : weight 0 nothing ≡ 0 = refl in omega (arith, weighed 0 (all_entered nothing ts), all_short nothing ts e, z)
