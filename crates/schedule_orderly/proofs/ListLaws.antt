-- What is orderly stays so when an entry is taken out, changes its state, or is put in. Each change is followed along
-- the list. Assumes nothing.
use Prim.Native.Nat.{ℕ, suc, ◌+◌, ◌≤◌, ◌<◌}
use mathlib.Core.Path.{◌≡◌, refl, sym, ap, subst, ◌∙◌}
use mathlib.Core.Bool.{Bool, true, false, cond, ◌||◌}
use mathlib.Core.List.{List, [], ◌∷◌, ◌++◌}
use native.Mathlib.Numerals.{add-one}
use native.Mathlib.Omega.{arith}
use lib.ListN.{length, get_or, take, drop, set, length-map}
use lib.Seq.{set_split, map-set_same}
use Rattle.numbers.proofs.Tests.{never}
use Rattle.numbers.specs.Elements.{any}
use Rattle.numbers.specs.Limits.{most_requests}
use Rattle.words.specs.Words.{same}
use Rattle.words.proofs.WordLaws.{same-equal, same_self}
use Rattle.cards_request.specs.declared.Request.{Request}
use Rattle.schedule_entries.specs.Entries.{key_of, precedes, same_key, is_named, blank}
use Rattle.schedule_entries.specs.declared.State.{State}
use Rattle.schedule_entries.specs.declared.Entry.{Entry}
use Rattle.schedule_list.specs.InSchedule.{removed, set_state, inserted, with_state}
use Rattle.schedule_orderly.specs.Orderly.{Each, Pairs, Unlike, Ahead, requests, Orderly}
use Rattle.schedule_orderly.proofs.OrderLaws.{precedes-on, precedes-other}

-- the one that passes a test taken out
pub each-removed : (P : Request → Type 0) (p : Entry → Bool) (es : List Entry) → Each P (requests es) → Each P (requests (removed p es))
unfolding removed
each-removed P p [] h = h
each-removed P p (e ∷ es) h = by (p e) (each-removed P p es h.1)
  where
    by : (b : Bool) → Each P (requests (removed p es)) → Each P (requests (cond b es (e ∷ removed p es)))
    by true ih = h.1
    by false ih = (h.0, ih)

pairs-removed : (R : Request → Request → Type 0) (p : Entry → Bool) (es : List Entry) → Pairs R (requests es) → Pairs R (requests (removed p es))
unfolding removed
pairs-removed R p [] h = h
pairs-removed R p (e ∷ es) h = by (p e) (pairs-removed R p es h.1)
  where
    by : (b : Bool) → Pairs R (requests (removed p es)) → Pairs R (requests (cond b es (e ∷ removed p es)))
    by true ih = h.1
    by false ih = (each-removed (R e.request) p es h.0, ih)

few-removed : (p : Entry → Bool) (es : List Entry) → length (removed p es) ≤ length es
unfolding removed
few-removed p [] = omega arith
few-removed p (e ∷ es) = by (p e) (few-removed p es)
  where
    by : (b : Bool) → length (removed p es) ≤ length es → length (cond b es (e ∷ removed p es)) ≤ suc (length es)
    by true ih = omega arith
    by false ih = omega arith

pub orderly-removed : (p : Entry → Bool) (es : List Entry) → Orderly es → Orderly (removed p es)
orderly-removed p es o = record {
  names = pairs-removed Unlike p es o.names;
  keys = pairs-removed Ahead p es o.keys;
  few = omega (arith, o.few, few-removed p es);
}

-- another state: the requests are the same
orderly-same : (es fs : List Entry) → requests fs ≡ requests es → Orderly es → Orderly fs
orderly-same es fs m o =
    let n : length fs ≡ length es = sym (length-map fs (λ (f : Entry). f.request)) ∙ ap length m ∙ length-map es (λ (f : Entry). f.request) in
    record {
      names = subst (λ (l : List Request). Pairs Unlike l) (sym m) o.names;
      keys = subst (λ (l : List Request). Pairs Ahead l) (sym m) o.keys;
      few = omega (arith, o.few, n);
    }

pub orderly-state : (k : ℕ) (state : State) (es : List Entry) → k < length es → Orderly es → Orderly (with_state k state es)
unfolding with_state
orderly-state k state es h o =
    let x : Entry = record { request = (get_or es k blank).request; state = state } in
    let e : take k es ++ (x ∷ drop (k + 1) es) ≡ set es k x = rw (add-one k) (sym (set_split es k x h)) in
    orderly-same es (take k es ++ (x ∷ drop (k + 1) es)) (ap requests e ∙ map-set_same (λ (f : Entry). f.request) es k x blank refl) o

state-same : (p : Entry → Bool) (state : State) (es : List Entry) → requests (set_state p state es) ≡ requests es
unfolding set_state
state-same p state [] = refl
state-same p state (e ∷ es) = by (p e) (state-same p state es)
  where
    by : (b : Bool) → requests (set_state p state es) ≡ requests es
        → requests (cond b (record { request = e.request; state = state } ∷ es) (e ∷ set_state p state es)) ≡ e.request ∷ requests es
    by true ih = refl
    by false ih = ap (λ (l : List Request). e.request ∷ l) ih

pub orderly-set : (p : Entry → Bool) (state : State) (es : List Entry) → Orderly es → Orderly (set_state p state es)
orderly-set p state es o = orderly-same es (set_state p state es) (state-same p state es) o

-- a new entry behind those that precede it
pub each-inserted : (P : Request → Type 0) (x : Entry) (es : List Entry) → P x.request → Each P (requests es) → Each P (requests (inserted x es))
unfolding inserted
each-inserted P x [] p h = (p, tt)
each-inserted P x (e ∷ es) p h = by (precedes (key_of e.request) (key_of x.request)) (each-inserted P x es p h.1)
  where
    by : (b : Bool) → Each P (requests (inserted x es)) → Each P (requests (cond b (e ∷ inserted x es) (x ∷ e ∷ es)))
    by true ih = (h.0, ih)
    by false ih = (p, h)

each_on : (P Q : Request → Type 0) → ((r : Request) → P r → Q r) → (rs : List Request) → Each P rs → Each Q rs
each_on P Q f [] h = tt
each_on P Q f (r ∷ rs) h = (f r h.0, each_on P Q f rs h.1)

few-inserted : (x : Entry) (es : List Entry) → length (inserted x es) ≡ suc (length es)
unfolding inserted
few-inserted x [] = refl
few-inserted x (e ∷ es) = by (precedes (key_of e.request) (key_of x.request)) (few-inserted x es)
  where
    by : (b : Bool) → length (inserted x es) ≡ suc (length es) → length (cond b (e ∷ inserted x es) (x ∷ e ∷ es)) ≡ suc (suc (length es))
    by true ih = ap suc ih
    by false ih = refl

names-inserted : (x : Entry) (es : List Entry) → Each (Unlike x.request) (requests es) → Pairs Unlike (requests es)
    → Pairs Unlike (requests (inserted x es))
unfolding inserted
names-inserted x [] n h = (tt, tt)
names-inserted x (e ∷ es) n h = by (precedes (key_of e.request) (key_of x.request)) (names-inserted x es n.1 h.1)
  where
    by : (b : Bool) → Pairs Unlike (requests (inserted x es)) → Pairs Unlike (requests (cond b (e ∷ inserted x es) (x ∷ e ∷ es)))
    by true ih = (each-inserted (Unlike e.request) x es (λ i. n.0 (sym i)) h.0, ih)
    by false ih = (n, h)

keys-inserted : (x : Entry) (es : List Entry) → Each (λ r. same_key (key_of r) (key_of x.request) ≡ false) (requests es)
    → Pairs Ahead (requests es) → Pairs Ahead (requests (inserted x es))
unfolding inserted
keys-inserted x [] n h = (tt, tt)
keys-inserted x (e ∷ es) n h = by (precedes (key_of e.request) (key_of x.request)) refl (keys-inserted x es n.1 h.1)
  where
    by : (b : Bool) → precedes (key_of e.request) (key_of x.request) ≡ b → Pairs Ahead (requests (inserted x es))
        → Pairs Ahead (requests (cond b (e ∷ inserted x es) (x ∷ e ∷ es)))
    by true p ih = (each-inserted (Ahead e.request) x es p h.0, ih)
    by false p ih =
        let q : Ahead x.request e.request = precedes-other (key_of e.request) (key_of x.request) p n.0 in (
          (
            q,
            each_on (Ahead e.request) (Ahead x.request) (λ r i. precedes-on (key_of x.request) (key_of e.request) (key_of r) q i)
                (requests es) h.0,
          ),
          h,
        )

pub orderly-inserted : (x : Entry) (es : List Entry) → Each (Unlike x.request) (requests es)
    → Each (λ r. same_key (key_of r) (key_of x.request) ≡ false) (requests es) → length es < most_requests
    → Orderly es → Orderly (inserted x es)
orderly-inserted x es n k m o = record {
  names = names-inserted x es n o.names;
  keys = keys-inserted x es k o.keys;
  few = omega (arith, few-inserted x es);
}

-- where no entry has the key, each has another
pub none-same : (r : Request) (es : List Entry) → any (λ e. same_key (key_of e.request) (key_of r)) es ≡ false
    → Each (λ q. same_key (key_of q) (key_of r) ≡ false) (requests es)
none-same r [] h = tt
none-same r (e ∷ es) h = by (same_key (key_of e.request) (key_of r)) refl h (none-same r es)
  where
    by : (b : Bool) → same_key (key_of e.request) (key_of r) ≡ b → b || any (λ e. same_key (key_of e.request) (key_of r)) es ≡ false
        → (any (λ e. same_key (key_of e.request) (key_of r)) es ≡ false → Each (λ q. same_key (key_of q) (key_of r) ≡ false) (requests es))
        → Each (λ q. same_key (key_of q) (key_of r) ≡ false) (requests (e ∷ es))
    by true i h ih = never refl h
    by false i h ih = (i, ih h)

-- with the one of an ID taken out no entry has the ID
unlike : (r : Request) (e : Entry) → same e.request.id r.id ≡ false → Unlike r e.request
unlike r e n i = never (subst (λ (x : List ℕ). same x r.id ≡ true) i (same_self r.id)) n

pub none_named : (r : Request) (es : List Entry) → Pairs Unlike (requests es) → Each (Unlike r) (requests (removed (is_named r.id) es))
unfolding removed
none_named r [] h = tt
none_named r (e ∷ es) h = by (same e.request.id r.id) refl (none_named r es h.1)
  where
    by : (b : Bool) → same e.request.id r.id ≡ b → Each (Unlike r) (requests (removed (is_named r.id) es))
        → Each (Unlike r) (requests (cond b es (e ∷ removed (is_named r.id) es)))
    by true i ih =
        let q : e.request.id ≡ r.id = same-equal e.request.id r.id i in
        each_on (Unlike e.request) (Unlike r) (λ p n j. n (q ∙ j)) (requests es) h.0
    by false i ih = (unlike r e i, ih)
