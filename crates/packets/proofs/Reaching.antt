-- THE LAWS OF HISTORIES: the one induction over the calls of a history, histories one after the other, and what is so
-- of each accepted call. Assumes nothing.
use Rattle.std.proofs.Common.{Err, None, Ok, Some}
use Prim.Native.Nat.{ℕ}
use mathlib.Core.Path.{◌≡◌, refl, sym, ap, subst, ◌∙◌}
use mathlib.Core.Bool.{true, false}
use mathlib.Core.List.{List, [], ◌∷◌, ◌++◌, append_assoc, append-nil, map}
use mathlib.Core.Option.{Option, none, some}
use Rattle.numbers.proofs.Tests.{never}
use Rattle.units.specs.declared.Unit.{Unit as UnitState}
use Rattle.channels.specs.declared.Channel.{Channel}
use Rattle.packets.specs.History.{Along, Begins, Event, Leads, NoneHeld, Reached, fresh, is_accepted}
use Rattle.numbers.specs.Elements.{find}
use Rattle.packets.specs.Rules.{Answered, Call, Do, Take, accept, answer, begins, completes, decided, refusal, startable, step}
use Rattle.packets.specs.State.{State, motion_on}
use Rattle.packets.specs.declared.Act.TheVariants as Act'
use Rattle.packets.specs.declared.Answer.{Answer}
use Rattle.packets.specs.State.{Motion}
use Rattle.packets.specs.State.{Verdict}

-- a call in a state, with its answer
abbrev pub event : State → Call → Event
event s x = record { call = x; answer = (step s x).answer }

-- ---- histories one after the other

pub leads-append : (s : State) (l : List Event) (t : State) (m : List Event) (u : State) → Leads s l t → Leads t m u → Leads s (l ++ m) u
leads-append s [] t m u h k = rw h at k
leads-append s (e ∷ l) t m u h k = (h.0, leads-append (step s e.call).state l t m u h.1 k)

-- the state between them
pub leads-split : (s : State) (l m : List Event) (u : State) → Leads s (l ++ m) u → (t : State) × Leads s l t × Leads t m u
leads-split s [] m u h = (s, refl, h)
leads-split s (e ∷ l) m u h = let k = leads-split (step s e.call).state l m u h.1 in (k.0, (h.0, k.1), k.2)

-- the same calls from the same state lead to one state
pub leads-once : (s : State) (l : List Event) (t u : State) → Leads s l t → Leads s l u → t ≡ u
leads-once s [] t u h k = h ∙ sym k
leads-once s (e ∷ l) t u h k = leads-once (step s e.call).state l t u h.1 k.1

-- any calls are those of a history, from any state
pub any-calls : (s : State) (calls : List Call) → (l : List Event) × (t : State) × Leads s l t × (map (λ (e : Event). e.call) l ≡ calls)
any-calls s [] = ([], s, refl, refl)
any-calls s (x ∷ calls) =
    let k = any-calls (step s x).state calls in
    (event s x ∷ k.0, k.1, (refl, k.2), ap (λ (m : List Call). x ∷ m) k.3)

-- one call more
pub leads-more : (s : State) (l : List Event) (t : State) → Leads s l t → (x : Call) → Leads s (l ++ (event t x ∷ [])) (step t x).state
leads-more s l t h x = leads-append s l t (event t x ∷ []) (step t x).state h (refl, refl)

-- where a history begins, it has reached
pub reached-first : (s : State) → Begins s → Reached [] s
reached-first s b = record { from = s; begins = b; leads = refl }

pub reached-append : (l : List Event) (s : State) → Reached l s → (m : List Event) (t : State) → Leads s m t → Reached (l ++ m) t
reached-append l s r m t h = record { from = r.from; begins = r.begins; leads = leads-append r.from l s m t r.leads h }

pub reached-more : (l : List Event) (s : State) → Reached l s → (x : Call) → Reached (l ++ (event s x ∷ [])) (step s x).state
reached-more l s r x = reached-append l s r (event s x ∷ []) (step s x).state (refl, refl)

-- ---- THE INDUCTION

-- what is so of a state without calls, and after each call if it was so before it, is so of all that calls lead to from
-- there. It may speak of the calls and their answers so far
pub by-calls : (from : State) (P : List Event → State → Type 0) → P [] from
    → ((l : List Event) (s : State) → Leads from l s → P l s → (x : Call) → P (l ++ (event s x ∷ [])) (step s x).state)
    → (l : List Event) (s : State) → Leads from l s → P l s
by-calls from P first more l s h = go [] from refl first l s h
  where
    go : (m : List Event) (t : State) → Leads from m t → P m t → (l : List Event) (s : State) → Leads t l s → P (m ++ l) s
    go m t d p [] s h = subst (λ (k : List Event). P k s) (sym (append-nil m)) (rw h p)
    go m t d p (e ∷ l) s h =
        let x = e.call in
        let is : event t x ≡ e = ap (λ (a : Answer). record { call = x; answer = a }) (sym h.0) in
        let t' = (step t x).state in
        let d' : Leads from (m ++ (e ∷ [])) t' = subst (λ (k : Event). Leads from (m ++ (k ∷ [])) t') is (leads-more from m t d x) in
        let p' : P (m ++ (e ∷ [])) t' = subst (λ (k : Event). P (m ++ (k ∷ [])) t') is (more m t d p x) in
        subst (λ (k : List Event). P k s) (append_assoc m (e ∷ []) l) (go (m ++ (e ∷ [])) t' d' p' l s h.1)

-- a refused call changes nothing
pub by-verdict : (P : State → Type 0) (s : State) → P s → (x : Call) → (refusal s x ≡ Ok tt → P (accept s x)) → P (step s x).state
by-verdict P s p x f = unfold step in go (refusal s x) refl
  where
    go : (v : Verdict) → refusal s x ≡ v → P (decided s x v).state
    go (Ok u) e = f e
    go (Err n) e = p

-- WHAT IS SO OF EVERY REACHED STATE: what is so where a history begins, and is kept by each accepted call
pub by-history : (P : State → Type 0) → ((s : State) → Begins s → P s)
    → ((l : List Event) (s : State) → Reached l s → P s → (x : Call) → refusal s x ≡ Ok tt → P (accept s x))
    → (l : List Event) (s : State) → Reached l s → P s
by-history P first more l s r =
    by-calls r.from (λ (m : List Event) (t : State). P t) (first r.from r.begins)
    (λ m t d p x. by-verdict P t p x (more m t (record { from = r.from; begins = r.begins; leads = d }) p x)) l s r.leads

-- it is so where a history begins if it is so of a fresh cell
pub of-fresh : (P : State → Type 0)
    → ((channels : List Channel) (codes : ℕ) (units : List (List UnitState)) → NoneHeld units → P (fresh channels codes units))
    → (s : State) → Begins s → P s
of-fresh P f s b = subst P (sym b.is) (f b.channels b.codes b.units b.none)

-- ---- accepted calls

pub step-accepted : (s : State) (x : Call) → refusal s x ≡ Ok tt → step s x ≡ record { answer = answer s x; state = accept s x }
unfolding step
step-accepted s x e = ap (decided s x) e

-- only a granted call is answered so
pub accepted-granted : (s : State) (x : Call) → is_accepted (step s x).answer ≡ true → refusal s x ≡ Ok tt
accepted-granted s x h = go (refusal s x) refl (unfold step in h)
  where
    go : (v : Verdict) → refusal s x ≡ v → is_accepted (decided s x v).answer ≡ true → refusal s x ≡ Ok tt
    go (Ok u) e a = e
    go (Err n) e a = never {b = false} a refl

answers-accepted : (s : State) (x : Call) → is_accepted (answer s x) ≡ true
unfolding answer
answers-accepted s (Take j asg) = refl
answers-accepted s (Do (Act'.Submit j p f c w)) = refl
answers-accepted s (Do (Act'.Start c)) = go (find (startable s c.0) s.queue)
  where
    go : (o : Option ℕ) → is_accepted (begins s o) ≡ true
    go none = refl
    go (some e) = refl
answers-accepted s (Do (Act'.Complete c how)) = go (motion_on s c.0)
  where
    go : (m : Motion) → is_accepted (completes s c.0 how m) ≡ true
    go None = refl
    go (Some (j, p)) = refl
answers-accepted s (Do (Act'.End j e)) = refl
answers-accepted s (Do (Act'.Return j c u)) = refl
answers-accepted s (Do (Act'.Mark c u m on)) = refl

pub granted-accepted : (s : State) (x : Call) → refusal s x ≡ Ok tt → is_accepted (step s x).answer ≡ true
granted-accepted s x e = ap (λ (a : Answered). is_accepted a.answer) (step-accepted s x e) ∙ answers-accepted s x

-- ---- along a history

-- what is so of each accepted call in a reached state is so along every history from a reached state
pub along : (P : State → Call → State → Type 0)
    → ((l : List Event) (s : State) (x : Call) → Reached l s → refusal s x ≡ Ok tt → P s x (accept s x))
    → (l : List Event) (s : State) → Reached l s → (m : List Event) (t : State) → Leads s m t → Along P s m
along P f l s r [] t h = tt
along P f l s r (e ∷ m) t h = (now, along P f (l ++ (event s x ∷ [])) (step s x).state (reached-more l s r x) m t h.1)
  where
    x : Call
    x = e.call

    now : is_accepted e.answer ≡ true → P s x (step s x).state
    now a =
        let g : refusal s x ≡ Ok tt = accepted-granted s x (sym (ap is_accepted h.0) ∙ a) in
        subst (P s x) (sym (ap (λ (y : Answered). y.state) (step-accepted s x g))) (f l s x r g)

pub along-append : (P : State → Call → State → Type 0) (s : State) (l : List Event) (t : State) (m : List Event) → Leads s l t
    → Along P s l → Along P t m → Along P s (l ++ m)
along-append P s [] t m h a b = rw h at b
along-append P s (e ∷ l) t m h a b = (a.0, along-append P (step s e.call).state l t m h.1 a.1 b)

pub along-split : (P : State → Call → State → Type 0) (s : State) (l : List Event) (t : State) (m : List Event) → Leads s l t
    → Along P s (l ++ m) → Along P s l × Along P t m
along-split P s [] t m h a = (tt, rw h a)
along-split P s (e ∷ l) t m h a = let k = along-split P (step s e.call).state l t m h.1 a.1 in ((a.0, k.0), k.1)
