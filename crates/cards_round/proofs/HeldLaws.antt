-- WHAT IS HELD TELLS THE FURTHER CARDS: the text of a card tells what it means, and the texts that are held are those
-- that were held. Assumes nothing.
use Prim.Native.Nat.{ℕ, zero, suc, ◌≤◌, min}
use mathlib.Core.Path.{◌≡◌, refl, sym, ap, ◌∙◌}
use mathlib.Core.List.{List, [], ◌∷◌}
use mathlib.Core.Option.{Option}
use native.Mathlib.Omega.{arith}
use lib.ListN.{length, take, drop, get_or}
use Rattle.numbers.specs.Limits.{most_further, text_length}
use Rattle.cards_fields.proofs.FieldLaws.{text_of}
use Rattle.cards_request.specs.Requests.{texts_in, texts}
use Rattle.cards_tal.specs.Increments.{tal_of}
use Rattle.cards_tal.proofs.TalRound.{tal-once}
use Rattle.cards_trn.specs.Transfers.{trn_of}
use Rattle.cards_trn.proofs.TrnReadBack.{trn-once}
use Rattle.cards_pm.proofs.PmReadBack.{sheet-one}
use Rattle.cards_further.specs.Further.{held_in, held}
use Rattle.cards_round.specs.AllowedFurther.{Card, tal, trn, pm, text_in, texts_of, Proper, AllProper, Kept}
use Rattle.cards_round.proofs.FurtherRound.{AllFew}

-- the text of a card tells the card
pub text-once : (m n : Card) → Proper m → Proper n → text_in m ≡ text_in n → m ≡ n
unfolding tal_of trn_of
text-once (tal is) (tal js) p q e = ap tal (tal-once is js p.1 q.1 e)
text-once (tal is) (trn c ts) p q e = absurd (let z : 65 ≡ 82 = ap (λ (l : List ℕ). get_or l 1 0) e in omega arith)
text-once (tal is) (pm s) p q e = absurd (let z : 84 ≡ 80 = ap (λ (l : List ℕ). get_or l 0 0) e in omega arith)
text-once (trn c ts) (tal is) p q e = absurd (let z : 82 ≡ 65 = ap (λ (l : List ℕ). get_or l 1 0) e in omega arith)
text-once (trn c ts) (trn d us) p q e = let w = trn-once c d ts us p q e in ap (λ (x : Option ℕ). trn x ts) w.0 ∙ ap (trn d) w.1
text-once (trn c ts) (pm s) p q e = absurd (let z : 84 ≡ 80 = ap (λ (l : List ℕ). get_or l 0 0) e in omega arith)
text-once (pm s) (tal is) p q e = absurd (let z : 80 ≡ 84 = ap (λ (l : List ℕ). get_or l 0 0) e in omega arith)
text-once (pm s) (trn c ts) p q e = absurd (let z : 80 ≡ 84 = ap (λ (l : List ℕ). get_or l 0 0) e in omega arith)
text-once (pm s) (pm t) p q e = ap pm (sheet-one s t e)

pub texts-once : (ms ns : List Card) → AllProper ms → AllProper ns → texts_of ms ≡ texts_of ns → ms ≡ ns
texts-once [] [] p q e = refl
texts-once [] (n ∷ ns) p q e = absurd (let z : 0 ≡ suc (length (texts_of ns)) = ap (length {A = List ℕ}) e in omega arith)
texts-once (m ∷ ms) [] p q e = absurd (let z : suc (length (texts_of ms)) ≡ 0 = ap (length {A = List ℕ}) e in omega arith)
texts-once (m ∷ ms) (n ∷ ns) p q e =
    let a = text-once m n p.0.0 q.0.0 (ap (λ (l : List (List ℕ)). get_or l 0 []) e) in
    let b = texts-once ms ns p.1 q.1 (ap (λ (l : List (List ℕ)). drop 1 l) e) in
    cc

-- the texts that were held
held-texts : (n : ℕ) (ts : List (List ℕ)) → length ts ≤ n → AllFew ts → texts_in (take (length ts) (held_in n ts)) ≡ ts
held-texts zero [] h f = refl
held-texts (suc n) [] h f = refl
held-texts zero (t ∷ ts) h f = absurd (omega arith)
held-texts (suc n) (t ∷ ts) h f =
    let m : min (length t) text_length ≡ length t = omega (arith, f.0) in
    rw (m, text_of text_length t f.0, held-texts n ts (omega arith) f.1)

pub texts-back : (ts : List (List ℕ)) → length ts ≤ most_further → AllFew ts → texts (held ts) ≡ ts
unfolding held
texts-back ts h f =
    let m : min (length ts) most_further ≡ length ts = omega arith in
    rw m (held-texts most_further ts h f)

pub kept-few : (ms : List Card) → AllProper ms → AllFew (texts_of ms)
kept-few [] p = tt
kept-few (m ∷ ms) p = (p.0.1, kept-few ms p.1)

pub texts-many : (ms : List Card) → length (texts_of ms) ≡ length ms
texts-many [] = refl
texts-many (m ∷ ms) = ap suc (texts-many ms)

pub kept-texts : (ms : List Card) → Kept ms → texts (held (texts_of ms)) ≡ texts_of ms
kept-texts ms k = texts-back (texts_of ms) (omega (arith, k.few, texts-many ms)) (kept-few ms k.each)

-- TWO LISTS OF CARDS THAT KEEP THE RULES AND ARE HELD ALIKE ARE THE SAME
pub held-once : (ms ns : List Card) → Kept ms → Kept ns → held (texts_of ms) ≡ held (texts_of ns) → ms ≡ ns
held-once ms ns k l e = texts-once ms ns k.each l.each (sym (kept-texts ms k) ∙ ap texts e ∙ kept-texts ns l)
