-- The further cards from a position on, one card further: what the walks over them keep; and the errors by the tests that
-- the code makes. Assumes nothing.
use Prim.Native.Nat.{ℕ, zero, suc, ◌+◌, ◌-◌, ◌≤◌, min}
use mathlib.Core.Path.{◌≡◌, refl, sym, ap, ◌∙◌}
use mathlib.Core.Bool.{Bool, true, false, beq, cond, ◌&&◌, ◌||◌, not}
use mathlib.Core.List.{List, [], ◌∷◌, ◌++◌, append_assoc, append-nil}
use native.Mathlib.Omega.{arith}
use lib.ListN.{length, drop, take, set, replicate, length-append, length-drop, length-replicate}
use lib.Seq.{sets}
use lib.Dec.{eqb, ltb}
use borrow.Author.Tests.{eqb-true, eqb-false, le-leb, lt-leb, ltb-true, ltb-false}
use Rattle.numbers.proofs.Tests.{both, by_bool, never}
use Rattle.numbers.specs.Elements.{any}
use Rattle.numbers.specs.Limits.{most_further, text_length}
use Rattle.text.specs.Room.{Written}
use Rattle.cards_fields.specs.Fields.{padded}
use Rattle.cards_fields.proofs.FieldLaws.{rest-is, set-padded}
use Rattle.words.specs.Words.{isnt}
use Rattle.words.specs.Lines.{line_of, lines_of}
use Rattle.words.proofs.WordLaws.{leading-most}
use Rattle.words.proofs.LineLaws.{no_line, first-line}
use Rattle.cards_fields.specs.Deck.{cards_of}
use Rattle.std.specs.Prelude.{Ok, Err}
use Rattle.cards_request.specs.declared.CardError.{CardError}
use Rattle.cards_request.specs.Requests.{no_card}
use Rattle.cards_pm.specs.Pm.{is_pm, digit_of, rising}
use Rattle.cards_trn.specs.Trn.{is_trn, has_count}
use Rattle.cards_request.specs.Errors.{CardVerdict}
use Rattle.cards_request.specs.declared.FurtherCard.{FurtherCard}
use Rattle.cards_request.specs.declared.Further.{Further}
use Rattle.cards_further.specs.Together.{past}
use Rattle.cards_further.specs.Further.{content_error, contents_error, held_card, held_in, held}

-- two answers differ, or do not
pub differ : (a b : Bool) → not (beq a b) ≡ true → a ≡ b → ⊥
differ true true h e = never h refl
differ true false h e = never refl e
differ false true h e = never e refl
differ false false h e = never h refl

pub agree : (a b : Bool) → not (beq a b) ≡ false → a ≡ b
agree true true h = refl
agree true false h = never refl h
agree false true h = never refl h
agree false false h = refl

-- a list by its first card, kept or passed
module _ {A : Type 0} (p : A → Bool) (c : A) (cs : List A) where
  pub past-stays : (want : Bool) → (p c ≡ want → ⊥) → past want p (c ∷ cs) ≡ c ∷ cs
  past-stays true n = by_bool (p c) (λ e. absurd (n e)) (λ e. rw e)
  past-stays false n = by_bool (p c) (λ e. rw e) (λ e. absurd (n e))

  pub past-goes : (want : Bool) → p c ≡ want → past want p (c ∷ cs) ≡ past want p cs
  past-goes true e = rw e
  past-goes false e = rw e

-- one is of a kind exactly if those in front that are not are not all
pub any-past : {A : Type 0} (p : A → Bool) (cs : List A) → past false p cs ≡ [] → any p cs ≡ false
any-past p [] e = refl
any-past p (c ∷ cs) e = by_bool (p c) (λ t. let x : c ∷ cs ≡ [] = rw t at e in absurd (cons-nil x)) (λ t. rw t (any-past p cs (rw t at e)))
  where
    cons-nil : c ∷ cs ≡ [] → ⊥
    cons-nil x = let z : suc (length cs) ≡ 0 = ap length x in omega arith

pub any_some : {A : Type 0} (p : A → Bool) (cs : List A) (d : A) (ds : List A) → past false p cs ≡ d ∷ ds → any p cs ≡ true
any_some p [] d ds e = absurd (let z : 0 ≡ suc (length ds) = ap length e in omega arith)
any_some p (c ∷ cs) d ds e = by_bool (p c) (λ t. rw t) (λ t. rw t (any_some p cs d ds (rw t at e)))

-- the digits of PM cards
module _ (least : ℕ) (c : List ℕ) (cs : List (List ℕ)) where
  pub rising-low : (is_pm c && ltb (digit_of c) least) ≡ true → rising least (c ∷ cs) ≡ false
  rising-low e =
      let q = both (is_pm c) (ltb (digit_of c) least) e in
      rw (q.0, lt-leb least (digit_of c) (ltb-true (digit_of c) least q.1))

  pub rising-on : (is_pm c && ltb (digit_of c) least) ≡ false → rising least (c ∷ cs) ≡ rising (cond (is_pm c) (digit_of c + 1) least) cs
  rising-on e =
      by_bool (is_pm c)
      (λ t.
      let l : ltb (digit_of c) least ≡ false = rw t at e in
      let k : digit_of c + 1 ≡ suc (digit_of c) = omega arith in
      rw (t, le-leb least (digit_of c) (ltb-false (digit_of c) least l), k))
      (λ t. rw t)

-- the content errors
module _ (counted : Bool) (c : List ℕ) (cs : List (List ℕ)) (v : CardVerdict) (is : v ≡ content_error counted c) where
  pub content-wrong : (e : CardError) → v ≡ Err e → contents_error counted (c ∷ cs) ≡ Err e
  content-wrong e h = rw (← is, h)

  pub content-on : (u : Unit {0}) → v ≡ Ok u → contents_error counted (c ∷ cs) ≡ contents_error (counted || (is_trn c && has_count c)) cs
  content-on u h = rw (← is, h)

-- what is held of cards, one more
length-held : (n : ℕ) (ts : List (List ℕ)) → length (held_in n ts) ≡ n
length-held zero ts = refl
length-held (suc n) [] = ap suc (length-held n [])
length-held (suc n) (t ∷ ts) = ap suc (length-held n ts)

pub none-held : (n : ℕ) → held_in n [] ≡ replicate n no_card
none-held zero = refl
none-held (suc n) = ap (λ (l : List FurtherCard). no_card ∷ l) (none-held n)

set-held : (n : ℕ) (ts : List (List ℕ)) (t : List ℕ) → set (held_in n ts) (length ts) (held_card t) ≡ held_in n (ts ++ (t ∷ []))
set-held zero ts t = refl
set-held (suc n) [] t = refl
set-held (suc n) (u ∷ ts) t = ap (λ (l : List FurtherCard). held_card u ∷ l) (set-held n ts t)

full-held : (n : ℕ) (ts us : List (List ℕ)) → n ≤ length ts → held_in n ts ≡ held_in n (ts ++ us)
full-held zero ts us h = refl
full-held (suc n) [] us h = absurd (omega arith)
full-held (suc n) (t ∷ ts) us h = ap (λ (l : List FurtherCard). held_card t ∷ l) (full-held n ts us (omega arith))

-- the cards held so far are those passed: with those that are left they are all
pub record Holding (cards : List FurtherCard) (count : ℕ) (left whole : List (List ℕ)) : Type 0 where
  pub done : List (List ℕ)
  pub is : cards ≡ held_in most_further done
  pub many : count ≡ length done
  pub joined : done ++ left ≡ whole

pub hold-start : (whole : List (List ℕ)) → Holding (replicate most_further no_card) 0 whole whole
hold-start whole = record { done = []; is = sym (none-held most_further); many = refl; joined = refl }

pub hold-turn : {cards : List FurtherCard} {count : ℕ} {t : List ℕ} {left whole : List (List ℕ)} → Holding cards count (t ∷ left) whole
    → Holding (set cards count (held_card t)) (count + 1) left whole
hold-turn {cards} {count} {t} {left} {whole} h = record {
  done = h.done ++ (t ∷ []);
  is = rw (h.is, h.many) (set-held most_further h.done t);
  many = omega (arith, h.many, length-append h.done (t ∷ []));
  joined = append_assoc h.done (t ∷ []) left ∙ h.joined;
}

pub hold-end : {cards : List FurtherCard} {count : ℕ} {whole : List (List ℕ)} → count ≤ most_further → Holding cards count [] whole
    → ◌≡◌ {A = Further} (record { cards = cards; count = count }) (held whole)
unfolding held
hold-end {cards} {count} {whole} c h =
    let e : h.done ≡ whole = sym (append-nil h.done) ∙ h.joined in
    let a : cards ≡ held_in most_further whole = h.is ∙ ap (held_in most_further) e in
    let b : count ≡ min (length whole) most_further = omega (arith, h.many, ap length e) in
    cc

pub hold-full : {cards : List FurtherCard} {count : ℕ} {left whole : List (List ℕ)} → count ≡ most_further → Holding cards count left whole
    → ◌≡◌ {A = Further} (record { cards = cards; count = count }) (held whole)
unfolding held
hold-full {cards} {count} {left} {whole} c h =
    let a : cards ≡ held_in most_further whole =
    h.is ∙ full-held most_further h.done left (omega (arith, h.many)) ∙ ap (held_in most_further) h.joined in
    let l : length whole ≡ length h.done + length left = ap length (sym h.joined) ∙ length-append h.done left in
    let b : count ≡ min (length whole) most_further = omega (arith, h.many) in
    cc

-- the cards in front, from a position on: none is left, the first stays, or it is passed
module _ (p : List ℕ → Bool) (want : Bool) (s : List ℕ) (at : ℕ) where
  pub past-none : cards_of (drop at s) ≡ [] → cards_of (drop at s) ≡ past want p (cards_of (drop at s))
  past-none e = rw e

  pub past-here : (c : List ℕ) (next : ℕ) → cards_of (drop at s) ≡ c ∷ cards_of (drop next s) → (p c ≡ want → ⊥)
      → cards_of (drop at s) ≡ past want p (cards_of (drop at s))
  past-here c next e n = rw e (sym (past-stays p c (cards_of (drop next s)) want n))

  pub past-on : (c : List ℕ) (next : ℕ) → cards_of (drop at s) ≡ c ∷ cards_of (drop next s) → p c ≡ want
      → past want p (cards_of (drop next s)) ≡ past want p (cards_of (drop at s))
  past-on c next e t = rw e (sym (past-goes p c (cards_of (drop next s)) want t))

-- a text put into blanks is the text as it is held
sets-padded : (w : ℕ) (s t : List ℕ) → sets (padded w s) (length s) t ≡ padded w (s ++ t)
sets-padded w s [] = ap (padded w) (sym (append-nil s))
sets-padded w s (b ∷ t) =
    let n : suc (length s) ≡ length (s ++ (b ∷ [])) = omega (arith, length-append s (b ∷ [])) in
    rw (set-padded w s b, n) (sets-padded w (s ++ (b ∷ [])) t ∙ ap (padded w) (append_assoc s (b ∷ []) t))

blanks-padded : (w : ℕ) → replicate w 32 ≡ padded w []
blanks-padded zero = refl
blanks-padded (suc w) = ap (λ (l : List ℕ). 32 ∷ l) (blanks-padded w)

pub card-held : {t after : List ℕ} {r : ℕ} → Written (replicate text_length 32) 0 t after r
    → ◌≡◌ {A = FurtherCard} (record { text = after; len = r }) (held_card t)
card-held {t} {after} {r} w =
    let a : after ≡ padded text_length t = w.bytes ∙ ap (λ (l : List ℕ). sets l 0 t) (blanks-padded text_length) ∙ sets-padded text_length [] t in
    let b : r ≡ min (length t) text_length = omega (arith, w.reached, length-replicate {A = ℕ} text_length 32) in
    cc

-- a card is left exactly where an LF is left
pub any_left : (p : List ℕ → Bool) (s : List ℕ) (at len : ℕ) → at ≤ length s → cards_of (drop at s) ≡ past false p (cards_of s)
    → len ≡ length (line_of (take (length s - at) (drop at s))) → not (eqb len (length s - at)) ≡ any p (cards_of s)
any_left p s at len h e is =
    let l : len ≡ length (line_of (drop at s)) = is ∙ ap (λ (x : List ℕ). length (line_of x)) (rest-is s at) in
    by_bool (eqb len (length s - at))
    (λ t. rw t (sym (any-past p (cards_of s) (sym e ∙ no_line (drop at s) (omega (arith, eqb-true len (length s - at) t, length-drop at s))))))
    (λ t.
    let n = eqb-false len (length s - at) t in
    let m = leading-most (isnt 10) (drop at s) in
    let f = first-line (drop at s) (omega (arith, length-drop at s)) in
    rw t (sym (any_some p (cards_of s) (line_of (drop at s)) (lines_of (drop (suc (length (line_of (drop at s)))) (drop at s))) (sym e ∙ f))))

-- what is left behind a run, as the code lends it
pub apart-left : (p : List ℕ → Bool) (s : List ℕ) (a b : ℕ) → cards_of (drop a s) ≡ past false p (cards_of s)
    → cards_of (drop b (take (length s - a) (drop a s))) ≡ past true p (cards_of (take (length s - a) (drop a s)))
    → any p (cards_of (take (length (take (length s - a) (drop a s)) - b) (drop b (take (length s - a) (drop a s)))))
    ≡ any p (past true p (past false p (cards_of s)))
apart-left p s a b e f =
    let r = rest-is s a in
    let x : cards_of (take (length (take (length s - a) (drop a s)) - b) (drop b (take (length s - a) (drop a s))))
    ≡ cards_of (drop b (take (length s - a) (drop a s))) =
    ap cards_of (rest-is (take (length s - a) (drop a s)) b) in
    ap (any p) (x ∙ f ∙ ap (past true p) (ap cards_of r ∙ e))
