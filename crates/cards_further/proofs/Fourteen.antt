-- How many further cards a value holds, and how long their texts are: the array of further cards has 14 of them, as owning
-- it tells. Assumes nothing.
use Prim.Native.Nat.{ℕ, suc, ◌+◌, ◌-◌, ◌≤◌, ◌<◌}
use mathlib.Core.Path.{◌≡◌, refl, sym, ap, ◌∙◌}
use mathlib.Core.List.{List, [], ◌∷◌}
use mathlib.Core.Logic.{⊎_elim}
use native.Mathlib.Nat.{eq-zero-or-pos}
use native.Mathlib.Omega.{arith}
use lib.ListN.{length, length-take, get_or, take, drop, drop_of_length-le}
use lib.Seq.{drop-cons, get_or-take, length-take-le, take_all}
use mir.Val.{Val}
use denote.Laws.{Is}
use denote.Struct.Laws as LL
use denote.Struct.Field.{row_field}
use denote.Builtin.{u8}
use Rattle.numbers.specs.Limits.{most_further, text_length}
use Rattle.cards_request.specs.Requests.{texts, texts_in}
use Rattle.cards_request.specs.declared.FurtherCard.{FurtherCard}
use Rattle.cards_request.specs.declared.Further as S
use Rattle.cards_request.specs.contracts.FurtherCard as C
use Rattle.cards_request.specs.contracts.Further as T
use Rattle.cards_request.proofs.Further.TheLaws as T'
use Rattle.cards_further.proofs.Elements.{Some, everywhere_row, long_row}

pub fourteen : (f : S.Further) (vs : List Val) → Is T.the_row f vs → length f.cards ≡ most_further
fourteen f vs g = (LL.owed T.the_type T'.the_laws f vs g).0.1.0.1

pub count_less {ℓ} : {A : Type ℓ} (len : ℕ) (l : List A) → len ≤ length l → len ≡ length (take len l)
count_less len l h = sym (length-take-le len l h)

pub count-more {ℓ} : {A : Type ℓ} (len : ℕ) (l : List A) (most : ℕ) → length l ≡ most → most < len → most ≡ length (take len l)
count-more len l most e h = sym (ap length (take_all len l (omega arith)) ∙ e)

-- as many texts as cards
pub texts-length : (cs : List FurtherCard) → length (texts_in cs) ≡ length cs
texts-length [] = refl
texts-length (c ∷ cs) = ap suc (texts-length cs)

-- a count that says more than there is takes all
pub take_counted {ℓ} : {A : Type ℓ} (len : ℕ) (l : List A) (n : ℕ) → n ≡ length (take len l) → take n l ≡ take len l
take_counted {A = A} len l n e =
    ⊎_elim
    (λ z. let k : n ≡ len = omega (arith, length-take len l) in ap (λ (i : ℕ). take i l) k)
    (λ z. take_all n l (omega (arith, length-take len l)) ∙ sym (take_all len l (omega arith)))
    (eq-zero-or-pos (len - length l))

pub counted-most {ℓ} : {A : Type ℓ} (len : ℕ) (l : List A) (n : ℕ) → n ≡ length (take len l) → n ≤ length l
counted-most len l n e = omega (arith, length-take len l)

-- the cards that a value says it has: they are in its array, and their texts are its texts
module _ (f : S.Further) (n : ℕ) (is : n ≡ length (texts f)) where
  pub within-cards : n ≤ length f.cards
  within-cards = counted-most f.count f.cards n (is ∙ texts-length (take f.count f.cards))

  pub the-texts : texts_in (take n f.cards) ≡ texts f
  the-texts = ap texts_in (take_counted f.count f.cards n (is ∙ texts-length (take f.count f.cards)))

-- what stands past the end of an array of cards
abbrev pub past : FurtherCard
past = record { text = []; len = 0 }

-- a text as a card holds it
abbrev pub text_of : FurtherCard → List ℕ
text_of c = take c.len c.text

module _ (cards : List FurtherCard) (n : ℕ) (w : n ≤ length cards) (i : ℕ) (d : FurtherCard) where
  pub cards-step : i < n → texts_in (drop i (take n cards)) ≡ text_of (get_or cards i d) ∷ texts_in (drop (i + 1) (take n cards))
  cards-step h =
      let k : suc i ≡ i + 1 = omega arith in
      let e : drop i (take n cards) ≡ get_or cards i d ∷ drop (i + 1) (take n cards) =
      drop-cons (take n cards) i d (omega (arith, length-take n cards))
      ∙ ap (λ (c : FurtherCard). c ∷ drop (suc i) (take n cards)) (get_or-take n cards i d h)
      ∙ ap (λ (j : ℕ). get_or cards i d ∷ drop j (take n cards)) k in
      ap texts_in e

pub cards-end : (cards : List FurtherCard) (n i : ℕ) → n ≤ i → texts_in (drop i (take n cards)) ≡ []
cards-end cards n i h = ap texts_in (drop_of_length-le (take n cards) {i = i} (omega (arith, length-take n cards)))

-- each card's text has 78 bytes at most
card-78 : (c : FurtherCard) → Some C.the_field c → length c.text ≤ text_length
card-78 c s = let l : length c.text ≡ text_length = long_row u8 text_length c.text _ s.1.1.1.0 in omega arith

card_row-78 : (c : FurtherCard) → Some (row_field C.the_row) c → length c.text ≤ text_length
card_row-78 c s = let l : length c.text ≡ text_length = long_row u8 text_length c.text _ s.1.1.1.0 in omega arith

pub texts-78 : (f : S.Further) (vs : List Val) → Is T.the_row f vs → (i : ℕ) → length (get_or f.cards i past).text ≤ text_length
texts-78 f vs g =
    everywhere_row C.the_row most_further (λ c. length c.text ≤ text_length) f.cards _ g.1.1.0 card_row-78 past (omega arith)
