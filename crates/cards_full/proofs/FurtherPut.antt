-- The further cards put one behind the other, and looked at one by one: what the loops over them keep. Assumes nothing.
use Prim.Native.Nat.{ℕ, zero, suc, ◌+◌, ◌-◌, ◌*◌, ◌≤◌, ◌<◌, min}
use mathlib.Core.Path.{◌≡◌, refl, sym, ap, subst, ◌∙◌}
use mathlib.Core.Bool.{Bool, true, false, ◌&&◌}
use mathlib.Core.List.{List, [], ◌∷◌, ◌++◌, append_assoc}
use native.Mathlib.Omega.{arith}
use lib.Dec.{eqb, leb}
use lib.ListN.{length, get_or, take, drop, drop_of_length-le, length-append, length-take, replicate}
use lib.Seq.{drop-cons}
use native.Mathlib.Numerals.{add-one}
use borrow.Author.Tests.{eq-eqb, ne_eqb, eqb-true, le-leb, lt-leb}
use Rattle.numbers.proofs.Tests.{both, by_bool}
use Rattle.numbers.specs.Quoted.{byte}
use Rattle.numbers.specs.Limits.{card_length, most_further, text_length}
use Rattle.text.specs.Room.{Written, Puts}
use Rattle.text.specs.declared.room.Room.{Room}
use Rattle.text.proofs.RoomLaws.{Goes, goes-turn, puts-then, same-room}
use Rattle.words.specs.Words.{same}
use Rattle.words.specs.Lines.{line_text, lines_text}
use Rattle.cards_fields.specs.Fields.{spaceless, field_of}
use Rattle.cards_fields.specs.declared.Field.{Field}
use Rattle.cards_fields.proofs.FieldLaws.{spaceless-short}
use Rattle.cards_request.specs.Requests.{texts, texts_in}
use Rattle.cards_request.specs.declared.FurtherCard.{FurtherCard}
use Rattle.cards_request.specs.declared.Further.{Further}
use Rattle.cards_further.proofs.Fourteen.{past, text_of, cards-step, cards-end}
use Rattle.cards_fields.specs.Deck.{cards_of}
use Rattle.cards_request.specs.Errors.{good}
use Rattle.cards_further.specs.Further.{canonicals, held}
use Rattle.cards_writing.proofs.PutLaws.{put_whole}
use Rattle.cards_full.specs.Full.{bare, behind_id, further_error, same_cards, short, takes_further}
use Rattle.cards_full.proofs.WriteLaws.{texts-many}

-- a card behind an ID
abbrev pub card_line : List ℕ → FurtherCard → List ℕ
card_line id c = line_text (id ++ (byte "," ∷ text_of c))

module _ (id : List ℕ) (cards : List FurtherCard) (n : ℕ) (w : n ≤ length cards) (i : ℕ) where
  -- those that are left from i on
  abbrev pub lines_left : ℕ → List ℕ
  lines_left k = lines_text (behind_id id (texts_in (drop k (take n cards))))

  pub lines-turn : i < n → {first room next : Room} {whole : List ℕ}
      → Goes first whole room (lines_text (behind_id id (texts_in (drop i (take n cards)))))
      → Puts room (card_line id (get_or cards i past)) next
      → Goes first whole next (lines_text (behind_id id (texts_in (drop (i + 1) (take n cards)))))
  lines-turn h g p = goes-turn (rw (cards-step cards n w i past h) at g) p

  pub lines_end : n ≤ i → lines_text (behind_id id (texts_in (drop i (take n cards)))) ≡ []
  lines_end h = rw (cards-end cards n i h)

  -- whether each has at most 80 characters
  module _ (before len : ℕ) (b : before ≡ length id + 1) (l : len ≡ length (text_of (get_or cards i past))) (h : i < n) where
    here : short (behind_id id (texts_in (drop i (take n cards))))
        ≡ leb (before + len) card_length && short (behind_id id (texts_in (drop (i + 1) (take n cards))))
    here =
        let c : length (id ++ (byte "," ∷ text_of (get_or cards i past))) ≡ before + len =
        omega (arith, length-append id (byte "," ∷ text_of (get_or cards i past))) in
        rw (cards-step cards n w i past h, c)

    pub short-long : before ≤ card_length → card_length - before < len → short (behind_id id (texts_in (drop i (take n cards)))) ≡ false
    short-long m g = here ∙ rw (lt-leb (before + len) card_length (omega arith))

    pub short_on : before ≤ card_length → len ≤ card_length - before
        → short (behind_id id (texts_in (drop i (take n cards)))) ≡ short (behind_id id (texts_in (drop (i + 1) (take n cards))))
    short_on m g = here ∙ rw (le-leb (before + len) card_length (omega arith))

  pub short-end : n ≤ i → short (behind_id id (texts_in (drop i (take n cards)))) ≡ true
  short-end h = rw (cards-end cards n i h)

pub id-long : (f : Field) (id : List ℕ) → f ≡ field_of (spaceless id) → f.len + 1 ≡ length (spaceless id) + 1
id-long f id e = rw (ap (λ (x : Field). x.len) e)

pub id-few : (f : Field) (id : List ℕ) → f ≡ field_of (spaceless id) → length id ≡ 6 → f.len ≤ 6
id-few f id e h = omega (arith, ap (λ (x : Field). x.len) e, spaceless-short id)

-- two values' cards, one by one
module _ (cs ds : List FurtherCard) (i : ℕ) (h : i < length cs) (g : i < length ds) (b : Bool)
    (is : b ≡ (eqb (get_or cs i past).len (get_or ds i past).len && same (get_or cs i past).text (get_or ds i past).text)) where
  step : same_cards (drop i cs) (drop i ds)
      ≡ eqb (get_or cs i past).len (get_or ds i past).len
      && (same (get_or cs i past).text (get_or ds i past).text && same_cards (drop (i + 1) cs) (drop (i + 1) ds))
  step = rw (add-one i, drop-cons cs i past h, drop-cons ds i past g)

  both-tests : (x y z : Bool) → x && (y && z) ≡ (x && y) && z
  both-tests true y z = refl
  both-tests false y z = refl

  here-and : same_cards (drop i cs) (drop i ds) ≡ b && same_cards (drop (i + 1) cs) (drop (i + 1) ds)
  here-and =
      step ∙ both-tests (eqb (get_or cs i past).len (get_or ds i past).len) (same (get_or cs i past).text (get_or ds i past).text)
      (same_cards (drop (i + 1) cs) (drop (i + 1) ds))
      ∙ ap (λ (x : Bool). x && same_cards (drop (i + 1) cs) (drop (i + 1) ds)) (sym is)

  pub same-other : b ≡ false → same_cards (drop i cs) (drop i ds) ≡ false
  same-other e = here-and ∙ rw e

  pub same-on : b ≡ true → same_cards (drop i cs) (drop i ds) ≡ same_cards (drop (i + 1) cs) (drop (i + 1) ds)
  same-on e = here-and ∙ rw e

pub same-done : (cs ds : List FurtherCard) (i : ℕ) → length cs ≤ i → length ds ≤ i → same_cards (drop i cs) (drop i ds) ≡ true
same-done cs ds i h g = rw (drop_of_length-le cs h, drop_of_length-le ds g)

-- a card's line, piece by piece
pub line-put : (c : FurtherCard) (n : ℕ) → take n c.text ≡ text_of c → {room a b d next : Room} {id : List ℕ}
    → Puts room id a → Puts a (44 ∷ []) b → Puts b (take n c.text) d → Puts d (10 ∷ []) next
    → Puts room (card_line id c) next
line-put c n e {room} {next = next} {id = id} w₁ w₂ w₃ w₄ =
    let w = puts-then w₁ (puts-then w₂ (puts-then w₃ w₄)) in
    subst (λ (x : List ℕ). Puts room x next)
    (ap (λ (x : List ℕ). id ++ (44 ∷ (x ++ (10 ∷ [])))) e ∙ sym (append_assoc id (44 ∷ text_of c) (10 ∷ []))) w

-- the further cards without an ID, as they stand in their room of 1,120 bytes
bare-few : (ts : List (List ℕ)) (m : ℕ) → length ts ≤ m → ((k : ℕ) → length (get_or ts k []) ≤ text_length)
    → length (lines_text (behind_id [] ts)) ≤ card_length * m
bare-few [] m h g = omega arith
bare-few (t ∷ ts) zero h g = absurd (omega arith)
bare-few (t ∷ ts) (suc m) h g =
    let a : length t ≤ text_length = g 0 in
    omega (
      arith,
      bare-few ts m (omega arith) (λ k. g (suc k)),
      length-append (line_text (byte "," ∷ t)) (lines_text (behind_id [] ts)),
      length-append t (10 ∷ []),
    )

texts-few : (cs : List FurtherCard) → ((c : ℕ) → length (get_or cs c past).text ≤ text_length) → (k : ℕ) → length (get_or (texts_in cs) k []) ≤ text_length
texts-few [] g zero = omega arith
texts-few [] g (suc k) = omega arith
texts-few (c ∷ cs) g zero = omega (arith, g 0, length-take c.len c.text)
texts-few (c ∷ cs) g (suc k) = texts-few cs (λ j. g (suc j)) k

taken-78 : (n : ℕ) (cs : List FurtherCard) → ((c : ℕ) → length (get_or cs c past).text ≤ text_length) → (c : ℕ)
    → length (get_or (take n cs) c past).text ≤ text_length
taken-78 zero cs g zero = omega arith
taken-78 zero cs g (suc c) = omega arith
taken-78 (suc n) [] g zero = omega arith
taken-78 (suc n) [] g (suc c) = omega arith
taken-78 (suc n) (x ∷ cs) g zero = g 0
taken-78 (suc n) (x ∷ cs) g (suc c) = taken-78 n cs (λ j. g (suc j)) c

-- read without an ID: they stand in the room whole
module _ (f : Further) (l : length f.cards ≡ most_further) (w : (c : ℕ) → length (get_or f.cards c past).text ≤ text_length) {after : List ℕ}
    {n : ℕ}
    (p : Written (replicate (most_further * (text_length + 2)) 0) 0 (lines_text (behind_id [] (texts f))) after n) where
  whole : take n after ≡ lines_text (behind_id [] (texts f))
  whole =
      let b = bare-few (texts f) most_further (omega (arith, texts-many f.count f.cards))
      (texts-few (take f.count f.cards) (taken-78 f.count f.cards w)) in
      (put_whole (most_further * (text_length + 2)) p (omega arith)).1

  cards-are : cards_of (take n after) ≡ bare f
  cards-are = ap cards_of whole

  pub not-read : good (further_error (cards_of (take n after))) ≡ false → false ≡ takes_further f
  unfolding takes_further
  not-read e = let g : good (further_error (bare f)) ≡ false = ap (λ (cs : List (List ℕ)). good (further_error cs)) (sym cards-are) ∙ e in rw g

  module _ (again : Further) (is : again ≡ held (canonicals (cards_of (take n after)))) where
    again-is : again ≡ held (canonicals (bare f))
    again-is = is ∙ ap (λ (cs : List (List ℕ)). held (canonicals cs)) cards-are

    counted : again.count ≡ (held (canonicals (bare f))).count
    counted = ap (λ (x : Further). x.count) again-is

    pub not-counted : (again.count ≡ f.count → ⊥) → false ≡ takes_further f
    unfolding takes_further
    not-counted e =
        let c : eqb (held (canonicals (bare f))).count f.count ≡ false =
        ne_eqb (held (canonicals (bare f))).count f.count (λ q. e (counted ∙ q)) in
        by_bool (good (further_error (bare f))) (λ t. rw (t, c)) (λ t. rw t)

    pub compared : good (further_error (cards_of (take n after))) ≡ true → again.count ≡ f.count → (r : Bool)
        → r ≡ same_cards again.cards f.cards → r ≡ takes_further f
    unfolding takes_further
    compared e q r h =
        let g : good (further_error (bare f)) ≡ true = ap (λ (cs : List (List ℕ)). good (further_error cs)) (sym cards-are) ∙ e in
        let c : eqb (held (canonicals (bare f))).count f.count ≡ true = eq-eqb (held (canonicals (bare f))).count f.count (sym counted ∙ q) in
        h ∙ ap (λ (x : Further). same_cards x.cards f.cards) again-is ∙ rw (g, c)

-- a value that is taken has at most fourteen cards
pub few-taken : (f : Further) → takes_further f ≡ true → f.count ≤ most_further
unfolding takes_further held
few-taken f e =
    let a = (both (good (further_error (bare f))) _ e).1 in
    let b = (both (eqb (min (length (canonicals (bare f))) most_further) f.count) _ a).0 in
    omega (arith, eqb-true (min (length (canonicals (bare f))) most_further) f.count b)

-- what was put ends within its room
pub put-most : {room p after : List ℕ} {n : ℕ} → Written room 0 p after n → n ≤ length after
put-most w = omega (arith, w.reached, same-room w)
