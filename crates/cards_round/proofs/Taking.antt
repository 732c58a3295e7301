-- THE WRITER TAKES EXACTLY THE FURTHER CARDS THAT KEEP THE RULES, and each value that holds them in one way: standing
-- behind an ID that is left out they are read as they were written. Assumes nothing.
use Prim.Native.Nat.{ℕ, zero, suc, ◌≤◌, min}
use mathlib.Core.Path.{◌≡◌, refl, sym, ap, subst, ◌∙◌}
use mathlib.Core.Bool.{true, false, ◌&&◌}
use mathlib.Core.List.{List, [], ◌∷◌}
use native.Mathlib.Omega.{arith}
use lib.Dec.{eqb}
use lib.ListN.{length, take}
use borrow.Author.Tests.{eq-eqb, eqb-true, le-leb}
use Rattle.numbers.proofs.Tests.{both, never}
use Rattle.numbers.specs.Limits.{card_length, most_further, text_length}
use Rattle.words.specs.Words.{same}
use Rattle.words.proofs.WordLaws.{same_self, same-equal}
use Rattle.words.proofs.LineLaws.{NoLf}
use Rattle.cards_fields.specs.Deck.{cards_of}
use Rattle.cards_fields.specs.Fields.{padded}
use Rattle.cards_request.specs.Errors.{good, or_else}
use Rattle.cards_request.specs.Requests.{texts_in, texts}
use Rattle.cards_request.proofs.ErrorLaws.{good-is, or_else_none}
use Rattle.cards_request.specs.declared.FurtherCard.{FurtherCard}
use Rattle.cards_request.specs.declared.Further.{Further}
use Rattle.std.specs.Prelude.{Ok}
use Rattle.cards_further.specs.Further.{types_error, together_error, contents_error, canonicals, held_in, held}
use Rattle.words.specs.Lines.{lines_text}
use Rattle.cards_full.specs.Full.{behind_id, short, further_error, bare, same_cards, takes_further}
use Rattle.cards_full.proofs.WriteLaws.{behind-many}
use Rattle.cards_round.specs.AllowedFurther.{Card, texts_of, Kept, AllowedFurther}
use Rattle.cards_round.proofs.FurtherRound.{AllLines, AllFew, AllRoom, cards-back, written-lines, written-types, written-together}
use Rattle.cards_round.proofs.FurtherRound.{written-content-all, written-again, FurtherMeant, further-meant}
use Rattle.cards_round.proofs.HeldLaws.{kept-few, kept-texts}

-- ---- two values that are held alike

same-cards : (cs ds : List FurtherCard) → same_cards cs ds ≡ true → cs ≡ ds
same-cards [] [] h = refl
same-cards [] (d ∷ ds) h = never h refl
same-cards (c ∷ cs) [] h = never h refl
same-cards (c ∷ cs) (d ∷ ds) h =
    let p = both (eqb c.len d.len) (same c.text d.text && same_cards cs ds) h in
    let q = both (same c.text d.text) (same_cards cs ds) p.1 in
    let a = eqb-true c.len d.len p.0 in
    let b = same-equal c.text d.text q.0 in
    let e : c ≡ d = ap (λ (n : ℕ). record { text = c.text; len = n }) a ∙ ap (λ (t : List ℕ). record { text = t; len = d.len }) b in
    let r = same-cards cs ds q.1 in
    ap (λ (x : FurtherCard). x ∷ cs) e ∙ ap (λ (l : List FurtherCard). d ∷ l) r

cards-same : (cs : List FurtherCard) → same_cards cs cs ≡ true
cards-same [] = refl
cards-same (c ∷ cs) = rw (eq-eqb c.len c.len refl, same_self c.text) (cards-same cs)

alike : (f g : Further) → f.count ≡ g.count → f.cards ≡ g.cards → f ≡ g
alike f g a b = ap (λ (n : ℕ). record { cards = f.cards; count = n }) a ∙ ap (λ (l : List FurtherCard). record { cards = l; count = g.count }) b

-- ---- what is held of texts without LF has none, and its texts have at most 78 characters

padded-lf : (w : ℕ) (t : List ℕ) → NoLf t → NoLf (padded w t)
padded-lf zero t n = tt
padded-lf (suc w) [] n = ((λ e. omega arith), padded-lf w [] tt)
padded-lf (suc w) (b ∷ t) n = (n.0, padded-lf w t n.1)

take-lf : (k : ℕ) (t : List ℕ) → NoLf t → NoLf (take k t)
take-lf zero t n = tt
take-lf (suc k) [] n = tt
take-lf (suc k) (b ∷ t) n = (n.0, take-lf k t n.1)

held-lines : (n k : ℕ) (ts : List (List ℕ)) → AllLines ts → AllLines (behind_id [] (texts_in (take k (held_in n ts))))
held-lines zero zero ts l = tt
held-lines zero (suc k) ts l = tt
held-lines (suc n) zero ts l = tt
held-lines (suc n) (suc k) [] l = (((λ e. omega arith), tt), held-lines n k [] tt)
held-lines (suc n) (suc k) (t ∷ ts) l = (
  ((λ e. omega arith), take-lf (min (length t) text_length) (padded text_length t) (padded-lf text_length t l.0)),
  held-lines n k ts l.1,
)

take-few : {A : Type 0} (k : ℕ) (l : List A) → length (take k l) ≤ k
take-few zero l = omega arith
take-few (suc k) [] = omega arith
take-few (suc k) (x ∷ l) = omega (arith, take-few k l)

held-few : (n k : ℕ) (ts : List (List ℕ)) → AllFew (texts_in (take k (held_in n ts)))
held-few zero zero ts = tt
held-few zero (suc k) ts = tt
held-few (suc n) zero ts = tt
held-few (suc n) (suc k) [] = (omega arith, held-few n k [])
held-few (suc n) (suc k) (t ∷ ts) = (omega (arith, take-few (min (length t) text_length) (padded text_length t)), held-few n k ts)

texts-few : (k : ℕ) (cs : List FurtherCard) → length (texts_in (take k cs)) ≤ k
texts-few zero cs = omega arith
texts-few (suc k) [] = omega arith
texts-few (suc k) (c ∷ cs) = omega (arith, texts-few k cs)

-- and what is written again of cards with such texts has no more
room-few : (ts : List (List ℕ)) → AllFew ts → AllRoom (behind_id [] ts) → AllFew (canonicals (behind_id [] ts))
room-few [] f r = tt
room-few (t ∷ ts) f r = (omega (arith, r.0.0, f.0), room-few ts f.1 r.1)

-- ---- what is taken keeps the rules

module _ (f : Further) (t : takes_further f ≡ true) where
  abbrev cs : List (List ℕ)
  cs = bare f

  abbrev ds : List (List ℕ)
  ds = canonicals cs

  tests : (further_error cs ≡ Ok tt) × (held ds ≡ f)
  unfolding takes_further
  tests =
      let a = both (good (further_error cs)) (eqb (held ds).count f.count && same_cards (held ds).cards f.cards) t in
      let b = both (eqb (held ds).count f.count) (same_cards (held ds).cards f.cards) a.1 in (
        good-is (further_error cs) a.0,
        alike (held ds) f (eqb-true (held ds).count f.count b.0) (same-cards (held ds).cards f.cards b.1),
      )

  meant : FurtherMeant cs
  unfolding further_error
  meant =
      let a = or_else_none (types_error cs) (or_else (together_error cs) (or_else (contents_error false cs) (Ok tt))) tests.0 in
      let b = or_else_none (together_error cs) (or_else (contents_error false cs) (Ok tt)) a.1 in
      let c = or_else_none (contents_error false cs) (Ok tt) b.1 in
      further-meant cs a.0 b.0 c.0

  of-texts : texts f ≡ texts (held ds)
  of-texts = ap texts (sym tests.1)

  cards-are : cs ≡ behind_id [] (texts f)
  unfolding held
  cards-are =
      cards-back (behind_id [] (texts f)) (subst (λ (ts : List (List ℕ)). AllLines (behind_id [] ts)) (sym of-texts)
      (held-lines most_further (min (length ds) most_further) ds meant.lines))

  few : length cs ≤ most_further
  unfolding held
  few =
      let a : length cs ≡ length (texts f) = ap (length {A = List ℕ}) cards-are ∙ behind-many [] (texts f) in
      let b : length (texts f) ≡ length (texts (held ds)) = ap (length {A = List ℕ}) of-texts in
      omega (arith, texts-few (min (length ds) most_further) (held_in most_further ds))

  short-texts : AllFew ds
  unfolding held
  short-texts =
      let a : AllFew (texts f) = subst AllFew (sym of-texts) (held-few most_further (min (length ds) most_further) ds) in
      let b : AllRoom (behind_id [] (texts f)) = subst AllRoom cards-are meant.room in
      subst (λ (x : List (List ℕ)). AllFew (canonicals x)) (sym cards-are) (room-few (texts f) a b)

  pub further-allowed : AllowedFurther f
  further-allowed = record { cards = meant.cards; kept = meant.kept few short-texts; is = sym tests.1 ∙ ap held meant.is }

-- ---- what keeps the rules is taken

bare-short : (ts : List (List ℕ)) → AllFew ts → short (behind_id [] ts) ≡ true
bare-short [] f = refl
bare-short (t ∷ ts) f = rw (le-leb (suc (length t)) card_length (omega (arith, f.0))) (bare-short ts f.1)

module _ (ms : List Card) (k : Kept ms) where
  bare-is : bare (held (texts_of ms)) ≡ behind_id [] (texts_of ms)
  bare-is =
      ap (λ (ts : List (List ℕ)). cards_of (lines_text (behind_id [] ts))) (kept-texts ms k)
      ∙ cards-back (behind_id [] (texts_of ms)) (written-lines [] refl ms k.each)

  small : short (behind_id [] (texts_of ms)) ≡ true
  small = bare-short (texts_of ms) (kept-few ms k.each)

  no-error : further_error (bare (held (texts_of ms))) ≡ Ok tt
  unfolding further_error
  no-error = rw (bare-is, written-types [] refl ms k small, written-together [] refl ms k small, written-content-all [] refl ms k small)

  again : held (canonicals (bare (held (texts_of ms)))) ≡ held (texts_of ms)
  again = ap held (ap canonicals bare-is ∙ written-again [] refl ms k small)

  pub held-taken : takes_further (held (texts_of ms)) ≡ true
  unfolding takes_further
  held-taken = rw (no-error, again, eq-eqb (held (texts_of ms)).count (held (texts_of ms)).count refl) (cards-same (held (texts_of ms)).cards)

pub further-taken : (f : Further) → AllowedFurther f → takes_further f ≡ true
further-taken f a = ap takes_further a.is ∙ held-taken a.cards a.kept
