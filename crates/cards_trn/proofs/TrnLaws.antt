-- A TRN card by the tests that the code makes: a count, a transfer's parts, the transfers one further; and the text of
-- the fields, put one after the other. Assumes nothing.
use Prim.Native.Nat.{ℕ, zero, suc, ◌+◌, ◌≤◌, ◌<◌}
use mathlib.Core.Path.{◌≡◌, refl, sym, ap, subst, ◌∙◌}
use mathlib.Core.Bool.{Bool, true, false, not}
use mathlib.Core.List.{List, [], ◌∷◌}
use native.Mathlib.Omega.{arith}
use lib.ListN.{length, get_or, take, drop, drop_of_length-le}
use lib.Seq.{drop-cons}
use borrow.Author.Tests.{le-ltb, lt-ltb, le-leb, lt-leb}
use Rattle.numbers.specs.Quoted.{bytes}
use Rattle.text.specs.Room.{Puts}
use Rattle.text.specs.declared.room.Room.{Room}
use Rattle.text.specs.Writing.{decimal_text}
use Rattle.text.proofs.RoomLaws.{Goes, puts-then, goes-turn}
use Rattle.words.specs.Words.{has, same, number_in}
use Rattle.words.proofs.WordLaws.{same-long}
use Rattle.cards_fields.specs.Fields.{field, fields, pieces, spaceless, is_name, malformed, tail_text, field_of, raw_field}
use Rattle.cards_fields.specs.declared.Field.{Field}
use Rattle.cards_fields.proofs.FieldLaws.{whole}
use Rattle.cards_fields.proofs.SpaceLaws.{has-spaceless, piece-spaceless, raw-spaceless, count-spaceless, fields-step}
use Rattle.cards_request.specs.Errors.{error_if, first_of}
use Rattle.cards_request.proofs.ErrorLaws.{or-else-good}
use Rattle.cards_request.specs.declared.CardError.{CardError}
use Rattle.cards_request.specs.declared.CardError.TheVariants.{TrnWrong, TrnLong}
use Rattle.cards_request.specs.Errors.{CardVerdict}
use Rattle.std.specs.Prelude.{Ok, Err}
use Rattle.cards_trn.specs.Trn.{is_count, has_count, count_error, is_type, is_executive, is_successor, parts_of, part, most_at, right_at, part_error}
use Rattle.cards_trn.specs.Trn.{parts_error, transfer_error, third_error, transfers_error, trn_error, third_text, trn_text}

-- a count has no slash, with its spaces or without
pub count-is : (t : List ℕ) (x : Bool) → x ≡ has t 47 → not x ≡ is_count (spaceless t)
count-is t x e = rw e (ap not (sym (has-spaceless 47 refl t)))

-- a text gathered, by the tests on the way
module _ (t : List ℕ) (f : Field) (is : f ≡ field_of t) where
  size : f.len ≡ length t
  size = ap (λ (x : Field). x.len) is

  pub type-long : 2 < f.len → is_type t ≡ false
  type-long h =
      rw (
        other (bytes "D") (omega arith),
        other (bytes "T") (omega arith),
        other (bytes "N") (omega arith),
        other (bytes "*T") (omega arith),
        other (bytes "*N") (omega arith),
      )
    where
      other : (w : List ℕ) → length w ≤ 2 → same t w ≡ false
      other w g = same-long t w (λ e. omega (arith, size))

  pub type-short : f.len ≤ 2 → is_type (take f.len f.bytes) ≡ is_type t
  type-short h = ap is_type (whole f t is (omega arith))

  pub successor-long : 6 < f.len → is_executive t ≡ false
  successor-long h = rw (other (bytes "*REQ") (omega arith), other (bytes "*PLB") (omega arith))
    where
      other : (w : List ℕ) → length w ≤ 6 → same t w ≡ false
      other w g = same-long t w (λ e. omega (arith, size))

  pub successor-short : f.len ≤ 6 → is_executive (take f.len f.bytes) ≡ is_executive t
  successor-short h = ap is_executive (whole f t is (omega arith))

-- the test of a part, by its index
module _ (k : ℕ) (t : List ℕ) where
  pub right-type : k ≡ 1 → is_type t ≡ right_at k t
  right-type e = rw e

  pub right-successor : k ≡ 2 → is_successor t ≡ right_at k t
  right-successor e = rw e

pub right-name : (k : ℕ) (t : List ℕ) → k < 4 → (k ≡ 1 → ⊥) → (k ≡ 2 → ⊥) → is_name t ≡ right_at k t
right-name zero t h a b = refl
right-name (suc zero) t h a b = absurd (a refl)
right-name (suc (suc zero)) t h a b = absurd (b refl)
right-name (suc (suc (suc zero))) t h a b = refl
right-name (suc (suc (suc (suc k)))) t h a b = absurd (omega arith)

-- a transfer's part, gathered
module _ (t : List ℕ) (k : ℕ) (p : List ℕ) (at : p ≡ get_or (pieces 47 t) k []) where
  pub part-is : spaceless p ≡ part (spaceless t) k
  part-is = ap spaceless at ∙ sym (piece-spaceless 47 refl t k)

  module _ (f : Field) (is : f ≡ field_of (spaceless p)) where
    long : f.len ≡ length (part (spaceless t) k)
    long = ap (λ (x : Field). x.len) is ∙ ap length part-is

    pub part-long : most_at k < f.len → part_error (spaceless t) k ≡ Err TrnLong
    unfolding part_error
    part-long h = rw (lt-ltb (most_at k) (length (part (spaceless t) k)) (rw (long) at h))

    pub part_right : f.len ≤ most_at k → (x : Bool) → x ≡ right_at k (spaceless p) → part_error (spaceless t) k ≡ error_if (not x) TrnWrong
    unfolding part_error
    part_right h x e = rw (le-ltb (most_at k) (length (part (spaceless t) k)) (rw (long) at h), e, part-is)

-- the errors of the four parts, from one on
abbrev pub part_errors : List ℕ → List CardVerdict
part_errors t = part_error t 0 ∷ part_error t 1 ∷ part_error t 2 ∷ part_error t 3 ∷ []

pub parts_all : (t : List ℕ) → first_of (part_errors t) ≡ parts_error t
unfolding parts_error
parts_all t = refl

module _ (t : List ℕ) where
  part_step : (k : ℕ) → k < 4 → drop k (part_errors t) ≡ part_error t k ∷ drop (k + 1) (part_errors t)
  part_step zero h = refl
  part_step (suc zero) h = refl
  part_step (suc (suc zero)) h = refl
  part_step (suc (suc (suc zero))) h = refl
  part_step (suc (suc (suc (suc k)))) h = absurd (omega arith)

  module _ (k : ℕ) where
    module _ (h : k < 4) (v : CardVerdict) (is : v ≡ part_error t k) where
      pub part-wrong : (x : CardError) → v ≡ Err x → first_of (drop k (part_errors t)) ≡ Err x
      part-wrong x e = rw (part_step k h, ← is, e)

      pub part-next : {u : Unit {0}} → v ≡ Ok u → first_of (drop k (part_errors t)) ≡ first_of (drop (k + 1) (part_errors t))
      part-next z = rw (part_step k h, ← is, z)

    pub parts-done : 4 ≤ k → first_of (drop k (part_errors t)) ≡ Ok tt
    parts-done h = rw (drop_of_length-le (part_errors t) {i = k} h)

-- a transfer
module _ (t : List ℕ) where
  pub transfer-wrong : (x : CardError) → parts_error (spaceless t) ≡ Err x → transfer_error (spaceless t) ≡ Err x
  unfolding transfer_error
  transfer-wrong x e = rw e

  module _ {u : Unit {0}} (z : parts_error (spaceless t) ≡ Ok u) (n : ℕ) (cuts : n + 1 ≡ length (pieces 47 t)) where
    count : length (parts_of (spaceless t)) ≡ n + 1
    count = count-spaceless 47 refl t ∙ sym cuts

    pub transfer-fifth : 3 < n → transfer_error (spaceless t) ≡ Err TrnWrong
    unfolding transfer_error
    transfer-fifth h = rw (z, lt-ltb 4 (length (parts_of (spaceless t))) (omega (arith, count)))

    pub transfer-good : n ≤ 3 → transfer_error (spaceless t) ≡ Ok tt
    unfolding transfer_error
    transfer-good h = rw (z, le-ltb 4 (length (parts_of (spaceless t))) (omega (arith, count)))

-- a third field
module _ (counted : Bool) (t : List ℕ) where
  pub third-count : is_count t ≡ true → count_error counted t ≡ third_error counted t
  third-count e = rw e

  pub third-transfer : is_count t ≡ false → transfer_error t ≡ third_error counted t
  third-transfer e = rw e

module _ (t : List ℕ) {room after : Room} where
  pub put_count : is_count t ≡ true → (n : ℕ) → n ≡ number_in t → Puts room (decimal_text n) after → Puts room (third_text t) after
  unfolding third_text
  put_count e n i w =
      let d : decimal_text n ≡ third_text t = rw (e, i) in
      rw d at w

  pub put-transfer : is_count t ≡ false → Puts room t after → Puts room (third_text t) after
  unfolding third_text
  put-transfer e w =
      let d : t ≡ third_text t = rw e in
      subst (λ (x : List ℕ). Puts room x after) d w

-- the fields from one on
module _ (card : List ℕ) (k : ℕ) where
  module _ (h : k < length (fields card)) where
    module _ (v : CardVerdict) (is : v ≡ transfer_error (spaceless (raw_field card k))) where
      pub transfers-wrong : (x : CardError) → v ≡ Err x → transfers_error (drop k (fields card)) ≡ Err x
      transfers-wrong x e = rw (fields-step card k h, ← is, e)

      pub transfers-next : {u : Unit {0}} → v ≡ Ok u → transfers_error (drop k (fields card)) ≡ transfers_error (drop (k + 1) (fields card))
      transfers-next z = rw (fields-step card k h, ← is, z)

    pub transfer-turn : {first room comma after : Room} {whole : List ℕ} → Goes first whole room (tail_text (drop k (fields card)))
        → Puts room (44 ∷ []) comma → Puts comma (spaceless (raw_field card k)) after → Goes first whole after (tail_text (drop (k + 1) (fields card)))
    transfer-turn {whole = whole} g v w = goes-turn {whole = whole} (goes-turn {whole = whole} (rw (fields-step card k h) at g) v) w

  module _ (h : length (fields card) ≤ k) where
    pub transfers-done : transfers_error (drop k (fields card)) ≡ Ok tt
    transfers-done = rw (drop_of_length-le (fields card) {i = k} h)

    pub transfers-end : {first room after : Room} {whole : List ℕ} → Goes first whole room (tail_text (drop k (fields card)))
        → Puts room (46 ∷ []) after → Puts first whole after
    transfers-end {after = after} g w = (rw (drop_of_length-le (fields card) {i = k} h) at g) after w

-- the card
module _ (card : List ℕ) where
  pub count-absent : length (fields card) ≤ 2 → has_count card ≡ false
  unfolding has_count
  count-absent h = rw (le-ltb 2 (length (fields card)) h)

  pub count-there : 2 < length (fields card) → is_count (spaceless (raw_field card 2)) ≡ has_count card
  unfolding has_count
  count-there h = rw (lt-ltb 2 (length (fields card)) h, raw-spaceless card 2)

  module _ (counted : Bool) where
    pub trn-malformed : malformed card ≡ true → trn_error counted card ≡ Err TrnWrong
    unfolding trn_error
    trn-malformed m = rw m

    module _ (m : malformed card ≡ false) where
      pub trn-none : length (fields card) ≤ 2 → trn_error counted card ≡ Err TrnWrong
      unfolding trn_error
      trn-none h = rw (m, le-leb (length (fields card)) 2 h)

      module _ (h : 2 < length (fields card)) (v : CardVerdict) (is : v ≡ third_error counted (spaceless (raw_field card 2))) where
        third-is : third_error counted (field card 2) ≡ v
        third-is = ap (third_error counted) (sym (raw-spaceless card 2)) ∙ sym is

        pub trn-third : (x : CardError) → v ≡ Err x → trn_error counted card ≡ Err x
        unfolding trn_error
        trn-third x e = rw (m, lt-leb (length (fields card)) 2 h, third-is, e)

        pub trn-rest : {u : Unit {0}} → v ≡ Ok u → transfers_error (drop 3 (fields card)) ≡ trn_error counted card
        unfolding trn_error
        trn-rest z = rw (m, lt-leb (length (fields card)) 2 h, third-is, z) (sym (or-else-good (transfers_error (drop 3 (fields card)))))

  -- its word, the third field and those behind it
  module _ {room word : Room} (v : Puts room (84 ∷ 82 ∷ 78 ∷ []) word) where
    pub trn-empty : length (fields card) ≤ 2 → {after : Room} → Puts word (46 ∷ []) after → Puts room (trn_text card) after
    unfolding trn_text
    trn-empty h w = rw (drop_of_length-le (fields card) {i = 2} h) (puts-then v w)

    pub trn-put : 2 < length (fields card) → {comma third after : Room} → Puts word (44 ∷ []) comma
        → Puts comma (third_text (spaceless (raw_field card 2))) third → Puts third (tail_text (drop 3 (fields card))) after
        → Puts room (trn_text card) after
    unfolding trn_text
    trn-put h w x y =
        let e : drop 2 (fields card) ≡ spaceless (raw_field card 2) ∷ drop 3 (fields card) =
        drop-cons (fields card) 2 [] h ∙ ap (λ (t : List ℕ). t ∷ drop 3 (fields card)) (sym (raw-spaceless card 2)) in
        rw e (puts-then v (puts-then w (puts-then x y)))
