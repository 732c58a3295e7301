-- A text cut at a byte: its pieces, one after the other, and how many they are; a text gathered without its spaces.
-- Assumes nothing.
use Prim.Native.Nat.{ℕ, suc, ◌+◌, ◌≤◌, ◌<◌}
use mathlib.Core.Path.{◌≡◌, refl, sym, ap, ◌∙◌}
use mathlib.Core.Bool.{Bool, false, not, ◌&&◌, ◌||◌}
use mathlib.Core.List.{List, [], ◌∷◌}
use native.Mathlib.Omega.{arith}
use lib.Dec.{eqb, leb}
use lib.ListN.{length, get_or, drop, take, drop_of_length-le}
use borrow.Author.Tests.{eq-eqb, ne_eqb, le-leb, lt-leb}
use Rattle.numbers.proofs.Tests.{by_bool}
use Rattle.text.specs.Class.{is_alnum, is_digit}
use Rattle.words.specs.Words.{every, has, isnt, leading, number_in}
use Rattle.words.proofs.WordLaws.{drop-step, leading-front, number-long}
use denote.Ref.{Bor}
use Rattle.std.specs.Prelude.{Option, Some, None, slice_get}
use Rattle.std.specs.Option.{unwrap_or, option_map}
use Rattle.std.specs.List.{count_by, slice_split, onto_first}
use Rattle.std.proofs.lemmas.Option.{unwrap_or-slice_get}
use Rattle.std.proofs.lemmas.List.Splits.{length-slice_split}
use Rattle.cards_fields.specs.Fields.{pieces, onto, spaceless, up_to_period, is_name, field_of}
use Rattle.cards_fields.specs.FieldBytes.{pushed}
use Rattle.cards_fields.specs.declared.Field.{Field}
use Rattle.cards_fields.proofs.FieldLaws.{added_all, whole}

-- a text that is cut, or is not
pub pieces_more : (cut : ℕ) (s : List ℕ) → length (leading (isnt cut) s) < length s
    → pieces cut s ≡ leading (isnt cut) s ∷ pieces cut (drop (suc (length (leading (isnt cut) s))) s)
pieces_more cut [] h = absurd (omega arith)
pieces_more cut (b ∷ s) h =
    by_bool (eqb b cut) (λ e. rw e)
    (λ e.
    let g : suc (length (leading (isnt cut) s)) < suc (length s) = rw e at h in
    rw e (ap (onto b) (pieces_more cut s (omega arith))))

pub pieces-last : (cut : ℕ) (s : List ℕ) → length s ≤ length (leading (isnt cut) s) → pieces cut s ≡ s ∷ []
pieces-last cut [] h = refl
pieces-last cut (b ∷ s) h =
    by_bool (eqb b cut)
    (λ e. let g : suc (length s) ≤ 0 = rw e at h in absurd (omega arith))
    (λ e.
    let g : suc (length s) ≤ suc (length (leading (isnt cut) s)) = rw e at h in
    rw e (ap (onto b) (pieces-last cut s (omega arith))))

-- THE PIECES are those that std's split gives at the byte
pub split-pieces : (cut : ℕ) (s : List ℕ) → slice_split (λ b. eqb b cut) s ≡ pieces cut s
split-pieces cut [] = refl
split-pieces cut (b ∷ s) =
    by_bool (eqb b cut) (λ e. rw e (ap (λ (ps : List (List ℕ)). [] ∷ ps) (split-pieces cut s)))
    (λ e. rw e (ap (onto_first b) (split-pieces cut s) ∙ onto-first (pieces cut s)))
  where
    onto-first : (ps : List (List ℕ)) → onto_first b ps ≡ onto b ps
    onto-first [] = refl
    onto-first (p ∷ ps) = refl

pub cut-count : (cut : ℕ) (s : List ℕ) → count_by (λ b. eqb b cut) s + 1 ≡ length (pieces cut s)
cut-count cut s = sym (length-slice_split (λ b. eqb b cut) s) ∙ ap (length {A = List ℕ}) (split-pieces cut s)

-- one of them, as it is lent
pub piece-lent : (cut : ℕ) (s : List ℕ) (k : ℕ) (o : Option (Bor (List ℕ))) (d : Bor (List ℕ))
    → option_map (λ x. x.now) o ≡ slice_get (slice_split (λ b. eqb b cut) s) k → d.now ≡ [] → (unwrap_or o d).now ≡ get_or (pieces cut s) k []
piece-lent cut s k o d e z =
    now o ∙ rw (e, z) (unwrap_or-slice_get (slice_split (λ b. eqb b cut) s) k []) ∙ ap (λ (ps : List (List ℕ)). get_or ps k []) (split-pieces cut s)
  where
    now : (o : Option (Bor (List ℕ))) → (unwrap_or o d).now ≡ unwrap_or (option_map (λ x. x.now) o) d.now
    now None = refl
    now (Some x) = refl

-- what stands before the first period
pub up_to : (s : List ℕ) → up_to_period s ≡ leading (isnt 46) s
up_to [] = refl
up_to (b ∷ s) = by_bool (eqb b 46) (λ e. rw e) (λ e. rw e (ap (λ (l : List ℕ). b ∷ l) (up_to s)))

pub before-period : (s : List ℕ) (n : ℕ) → n ≡ length (leading (isnt 46) s) → take n s ≡ up_to_period s
before-period s n e = rw e (leading-front (isnt 46) s) ∙ sym (up_to s)

-- gathered byte by byte
pub gather-step : (s : List ℕ) (i : ℕ) (f : Field) → i < length s
    → added_all (pushed f (get_or s i 0)) (spaceless (drop (i + 1) s)) ≡ added_all f (spaceless (drop i s))
gather-step s i f h = rw (drop-step s i h) (by_bool (eqb (get_or s i 0) 32) (λ e. rw e) (λ e. rw e))

pub gather-end : (s : List ℕ) (i : ℕ) (f : Field) → length s ≤ i → added_all f (spaceless (drop i s)) ≡ f
gather-end s i f h = rw (drop_of_length-le s h)

-- and put byte by byte
module _ (s : List ℕ) (i : ℕ) (h : i < length s) where
  pub name-byte : (get_or s i 0 ≡ 32 → ⊥) → spaceless (drop i s) ≡ get_or s i 0 ∷ spaceless (drop (i + 1) s)
  name-byte n = rw (drop-step s i h, ne_eqb (get_or s i 0) 32 n)

  pub name-blank : get_or s i 0 ≡ 32 → spaceless (drop i s) ≡ spaceless (drop (i + 1) s)
  name-blank e = rw (drop-step s i h, eq-eqb (get_or s i 0) 32 e)

pub name-end : (s : List ℕ) (i : ℕ) → length s ≤ i → spaceless (drop i s) ≡ []
name-end s i h = rw (drop_of_length-le s h)

-- a name, by the tests that the code makes
module _ (t : List ℕ) (f : Field) (is : f ≡ field_of t) where
  size : f.len ≡ length t
  size = ap (λ (x : Field). x.len) is

  pub name-none : f.len < 1 → is_name t ≡ false
  unfolding is_name
  name-none h = rw (lt-leb 1 (length t) (omega (arith, size)))

  pub name-long : 1 ≤ f.len → 6 < f.len → is_name t ≡ false
  unfolding is_name
  name-long g h = rw (le-leb 1 (length t) (omega (arith, size)), lt-leb (length t) 6 (omega (arith, size)))

  pub name-some : 1 ≤ f.len → f.len ≤ 6 → every is_alnum (take f.len f.bytes) ≡ is_name t
  unfolding is_name
  name-some g h = rw (le-leb 1 (length t) (omega (arith, size)), le-leb (length t) 6 (omega (arith, size)), whole f t is (omega arith))

  pub number-much : 6 < f.len → number_in t ≡ 0
  number-much h = number-long t (omega (arith, size))

  pub number-few : f.len ≤ 6 → number_in (take f.len f.bytes) ≡ number_in t
  number-few h = ap number_in (whole f t is (omega arith))

-- something is left without the spaces where another byte stands
pub some-spaceless : (s : List ℕ) → not (every (has (32 ∷ [])) s) ≡ leb 1 (length (spaceless s))
some-spaceless [] = refl
some-spaceless (b ∷ s) =
    by_bool (eqb b 32) (λ e. rw e (some-spaceless s)) (λ e. rw (e, le-leb 1 (suc (length (spaceless s))) (omega arith)))

-- digits, with spaces among them or without
pub digits-spaceless : (s : List ℕ) → every (λ b. eqb b 32 || is_digit b) s ≡ every is_digit (spaceless s)
digits-spaceless [] = refl
digits-spaceless (b ∷ s) = by_bool (eqb b 32) (λ e. rw e (digits-spaceless s)) (λ e. rw e (ap (λ (x : Bool). is_digit b && x) (digits-spaceless s)))
