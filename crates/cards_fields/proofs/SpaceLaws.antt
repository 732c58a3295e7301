-- Spaces may be dropped before or after a text is cut: at a comma, at a slash. Assumes nothing.
use Prim.Native.Nat.{ℕ, zero, suc, ◌+◌, ◌≤◌, ◌<◌}
use mathlib.Core.Path.{◌≡◌, refl, sym, ap, ◌∙◌}
use mathlib.Core.Bool.{Bool, false, ◌||◌}
use mathlib.Core.List.{List, [], ◌∷◌}
use native.Mathlib.Numerals.{add-one}
use native.Mathlib.Omega.{arith}
use lib.Dec.{eqb}
use lib.ListN.{length, get_or, drop}
use lib.Seq.{drop-cons}
use borrow.Author.Tests.{eq-eqb, eqb-true, ne_eqb}
use Rattle.numbers.proofs.Tests.{by_bool, never}
use Rattle.words.specs.Words.{has, isnt, leading}
use Rattle.cards_fields.specs.Fields.{field, fields, pieces, onto, spaceless, up_to_period, raw_field}
use Rattle.cards_fields.proofs.FieldLaws.{pieces-some}

-- pieces without their spaces
abbrev pub all_spaceless : List (List ℕ) → List (List ℕ)
all_spaceless [] = []
all_spaceless (p ∷ ps) = spaceless p ∷ all_spaceless ps

onto-space : (ps : List (List ℕ)) → 1 ≤ length ps → all_spaceless (onto 32 ps) ≡ all_spaceless ps
onto-space [] h = absurd (omega arith)
onto-space (p ∷ ps) h = refl

onto-other : (b : ℕ) (ps : List (List ℕ)) → eqb b 32 ≡ false → all_spaceless (onto b ps) ≡ onto b (all_spaceless ps)
onto-other b [] e = rw e
onto-other b (p ∷ ps) e = rw e

module _ (cut : ℕ) (n : eqb 32 cut ≡ false) where
  -- THE PIECES of a text without its spaces are its pieces without theirs
  pub pieces-spaceless : (s : List ℕ) → pieces cut (spaceless s) ≡ all_spaceless (pieces cut s)
  pieces-spaceless [] = refl
  pieces-spaceless (b ∷ s) =
      by_bool (eqb b 32)
      (λ e. let i = eqb-true b 32 e in rw (i, n) (pieces-spaceless s ∙ sym (onto-space (pieces cut s) (pieces-some cut s))))
      (λ e. rw e (by_bool (eqb b cut)
      (λ f. rw f (ap (λ (ps : List (List ℕ)). [] ∷ ps) (pieces-spaceless s)))
      (λ f. rw f (ap (onto b) (pieces-spaceless s) ∙ sym (onto-other b (pieces cut s) e)))))

  pub has-spaceless : (s : List ℕ) → has (spaceless s) cut ≡ has s cut
  has-spaceless [] = refl
  has-spaceless (b ∷ s) =
      by_bool (eqb b 32)
      (λ e. let i = eqb-true b 32 e in rw i (has-spaceless s ∙ sym (space-not (has s cut))))
      (λ e. rw e (ap (λ (x : Bool). eqb cut b || x) (has-spaceless s)))
    where
      space-not : (x : Bool) → eqb cut 32 || x ≡ x
      space-not x = rw (ne_eqb cut 32 (λ q. no q))
        where
          no : cut ≡ 32 → ⊥
          no q = never (rw q (eq-eqb 32 32 refl)) n

  -- what stands before the first cut, and behind it
  pub leading-spaceless : (s : List ℕ) → leading (isnt cut) (spaceless s) ≡ spaceless (leading (isnt cut) s)
  leading-spaceless [] = refl
  leading-spaceless (b ∷ s) =
      by_bool (eqb b 32)
      (λ e. let i = eqb-true b 32 e in rw (i, n) (leading-spaceless s))
      (λ e. rw e (by_bool (eqb b cut) (λ f. rw f) (λ f. rw (f, e) (ap (λ (l : List ℕ). b ∷ l) (leading-spaceless s)))))

  pub behind-spaceless : (s : List ℕ)
      → drop (suc (length (leading (isnt cut) (spaceless s)))) (spaceless s) ≡ spaceless (drop (suc (length (leading (isnt cut) s))) s)
  behind-spaceless [] = refl
  behind-spaceless (b ∷ s) =
      by_bool (eqb b 32)
      (λ e. let i = eqb-true b 32 e in rw (i, n) (behind-spaceless s))
      (λ e. rw e (by_bool (eqb b cut) (λ f. rw f) (λ f. rw f (behind-spaceless s))))

get_d-spaceless : (ps : List (List ℕ)) (k : ℕ) → get_or (all_spaceless ps) k [] ≡ spaceless (get_or ps k [])
get_d-spaceless [] zero = refl
get_d-spaceless [] (suc k) = refl
get_d-spaceless (p ∷ ps) zero = refl
get_d-spaceless (p ∷ ps) (suc k) = get_d-spaceless ps k

-- THE PIECE AT AN INDEX
pub piece-spaceless : (cut : ℕ) → eqb 32 cut ≡ false → (s : List ℕ) (k : ℕ)
    → get_or (pieces cut (spaceless s)) k [] ≡ spaceless (get_or (pieces cut s) k [])
piece-spaceless cut n s k = ap (λ (ps : List (List ℕ)). get_or ps k []) (pieces-spaceless cut n s) ∙ get_d-spaceless (pieces cut s) k

-- A FIELD as it stands on its card, without its spaces
pub raw-spaceless : (s : List ℕ) (k : ℕ) → spaceless (raw_field s k) ≡ field s k
unfolding fields
raw-spaceless s k = sym (piece-spaceless 44 refl (up_to_period s) k)

-- as many pieces
pub count-spaceless : (cut : ℕ) → eqb 32 cut ≡ false → (s : List ℕ) → length (pieces cut (spaceless s)) ≡ length (pieces cut s)
count-spaceless cut n s = ap (length {A = List ℕ}) (pieces-spaceless cut n s) ∙ same_count (pieces cut s)
  where
    same_count : (ps : List (List ℕ)) → length (all_spaceless ps) ≡ length ps
    same_count [] = refl
    same_count (p ∷ ps) = ap suc (same_count ps)

-- THE FIELDS FROM ONE ON: the first of them, as it stands on its card, and those behind it
pub fields-step : (card : List ℕ) (k : ℕ) → k < length (fields card) → drop k (fields card) ≡ spaceless (raw_field card k) ∷ drop (k + 1) (fields card)
fields-step card k h =
    rw (add-one k) (drop-cons (fields card) k [] h) ∙ ap (λ (t : List ℕ). t ∷ drop (k + 1) (fields card)) (sym (raw-spaceless card k))
