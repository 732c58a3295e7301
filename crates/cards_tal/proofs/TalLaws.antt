-- A TAL card by the tests that the code makes: an entry's number, an entry, the entries one further; and the text of
-- the entries, put one after the other. Assumes nothing.
use Prim.Native.Nat.compare
use Prim.Native.Nat.{ℕ, suc, ◌+◌, ◌-◌, ◌≤◌, ◌<◌}
use mathlib.Core.Path.{◌≡◌, refl, sym, ap, ◌∙◌}
use mathlib.Core.Bool.{true, false}
use mathlib.Core.List.{List, [], ◌∷◌, ◌++◌}
use native.Mathlib.Numerals.{add-one}
use native.Mathlib.Omega.{arith}
use lib.Dec.{eqb, ltb}
use lib.ListN.{length, take, drop, drop_of_length-le}
use borrow.Author.Tests.{eqb-true, le-ltb, lt-ltb}
use Rattle.numbers.proofs.Tests.{by_bool}
use Rattle.text.specs.Room.{Puts}
use Rattle.text.specs.declared.room.Room.{Room}
use Rattle.text.specs.Writing.{decimal_text}
use Rattle.text.proofs.RoomLaws.{Goes, puts-then, goes-turn}
use Rattle.words.specs.Words.{isnt, leading, number_in}
use Rattle.words.proofs.WordLaws.{leading-front, leading-most}
use Rattle.cards_fields.specs.Fields.{fields, spaceless, is_name, tail_text, raw_field}
use Rattle.cards_fields.proofs.FieldLaws.{rest-is, whole}
use Rattle.cards_fields.proofs.SpaceLaws.{leading-spaceless, behind-spaceless, fields-step}
use Rattle.cards_request.specs.declared.CardError.{CardError}
use Rattle.cards_request.specs.declared.CardError.TheVariants.{TalWrong}
use Rattle.cards_request.specs.Errors.{CardVerdict}
use Rattle.std.specs.Prelude.{Ok, Err}
use Rattle.cards_tal.specs.Tal.{name_of, number_of, slashed, number_error, entry_error, entries_error, entry_text, entry_texts, tal_text}

one_more : (a b : ℕ) → ltb (suc a) (suc b) ≡ ltb a b
one_more a b = rw (compare.suc-suc (suc a) b)

-- spaces may be dropped before it is seen that there is a slash
slashed-spaceless : (s : List ℕ) → slashed (spaceless s) ≡ slashed s
slashed-spaceless [] = refl
slashed-spaceless (b ∷ s) =
    by_bool (eqb b 32)
    (λ e. let i = eqb-true b 32 e in rw i (slashed-spaceless s ∙ sym (one_more (length (name_of s)) (length s))))
    (λ e.
    rw e (by_bool (eqb b 47)
    (λ f. rw f (sooner (length (spaceless s)) ∙ sym (sooner (length s))))
    (λ f. rw f
    (one_more (length (name_of (spaceless s))) (length (spaceless s)) ∙ slashed-spaceless s ∙ sym (one_more (length (name_of s)) (length s))))))
  where
    sooner : (n : ℕ) → ltb 0 (suc n) ≡ true
    sooner n = lt-ltb 0 (suc n) (omega arith)

-- no digits write 0
none : number_in [] ≡ 0
unfolding number_in
none = refl

-- an entry that is cut at its first slash
module _ (t : List ℕ) (at : ℕ) (is : at ≡ length (leading (isnt 47) t)) where
  pub at_most : at ≤ length t
  at_most = omega (arith, leading-most (isnt 47) t)

  name-is : spaceless (take at t) ≡ name_of (spaceless t)
  name-is = rw (is, leading-front (isnt 47) t) (sym (leading-spaceless 47 refl t))

  number_is : spaceless (drop (at + 1) t) ≡ number_of (spaceless t)
  number_is = rw (is, add-one (length (leading (isnt 47) t)), add-one (length (name_of (spaceless t)))) (sym (behind-spaceless 47 refl t))

  rest : spaceless (take (length t - (at + 1)) (drop (at + 1) t)) ≡ number_of (spaceless t)
  rest = ap spaceless (rest-is t (at + 1)) ∙ number_is

  pub entry-uncut : at ≡ length t → entry_error (spaceless t) ≡ Err TalWrong
  unfolding entry_error
  entry-uncut e = rw (slashed-spaceless t, le-ltb (length (leading (isnt 47) t)) (length t) (omega arith))

  module _ (n : at ≡ length t → ⊥) where
    cut : slashed (spaceless t) ≡ true
    cut = slashed-spaceless t ∙ lt-ltb (length (leading (isnt 47) t)) (length t) (omega (arith, at_most))

    pub entry-nameless : is_name (spaceless (take at t)) ≡ false → entry_error (spaceless t) ≡ Err TalWrong
    unfolding entry_error
    entry-nameless e = rw (cut, ← name-is, e)

    pub entry_named : is_name (spaceless (take at t)) ≡ true
        → number_error (spaceless (take (length t - (at + 1)) (drop (at + 1) t))) ≡ entry_error (spaceless t)
    unfolding entry_error
    entry_named e = rw (rest, cut, ← name-is, e)

  -- and its text
  module _ {room named cutted after : Room} {n : ℕ} (v : Puts room (spaceless (take at t)) named) (w : Puts named (47 ∷ []) cutted)
      (x : Puts cutted (decimal_text n) after) where
    put-parts : n ≡ number_in (number_of (spaceless t)) → Puts room (entry_text (spaceless t)) after
    unfolding entry_text
    put-parts e =
        let d : spaceless (take at t) ++ (47 ∷ decimal_text n) ≡ name_of (spaceless t) ++ (47 ∷ decimal_text (number_in (number_of (spaceless t)))) =
        rw (name-is, e) in
        rw d at (puts-then v (puts-then w x))

    pub put-numberless : at ≡ length t → n ≡ 0 → Puts room (entry_text (spaceless t)) after
    put-numberless e z = put-parts (z ∙ sym (ap number_in (sym number_is ∙ ap spaceless (drop_of_length-le t {i = at + 1} (omega arith))) ∙ none))

    pub put-number : n ≡ number_in (spaceless (take (length t - (at + 1)) (drop (at + 1) t))) → Puts room (entry_text (spaceless t)) after
    put-number e = put-parts (e ∙ ap number_in rest)

-- the entries from one on
module _ (card : List ℕ) (k : ℕ) where
  module _ (h : k < length (fields card)) where
    module _ (v : CardVerdict) (is : v ≡ entry_error (spaceless (raw_field card k))) where
      pub entry-wrong : (x : CardError) → v ≡ Err x → entries_error (drop k (fields card)) ≡ Err x
      entry-wrong x e = rw (fields-step card k h, ← is, e)

      pub entry_next : {u : Unit {0}} → v ≡ Ok u → entries_error (drop k (fields card)) ≡ entries_error (drop (k + 1) (fields card))
      entry_next z = rw (fields-step card k h, ← is, z)

    pub entry-turn : {first room comma after : Room} {whole : List ℕ} → Goes first whole room (tail_text (entry_texts (drop k (fields card))))
        → Puts room (44 ∷ []) comma → Puts comma (entry_text (spaceless (raw_field card k))) after
        → Goes first whole after (tail_text (entry_texts (drop (k + 1) (fields card))))
    entry-turn {whole = whole} g v w = goes-turn {whole = whole} (goes-turn {whole = whole} (rw (fields-step card k h) at g) v) w

  module _ (h : length (fields card) ≤ k) where
    pub entries-done : entries_error (drop k (fields card)) ≡ Ok tt
    entries-done = rw (drop_of_length-le (fields card) {i = k} h)

    pub entries-end : {first room after : Room} {whole : List ℕ} → Goes first whole room (tail_text (entry_texts (drop k (fields card))))
        → Puts room (46 ∷ []) after → Puts first whole after
    entries-end {after = after} g w = (rw (drop_of_length-le (fields card) {i = k} h) at g) after w

-- the card: its word, and the entries behind it
pub tal-put : (card : List ℕ) {room word after : Room} → Puts room (84 ∷ 65 ∷ 76 ∷ []) word
    → Puts word (tail_text (entry_texts (drop 2 (fields card)))) after → Puts room (tal_text card) after
unfolding tal_text
tal-put card v w = puts-then v w
