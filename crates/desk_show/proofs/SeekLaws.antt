-- THE GROUPS OF A DECK GONE THROUGH: while none before has the ID, those before and those to come are all; the first
-- that has it stands where the code is, and its bytes are the deck's. Assumes nothing.
use Prim.Native.Nat.{ℕ, ◌+◌, ◌-◌, ◌≤◌}
use mathlib.Core.Path.{◌≡◌, refl, sym, ap, subst, ◌∙◌}
use mathlib.Core.Bool.{Bool, true, false}
use mathlib.Core.List.{List, [], ◌∷◌, ◌++◌, append_assoc, append-nil}
use native.Mathlib.Omega.{arith}
use lib.ListN.{length, get_or, take, drop, length-drop, length-append, drop_of_length-le}
use lib.Seq.{drop-drop, length-take-le, take_all}
use Rattle.words.specs.Lines.{lines_text, size}
use Rattle.words.proofs.LineLaws.{lines-text}
use Rattle.cards_fields.specs.Fields.{fields}
use Rattle.cards_fields.specs.Deck.{cards_of, group_size}
use Rattle.cards_fields.proofs.FieldLaws.{rest-is}
use Rattle.cards_fields.proofs.Groups.{First, no-groups, first_group_lem}
use Rattle.desk_show.specs.Showing.{opens_for, has_id, NoneHas, groups_text}
use Rattle.desk_show.specs.Seeking.{groups_in, StandsAt}

-- groups one behind the other
none-one : (id : List ℕ) (gs : List (List (List ℕ))) (g : List (List ℕ)) → NoneHas id gs → has_id id g ≡ false → NoneHas id (gs ++ (g ∷ []))
none-one id [] g n h = (h, tt)
none-one id (x ∷ gs) g n h = (n.0, none-one id gs g n.1 h)

text-one : (gs : List (List (List ℕ))) (g : List (List ℕ)) → length (groups_text (gs ++ (g ∷ []))) ≡ length (groups_text gs) + length (lines_text g)
text-one [] g = omega (arith, length-append (lines_text g) [])
text-one (x ∷ gs) g =
    omega (arith, text-one gs g, length-append (lines_text x) (groups_text (gs ++ (g ∷ []))), length-append (lines_text x) (groups_text gs))

-- the first card decides, and where there is none no field is PTY
by_first : (id : List ℕ) (cards : List (List ℕ)) → opens_for id (get_or cards 0 []) ≡ has_id id cards
unfolding fields
by_first id [] = refl
by_first id (card ∷ cards) = refl

-- what the loop over the groups keeps
pub record Seeking (id cards : List ℕ) (from : ℕ) : Type 0 where
  pub within : from ≤ length cards
  pub earlier : List (List (List ℕ))
  pub among : groups_in cards ≡ earlier ++ groups_in (drop from cards)
  pub others : NoneHas id earlier
  pub start : from ≡ length (groups_text earlier)

pub seek-start : (id cards : List ℕ) → Seeking id cards 0
seek-start id cards = record { within = omega arith; earlier = []; among = refl; others = tt; start = refl }

module _ {id cards : List ℕ} {from : ℕ} (w : Seeking id cards from) where
  none_left : groups_in (drop from cards) ≡ [] → NoneHas id (groups_in cards)
  none_left e =
      subst (λ (gs : List (List (List ℕ))). NoneHas id gs)
      (sym (w.among ∙ ap (λ (l : List (List (List ℕ))). w.earlier ++ l) e ∙ append-nil w.earlier)) w.others

  pub seek-end : length cards ≤ from → NoneHas id (groups_in cards)
  seek-end h = none_left (rw (drop_of_length-le cards h))

  -- the group that the code has found
  module _ {g : List ℕ}
      (is : g ≡ take (group_size (take (length cards - from) (drop from cards))) (take (length cards - from) (drop from cards))) where
    group-is : g ≡ take (group_size (drop from cards)) (drop from cards)
    group-is = is ∙ ap (λ (l : List ℕ). take (group_size l) l) (rest-is cards from)

    pub seek-over : length g ≡ 0 → NoneHas id (groups_in cards)
    seek-over z = none_left (no-groups (drop from cards) (sym (ap length group-is) ∙ z))

    module _ (n : length g ≡ 0 → ⊥) where
      found : First (drop from cards)
      found = first_group_lem (drop from cards) (λ z. n (ap length group-is ∙ z))

      long : length g ≡ group_size (drop from cards)
      long = ap length group-is ∙ length-take-le (group_size (drop from cards)) (drop from cards) found.within

      pub seek-within : from + length g ≤ length cards
      seek-within = omega (arith, long, found.some, found.within, length-drop from cards)

      -- it is all its cards, each with its LF
      text : lines_text (cards_of g) ≡ g
      text =
          let k : size (cards_of g) ≡ length g = ap (λ (l : List ℕ). size (cards_of l)) group-is ∙ found.sized ∙ sym long in
          lines-text g ∙ rw k (take_all (length g) g (omega arith))

      next : groups_in (drop from cards) ≡ cards_of g ∷ groups_in (drop (from + length g) cards)
      next =
          found.next ∙ ap (λ (l : List ℕ). cards_of l ∷ groups_in (drop (group_size (drop from cards)) (drop from cards))) (sym group-is)
          ∙ ap (λ (k : ℕ). cards_of g ∷ groups_in (drop k (drop from cards))) (sym long)
          ∙ ap (λ (l : List ℕ). cards_of g ∷ groups_in l) (drop-drop (length g) from cards)

      module _ {card : List ℕ} {b : Bool} (c : card ≡ get_or (cards_of g) 0 []) (o : b ≡ opens_for id card) where
        has : b ≡ has_id id (cards_of g)
        has = o ∙ ap (opens_for id) c ∙ by_first id (cards_of g)

        pub seek-turn : b ≡ false → Seeking id cards (from + length g)
        seek-turn f = record {
          within = seek-within;
          earlier = w.earlier ++ (cards_of g ∷ []);
          among = w.among ∙ ap (λ (l : List (List (List ℕ))). w.earlier ++ l) next
              ∙ sym (append_assoc w.earlier (cards_of g ∷ []) (groups_in (drop (from + length g) cards)));
          others = none-one id w.earlier (cards_of g) w.others (sym has ∙ f);
          start = omega (arith, w.start, text-one w.earlier (cards_of g), ap length text);
        }

        pub seek_found : b ≡ true → StandsAt id cards from (length g)
        seek_found t = record {
          first = record {
            earlier = w.earlier;
            own = cards_of g;
            later = groups_in (drop (from + length g) cards);
            among = w.among ∙ ap (λ (l : List (List (List ℕ))). w.earlier ++ l) next;
            others = w.others;
            its = sym has ∙ t;
            start = w.start;
            bytes = ap (λ (k : ℕ). take k (drop from cards)) long ∙ sym group-is ∙ sym text;
          };
          within = seek-within;
        }
