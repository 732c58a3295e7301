-- A piece put is the piece to come: the first group of what is left of a deck is taken in turn. Assumes nothing.
use Prim.Native.Nat.{ℕ, zero, suc, ◌+◌, ◌-◌, ◌≤◌}
use mathlib.Core.Path.{◌≡◌, refl, sym, ap, subst, ◌∙◌}
use mathlib.Core.List.{List, [], ◌∷◌}
use native.Mathlib.Omega.{arith}
use lib.ListN.{length, get_or, take, drop, length-take, length-drop, drop_of_length-le}
use lib.Seq.{length-take-le, take_all}
use Rattle.numbers.specs.declared.Refusal.{Refusal}
use Rattle.text.specs.Room.{Written, Whole}
use Rattle.text.proofs.RoomLaws.{none, entire}
use Rattle.cards_fields.specs.Deck.{cards_of, size, groups_of, group_size, deck_end}
use Rattle.cards_fields.proofs.Groups.{First, no-groups, first_group_lem}
use Rattle.cards_fields.specs.Deck.{DeckEnd}
use Rattle.cards_lines.specs.Shown.{shown_by, refused_text}
use Rattle.cards_group.specs.Group.{read_full}
use Rattle.cards_report.specs.Cards.{text_by, group_text, end_text, begin_by, begin, left, piece_by, piece, over, next_by, after, Prints}
use Rattle.cards_report.proofs.Bounds.{text-short, refused-short}
use Rattle.cards_report.specs.declared.Coming.{Coming}
use Rattle.cards_report.specs.declared.Coming.TheVariants.{Groups, Refused, Over}
use Rattle.cards_report.specs.declared.Printing.{Printing}

-- ---- what is left of a deck

-- as the code takes it
module _ (s : List ℕ) (from end : ℕ) where
  pub part-past : length s ≤ from → [] ≡ take (end - from) (drop from s)
  part-past h = sym (ap (take (end - from)) (drop_of_length-le s h) ∙ take_none (end - from))
    where
      take_none : (n : ℕ) → take {A = ℕ} n [] ≡ []
      take_none zero = refl
      take_none (suc n) = refl

  pub part_none : end ≤ from → [] ≡ take (end - from) (drop from s)
  part_none h = let e : end - from ≡ 0 = omega arith in rw e

  pub part-long : length s ≤ end → take (length s - from) (drop from s) ≡ take (end - from) (drop from s)
  part-long h =
      take_all (length s - from) (drop from s) (omega (arith, length-drop from s))
      ∙ sym (take_all (end - from) (drop from s) (omega (arith, length-drop from s)))

-- ---- a piece

-- groups are to come
abbrev pub to : ℕ → ℕ → List ℕ → Printing
to from end shown = record { coming = Groups; from = from; end = end; shown = shown }

module _ (s : List ℕ) (p : Printing) where
  module _ {room after· : List ℕ} (l : length room ≡ 2048) where
    prints : (piece· : List ℕ) (next : Printing) → piece· ≡ piece s p → next ≡ after s p → length piece· ≤ 2048 → {at : ℕ}
        → Written room 0 piece· after· at
        → Prints s p room after· (record { at = at; printing = next })
    prints piece· next a b h {at} w = record {
      text = subst (λ (x : List ℕ). Whole x room after· at) a (entire w (omega (arith, h, l)));
      then = b;
    }

    pub refused-prints : (refusal : Refusal) → p.coming ≡ Refused refusal → {at : ℕ} → Written room 0 (refused_text refusal) after· at
        → {next : Printing} → next ≡ over p
        → Prints s p room after· (record { at = at; printing = next })
    refused-prints refusal e w {next} n =
        prints (refused_text refusal) next
        (ap (λ (x : Coming). piece_by x (left s p) p.shown) (sym e))
        (n ∙ ap (λ (x : Coming). next_by x (left s p) p) (sym e))
        (omega (arith, refused-short refusal)) w

  module _ {d g : List ℕ} (r : d ≡ take (p.end - p.from) (drop p.from s)) (f : g ≡ take (group_size d) d) where
    by_left : p.coming ≡ Groups → (gs : List (List (List ℕ))) → groups_of (cards_of d) ≡ gs
        → (piece_by Groups gs p.shown ≡ piece s p) × (next_by Groups gs p ≡ after s p)
    by_left e gs q =
        let k : gs ≡ left s p = sym q ∙ ap (λ (x : List ℕ). groups_of (cards_of x)) r in (
          ap (λ (x : List (List (List ℕ))). piece_by Groups x p.shown) k ∙ ap (λ (x : Coming). piece_by x (left s p) p.shown) (sym e),
          ap (λ (x : List (List (List ℕ))). next_by Groups x p) k ∙ ap (λ (x : Coming). next_by x (left s p) p) (sym e),
        )

    pub end-prints : p.coming ≡ Groups → length g ≡ 0 → {room after· : List ℕ} → length room ≡ 2048 → {at : ℕ}
        → Written room 0 end_text after· at → {next : Printing} → next ≡ over p
        → Prints s p room after· (record { at = at; printing = next })
    end-prints e z l w {next} n =
        let x = by_left e [] (no-groups d (sym (ap length f) ∙ z)) in prints l end_text next x.0 (n ∙ x.1) (omega arith) w

    module _ (z : length g ≡ 0 → ⊥) where
      found : First d
      found = first_group_lem d (λ k. z (ap length f ∙ k))

      pub group-within : p.from + length g ≤ length s
      group-within =
          omega (
            arith,
            found.some,
            found.within,
            ap length f,
            length-take (group_size d) d,
            ap length r,
            length-take (p.end - p.from) (drop p.from s),
            length-drop p.from s,
          )

      pub group-prints : p.coming ≡ Groups → {card shown room after· : List ℕ} → length room ≡ 2048 → card ≡ get_or (cards_of g) 0 []
          → shown ≡ shown_by card p.shown → length shown ≡ 6
          → {at : ℕ} → Written room 0 (text_by (read_full (cards_of g)).verdict (read_full (cards_of g)).full shown) after· at
          → Prints s p room after·
          (record { at = at; printing = record { coming = Groups; from = p.from + length g; end = p.end; shown = shown } })
      unfolding group_text
      group-prints e {card} {shown} l c h m w =
          let q : groups_of (cards_of d) ≡ cards_of g ∷ groups_of (cards_of (drop (group_size d) d)) =
          found.next ∙ ap (λ (x : List ℕ). cards_of x ∷ groups_of (cards_of (drop (group_size d) d))) (sym f) in
          let x = by_left e (cards_of g ∷ groups_of (cards_of (drop (group_size d) d))) q in
          let n : length g ≡ size (cards_of g) =
          ap length f ∙ length-take-le (group_size d) d found.within ∙ sym found.sized ∙ ap (λ (y : List ℕ). size (cards_of y)) (sym f) in
          let i : shown ≡ shown_by (get_or (cards_of g) 0 []) p.shown = h ∙ ap (λ (y : List ℕ). shown_by y p.shown) c in
          let j : to (p.from + length g) p.end shown ≡ after s p =
          ap (λ (k : ℕ). to (p.from + k) p.end shown) n ∙ ap (λ (y : List ℕ). to (p.from + size (cards_of g)) p.end y) i ∙ x.1 in
          prints l (text_by (read_full (cards_of g)).verdict (read_full (cards_of g)).full shown)
          (to (p.from + length g) p.end shown)
          (ap (λ (y : List ℕ). text_by (read_full (cards_of g)).verdict (read_full (cards_of g)).full y) i ∙ x.0)
          j
          (text-short (read_full (cards_of g)).verdict (read_full (cards_of g)).full shown (omega (arith, m)))
          w

pub over-prints : (s : List ℕ) (p : Printing) (room : List ℕ) → p.coming ≡ Over → {next : Printing} → next ≡ over p
    → Prints s p room room (record { at = 0; printing = next })
over-prints s p room e {next} n = record {
  text = subst (λ (x : List ℕ). Whole x room room 0) (ap (λ (x : Coming). piece_by x (left s p) p.shown) (sym e))
      (entire (none room 0) (omega arith));
  then = n ∙ ap (λ (x : Coming). next_by x (left s p) p) (sym e);
}

-- ---- before the first piece
module _ (s : List ℕ) {end : DeckEnd} (is : end ≡ deck_end s) where
  pub begins : {e : DeckEnd} → end ≡ e → begin_by e ≡ begin s
  begins q = ap begin_by (sym q ∙ is)
