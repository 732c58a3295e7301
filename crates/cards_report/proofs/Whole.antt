-- THE PIECES ARE THE WHOLE: one behind the other they are what the program prints, and then nothing more is to come.
-- Assumes nothing.
use Prim.Native.Nat.{ℕ, zero, suc, ◌+◌, ◌-◌, ◌≤◌, ◌<◌}
use mathlib.Core.Path.{◌≡◌, refl, sym, ap, ◌∙◌}
use mathlib.Core.Bool.{Bool, true, false}
use mathlib.Core.List.{List, [], ◌∷◌, ◌++◌, append-nil}
use native.Mathlib.Omega.{arith}
use lib.ListN.{length, get_or, take, drop, length-take}
use lib.Seq.{drop-drop}
use Rattle.numbers.specs.Quoted.{bytes}
use Rattle.cards_fields.specs.Deck.{cards_of, size, opens, onto_group, groups_of, group_size, deck_end, deck_groups}
use Rattle.cards_fields.proofs.Groups.{size-cards, deck-cards, Either, empty, full, either}
use Rattle.cards_fields.specs.Deck.{DeckEnd}
use Rattle.std.specs.Prelude.{Ok, Err}
use Rattle.cards_lines.specs.Shown.{shown_by, refused_text}
use Rattle.cards_report.specs.Cards.{group_text, groups_text, end_text, cards_by, cards_text, begin_by}
use Rattle.cards_report.specs.Cards.{begin, left, piece_by, over, next_by, after, turns}
use Rattle.cards_report.proofs.Pieces.{to}
use Rattle.cards_report.specs.declared.Coming.{Coming}
use Rattle.cards_report.specs.declared.Coming.TheVariants.{Groups, Over}
use Rattle.cards_report.specs.declared.Printing.{Printing}

-- what is to come behind so many pieces
abbrev pub after_all : ℕ → List ℕ → Printing → Printing
after_all zero s p = p
after_all (suc n) s p = after_all n s (after s p)

-- n pieces from p on are a text, and nothing more is to come behind them
pub record All (n : ℕ) (s : List ℕ) (p : Printing) (text : List ℕ) : Type 0 where
  pub whole : turns n s p ≡ text
  pub then : (after_all n s p).coming ≡ Over

-- ---- a part behind a part

none_of : (n : ℕ) → [] ≡ take {A = ℕ} n []
none_of zero = refl
none_of (suc n) = refl

behind-part : (k m : ℕ) (l : List ℕ) → drop k (take m l) ≡ take (m - k) (drop k l)
behind-part zero m l = let e : m - 0 ≡ m = omega arith in rw e
behind-part (suc k) zero l = let e : 0 - suc k ≡ 0 = omega arith in rw e
behind-part (suc k) (suc m) [] = none_of (suc m - suc k)
behind-part (suc k) (suc m) (x ∷ l) = let e : suc m - suc k ≡ m - k = omega arith in rw e (behind-part k m l)

-- the groups left behind the first are the others
others : (s : List ℕ) (from end : ℕ) (g : List (List ℕ)) (gs : List (List (List ℕ))) → groups_of (cards_of (take (end - from) (drop from s))) ≡ g ∷ gs
    → groups_of (cards_of (take (end - (from + size g)) (drop (from + size g) s))) ≡ gs
others s from end g gs e = by (either d)
  where
    d : List ℕ
    d = take (end - from) (drop from s)

    by : Either d → groups_of (cards_of (take (end - (from + size g)) (drop (from + size g) s))) ≡ gs
    by (empty q k) = let n : [] ≡ g ∷ gs = sym q ∙ e in let z : ◌≡◌ {A = ℕ} 0 1 = cc in absurd (omega arith)
    by (full f) =
        let n : cards_of (take (group_size d) d) ∷ groups_of (cards_of (drop (group_size d) d)) ≡ g ∷ gs = sym f.next ∙ e in
        let i : cards_of (take (group_size d) d) ≡ g = cc in
        let j : groups_of (cards_of (drop (group_size d) d)) ≡ gs = cc in
        let k : group_size d ≡ size g = sym f.sized ∙ ap size i in
        let m : end - from - size g ≡ end - (from + size g) = omega arith in
        let x : drop (group_size d) d ≡ take (end - (from + size g)) (drop (from + size g) s) =
        ap (λ (a : ℕ). drop a d) k ∙ behind-part (size g) (end - from) (drop from s) ∙ ap (λ (a : ℕ). take a (drop (size g) (drop from s))) m
        ∙ ap (take (end - (from + size g))) (drop-drop (size g) from s) in
        ap (λ (l : List ℕ). groups_of (cards_of l)) (sym x) ∙ j

-- ---- all pieces

-- nothing comes behind the last
nothing : (n : ℕ) (s : List ℕ) (p : Printing) → p.coming ≡ Over → All n s p []
nothing zero s p e = record { whole = refl; then = e }
nothing (suc n) s p e =
    let a : after s p ≡ over p = ap (λ (x : Coming). next_by x (left s p) p) e in
    let ih = nothing n s (over p) refl in
    record {
      whole = ap (λ (x : Coming). piece_by x (left s p) p.shown ++ turns n s (after s p)) e ∙ ap (turns n s) a ∙ ih.whole;
      then = ap (λ (q : Printing). (after_all n s q).coming) a ∙ ih.then;
    }

-- the groups in turn, then the last line
in-groups : (n : ℕ) (s : List ℕ) (from end : ℕ) (shown : List ℕ) (gs : List (List (List ℕ)))
    → groups_of (cards_of (take (end - from) (drop from s))) ≡ gs → length gs < n
    → All n s (to from end shown) (groups_text shown gs)
in-groups zero s from end shown gs e h = absurd (omega arith)
in-groups (suc n) s from end shown [] e h =
    let p = to from end shown in
    let ih = nothing n s (over p) refl in
    record {
      whole = ap (λ (x : List (List (List ℕ))). piece_by Groups x shown ++ turns n s (next_by Groups x p)) e
          ∙ ap (λ (l : List ℕ). end_text ++ l) ih.whole;
      then = ap (λ (x : List (List (List ℕ))). (after_all n s (next_by Groups x p)).coming) e ∙ ih.then;
    }
in-groups (suc n) s from end shown (g ∷ gs) e h =
    let p = to from end shown in
    let ih = in-groups n s (from + size g) end (shown_by (get_or g 0 []) shown) gs (others s from end g gs e) (omega arith) in
    record {
      whole = ap (λ (x : List (List (List ℕ))). piece_by Groups x shown ++ turns n s (next_by Groups x p)) e
          ∙ ap (λ (l : List ℕ). group_text shown g ++ l) ih.whole;
      then = ap (λ (x : List (List (List ℕ))). (after_all n s (next_by Groups x p)).coming) e ∙ ih.then;
    }

-- ---- a deck has no more groups than bytes

groups-few : (cs : List (List ℕ)) → length (groups_of cs) ≤ size cs
groups-few [] = omega arith
groups-few (c ∷ cs) = by (opens cs) (groups_of cs) (groups-few cs)
  where
    by : (b : Bool) (gs : List (List (List ℕ))) → length gs ≤ size cs → length (onto_group c b gs) ≤ length c + 1 + size cs
    by true gs h = omega arith
    by false [] h = omega arith
    by false (g ∷ gs) h = omega arith

-- THE PIECES OF A DECK, one more than it has bytes or any number more, ARE WHAT THE PROGRAM PRINTS
pub all-printed : (s : List ℕ) (n : ℕ) → length s < n → All n s (begin s) (cards_text s)
all-printed s n h = by (deck_end s) refl
  where
    by : (x : DeckEnd) → deck_end s ≡ x → All n s (begin_by x) (cards_by x s)
    by (Ok m) e =
        let z : m - 0 ≡ m = omega arith in
        let d : groups_of (cards_of (take (m - 0) (drop 0 s))) ≡ deck_groups s =
        ap (λ (k : ℕ). groups_of (cards_of (take k s))) z ∙ ap groups_of (deck-cards s m e) in
        let l : length (deck_groups s) < n =
        omega (arith, ap length (sym d), groups-few (cards_of (take (m - 0) s)), size-cards (take (m - 0) s), length-take (m - 0) s, h) in
        in-groups n s 0 m (bytes "------") (deck_groups s) d l
    by (Err refusal) e = refused n h
      where
        refused : (n : ℕ) → length s < n → All n s (begin_by (Err refusal)) (refused_text refusal)
        refused zero k = absurd (omega arith)
        refused (suc n) k =
            let ih = nothing n s (record { coming = Over; from = 0; end = 0; shown = bytes "------" }) refl in
            record {
              whole = ap (λ (l : List ℕ). refused_text refusal ++ l) ih.whole ∙ append-nil (refused_text refusal);
              then = ih.then;
            }
