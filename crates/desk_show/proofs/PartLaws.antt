-- WHAT WAS FOUND AMONG A DECK'S CARDS STANDS IN THE DECK: the cards up to the termination card are the deck's first
-- bytes. And the bytes of a deck from one to another, clipped at its end, are the part. Assumes nothing.
use Prim.Native.Nat.{ℕ, zero, suc, ◌+◌, ◌-◌, ◌≤◌, min}
use mathlib.Core.Path.{◌≡◌, refl, sym, ap, subst, ◌∙◌}
use mathlib.Core.List.{List, [], ◌∷◌}
use mathlib.Core.Logic.{◌⊎◌, ⊎_elim}
use native.Mathlib.Nat.{eq-zero-or-pos}
use native.Mathlib.Omega.{arith}
use lib.ListN.{length, take, drop, length-take, length-drop, drop_of_length-le}
use lib.Seq.{length-take-le, take_all, take-nil, take-take}
use Rattle.numbers.specs.declared.Refusal.{Refusal}
use Rattle.numbers.specs.declared.Refusal.TheVariants.{BadDeck}
use Rattle.cards_fields.specs.Deck.{groups_of, deck_end, deck_groups}
use Rattle.cards_fields.proofs.Groups.{ends, refused-bad, deck-cards}
use Rattle.std.specs.Prelude.{Result, Ok, Err}
use Rattle.desk_show.specs.Showing.{NoneHas, FirstOf, IsBad, bad, of_repair, of_day, nobody, part_in, part_of, Shows}
use Rattle.desk_show.specs.Seeking.{groups_in, StandsAt, refused_for, FindsBy, FindsIn, span_by, span_of}
use Rattle.desk_show.specs.declared.Which.{Which}
use Rattle.desk_show.specs.declared.Which.TheVariants.{Repair, Day}
use Rattle.desk_show.specs.declared.Extent.{Extent}
use Rattle.desk_show.specs.declared.Span.{Span}

-- a part of a text's first bytes is a part of the text
part-front : (s : List ℕ) (from len n : ℕ) → from + len ≤ n → take len (drop from (take n s)) ≡ take len (drop from s)
part-front s zero len n h = take-take len n s (omega arith)
part-front [] (suc from) len zero h = refl
part-front [] (suc from) len (suc n) h = refl
part-front (b ∷ s) (suc from) len zero h = absurd (omega arith)
part-front (b ∷ s) (suc from) len (suc n) h = part-front s from len n (omega arith)

-- ---- the cards of a deck, up to its termination card
module _ (id s : List ℕ) (n : ℕ) (e : deck_end s ≡ Ok n) where
  groups-are : groups_in (take n s) ≡ deck_groups s
  groups-are = ap groups_of (deck-cards s n e)

  none_in : NoneHas id (groups_in (take n s)) → NoneHas id (deck_groups s)
  none_in = subst (λ (gs : List (List (List ℕ))). NoneHas id gs) groups-are

  module _ {from len : ℕ} (w : StandsAt id (take n s) from len) where
    first-in : FirstOf id (deck_groups s) from (take len (drop from s))
    first-in =
        subst (λ (gs : List (List (List ℕ))). FirstOf id gs from (take len (drop from s))) groups-are
        (subst (λ (part : List ℕ). FirstOf id (groups_in (take n s)) from part)
        (part-front s from len n (omega (arith, w.within, length-take n s))) w.first)

    long-in : len ≡ length (take len (drop from s))
    long-in = sym (length-take-le len (drop from s) (omega (arith, w.within, length-take n s, length-drop from s)))

-- ---- what is found
module _ (id repair day : List ℕ) where
  module _ {n m : ℕ} (e : deck_end repair ≡ Ok n) (f : deck_end day ≡ Ok m) where
    shows-by : (w : Result Which Refusal) (from len : ℕ) → FindsBy id (take n repair) (take m day) w from len
        → Shows id repair day (record { which = w; from = from; len = len }) (part_in w from len repair day)
    shows-by (Ok Repair) from len h = record {
      answers = of_repair refl ((n, e), (m, f)) (first-in id repair n e h);
      long = long-in id repair n e h;
      there = refl;
    }
    shows-by (Ok Day) from len h = record {
      answers = of_day refl ((n, e), (m, f)) (none_in id repair n e h.0) (first-in id day m f h.1);
      long = long-in id day m f h.1;
      there = refl;
    }
    shows-by (Err refusal) from len h = record {
      answers = nobody (ap Err h.0) ((n, e), (m, f)) (none_in id repair n e h.1.0.0, none_in id day m f h.1.0.1) h.1.1.0 refl;
      long = h.1.1.1;
      there = refl;
    }

    pub found-shows : {r : Extent} → FindsIn id (take n repair) (take m day) r → Shows id repair day r (part_of r repair day)
    found-shows {r} h = shows-by r.which r.from r.len h

  refused-by : IsBad repair ⊎ IsBad day → Shows id repair day (refused_for BadDeck) []
  refused-by h = record { answers = bad refl h refl refl; long = refl; there = refl }

  pub refused-shows : (refusal : Refusal) → (refusal ≡ BadDeck) × (IsBad repair ⊎ IsBad day) → {r : Extent} → r ≡ refused_for refusal
      → Shows id repair day r (part_of r repair day)
  refused-shows refusal h {r} e =
      subst (λ (x : Extent). Shows id repair day x (part_of x repair day)) (sym (e ∙ ap refused_for h.0)) (refused-by h.1)

-- a deck that is read ends within its bytes, and one that is refused gets 11
pub read-long : (s : List ℕ) (n : ℕ) → deck_end s ≡ Ok n → n ≡ length (take n s)
read-long s n e = sym (length-take-le n s (omega (arith, (ends s n e).within)))

pub is-bad : (s : List ℕ) (refusal : Refusal) → deck_end s ≡ Err refusal → (refusal ≡ BadDeck) × IsBad s
is-bad s refusal e = let k = refused-bad s refusal e in (k, e ∙ ap Err k)

-- ---- the bytes from one to another
clipped-part : (s : List ℕ) (from len : ℕ)
    → take (min (from + len) (length s) - min from (length s)) (drop (min from (length s)) s) ≡ take len (drop from s)
clipped-part s from len =
    ⊎_elim
    (λ past.
    let a : min from (length s) ≡ length s = omega arith in
    let b : min (from + len) (length s) - length s ≡ 0 = omega arith in
    rw (a, b, drop_of_length-le s {i = from} (omega arith)) (sym (take-nil len)))
    (λ within.
    let a : min from (length s) ≡ from = omega arith in
    ⊎_elim
    (λ short. let b : min (from + len) (length s) - from ≡ len = omega arith in rw (a, b))
    (λ long.
    let b : min (from + len) (length s) - from ≡ length s - from = omega arith in
    rw (a, b)
    (take_all (length s - from) (drop from s) (omega (arith, length-drop from s))
    ∙ sym (take_all len (drop from s) (omega (arith, length-drop from s)))))
    (eq-zero-or-pos (from + len - length s)))
    (eq-zero-or-pos (length s - from))

-- a span that is of this deck lies within it, and is the part
abbrev Lies : Which → Span → List ℕ → List ℕ → Type 0
Lies b span deck part = span.which ≡ b
    → (span.from ≤ span.end) × (span.end ≤ length deck) × (take (span.end - span.from) (drop span.from deck) ≡ part)

module _ (repair day : List ℕ) where
  lies : (w : Result Which Refusal) (from len : ℕ) → Lies Repair (span_by w from len (length repair) (length day)) repair (part_in w from len repair day)
      × Lies Day (span_by w from len (length repair) (length day)) day (part_in w from len repair day)
  lies (Ok Repair) from len = (λ e. (omega arith, omega arith, clipped-part repair from len), λ e. absurd cc)
  lies (Ok Day) from len = (λ e. absurd cc, λ e. (omega arith, omega arith, clipped-part day from len))
  lies (Err refusal) from len = (λ e. absurd cc, λ e. (omega arith, omega arith, clipped-part day 0 0))

  module _ (found : Extent) {span : Span} (is : span ≡ span_of found (length repair) (length day)) where
    pub in-repair : Lies Repair span repair (part_of found repair day)
    in-repair =
        subst (λ (x : Span). Lies Repair x repair (part_of found repair day)) (sym is) (lies found.which found.from found.len).0

    pub in-day : Lies Day span day (part_of found repair day)
    in-day =
        subst (λ (x : Span). Lies Day x day (part_of found repair day)) (sym is) (lies found.which found.from found.len).1
