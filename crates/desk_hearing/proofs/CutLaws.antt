-- TEXTS THAT ARE CUT SOMEWHERE BEHIND 16,384 BYTES GET THE ANSWER OF THE WHOLE TEXTS: a deck that is cut is as bad as the
-- whole, one that is read was not cut, and a line that is cut is no ID and no termination card, as the whole. By cases on
-- whether a text is cut. Assumes nothing.
use Prim.Native.Nat.{ℕ, ◌-◌, ◌<◌}
use mathlib.Core.Path.{◌≡◌, refl, sym, ap, subst, subst₂, ◌∙◌}
use mathlib.Core.List.{List, [], ◌∷◌}
use mathlib.Core.Logic.{◌⊎◌, ⊎_elim, inl, inr}
use native.Mathlib.Nat.{eq-zero-or-pos}
use native.Mathlib.Omega.{arith}
use lib.ListN.{length, take, length-take}
use lib.Seq.{take_all}
use Rattle.numbers.specs.declared.Refusal.{Refusal}
use Rattle.numbers.specs.declared.Refusal.TheVariants.{BadDeck}
use Rattle.numbers.specs.Limits.{deck_bytes}
use Rattle.words.proofs.WordLaws.{same-long}
use Rattle.cards_fields.specs.Deck.{is_termination, termination, deck_groups}
use Rattle.cards_fields.proofs.DeckLaws.{deck-long}
use Rattle.cards_fields.proofs.Groups.{ends}
use Rattle.desk_show.specs.Showing.{opens_for, has_id, NoneHas, FirstOf, IsBad, IsRead, ShowsFrom, bad, of_repair, of_day, nobody, part_in, Shows}
use Rattle.desk_show.proofs.IdLaws.{id-long, opens-no-id}
use Rattle.desk_show.specs.declared.Which.{Which}
use Rattle.std.specs.Prelude.{Result, Err}
use Rattle.desk_show.specs.declared.Extent.{Extent}
use Rattle.desk_hearing.specs.Printing.{Says}

-- a text is cut, or it is whole
by-cut {ℓ} : {P : Type ℓ} (k : ℕ) (s : List ℕ) → (take k s ≡ s → P) → (k < length s → P) → P
by-cut k s whole more = ⊎_elim (λ z. whole (take_all k s (omega arith))) (λ z. more (omega arith)) (eq-zero-or-pos (length s - k))

-- ---- two IDs that the same groups have

module _ (a b : List ℕ) (e : (card : List ℕ) → opens_for a card ≡ opens_for b card) where
  has_same : (g : List (List ℕ)) → has_id a g ≡ has_id b g
  has_same [] = refl
  has_same (card ∷ g) = e card

  none-same : (gs : List (List (List ℕ))) → NoneHas a gs → NoneHas b gs
  none-same [] n = tt
  none-same (g ∷ gs) n = (sym (has_same g) ∙ n.0, none-same gs n.1)

  first-same : {gs : List (List (List ℕ))} {from : ℕ} {part : List ℕ} → FirstOf a gs from part → FirstOf b gs from part
  first-same f = record {
    earlier = f.earlier;
    own = f.own;
    later = f.later;
    among = f.among;
    others = none-same f.earlier f.others;
    its = sym (has_same f.own) ∙ f.its;
    start = f.start;
    bytes = f.bytes;
  }

  answers-same : {repair day : List ℕ} {which : Result Which Refusal} {from : ℕ} {part : List ℕ} → ShowsFrom a repair day which from part
      → ShowsFrom b repair day which from part
  answers-same (bad w h f p) = bad w h f p
  answers-same (of_repair w r h) = of_repair w r (first-same h)
  answers-same {repair} (of_day w r n h) = of_day w r (none-same (deck_groups repair) n) (first-same h)
  answers-same {repair} {day} (nobody w r n f p) = nobody w r (none-same (deck_groups repair) n.0, none-same (deck_groups day) n.1) f p

-- nothing is shown where there is a refusal, of whatever decks
refused-part : (w : Result Which Refusal) (refusal : Refusal) → w ≡ Err refusal → (from len : ℕ) (a b c d : List ℕ)
    → part_in w from len a b ≡ part_in w from len c d
refused-part w refusal e from len a b c d = rw e

-- ---- cut somewhere behind 16,384 bytes

module _ (k : ℕ) (big : deck_bytes < k) where
  -- the termination card has 80 characters
  pub ends-cut : (line : List ℕ) → is_termination (take k line) ≡ is_termination line
  ends-cut line =
      by-cut k line
      (λ e. ap is_termination e)
      (λ h. same-long (take k line) termination (λ e. omega (arith, length-take k line)) ∙ sym (same-long line termination (λ e. omega arith)))

  opens-cut : (id card : List ℕ) → opens_for (take k id) card ≡ opens_for id card
  opens-cut id card =
      by-cut k id
      (λ e. ap (λ (l : List ℕ). opens_for l card) e)
      (λ h.
      let c = id-long (take k id) (omega (arith, length-take k id)) in
      sym (opens-no-id (take k id) card (sym c)) ∙ opens-no-id id card (sym (id-long id (omega arith))))

  bad-cut : (s : List ℕ) → IsBad (take k s) → IsBad s
  bad-cut s h = by-cut k s (λ e. subst IsBad e h) (λ l. deck-long s (omega arith))

  read-cut : (s : List ℕ) → IsRead (take k s) → take k s ≡ s
  read-cut s r = take_all k s (omega (arith, (ends (take k s) r.0 r.1).most, length-take k s))

  shows-decks : {id repair day : List ℕ} {r : Extent} {part : List ℕ} → Shows id (take k repair) (take k day) r part → Shows id repair day r part
  shows-decks {id} {repair} {day} {r} {part} s = by s.answers
    where
      whole : IsRead (take k repair) × IsRead (take k day) → Shows id repair day r part
      whole q = subst₂ (λ (a b : List ℕ). Shows id a b r part) (read-cut repair q.0) (read-cut day q.1) s

      either : IsBad (take k repair) ⊎ IsBad (take k day) → IsBad repair ⊎ IsBad day
      either (inl h) = inl (bad-cut repair h)
      either (inr h) = inr (bad-cut day h)

      by : ShowsFrom id (take k repair) (take k day) r.which r.from part → Shows id repair day r part
      by (bad w h f p) = record {
        answers = bad w (either h) f p;
        long = s.long;
        there = s.there ∙ refused-part r.which BadDeck w r.from r.len (take k repair) (take k day) repair day;
      }
      by (of_repair w q h) = whole q
      by (of_day w q n h) = whole q
      by (nobody w q n f p) = whole q

  pub says-cut : {id repair day text : List ℕ} → Says (take k id) (take k repair) (take k day) text → Says id repair day text
  says-cut {id} s =
      let d = shows-decks s.shows in
      record {
        found = s.found;
        part = s.part;
        shows = record { answers = answers-same (take k id) id (opens-cut id) d.answers; long = d.long; there = d.there };
        is = s.is;
      }
