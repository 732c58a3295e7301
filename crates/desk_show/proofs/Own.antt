-- THE PART IS READ AS THE GROUP that it is, and is never empty: a deck's cards have no LF in them, so the cards of the part
-- are those of the group; and a group that has an ID has a card. Then each answer exactly when its sentence holds.
-- Assumes nothing.
use Prim.Native.Nat.{ℕ, ◌≤◌}
use mathlib.Core.Path.{◌≡◌, refl, sym, ap, subst, ◌∙◌}
use mathlib.Core.Bool.{Bool, true, false, cond}
use mathlib.Core.List.{List, [], ◌∷◌, ◌++◌}
use mathlib.Core.Logic.{◌⊎◌}
use native.Mathlib.Omega.{arith}
use lib.ListN.{length, length-append}
use Rattle.std.specs.Prelude.{Result, Ok, Err}
use Rattle.numbers.proofs.Tests.{never}
use Rattle.numbers.specs.declared.Refusal.{Refusal}
use Rattle.numbers.specs.declared.Refusal.TheVariants.{BadDeck, NoGroup}
use Rattle.words.specs.Lines.{lf, line_text, lines_text}
use Rattle.words.proofs.LineLaws.{Clean, lines-clean, lines-again}
use Rattle.cards_fields.specs.Fields.{is_name}
use Rattle.cards_fields.specs.Deck.{cards_of, is_termination, before, opens, onto_group, groups_of, deck_groups}
use Rattle.desk_show.specs.Showing.{has_id, NoneHas, FirstOf, IsBad, IsRead, ShowsFrom, bad, of_repair, of_day, nobody, Shows}
use Rattle.desk_show.specs.declared.Which.{Which}
use Rattle.desk_show.specs.declared.Which.TheVariants.{Repair, Day}
use Rattle.desk_show.specs.declared.Extent.{Extent}
use Rattle.desk_show.proofs.IdLaws.{opens-no-id}
use Rattle.desk_show.proofs.Unique.{not-both, first-none}

-- ---- no card of a deck's groups has an LF in it
before-clean : (cs : List (List ℕ)) → Clean cs → Clean (before cs)
before-clean [] c = tt
before-clean (d ∷ cs) c = by (is_termination d) (before-clean cs c.1)
  where
    by : (b : Bool) → Clean (before cs) → Clean (cond b [] (d ∷ before cs))
    by true h = tt
    by false h = (c.0, h)

abbrev AllClean : List (List (List ℕ)) → Type 0
AllClean [] = Unit {0}
AllClean (g ∷ gs) = Clean g × AllClean gs

groups-clean : (cs : List (List ℕ)) → Clean cs → AllClean (groups_of cs)
groups-clean [] c = tt
groups-clean (d ∷ cs) c = by (opens cs) (groups_of cs) (groups-clean cs c.1)
  where
    by : (b : Bool) (gs : List (List (List ℕ))) → AllClean gs → AllClean (onto_group d b gs)
    by true gs h = ((c.0, tt), h)
    by false [] h = ((c.0, tt), tt)
    by false (g ∷ gs) h = ((c.0, h.0), h.1)

one-clean : (e : List (List (List ℕ))) (own : List (List ℕ)) (l : List (List (List ℕ))) → AllClean (e ++ (own ∷ l)) → Clean own
one-clean [] own l h = h.0
one-clean (x ∷ e) own l h = one-clean e own l h.1

-- THE CARDS OF THE PART are those of the group
pub own-cards : (id s : List ℕ) {from : ℕ} {part : List ℕ} (v : FirstOf id (deck_groups s) from part) → cards_of part ≡ v.own
own-cards id s v =
    let all : AllClean (deck_groups s) = groups-clean (before (cards_of s)) (before-clean (cards_of s) (lines-clean s)) in
    ap cards_of v.bytes ∙ lines-again v.own
    (one-clean v.earlier v.own v.later (subst (λ (gs : List (List (List ℕ))). AllClean gs) v.among all))

-- ---- a group that has an ID has a byte
has-byte : (id : List ℕ) (own : List (List ℕ)) → has_id id own ≡ true → 1 ≤ length (lines_text own)
has-byte id [] h = never h refl
has-byte id (c ∷ cs) h = omega (arith, length-append (line_text c) (lines_text cs), length-append c (lf ∷ []))

not-empty : {id : List ℕ} {gs : List (List (List ℕ))} {from : ℕ} {part : List ℕ} → FirstOf id gs from part → part ≡ [] → ⊥
not-empty {id} v e = absurd (omega (arith, has-byte id v.own v.its, ap length v.bytes, ap length e))

-- ---- what is no ID no group has
none_has : (id : List ℕ) → is_name id ≡ false → (gs : List (List (List ℕ))) → NoneHas id gs
none_has id f [] = tt
none_has id f (g ∷ gs) = (not-its g, none_has id f gs)
  where
    not-its : (g : List (List ℕ)) → has_id id g ≡ false
    not-its [] = refl
    not-its (card ∷ cards) = sym (opens-no-id id card f)

-- ---- each answer, exactly
clash-repair : {n : Refusal} {w : Result Which Refusal} → w ≡ Ok Repair → w ≡ Err n → ⊥
clash-repair {n} e f = let i : Ok Repair ≡ Err n = sym e ∙ f in let z : ◌≡◌ {A = ℕ} 0 1 = cc in absurd (omega arith)

clash-day : {n : Refusal} {w : Result Which Refusal} → w ≡ Ok Day → w ≡ Err n → ⊥
clash-day {n} e f = let i : Ok Day ≡ Err n = sym e ∙ f in let z : ◌≡◌ {A = ℕ} 0 1 = cc in absurd (omega arith)

clash-decks : {w : Result Which Refusal} → w ≡ Ok Repair → w ≡ Ok Day → ⊥
clash-decks e f = let i : Ok Repair ≡ Ok Day = sym e ∙ f in let z : ◌≡◌ {A = ℕ} 0 1 = cc in absurd (omega arith)

clash-numbers : {w : Result Which Refusal} → w ≡ Err NoGroup → w ≡ Err BadDeck → ⊥
clash-numbers e f = let i : Err NoGroup ≡ Err BadDeck = sym e ∙ f in let z : ◌≡◌ {A = ℕ} 0 1 = cc in absurd (omega arith)

module _ (id repair day : List ℕ) {r : Extent} {part : List ℕ} (w : Shows id repair day r part) where
  pub bad-if : r.which ≡ Err BadDeck → IsBad repair ⊎ IsBad day
  bad-if e = by w.answers
    where
      by : ShowsFrom id repair day r.which r.from part → IsBad repair ⊎ IsBad day
      by (bad f b z n) = b
      by (of_repair f d v) = absurd (clash-repair f e)
      by (of_day f d m v) = absurd (clash-day f e)
      by (nobody f d m z n) = absurd (clash-numbers f e)

  pub bad-then : IsBad repair ⊎ IsBad day → r.which ≡ Err BadDeck
  bad-then b = by w.answers
    where
      by : ShowsFrom id repair day r.which r.from part → r.which ≡ Err BadDeck
      by (bad f c z n) = f
      by (of_repair f d v) = absurd (not-both repair day b d)
      by (of_day f d m v) = absurd (not-both repair day b d)
      by (nobody f d m z n) = absurd (not-both repair day b d)

  pub nobody-if : r.which ≡ Err NoGroup → (IsRead repair × IsRead day) × (NoneHas id (deck_groups repair) × NoneHas id (deck_groups day))
  nobody-if e = by w.answers
    where
      by : ShowsFrom id repair day r.which r.from part
          → (IsRead repair × IsRead day) × (NoneHas id (deck_groups repair) × NoneHas id (deck_groups day))
      by (bad f b z n) = absurd (clash-numbers e f)
      by (of_repair f d v) = absurd (clash-repair f e)
      by (of_day f d m v) = absurd (clash-day f e)
      by (nobody f d m z n) = (d, m)

  pub nobody-then : (IsRead repair × IsRead day) × (NoneHas id (deck_groups repair) × NoneHas id (deck_groups day)) → r.which ≡ Err NoGroup
  nobody-then h = by w.answers
    where
      by : ShowsFrom id repair day r.which r.from part → r.which ≡ Err NoGroup
      by (bad f b z n) = absurd (not-both repair day b h.0)
      by (of_repair f d v) = absurd (first-none h.1.0 v)
      by (of_day f d m v) = absurd (first-none h.1.1 v)
      by (nobody f d m z n) = f

  -- what is no ID is nobody's
  pub no-id : is_name id ≡ false → IsRead repair × IsRead day → r.which ≡ Err NoGroup
  no-id f d = nobody-then (d, (none_has id f (deck_groups repair), none_has id f (deck_groups day)))

  pub repair-if : r.which ≡ Ok Repair → (IsRead repair × IsRead day) × (NoneHas id (deck_groups repair) → ⊥)
  repair-if e = by w.answers
    where
      by : ShowsFrom id repair day r.which r.from part → (IsRead repair × IsRead day) × (NoneHas id (deck_groups repair) → ⊥)
      by (bad f b z n) = absurd (clash-repair e f)
      by (of_repair f d v) = (d, λ m. first-none m v)
      by (of_day f d m v) = absurd (clash-decks e f)
      by (nobody f d m z n) = absurd (clash-repair e f)

  pub repair-then : (IsRead repair × IsRead day) × (NoneHas id (deck_groups repair) → ⊥) → r.which ≡ Ok Repair
  repair-then h = by w.answers
    where
      by : ShowsFrom id repair day r.which r.from part → r.which ≡ Ok Repair
      by (bad f b z n) = absurd (not-both repair day b h.0)
      by (of_repair f d v) = f
      by (of_day f d m v) = absurd (h.1 m)
      by (nobody f d m z n) = absurd (h.1 m.0)

  pub day-if : r.which ≡ Ok Day → (IsRead repair × IsRead day) × (NoneHas id (deck_groups repair) × (NoneHas id (deck_groups day) → ⊥))
  day-if e = by w.answers
    where
      by : ShowsFrom id repair day r.which r.from part
          → (IsRead repair × IsRead day) × (NoneHas id (deck_groups repair) × (NoneHas id (deck_groups day) → ⊥))
      by (bad f b z n) = absurd (clash-day e f)
      by (of_repair f d v) = absurd (clash-decks f e)
      by (of_day f d m v) = (d, (m, λ k. first-none k v))
      by (nobody f d m z n) = absurd (clash-day e f)

  pub day-then : (IsRead repair × IsRead day) × (NoneHas id (deck_groups repair) × (NoneHas id (deck_groups day) → ⊥)) → r.which ≡ Ok Day
  day-then h = by w.answers
    where
      by : ShowsFrom id repair day r.which r.from part → r.which ≡ Ok Day
      by (bad f b z n) = absurd (not-both repair day b h.0)
      by (of_repair f d v) = absurd (first-none h.1.0 v)
      by (of_day f d m v) = f
      by (nobody f d m z n) = absurd (h.1.1 m.1)

  pub empty-if : part ≡ [] → (n : Refusal) × (r.which ≡ Err n)
  empty-if e = by w.answers
    where
      by : ShowsFrom id repair day r.which r.from part → (n : Refusal) × (r.which ≡ Err n)
      by (bad f b z n) = (BadDeck, f)
      by (of_repair f d v) = absurd (not-empty v e)
      by (of_day f d m v) = absurd (not-empty v e)
      by (nobody f d m z n) = (NoGroup, f)

  pub empty-then : (n : Refusal) × (r.which ≡ Err n) → part ≡ []
  empty-then h = by w.answers
    where
      by : ShowsFrom id repair day r.which r.from part → part ≡ []
      by (bad f b z n) = n
      by (of_repair f d v) = absurd (clash-repair f h.1)
      by (of_day f d m v) = absurd (clash-day f h.1)
      by (nobody f d m z n) = n

  -- ---- and the deck that has it
  pub repair-cards : r.which ≡ Ok Repair → (v : FirstOf id (deck_groups repair) r.from part) × (cards_of part ≡ v.own)
  repair-cards e = by w.answers
    where
      by : ShowsFrom id repair day r.which r.from part → (v : FirstOf id (deck_groups repair) r.from part) × (cards_of part ≡ v.own)
      by (bad f b z n) = absurd (clash-repair e f)
      by (of_repair f d v) = (v, own-cards id repair v)
      by (of_day f d m v) = absurd (clash-decks e f)
      by (nobody f d m z n) = absurd (clash-repair e f)

  pub day-cards : r.which ≡ Ok Day → NoneHas id (deck_groups repair) × ((v : FirstOf id (deck_groups day) r.from part) × (cards_of part ≡ v.own))
  day-cards e = by w.answers
    where
      by : ShowsFrom id repair day r.which r.from part
          → NoneHas id (deck_groups repair) × ((v : FirstOf id (deck_groups day) r.from part) × (cards_of part ≡ v.own))
      by (bad f b z n) = absurd (clash-day e f)
      by (of_repair f d v) = absurd (clash-decks f e)
      by (of_day f d m v) = (m, (v, own-cards id day v))
      by (nobody f d m z n) = absurd (clash-day e f)
