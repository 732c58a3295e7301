-- ONE OUTCOME: a first group of an ID is one, so that what is found and what is shown are one for an ID and two decks.
-- Assumes nothing.
use Prim.Native.Nat.{ℕ}
use mathlib.Core.Path.{◌≡◌, refl, sym, ap, ◌∙◌}
use mathlib.Core.Bool.{true}
use mathlib.Core.List.{List, [], ◌∷◌, ◌++◌}
use mathlib.Core.Logic.{◌⊎◌, ⊎_elim}
use native.Mathlib.Omega.{arith}
use lib.ListN.{length}
use Rattle.numbers.proofs.Tests.{never}
use Rattle.numbers.specs.declared.Refusal.{Refusal}
use Rattle.numbers.specs.declared.Refusal.TheVariants.{BadDeck}
use Rattle.words.specs.Lines.{lines_text}
use Rattle.std.specs.Prelude.{Result, Ok, Err}
use Rattle.desk_show.specs.Showing.{has_id, NoneHas, groups_text, FirstOf, IsBad, IsRead, ShowsFrom, bad}
use Rattle.desk_show.specs.Showing.{of_repair, of_day, nobody, part_of, Shows, Shown}
use Rattle.desk_show.specs.declared.Which.{Which}
use Rattle.desk_show.specs.declared.Extent.{Extent}

-- ---- the first of some groups
split_one : (id : List ℕ) (e e' : List (List (List ℕ))) (own own' : List (List ℕ)) (l l' : List (List (List ℕ))) → e ++ (own ∷ l) ≡ e' ++ (own' ∷ l')
    → NoneHas id e → has_id id own ≡ true → NoneHas id e' → has_id id own' ≡ true → (e ≡ e') × (own ≡ own')
split_one id [] [] own own' l l' q n h n' h' = let i : own ≡ own' = cc in (refl, i)
split_one id [] (x ∷ e') own own' l l' q n h n' h' = let i : own ≡ x = cc in never h (ap (has_id id) i ∙ n'.0)
split_one id (x ∷ e) [] own own' l l' q n h n' h' = let i : own' ≡ x = cc in never h' (ap (has_id id) i ∙ n.0)
split_one id (x ∷ e) (y ∷ e') own own' l l' q n h n' h' =
    let i : x ≡ y = cc in
    let j : e ++ (own ∷ l) ≡ e' ++ (own' ∷ l') = cc in
    let r = split_one id e e' own own' l l' j n.1 h n'.1 h' in
    let k : e ≡ e' = r.0 in
    (cc, r.1)

first_one : {id : List ℕ} {gs : List (List (List ℕ))} {from from' : ℕ} {part part' : List ℕ} → FirstOf id gs from part → FirstOf id gs from' part'
    → (from ≡ from') × (part ≡ part')
first_one {id} v w =
    let r = split_one id v.earlier w.earlier v.own w.own v.later w.later (sym v.among ∙ w.among) v.others v.its
    w.others w.its in (
      v.start ∙ ap (λ (e : List (List (List ℕ))). length (groups_text e)) r.0 ∙ sym w.start,
      v.bytes ∙ ap lines_text r.1 ∙ sym w.bytes,
    )

-- where none has the ID there is no first
has-none : (id : List ℕ) (e : List (List (List ℕ))) (own : List (List ℕ)) (l gs : List (List (List ℕ))) → gs ≡ e ++ (own ∷ l)
    → has_id id own ≡ true → NoneHas id gs → ⊥
has-none id [] own l [] q h n = let z : ◌≡◌ {A = ℕ} 0 1 = cc in absurd (omega arith)
has-none id (x ∷ e) own l [] q h n = let z : ◌≡◌ {A = ℕ} 0 1 = cc in absurd (omega arith)
has-none id [] own l (g ∷ gs) q h n = let i : g ≡ own = cc in never h (ap (has_id id) (sym i) ∙ n.0)
has-none id (x ∷ e) own l (g ∷ gs) q h n = let j : gs ≡ e ++ (own ∷ l) = cc in has-none id e own l gs j h n.1

pub first-none : {id : List ℕ} {gs : List (List (List ℕ))} {from : ℕ} {part : List ℕ} → NoneHas id gs → FirstOf id gs from part → ⊥
first-none {id} {gs} n v = has-none id v.earlier v.own v.later gs v.among v.its n

-- ---- a deck is not both refused and read
clash : (s : List ℕ) → IsBad s → IsRead s → ⊥
clash s b r = let i : Err BadDeck ≡ Ok r.0 = sym b ∙ r.1 in let z : ◌≡◌ {A = ℕ} 0 1 = cc in absurd (omega arith)

pub not-both : (repair day : List ℕ) → IsBad repair ⊎ IsBad day → IsRead repair × IsRead day → ⊥
not-both repair day b r = ⊎_elim (λ x. clash repair x r.0) (λ x. clash day x r.1) b

-- ---- the four answers exclude each other
record Same (which which' : Result Which Refusal) (from from' : ℕ) (part part' : List ℕ) : Type 0 where
  which· : which ≡ which'
  from· : from ≡ from'
  part· : part ≡ part'

answers_one : {id repair day : List ℕ} {w w' : Result Which Refusal} {f f' : ℕ} {p p' : List ℕ} → ShowsFrom id repair day w f p → ShowsFrom id repair day w' f' p'
    → Same w w' f f' p p'
answers_one {repair = repair} {day = day} (bad e b z n) (bad e' b' z' n') = record { which· = e ∙ sym e'; from· = z ∙ sym z'; part· = n ∙ sym n' }
answers_one {repair = repair} {day = day} (bad e b z n) (of_repair e' d v) = absurd (not-both repair day b d)
answers_one {repair = repair} {day = day} (bad e b z n) (of_day e' d m v) = absurd (not-both repair day b d)
answers_one {repair = repair} {day = day} (bad e b z n) (nobody e' d m z' n') = absurd (not-both repair day b d)
answers_one {repair = repair} {day = day} (of_repair e d v) (bad e' b z n) = absurd (not-both repair day b d)
answers_one {repair = repair} {day = day} (of_repair e d v) (of_repair e' d' v') =
    let r = first_one v v' in record { which· = e ∙ sym e'; from· = r.0; part· = r.1 }
answers_one {repair = repair} {day = day} (of_repair e d v) (of_day e' d' m v') = absurd (first-none m v)
answers_one {repair = repair} {day = day} (of_repair e d v) (nobody e' d' m z n) = absurd (first-none m.0 v)
answers_one {repair = repair} {day = day} (of_day e d m v) (bad e' b z n) = absurd (not-both repair day b d)
answers_one {repair = repair} {day = day} (of_day e d m v) (of_repair e' d' v') = absurd (first-none m v')
answers_one {repair = repair} {day = day} (of_day e d m v) (of_day e' d' m' v') =
    let r = first_one v v' in record { which· = e ∙ sym e'; from· = r.0; part· = r.1 }
answers_one {repair = repair} {day = day} (of_day e d m v) (nobody e' d' m' z n) = absurd (first-none m'.1 v)
answers_one {repair = repair} {day = day} (nobody e d m z n) (bad e' b z' n') = absurd (not-both repair day b d)
answers_one {repair = repair} {day = day} (nobody e d m z n) (of_repair e' d' v) = absurd (first-none m.0 v)
answers_one {repair = repair} {day = day} (nobody e d m z n) (of_day e' d' m' v) = absurd (first-none m.1 v)
answers_one {repair = repair} {day = day} (nobody e d m z n) (nobody e' d' m' z' n') = record {
  which· = e ∙ sym e';
  from· = z ∙ sym z';
  part· = n ∙ sym n';
}

found-is : (w w' : Result Which Refusal) (f f' l l' : ℕ) → w ≡ w' → f ≡ f' → l ≡ l'
    → ◌≡◌ {A = Extent} (record { which = w; from = f; len = l }) (record { which = w'; from = f'; len = l' })
found-is w w' f f' l l' a b c = cc

-- WHAT IS FOUND AND WHAT IS SHOWN ARE ONE
pub shows-one : {id repair day : List ℕ} {r r' : Extent} {part part' : List ℕ} → Shows id repair day r part → Shows id repair day r' part'
    → (r ≡ r') × (part ≡ part')
shows-one {r = r} {r' = r'} v w =
    let q = answers_one v.answers w.answers in (
      found-is r.which r'.which r.from r'.from r.len r'.len q.which· q.from· (v.long ∙ ap length q.part· ∙ sym w.long),
      q.part·,
    )

-- so what is shown is the part of what is found
pub tied : {id repair day part : List ℕ} {r : Extent} → Shows id repair day r (part_of r repair day) → Shown id repair day part
    → part ≡ part_of r repair day
tied v w = sym (shows-one v w.shows).1
