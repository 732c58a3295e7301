-- ONE OUTCOME: what is printed for an ID, what a call leaves and answers, what the end of the input answers, and what the
-- program prints for an input are one. Assumes nothing.
use Prim.Native.Nat.{ℕ}
use mathlib.Core.Path.{◌≡◌, sym, ap, subst, ◌∙◌}
use mathlib.Core.Bool.{Bool, true, false}
use mathlib.Core.List.{List, [], ◌∷◌, ◌++◌}
use lib.Dec.{eqb}
use lib.ListN.{take}
use Rattle.numbers.proofs.Tests.{never}
use Rattle.text.specs.Room.{Whole}
use Rattle.text.proofs.RoomLaws.{written_one, whole-one}
use Rattle.input_lines.specs.Lines.{TakesUp}
use Rattle.input_lines.specs.declared.Cut.{Cut}
use Rattle.desk_show.specs.declared.Extent.{Extent}
use Rattle.desk_show.proofs.Unique.{shows-one}
use Rattle.desk_hearing.specs.Printing.{deck_of, behind_deck, asked, closing, Says, SaysAll, Prints, unread, read}
use Rattle.desk_hearing.specs.Hearing.{desk_of, Standing, standing, Turns, TurnsIf, Heard, EndsIf, Ends, Ended}
use Rattle.desk_hearing.specs.declared.Stage.{Stage}
use Rattle.desk_hearing.specs.declared.Stage.TheVariants.{GathersRepair, GathersDay, Asks}
use Rattle.desk_hearing.specs.declared.Desk.{Desk}

-- ---- what is printed
pub says-one : {id repair day x y : List ℕ} → Says id repair day x → Says id repair day y → x ≡ y
says-one {x = x} {y = y} v w =
    let q = shows-one v.shows w.shows in
    let p : v.part ≡ w.part = q.1 in
    v.is ∙ ap (λ (f : Extent). v.part ++ closing f.which) q.0 ∙ ap (λ (l : List ℕ). l ++ closing w.found.which) p ∙ sym w.is

says-all-one : (repair day : List ℕ) (ids : List (List ℕ)) (x y : List ℕ) → SaysAll repair day ids x → SaysAll repair day ids y → x ≡ y
says-all-one repair day [] x y v w = v ∙ sym w
says-all-one repair day (id ∷ ids) x y v w =
    let a : v.0 ≡ w.0 = says-one v.2 w.2 in
    let b : v.1 ≡ w.1 = says-all-one repair day ids v.1 w.1 v.3 w.3 in
    v.4 ∙ ap (λ (l : List ℕ). l ++ v.1) a ∙ ap (λ (l : List ℕ). w.0 ++ l) b ∙ sym w.4

-- WHAT THE PROGRAM PRINTS IS ONE TEXT
pub prints-one : {input x y : List ℕ} → Prints input x → Prints input y → x ≡ y
prints-one (unread f e) (unread f' e') = e ∙ sym e'
prints-one (unread f e) (read t s) = never t f
prints-one (read t s) (unread f e) = never t f
prints-one {input} {x} {y} (read t s) (read t' s') =
    says-all-one (deck_of input) (deck_of (behind_deck input)) (asked (behind_deck (behind_deck input))) x y s s'

-- ---- what a call leaves
record Alike (t u : Standing) (x y : List ℕ) : Type 0 where
  stage· : t.desk.stage ≡ u.desk.stage
  repair· : t.desk.repair ≡ u.desk.repair
  day· : t.desk.day ≡ u.desk.day
  line· : t.desk.line ≡ u.desk.line
  repairs· : t.repair ≡ u.repair
  days· : t.day ≡ u.day
  text· : x ≡ y

turns-one : (stage : Stage) (line : List ℕ) (s t u : Standing) (x y : List ℕ) → t.desk.line ≡ u.desk.line → Turns stage line s t x
    → Turns stage line s u y
    → Alike t u x y
turns-one GathersRepair line s t u x y l v w =
    let p = written_one v.0 w.0 in
    record {
      stage· = v.1 ∙ sym w.1;
      repair· = p.1;
      day· = v.2.1 ∙ sym w.2.1;
      line· = l;
      repairs· = p.0;
      days· = v.2.0 ∙ sym w.2.0;
      text· = v.3 ∙ sym w.3;
    }
turns-one GathersDay line s t u x y l v w =
    let p = written_one v.0 w.0 in
    record {
      stage· = v.1 ∙ sym w.1;
      repair· = v.2.1 ∙ sym w.2.1;
      day· = p.1;
      line· = l;
      repairs· = v.2.0 ∙ sym w.2.0;
      days· = p.0;
      text· = v.3 ∙ sym w.3;
    }
turns-one Asks line s t u x y l v w = record {
  stage· = v.1 ∙ sym w.1;
  repair· = v.2.1 ∙ sym w.2.1;
  day· = v.3.1 ∙ sym w.3.1;
  line· = l;
  repairs· = v.2.0 ∙ sym w.2.0;
  days· = v.3.0 ∙ sym w.3.0;
  text· = says-one v.0 w.0;
}

if-one : (b : Bool) (kept : ℕ) (s t u : Standing) (x y : List ℕ) → t.line ≡ u.line → TurnsIf b kept s t x → TurnsIf b kept s u y → Alike t u x y
if-one true kept s t u x y l v w =
    turns-one s.desk.stage (take kept t.line) s t u x y (v.1 ∙ sym w.1) v.0
    (subst (λ (r : List ℕ). Turns s.desk.stage (take kept r) s u y) (sym l) w.0)
if-one false kept s t u x y l v w =
    let d : t.desk ≡ u.desk = v.0 ∙ sym w.0 in
    record {
      stage· = ap (λ (z : Desk). z.stage) d;
      repair· = ap (λ (z : Desk). z.repair) d;
      day· = ap (λ (z : Desk). z.day) d;
      line· = ap (λ (z : Desk). z.line) d;
      repairs· = v.1 ∙ sym w.1;
      days· = v.2 ∙ sym w.2;
      text· = v.3 ∙ sym w.3;
    }

cut-is : (k k' n n' : ℕ) (b b' : Bool) → k ≡ k' → n ≡ n' → b ≡ b'
    → ◌≡◌ {A = Cut} (record { kept = k; taken = n; whole = b }) (record { kept = k'; taken = n'; whole = b' })
cut-is k k' n n' b b' i j l = cc

takes_one : {line piece after· after' : List ℕ} {kept : ℕ} {c d : Cut} → TakesUp line kept piece after· c → TakesUp line kept piece after' d
    → (c ≡ d) × (after· ≡ after')
takes_one {c = c} {d = d} v w =
    let p = written_one v.put w.put in
    (cut-is c.kept d.kept c.taken d.taken c.whole d.whole p.1 (v.taken ∙ sym w.taken) (v.whole ∙ sym w.whole), p.0)

desk-is : (p p' : Stage) (r r' d d' l l' : ℕ) → p ≡ p' → r ≡ r' → d ≡ d' → l ≡ l' → desk_of p r d l ≡ desk_of p' r' d' l'
desk-is p p' r r' d d' l l' i j k m = cc

stands-is : (d d' : Desk) (l l' r r' y y' : List ℕ) → d ≡ d' → l ≡ l' → r ≡ r' → y ≡ y' → standing d l r y ≡ standing d' l' r' y'
stands-is d d' l l' r r' y y' i j k m = cc

-- WHAT A CALL LEAVES AND ANSWERS IS ONE
pub heard-one : {s t u : Standing} {piece out after· after' : List ℕ} {taken taken' at at' : ℕ} → Heard s piece t taken out after· at
    → Heard s piece u taken' out after' at'
    → (t ≡ u) × (taken ≡ taken') × (after· ≡ after') × (at ≡ at')
heard-one {s} {t} {u} {out = out} {after· = after·} {at = at} v w =
    let q = takes_one v.hears.takes w.hears.takes in
    let c : v.hears.cut ≡ w.hears.cut = q.0 in
    let a = if-one v.hears.cut.whole v.hears.cut.kept s t u v.text w.text q.1 v.hears.turns
    (subst (λ (k : Cut). TurnsIf k.whole k.kept s u w.text) (sym c) w.hears.turns) in
    let p = whole-one (subst (λ (x : List ℕ). Whole x out after· at) a.text· v.put) w.put in (
      stands-is t.desk u.desk t.line u.line t.repair u.repair t.day u.day
          (desk-is t.desk.stage u.desk.stage t.desk.repair u.desk.repair t.desk.day u.desk.day t.desk.line
          u.desk.line a.stage· a.repair· a.day· a.line·)
          q.1 a.repairs· a.days·,
      v.hears.took ∙ ap (λ (k : Cut). k.taken) c ∙ sym w.hears.took,
      p.0,
      p.1,
    )

-- ---- WHAT THE END OF THE INPUT ANSWERS IS ONE
ends-if-one : (b : Bool) (s : Standing) (x y : List ℕ) → EndsIf b s x → EndsIf b s y → x ≡ y
ends-if-one true s x y v w = v ∙ sym w
ends-if-one false s x y v w = says-one v w

ends-one : (stage : Stage) (s : Standing) (x y : List ℕ) → Ends stage s x → Ends stage s y → x ≡ y
ends-one GathersRepair s x y v w = v ∙ sym w
ends-one GathersDay s x y v w = v ∙ sym w
ends-one Asks s x y v w = ends-if-one (eqb s.desk.line 0) s x y v w

pub ended-one : {s : Standing} {out after· after' : List ℕ} {at at' : ℕ} → Ended s out after· at → Ended s out after' at'
    → (after· ≡ after') × (at ≡ at')
ended-one {s} {out} {after·} {at = at} v w =
    let e = ends-one s.desk.stage s v.text w.text v.ends w.ends in
    whole-one (subst (λ (x : List ℕ). Whole x out after· at) e v.put) w.put
