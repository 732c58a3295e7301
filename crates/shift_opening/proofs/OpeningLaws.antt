-- What the parts of an opening come to, and that a line and the input's end have one answer each: what is promised of
-- them leaves one room, one text and one opening. Assumes nothing.
use Prim.Native.Nat.{ℕ, min}
use mathlib.Core.Path.{◌≡◌, sym, subst, ◌∙◌}
use mathlib.Core.Bool.{false}
use mathlib.Core.List.{List, ◌++◌}
use native.Mathlib.Omega.{arith}
use lib.Dec.{ltb}
use lib.ListN.{take}
use Rattle.numbers.specs.Limits.{deck_bytes}
use Rattle.text.specs.Room.{Written}
use Rattle.text.proofs.RoomLaws.{and_then, written_one}
use Rattle.shift_begin.specs.Opening.{opening_of}
use Rattle.shift_begin.specs.declared.Begun.{Begun}
use Rattle.shift_opening.specs.Openings.{Keeps, begun_text, AnswersOpening, Opens, Unfinished}
use Rattle.shift_opening.specs.declared.Opening.{Opening}

-- a text is kept, and another behind it
pub keeps-then : {room room' after p q : List ℕ} {kept m n : ℕ} → Keeps room kept p room' m → Keeps room' m q after n → Keeps room kept (p ++ q) after n
keeps-then {room' = room'} {after = after} {q = q} {m = m} {n = n} a b =
    let e : min m deck_bytes ≡ m = omega (arith, a.within) in
    record { put = and_then a.put (subst (λ (i : ℕ). Written room' i q after n) e b.put); within = b.within }

-- what was asked is what the text begins
pub answers-as : {b c : Begun} {n : ℕ} {out after : List ℕ} {r : Opening} → b ≡ c → AnswersOpening b n out after r
    → AnswersOpening c n out after r
answers-as {n = n} {out = out} {after = after} {r = r} e a = subst (λ (b : Begun). AnswersOpening b n out after r) e a

-- one opening
abbrev made : Begun → ℕ → ℕ → Opening
made b n at = record { begun = b; kept = n; at = at }

answers_one : {b : Begun} {n : ℕ} {out x y : List ℕ} {r q : Opening} → AnswersOpening b n out x r → AnswersOpening b n out y q → (x ≡ y) × (r ≡ q)
answers_one {r = r} {q = q} a c =
    let w = written_one a.put c.put in
    (w.0, same (a.begins ∙ sym c.begins) (a.keeps ∙ sym c.keeps) w.1)
  where
    same : {b c : Begun} {m n i j : ℕ} → b ≡ c → m ≡ n → i ≡ j → made b m i ≡ made c n j
    same e f g = rw (e, f, g)

-- what the first n bytes of a room begin is answered
abbrev AnswersBegun : List ℕ → List ℕ → Opening → ℕ → List ℕ → Type 0
AnswersBegun out x r n room = AnswersOpening (opening_of (ltb n 2048) (take n room)) n out x r

pub opens_one : (kept : ℕ) (line room room₁ room₂ out x y : List ℕ) (r q : Opening) → Opens kept line room room₁ out x r
    → Opens kept line room room₂ out y q
    → (room₁ ≡ room₂) × (x ≡ y) × (r ≡ q)
opens_one kept line room room₁ room₂ out x y r q a c =
    let k = written_one a.keeps.put c.keeps.put in
    let z : AnswersBegun out x r a.n room₂ = subst (AnswersBegun out x r a.n) k.0 a.answers in
    let w : AnswersBegun out x r c.n room₂ = subst (λ (n : ℕ). AnswersBegun out x r n room₂) k.1 z in
    let s = answers_one w c.answers in
    (k.0, s.0, s.1)

-- the text of a configuration that ends unfinished
abbrev EndsBegun : List ℕ → List ℕ → ℕ → ℕ → List ℕ → Type 0
EndsBegun out x r n room = Written out 0 (begun_text (opening_of false (take n room))) x r

pub unfinished-one : (kept : ℕ) (rest room room₁ room₂ out x y : List ℕ) (r q : ℕ) → Unfinished kept rest room room₁ out x r
    → Unfinished kept rest room room₂ out y q
    → (room₁ ≡ room₂) × (x ≡ y) × (r ≡ q)
unfinished-one kept rest room room₁ room₂ out x y r q a c =
    let k = written_one a.keeps.put c.keeps.put in
    let z : EndsBegun out x r a.n room₂ = subst (EndsBegun out x r a.n) k.0 a.put in
    let w : EndsBegun out x r c.n room₂ = subst (λ (n : ℕ). EndsBegun out x r n room₂) k.1 z in
    let s = written_one w c.put in
    (k.0, s.0, s.1)
