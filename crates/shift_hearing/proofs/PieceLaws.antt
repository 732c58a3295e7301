-- WHAT HEARING A PIECE MEANS: something of it is always taken, the next call goes on where this one stopped, and there
-- is one outcome. Assumes nothing.
use Prim.Native.Nat.{ℕ, ◌+◌, ◌-◌, ◌≤◌, ◌<◌}
use mathlib.Core.Path.{◌≡◌, sym, ap, subst, ◌∙◌}
use mathlib.Core.List.{List, [], ◌++◌, append_assoc}
use mathlib.Core.Logic.{⊎_elim}
use native.Mathlib.Nat.{eq-zero-or-pos}
use native.Mathlib.Omega.{arith}
use lib.ListN.{length, take, drop, take-append-drop, length-take, length-drop}
use Rattle.text.specs.Room.{Written}
use Rattle.text.proofs.RoomLaws.{written_one}
use Rattle.shift_hearing.specs.Hearing.{Standing, Hears, HearsSome, HearsPiece}
use Rattle.shift_hearing.proofs.HearingLaws.{joined, hears-one}

module _ {s t : Standing} {piece out after : List ℕ} {taken at : ℕ} (h : HearsPiece s piece out t taken at after) where
  -- SOMETHING IS TAKEN, where there is something
  pub taken-some : 0 < length piece → 0 < taken
  taken-some l = ⊎_elim (λ e. absurd (none e)) (λ p. p) (eq-zero-or-pos taken)
    where
      none : taken ≡ 0 → ⊥
      none e =
          let g : Hears s [] h.some.text t = subst (λ (n : ℕ). Hears s (take n piece) h.some.text t) e h.some.hears in
          omega (arith, h.all (omega arith), h.some.uncut, ap length g.0)

  -- THE REST OF THE PIECE, AND WHAT COMES AFTER IT, go on from there
  pub goes_on : (u : Standing) (more y : List ℕ) → Hears t (drop taken piece ++ more) y u → Hears s (piece ++ more) (h.some.text ++ y) u
  goes_on u more y g =
      subst (λ (p : List ℕ). Hears s p (h.some.text ++ y) u)
      (sym (append_assoc (take taken piece) (drop taken piece) more) ∙ ap (λ (p : List ℕ). p ++ more) (take-append-drop taken piece))
      (joined s t u (take taken piece) (drop taken piece ++ more) h.some.text y h.some.hears g)

-- the same of what a piece has from a position on
pub taken-within : {s t : Standing} (piece : List ℕ) (from : ℕ) {out after : List ℕ} {taken at : ℕ} → from < length piece
    → HearsPiece s (take (length piece - from) (drop from piece)) out t taken at after → (from + taken ≤ length piece) × (0 < taken)
taken-within piece from l h =
    let n = length-take (length piece - from) (drop from piece) in
    let m = length-drop from piece in
    (omega (arith, h.some.most, n, m), taken-some h (omega (arith, n, m)))

-- ONE OUTCOME
no-fewer : {s t u : Standing} {piece out a b : List ℕ} {n m i j : ℕ} → HearsPiece s piece out t n i a → HearsPiece s piece out u m j b → n < m → ⊥
no-fewer {t = t} {n = n} h g l =
    omega (arith, h.all (omega (arith, g.some.most)), h.some.uncut, g.some.fewer n h.some.text t l h.some.hears)

at_once : {s t u : Standing} {piece out a b : List ℕ} {n i j : ℕ} → HearsSome s piece out t n i a → HearsSome s piece out u n j b
    → (t ≡ u) × (i ≡ j) × (a ≡ b)
at_once {s} {t} {u} {piece} {out} {a} {b} {n} {i} {j} h g =
    let e = hears-one s t u (take n piece) h.text g.text h.hears g.hears in
    let w : Written out 0 g.text a i = subst (λ (x : List ℕ). Written out 0 x a i) e.0 h.put in
    let q = written_one w g.put in
    (e.1, q.1, q.0)

pub piece-one : {s t u : Standing} {piece out a b : List ℕ} {n m i j : ℕ} → HearsPiece s piece out t n i a → HearsPiece s piece out u m j b
    → (t ≡ u) × (n ≡ m) × (i ≡ j) × (a ≡ b)
piece-one {s} {t} {u} {piece} {out} {a} {b} {n} {m} {i} {j} h g =
    let e : n ≡ m = same_number n m (no-fewer h g) (no-fewer g h) in
    let k : HearsSome s piece out t m i a = subst (λ (x : ℕ). HearsSome s piece out t x i a) e h.some in
    let r = at_once k g.some in
    (r.0, e, r.1, r.2)
  where
    same_number : (n m : ℕ) → (n < m → ⊥) → (m < n → ⊥) → n ≡ m
    same_number n m p q = omega arith
