-- WHAT STANDS IN A LENT ROOM is as much of a text as fits, whatever pieces it was put in; and a line that is cut at the
-- room's length fills the room as the whole line does. A byte at a time. Assumes nothing.
use Prim.Native.Nat.{ℕ, zero, suc, ◌-◌, ◌≤◌, min}
use mathlib.Core.Path.{◌≡◌, refl, sym, ap, subst₂, ◌∙◌}
use mathlib.Core.List.{List, [], ◌∷◌, ◌++◌, append_assoc, append-nil}
use mathlib.Core.Logic.{⊎_elim}
use native.Mathlib.Nat.{eq-zero-or-pos, le_of_suc-le-suc}
use native.Mathlib.Omega.{arith}
use lib.ListN.{length, take, set, length-append, length-take, length-set}
use lib.Seq.{sets, take_all, take-append-le, take-nil, take-suc-set}
use Rattle.text.specs.Room.{reach, Written}
use Rattle.text.proofs.RoomLaws.{sets-out}
use Rattle.words.specs.Lines.{lf, line_text}

-- a room of k bytes has a text's first bytes, those that fit: n of them
pub record Kept (k : ℕ) (room text : List ℕ) (n : ℕ) : Type 0 where
  pub long : length room ≡ k
  pub within : n ≤ k
  pub front : take n room ≡ take k text

pub kept-none : {k n : ℕ} (room : List ℕ) → length room ≡ k → n ≡ 0 → Kept k room [] n
kept-none {k} room l z = record { long = l; within = omega arith; front = rw z (sym (take-nil k)) }

pub kept-count : {k n : ℕ} {room text : List ℕ} → Kept k room text n → n ≡ min k (length text)
kept-count {k} {n} {room} {text} w = omega (arith, w.long, w.within, ap length w.front, length-take n room, length-take k text)

-- ---- a piece more

stored : (k : ℕ) (room text : List ℕ) (n : ℕ) (p : List ℕ) → Kept k room text n → Kept k (sets room n p) (text ++ p) (reach n (length p) k)
stored k room text n [] w =
    let e : n ≡ reach n 0 k = omega arith in
    subst₂ (λ (l : List ℕ) (m : ℕ). Kept k room l m) (sym (append-nil text)) e w
stored k room text n (x ∷ p) w =
    ⊎_elim
    (λ z.
    let e : n ≡ reach n (suc (length p)) k = omega arith in
    let o : sets room n (x ∷ p) ≡ room = sets-out room n (x ∷ p) (omega (arith, w.long)) in
    let v : Kept k room (text ++ (x ∷ p)) n =
    record { long = w.long; within = w.within; front = w.front ∙ sym (take-append-le k text (x ∷ p) (omega (arith, kept-count w))) } in
    subst₂ (λ (l : List ℕ) (m : ℕ). Kept k l (text ++ (x ∷ p)) m) (sym o) e v)
    (λ z.
    let c : n ≡ length text = omega (arith, kept-count w) in
    let e : reach (suc n) (length p) k ≡ reach n (suc (length p)) k = omega arith in
    let f : take n room ≡ text = w.front ∙ take_all k text (omega arith) in
    let v : Kept k (set room n x) (text ++ (x ∷ [])) (suc n) =
    record {
      long = length-set room n x ∙ w.long;
      within = omega arith;
      front = take-suc-set room n x (omega (arith, w.long)) ∙ ap (λ (l : List ℕ). l ++ (x ∷ [])) f
          ∙ sym (take_all k (text ++ (x ∷ [])) (omega (arith, length-append text (x ∷ []))));
    } in
    subst₂ (λ (l : List ℕ) (m : ℕ). Kept k (sets room n (x ∷ p)) l m) (append_assoc text (x ∷ []) p) e
    (stored k (set room n x) (text ++ (x ∷ [])) (suc n) p v))
    (eq-zero-or-pos (k - n))

pub kept_more : {k n next : ℕ} {room text piece after : List ℕ} → Kept k room text n → Written room n piece after next
    → Kept k after (text ++ piece) next
kept_more {k} {n} {next} {room} {text} {piece} {after} w v =
    let e : reach n (length piece) k ≡ next = omega (arith, v.reached, w.long) in
    subst₂ (λ (l : List ℕ) (m : ℕ). Kept k l (text ++ piece) m) (sym v.bytes) e (stored k room text n piece w)

-- ---- a line that is cut, with its LF behind it

cut-first : (j k : ℕ) (l t : List ℕ) → j ≤ k → take j (take k l ++ t) ≡ take j (l ++ t)
cut-first zero k l t h = refl
cut-first (suc j) zero l t h = absurd (omega arith)
cut-first (suc j) (suc k) [] t h = refl
cut-first (suc j) (suc k) (b ∷ l) t h = ap (λ (r : List ℕ). b ∷ r) (cut-first j k l t (le_of_suc-le-suc h))

cut-behind : (s : List ℕ) (j k : ℕ) (l t : List ℕ) → j ≤ k → take j (s ++ (take k l ++ t)) ≡ take j (s ++ (l ++ t))
cut-behind [] j k l t h = cut-first j k l t h
cut-behind (b ∷ s) zero k l t h = refl
cut-behind (b ∷ s) (suc j) k l t h = ap (λ (r : List ℕ). b ∷ r) (cut-behind s j k l t (omega arith))

pub kept_line : {k n next : ℕ} {room text after : List ℕ} (line : List ℕ) → Kept k room text n → Written room n (line_text (take k line)) after next
    → Kept k after (text ++ line_text line) next
kept_line {k} {text = text} line w v =
    let u = kept_more w v in
    record { long = u.long; within = u.within; front = u.front ∙ cut-behind text k k line (lf ∷ []) (omega arith) }
