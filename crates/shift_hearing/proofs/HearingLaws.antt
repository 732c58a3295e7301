-- WHAT HEARING AN INPUT MEANS: heard in two pieces it answers what it answers whole, and stands as it stands then; it
-- answers one text; and bytes without LF answer nothing. Assumes nothing.
use Prim.Native.Nat.{ℕ}
use mathlib.Core.Path.{◌≡◌, refl, sym, ap, ap₂, subst, ◌∙◌}
use mathlib.Core.Bool.{Bool, true, false}
use mathlib.Core.List.{List, [], ◌∷◌, ◌++◌, append_assoc, append-nil}
use native.Mathlib.Omega.{arith}
use lib.Dec.{eqb}
use lib.ListN.{length, take}
use lib.Seq.{sets}
use borrow.Author.Tests.{ne_eqb}
use Rattle.text.specs.Room.{reach, Written}
use Rattle.text.proofs.RoomLaws.{and_then}
use Rattle.words.specs.Lines.{lf}
use Rattle.words.proofs.LineLaws.{NoLf}
use Rattle.shift_turns.proofs.OneTurn.{turns-one}
use Rattle.shift_turns.specs.declared.Shift.{Shift}
use Rattle.shift_turns.specs.declared.Turn.{Turn}
use Rattle.shift_hearing.specs.Hearing.{Standing, standing, kept, Answers, HearsByte, Hears}

-- ---- IN PIECES

pub joined : (s m t : Standing) (a b x y : List ℕ) → Hears s a x m → Hears m b y t → Hears s (a ++ b) (x ++ y) t
joined s m t [] b x y h g =
    subst (λ (u : Standing). Hears u b (x ++ y) t) h.1 (subst (λ (z : List ℕ). Hears m b (z ++ y) t) (sym h.0) g)
joined s m t (c ∷ a) b x y h g =
    (h.0, h.1, h.2 ++ y, h.3, joined h.0 m t a b h.2 y h.4 g, ap (λ (z : List ℕ). z ++ y) h.5 ∙ append_assoc h.1 h.2 y)

-- an input heard as two pieces
abbrev pub InTwo : Standing → List ℕ → List ℕ → List ℕ → Standing → Type 0
InTwo s a b text t = (m : Standing) × (x : List ℕ) × (y : List ℕ) × Hears s a x m × Hears m b y t × (text ≡ x ++ y)

pub parted : (s t : Standing) (a b text : List ℕ) → Hears s (a ++ b) text t → InTwo s a b text t
parted s t [] b text h = (s, [], text, (refl, refl), h, refl)
parted s t (c ∷ a) b text h =
    let r = parted h.0 t a b h.2 h.4 in (
      r.0,
      h.1 ++ r.1,
      r.2,
      (h.0, h.1, r.1, h.3, r.3, refl),
      r.4,
      h.5 ∙ ap (λ (u : List ℕ). h.1 ++ u) r.5 ∙ sym (append_assoc h.1 r.1 r.2),
    )

-- HOWEVER THE INPUT IS CUT: the same text, the same shift, and the same bytes kept
pub in_pieces : (s t : Standing) (a b text : List ℕ) → (Hears s (a ++ b) text t → InTwo s a b text t) × (InTwo s a b text t → Hears s (a ++ b) text t)
in_pieces s t a b text = (
  parted s t a b text,
  λ r. subst (λ (z : List ℕ). Hears s (a ++ b) z t) (sym r.5) (joined s r.0 t a b r.1 r.2 r.3 r.4),
)

-- ---- ONE TEXT

pub same : {a b : Shift} {m n : ℕ} {l k r q p o : List ℕ} → a ≡ b → m ≡ n → l ≡ k → r ≡ q → p ≡ o → standing a m l r p ≡ standing b n k q o
same e f g h i = rw (e, f, g, h, i)

answers_one : {s t u : Standing} {x y : List ℕ} → Answers s x t → Answers s y u → (x ≡ y) × (t ≡ u)
answers_one {s} {t} {u} a b =
    let e =
    turns-one s.shift.phase s.shift.cell (take s.len s.line) s.room t.room u.room s.answer t.answer u.answer
    a.turn b.turn a.turns b.turns in (
      a.says ∙ ap₂ take (ap (λ (r : Turn). r.at) e.2) e.1 ∙ sym b.says,
      same (a.shift ∙ ap (λ (r : Turn). r.shift) e.2 ∙ sym b.shift) (a.len ∙ sym b.len) (a.line ∙ sym b.line) e.0 e.1,
    )

byte_one : (w : Bool) (b : ℕ) (s t u : Standing) (x y : List ℕ) → HearsByte w b s x t → HearsByte w b s y u → (x ≡ y) × (t ≡ u)
byte_one true b s t u x y h g = answers_one h g
byte_one false b s t u x y h g = (h.0 ∙ sym g.0, h.1 ∙ sym g.1)

pub hears-one : (s t u : Standing) (input x y : List ℕ) → Hears s input x t → Hears s input y u → (x ≡ y) × (t ≡ u)
hears-one s t u [] x y h g = (h.0 ∙ sym g.0, h.1 ∙ sym g.1)
hears-one s t u (b ∷ input) x y h g =
    let e = byte_one (eqb b lf) b s h.0 g.0 h.1 g.1 h.3 g.3 in
    let k : Hears g.0 input h.2 t = subst (λ (m : Standing). Hears m input h.2 t) e.1 h.4 in
    let r = hears-one g.0 t u input h.2 g.2 k g.4 in
    (h.5 ∙ ap₂ ◌++◌ e.0 r.0 ∙ sym g.5, r.1)

-- ---- the bytes of a line, and its LF

stored : (s : List ℕ) (at : ℕ) (p : List ℕ) → Written s at p (sets s at p) (reach at (length p) (length s))
stored s at p = record { bytes = refl; reached = refl }

kept_on : (s : Standing) (b : ℕ) (p : List ℕ) → kept (kept s (b ∷ [])) p ≡ kept s (b ∷ p)
kept_on s b p =
    let w = and_then (stored s.line s.len (b ∷ [])) (stored (kept s (b ∷ [])).line (kept s (b ∷ [])).len p) in
    same refl w.reached w.bytes refl refl

pub hears-clean : (s : Standing) (p : List ℕ) → NoLf p → Hears s p [] (kept s p)
hears-clean s [] n = (refl, same refl (omega arith) refl refl refl)
hears-clean s (b ∷ p) n =
    let e = ne_eqb b lf n.0 in
    let w : HearsByte (eqb b lf) b s [] (kept s (b ∷ [])) = rw e (refl, refl) in
    let h = subst (λ (u : Standing). Hears (kept s (b ∷ [])) p [] u) (kept_on s b p) (hears-clean (kept s (b ∷ [])) p n.1) in
    (kept s (b ∷ []), [], [], w, h, refl)

pub hears-lf : {s t : Standing} {text : List ℕ} → Answers s text t → Hears s (lf ∷ []) text t
hears-lf {t = t} {text = text} a = (t, text, [], a, (refl, refl), sym (append-nil text))
