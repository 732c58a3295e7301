-- The laws of writing into lent room: pieces join, a loop's pieces join, and what fits stands there byte for byte
-- with the rest of the room kept. Assumes nothing.
use Prim.Native.Nat.{ℕ, suc, ◌+◌, ◌-◌, ◌≤◌}
use mathlib.Core.Path.{◌≡◌, refl, sym, ap, ◌∙◌}
use mathlib.Core.List.{List, [], ◌∷◌, ◌++◌}
use mathlib.Core.Logic.{⊎_elim}
use native.Mathlib.Nat.{eq-zero-or-pos}
use native.Mathlib.Omega.{arith}
use lib.ListN.{length, take, drop, set, length-append}
use lib.Seq.{sets, length-sets, sets-eq, set_out, length-take-le, take_at}
use Rattle.text.specs.declared.room.Room.{Room}
use Rattle.text.specs.Room.{reach, Written, Puts, Whole}

sets-sets : (s : List ℕ) (at : ℕ) (p q : List ℕ) → sets (sets s at p) (at + length p) q ≡ sets s at (p ++ q)
sets-sets s at [] q = ap (λ (k : ℕ). sets s k q) (omega arith)
sets-sets s at (x ∷ p) q =
    let e : at + length (x ∷ p) ≡ suc at + length p = omega arith in
    ap (λ (k : ℕ). sets (sets (set s at x) (suc at) p) k q) e ∙ sets-sets (set s at x) (suc at) p q

-- past the end nothing is stored
pub sets-out : (s : List ℕ) (at : ℕ) (p : List ℕ) → length s ≤ at → sets s at p ≡ s
sets-out s at [] h = refl
sets-out s at (x ∷ p) h = rw (set_out s at x h) (sets-out s (suc at) p (omega arith))

-- from the next index on is from past the piece on: the two differ past the end alone
sets-on : (s : List ℕ) (at count next : ℕ) (p : List ℕ) → next ≡ reach at count (length s) → sets s next p ≡ sets s (at + count) p
sets-on s at count next p e =
    ⊎_elim
    (λ h. let k : next ≡ at + count = omega arith in ap (λ (k : ℕ). sets s k p) k)
    (λ h. sets-out s next p (omega arith) ∙ sym (sets-out s (at + count) p (omega arith)))
    (eq-zero-or-pos (at + count - length s))

-- nothing is written
pub none : (s : List ℕ) (at : ℕ) → Written s at [] s at
none s at = record { bytes = refl; reached = omega arith }

-- a piece, and then another
pub and_then : {s t u p q : List ℕ} {a b c : ℕ} → Written s a p t b → Written t b q u c → Written s a (p ++ q) u c
and_then {s} {t} {u} {p} {q} {a} {b} {c} v w =
    let l : length t ≡ length s = ap length v.bytes ∙ length-sets s a p in
    let e : sets t b q ≡ sets t (a + length p) q = sets-on t a (length p) b q (omega (arith, v.reached)) in
    record {
      bytes = w.bytes ∙ e ∙ ap (λ (x : List ℕ). sets x (a + length p) q) v.bytes ∙ sets-sets s a p q;
      reached = omega (arith, length-append p q, w.reached, v.reached);
    }

-- nothing is put
pub puts-none : (r : Room) → Puts r [] r
puts-none r = record { written = none r.bytes.now r.at; same = refl }

-- a piece is put, and then another
pub puts-then : {r s t : Room} {p q : List ℕ} → Puts r p s → Puts s q t → Puts r (p ++ q) t
puts-then v w = record { written = and_then v.written w.written; same = w.same ∙ v.same }

-- whoever puts `rest` into this room has then put `whole` into the first: what a loop keeps
abbrev pub Goes : Room → List ℕ → Room → List ℕ → Type 0
Goes first whole room rest = (after : Room) → Puts room rest after → Puts first whole after

pub goes-start : (room : Room) (whole : List ℕ) → Goes room whole room whole
goes-start room whole after p = p

pub goes-turn : {first room next : Room} {whole piece rest : List ℕ} → Goes first whole room (piece ++ rest) → Puts room piece next
    → Goes first whole next rest
goes-turn g p after q = g after (puts-then p q)

pub goes-end : {first room : Room} {whole : List ℕ} → Goes first whole room [] → Puts first whole room
goes-end {room = room} g = g room (puts-none room)

-- whoever writes `rest` from here on has then written `whole` from there on: what a loop keeps
abbrev pub Going : List ℕ → ℕ → List ℕ → List ℕ → ℕ → List ℕ → Type 0
Going room₀ at₀ whole room at rest = (after : List ℕ) (next : ℕ) → Written room at rest after next → Written room₀ at₀ whole after next

pub start : (room : List ℕ) (at : ℕ) (whole : List ℕ) → Going room at whole room at whole
start room at whole after next w = w

pub turn : {room₀ whole room after piece rest : List ℕ} {at₀ at next : ℕ}
    → Going room₀ at₀ whole room at (piece ++ rest) → Written room at piece after next → Going room₀ at₀ whole after next rest
turn g w after next v = g after next (and_then w v)

pub end : {room₀ whole room : List ℕ} {at₀ at : ℕ} → Going room₀ at₀ whole room at [] → Written room₀ at₀ whole room at
end {room = room} {at = at} g = g room at (none room at)

-- a text put into a room leaves one room and one next index
pub written_one : {s t u p : List ℕ} {a b c : ℕ} → Written s a p t b → Written s a p u c → (t ≡ u) × (b ≡ c)
written_one x y = (x.bytes ∙ sym y.bytes, x.reached ∙ sym y.reached)

-- the room is as long as before
pub same-room : {s t p : List ℕ} {a b : ℕ} → Written s a p t b → length t ≡ length s
same-room {s} {t} {p} {a} w = ap length w.bytes ∙ length-sets s a p

-- where it fits: what stood before, the piece, and what stood after
pub fitted : {s t p : List ℕ} {a b : ℕ} → Written s a p t b → a + length p ≤ length s
    → (b ≡ a + length p) × (t ≡ take a s ++ p ++ drop (a + length p) s)
fitted {s} {t} {p} {a} {b} w h = (omega (arith, w.reached), w.bytes ∙ sets-eq p s a h)

-- a text put from the room's start on is the room's first bytes: those up to the next index, all of them within the
-- room
pub written-length : {s t p : List ℕ} {b : ℕ} → Written s 0 p t b → b ≡ length (take b t)
written-length {s} {t} {p} {b} w = let h : b ≤ length t = omega (arith, same-room w, w.reached) in sym (length-take-le b t h)

-- what fits stands in the room whole, and every byte behind it is kept
pub entire : {room p after· : List ℕ} {r : ℕ} → Written room 0 p after· r → length p ≤ length room → Whole p room after· r
entire {room} {p} {after·} {r} w h =
    let f = fitted w (omega arith) in
    let k : 0 + length p ≡ r = omega (arith, f.0) in
    record { ends = omega arith; bytes = f.1 ∙ ap (λ (n : ℕ). p ++ drop n room) k }

-- a text whole is within the room, and is the room's first bytes
pub whole-within : {room p after· : List ℕ} {r : ℕ} → Whole p room after· r → r ≤ length after·
whole-within {room} {p} {r = r} w = omega (arith, w.ends, ap length w.bytes, length-append p (drop r room))

pub whole-front : {room p after· : List ℕ} {r : ℕ} → Whole p room after· r → take r after· ≡ p
whole-front {room} {p} {after·} {r} w = ap (take r) w.bytes ∙ take_at p (drop r room) r (sym w.ends)

pub whole_length : {room p after· : List ℕ} {r : ℕ} → Whole p room after· r → r ≡ length (take r after·)
whole_length w = w.ends ∙ sym (ap length (whole-front w))

-- a text whole leaves one room and one length
pub whole-one : {room p after₁ after₂ : List ℕ} {r₁ r₂ : ℕ} → Whole p room after₁ r₁ → Whole p room after₂ r₂ → (after₁ ≡ after₂) × (r₁ ≡ r₂)
whole-one {room} {p} v w =
    let e = v.ends ∙ sym w.ends in
    (v.bytes ∙ ap (λ (n : ℕ). p ++ drop n room) e ∙ sym w.bytes, e)
