-- A search that antt computes: it meets the search's contract, so by `answers_one` it is what the search answers.
-- Assumes nothing.
use Rattle.std.specs.Prelude.{Option, Some, None}
use Rattle.assign_core.specs.declared.Pair.{Pair}
use Prim.Native.Nat.{ℕ, zero, suc, ◌+◌, ◌*◌, ◌≤◌, ◌<◌, ◌/◌, ◌%◌}
use mathlib.Core.Path.{◌≡◌, refl, ap, ◌∙◌, subst}
use mathlib.Core.Logic.{◌⊎◌, inl, inr, ⊎_elim}
use mathlib.Core.Bool.{Bool, true, false, ◌&&◌, ◌||◌}
use native.Mathlib.Nat.{eq-zero-or-pos, eq-or-lt_of_le}
use native.Mathlib.Omega.{arith}
use lib.Dec.{leb, eqb}
use borrow.Author.Tests.{eq-eqb, eqb-true, eqb-false, le-leb, leb-true}
use Rattle.numbers.proofs.Find.{Hit, hit, none, seek, First, first}
use Rattle.numbers.proofs.Tests.{by_bool, both, or-true}
use Rattle.numbers.specs.Bits.{bit}
use Rattle.numbers.specs.Limits.{first_block, last_block}
use Rattle.assign_core.specs.Core.{Run, Beside, Fits, LeastPair}
use Rattle.assign_core.proofs.CoreLaws.{answers_one}

either : (a b : Bool) → (a || b) ≡ true → (a ≡ true) ⊎ (b ≡ true)
either true b e = inl refl
either false b e = inr e

-- ---- the tests
abbrev pub free_b : ℕ → ℕ → ℕ → Bool
free_b w i zero = true
free_b w i (suc n) = eqb (bit w i) 0 && free_b w (suc i) n

free-sound : (w i n : ℕ) → free_b w i n ≡ true → (b : ℕ) → b < i + n → i ≤ b → bit w b ≡ 0
free-sound w i zero t b h l = absurd (omega arith)
free-sound w i (suc n) t b h l =
    let p = both (eqb (bit w i) 0) (free_b w (suc i) n) t in
    ⊎_elim (λ e. subst (λ (x : ℕ). bit w x ≡ 0) e (eqb-true (bit w i) 0 p.0)) (λ m. free-sound w (suc i) n p.1 b (omega arith) m)
    (eq-or-lt_of_le l)

free-complete : (w i n : ℕ) → ((b : ℕ) → b < i + n → i ≤ b → bit w b ≡ 0) → free_b w i n ≡ true
free-complete w i zero f = refl
free-complete w i (suc n) f =
    rw (eq-eqb (bit w i) 0 (f i (omega arith) (omega arith)), free-complete w (suc i) n (λ b h l. f b (omega arith) (omega arith)))

unfoldable pub run_b : ℕ → ℕ → ℕ → Bool
run_b w n i = leb first_block i && (leb (i + n) (last_block + 1) && free_b w i n)

run_sound : (w n i : ℕ) → run_b w n i ≡ true → Run w n i
unfolding run_b
run_sound w n i t =
    let p = both (leb first_block i) (leb (i + n) (last_block + 1) && free_b w i n) t in
    let q = both (leb (i + n) (last_block + 1)) (free_b w i n) p.1 in
    record { low = leb-true first_block i p.0; high = leb-true (i + n) (last_block + 1) q.0; free = free-sound w i n q.1 }

run-complete : (w n i : ℕ) → Run w n i → run_b w n i ≡ true
unfolding run_b
run-complete w n i r = rw (le-leb first_block i r.low, le-leb (i + n) (last_block + 1) r.high, free-complete w i n r.free)

unfoldable pub fits_b : ℕ → ℕ → ℕ → ℕ → ℕ → Bool
fits_b w ib db i j = run_b w ib i && (eqb db 0 || (run_b w db j && (leb (j + db) i || leb (i + ib) j)))

module _ (w ib db i j : ℕ) where
  abbrev apart_b : Bool
  apart_b = leb (j + db) i || leb (i + ib) j

  fits-sound : fits_b w ib db i j ≡ true → Fits w ib db i j
  unfolding fits_b
  fits-sound t =
      let p = both (run_b w ib i) (eqb db 0 || (run_b w db j && apart_b)) t in
      record {
        instructions = run_sound w ib i p.0;
        data-run = λ h. ⊎_elim (λ z. absurd (omega (arith, eqb-true db 0 z))) (λ q. beside (both (run_b w db j) apart_b q))
            (either (eqb db 0) (run_b w db j && apart_b) p.1);
      }
    where
      beside : (run_b w db j ≡ true) × (apart_b ≡ true) → Beside w i ib db j
      beside q = record {
        run = run_sound w db j q.0;
        apart = ⊎_elim (λ a. inl (leb-true (j + db) i a)) (λ a. inr (leb-true (i + ib) j a)) (either (leb (j + db) i) (leb (i + ib) j) q.1);
      }

  fits-complete : Fits w ib db i j → fits_b w ib db i j ≡ true
  unfolding fits_b
  fits-complete f =
      by_bool (eqb db 0) (λ z. rw (run-complete w ib i f.instructions, z))
      (λ z.
      let b : Beside w i ib db j = f.data-run (positive z) in
      ⊎_elim (λ a. rw (run-complete w ib i f.instructions, z, run-complete w db j b.run, le-leb (j + db) i a))
      (λ a. rw (run-complete w ib i f.instructions, z, run-complete w db j b.run, le-leb (i + ib) j a) (or-true (leb (j + db) i)))
      b.apart)
    where
      positive : eqb db 0 ≡ false → 1 ≤ db
      positive z = ⊎_elim (λ e. absurd (eqb-false db 0 z e)) (λ p. p) (eq-zero-or-pos db)

-- ---- the search: the first pair, as one number
abbrev pub found : Hit → Option Pair
found (hit m) = Some (record { 0 = m / 32; 1 = m % 32 })
found none = None

abbrev pub test : ℕ → ℕ → ℕ → ℕ → Bool
test w ib db p = fits_b w ib db (p / 32) (p % 32)

unfoldable pub search_of : ℕ → ℕ → ℕ → Option Pair
search_of w ib db = found (seek (test w ib db) 1024 0)

-- a pair that fits has one that is tried and comes no later
pub record Tried (w ib db a b : ℕ) : Type 0 where
  pub at : ℕ
  pub low : at ≤ b
  pub small : at ≤ last_block + 1
  pub fits : Fits w ib db a at

tried : (w ib db a b : ℕ) → Fits w ib db a b → Tried w ib db a b
tried w ib db a b f =
    ⊎_elim (λ z. record {
      at = 0;
      low = omega arith;
      small = omega arith;
      fits = record { instructions = f.instructions; data-run = λ p. absurd (omega arith) };
    })
    (λ p. record { at = b; low = omega arith; small = omega (arith, (f.data-run p).run); fits = f })
    (eq-zero-or-pos db)

module _ (w ib db a : ℕ) where
  passes : (b : ℕ) → b ≤ last_block + 1 → Fits w ib db a b → test w ib db (a * 32 + b) ≡ true
  passes b l f =
      let d : (a * 32 + b) / 32 ≡ a = omega arith in
      let m : (a * 32 + b) % 32 ≡ b = omega arith in
      ap (λ (x : ℕ). fits_b w ib db x ((a * 32 + b) % 32)) d ∙ ap (λ (x : ℕ). fits_b w ib db a x) m ∙ fits-complete w ib db a b f

answers_of : (w ib db : ℕ) (h : Hit) → First (test w ib db) 1024 0 h → LeastPair w ib db (found h)
answers_of w ib db (hit m) p = (
  fits-sound w ib db (m / 32) (m % 32) p.0,
  λ a b f before.
      let t = tried w ib db a b f in
      p.1 (a * 32 + t.at) (omega arith) (⊎_elim (λ l. omega (arith, t)) (λ e. omega (arith, t)) before)
      (passes w ib db a t.at t.small t.fits),
)
answers_of w ib db none p = λ a b f.
    let t = tried w ib db a b f in
    p (a * 32 + t.at) (omega arith) (omega (arith, f.instructions, t)) (passes w ib db a t.at t.small t.fits)

pub computed : (w ib db : ℕ) (r : Option Pair) → LeastPair w ib db r → r ≡ search_of w ib db
unfolding search_of
computed w ib db r p =
    answers_one w ib db r (found (seek (test w ib db) 1024 0)) p (answers_of w ib db (seek (test w ib db) 1024 0) (first (test w ib db) 1024 0))

-- the computed search is an answer
pub search-answers : (w ib db : ℕ) → LeastPair w ib db (search_of w ib db)
unfolding search_of
search-answers w ib db = answers_of w ib db (seek (test w ib db) 1024 0) (first (test w ib db) 1024 0)
