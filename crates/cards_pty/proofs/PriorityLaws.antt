-- What a priority and a program's name are, by the tests that the code makes. Assumes nothing.
use Prim.Native.Nat.{ℕ, ◌≤◌, ◌<◌}
use mathlib.Core.Path.{◌≡◌, refl}
use mathlib.Core.Bool.{Bool, true, false, cond, ◌&&◌}
use mathlib.Core.List.{List, [], ◌∷◌}
use Rattle.numbers.proofs.Tests.{never}
use native.Mathlib.Omega.{arith}
use lib.Dec.{leb}
use lib.ListN.{length, get_or, drop, take, get_or-eq_default}
use borrow.Author.Tests.{le-leb, lt-leb, eq-eqb, ne_eqb}
use Rattle.text.specs.Class.{is_digit, is_letter}
use Rattle.words.specs.Words.{passes, every, value}
use Rattle.words.specs.declared.Class.TheVariants.{Hyphened}
use Rattle.std.specs.Prelude.{Option, Some, None}
use Rattle.cards_pty.specs.declared.Priority.{Priority}
use Rattle.cards_pty.specs.Pty.{program_name, ranked, priority_of, precedence, last_of_all}

module _ (q l : ℕ) (p : List ℕ) where
  rank-letter : is_letter l ≡ false → ranked q l p ≡ None
  unfolding ranked
  rank-letter e = rw e

  module _ (e : is_letter l ≡ true) where
    module _ (h : length p ≤ 2) (d : every is_digit p ≡ true) (n : ℕ) (is : n ≡ precedence p) where
      pub rank-last : n ≤ 63 → last_of_all l n ≡ true → ranked q l p ≡ None
      unfolding ranked
      rank-last g z = rw (e, le-leb (length p) 2 h, d, ← is, le-leb n 63 g, z)

      pub rank-good : n ≤ 63 → last_of_all l n ≡ false → ranked q l p ≡ Some (record { sequence = q; letter = l; precedence = n })
      unfolding ranked
      rank-good g z = rw (e, le-leb (length p) 2 h, d, ← is, le-leb n 63 g, z)

either : (b : Bool) → ◌≡◌ {A = Option Priority} (cond b None None) None
either true = refl
either false = refl

no-letter : is_letter 0 ≡ false
unfolding is_letter
no-letter = refl

module _ (t : List ℕ) where
  pub lettered : is_letter (get_or t 0 0) ≡ true → priority_of t ≡ ranked 0 (get_or t 0 0) (drop 1 t)
  unfolding priority_of
  lettered e = rw e

  module _ (e : is_letter (get_or t 0 0) ≡ false) where
    pub short : length t < 3 → priority_of t ≡ None
    unfolding priority_of
    short h =
        rw (e, get_or-eq_default t 0 {n = 2} (omega arith), rank-letter (value (take 2 t)) 0 (drop 3 t) no-letter)
        (either (every is_digit (take 2 t) && (leb 1 (value (take 2 t)) && leb (value (take 2 t)) 63)))

    pub no-digits : every is_digit (take 2 t) ≡ false → priority_of t ≡ None
    unfolding priority_of
    no-digits d = rw (e, d)

    module _ (d : every is_digit (take 2 t) ≡ true) (n : ℕ) (is : n ≡ value (take 2 t)) where
      pub sequence-low : n < 1 → priority_of t ≡ None
      unfolding priority_of
      sequence-low h = rw (e, d, ← is, lt-leb 1 n h)

      pub sequence-high : 1 ≤ n → 63 < n → priority_of t ≡ None
      unfolding priority_of
      sequence-high h g = rw (e, d, ← is, le-leb 1 n h, lt-leb n 63 g)

      pub sequenced : 1 ≤ n → n ≤ 63 → priority_of t ≡ ranked n (get_or t 2 0) (drop 3 t)
      unfolding priority_of
      sequenced h g = rw (e, d, ← is, le-leb 1 n h, le-leb n 63 g)

-- a text that begins with a letter is not empty
pub letter-some : (t : List ℕ) → is_letter (get_or t 0 0) ≡ true → 1 ≤ length t
letter-some [] e = never e no-letter
letter-some (b ∷ t) e = omega arith

-- a program's name
pub hyphen-first : (t : List ℕ) → get_or t 0 0 ≡ 45 → program_name t ≡ false
unfolding program_name
hyphen-first t e = rw (eq-eqb (get_or t 0 0) 45 e)

pub no-hyphen : (t : List ℕ) → (get_or t 0 0 ≡ 45 → ⊥) → program_name t ≡ every (passes Hyphened) t
unfolding program_name
no-hyphen t e = rw (ne_eqb (get_or t 0 0) 45 e)
