-- Leading digits read one by one. Assumes nothing.
use Prim.Native.Nat.{ℕ, ◌+◌, ◌-◌, ◌*◌, ◌^◌, ◌≤◌, ◌<◌}
use mathlib.Core.Path.{◌≡◌, sym, ◌∙◌}
use mathlib.Core.Bool.{true, false, cond}
use mathlib.Core.List.{List}
use native.Mathlib.Nat.{pow-suc}
use native.Mathlib.Numerals.{add-one}
use native.Mathlib.Omega.{arith}
use lib.Dec.{ltb}
use lib.ListN.{length, get_or, drop, drop_of_length-le}
use lib.Seq.{drop-cons}
use borrow.Author.Tests.{lt-ltb, le-ltb}
use Rattle.text.specs.Class.{is_digit}
use Rattle.text.proofs.ClassLaws.{digit-bounds}
use Rattle.text.specs.Reading.{digits_from}
use Rattle.std.specs.Prelude.{Some, None}

-- `value` and `i` stand for the digits passed: what is read of the rest is what is read of the whole
pub record Passed (s : List ℕ) (value i : ℕ) : Type 0 where
  pub within : i ≤ length s
  pub few : i ≤ 7
  pub small : value < 10 ^ i
  pub same : digits_from (7 - i) value i (drop i s) ≡ digits_from 7 0 0 s

-- the rest's first byte is looked at
step : (s : List ℕ) (more value count i : ℕ) → i < length s
    → digits_from more value count (drop i s)
    ≡ cond (is_digit (get_or s i 0))
    (cond (ltb 0 more) (digits_from (more - 1) (value * 10 + (get_or s i 0 - 48)) (count + 1) (drop (i + 1) s)) None) (Some (value, count))
unfolding digits_from
step s more value count i h = rw (add-one i, drop-cons s i 0 h)

module _ {s : List ℕ} {value i : ℕ} (p : Passed s value i) where
  -- past the last byte
  pub ended : length s ≤ i → Some (value, length s) ≡ digits_from 7 0 0 s
  unfolding digits_from
  ended h = let e : length s ≡ i = omega (arith, p.within) in rw e (rw (drop_of_length-le s h) at p.same)

  module _ (h : i < length s) where
    -- at a byte that is no digit
    pub stop : is_digit (get_or s i 0) ≡ false → Some (value, i) ≡ digits_from 7 0 0 s
    stop e = rw (e) at (sym (step s (7 - i) value i i h)) ∙ p.same

    -- at an eighth digit
    pub full : is_digit (get_or s i 0) ≡ true → i ≡ 7 → None ≡ digits_from 7 0 0 s
    full e k = rw (e, le-ltb 0 (7 - i) (omega arith)) at (sym (step s (7 - i) value i i h)) ∙ p.same

    -- at another digit
    pub next : is_digit (get_or s i 0) ≡ true → i < 7 → Passed s (value * 10 + (get_or s i 0 - 48)) (i + 1)
    next e k =
        let b = digit-bounds (get_or s i 0) e in
        let m : 7 - (i + 1) ≡ 7 - i - 1 = omega arith in
        record {
          within = omega arith;
          few = omega arith;
          small = rw (add-one i, pow-suc 10 i) (omega (arith, p.small, b));
          same = rw m (rw (e, lt-ltb 0 (7 - i) (omega arith)) at (sym (step s (7 - i) value i i h)) ∙ p.same);
        }
