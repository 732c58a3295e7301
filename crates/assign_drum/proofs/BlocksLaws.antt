-- An area that is in the way of a start is in the way of every later start up to its end; a start that is clear is
-- free. Assumes nothing.
use Prim.Native.Nat.{ℕ, ◌+◌, ◌≤◌, ◌<◌}
use mathlib.Core.List.{List}
use mathlib.Core.Logic.{⊎_elim}
use native.Mathlib.Omega.{arith}
use lib.ListN.{get_or}
use Rattle.numbers.proofs.Order.{le-or-lt}
use Rattle.assign_drum.specs.declared.Area.{Area}
use Rattle.assign_drum.specs.Drum.{no_area, In, Free}
use Rattle.assign_drum.specs.Blocks.{Meets, InTheWay}

-- two that meet share a word: the later of the two starts
pub shared : (a : Area) (s n : ℕ) → 1 ≤ n → Meets a s n → (x : ℕ) × ((s ≤ x) × ((x < s + n) × In a x))
shared a s n p m =
    ⊎_elim (λ h. (a.start, (h, (m.before, record { from = omega arith; below = m.some }))))
    (λ h. (s, (omega arith, (omega arith, record { from = omega arith; below = m.after }))))
    (le-or-lt s a.start)

module _ (held : List Area) (n s : ℕ) where
  -- no free start from s up to the end of an area that is in the way of s
  pub none_before : {e : ℕ} → 1 ≤ n → InTheWay held s n e → (t : ℕ) → s ≤ t → t < e → Free held n t → ⊥
  none_before {e} p w t l h free =
      let m : Meets (get_or held w.at no_area) t n =
      record { before = omega (arith, w.meets); after = omega (arith, w.is); some = w.meets.some } in
      let x = shared (get_or held w.at no_area) t n p m in
      free x.0 x.1.0 x.1.1.0 w.at x.1.1.1

  pub clear-free : ((k : ℕ) → Meets (get_or held k no_area) s n → ⊥) → Free held n s
  clear-free clear x l h k i = clear k (record { before = omega (arith, i); after = omega (arith, i); some = omega (arith, i) })
