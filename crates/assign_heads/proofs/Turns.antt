-- Turns of the loops and chains: what of a part is counted. Assumes nothing.
use Prim.Native.Nat.{ℕ, zero, suc, ◌+◌}
use mathlib.Core.Path.{◌≡◌, sym, ap, ◌∙◌}
use mathlib.Core.Bool.{Bool, false}
use mathlib.Core.List.{List, [], ◌∷◌}
use native.Mathlib.Omega.{arith}
use lib.ListN.{take, drop}
use Rattle.std.specs.List.{count_by}
use Rattle.std.proofs.lemmas.List.{get_or-drop}
use Rattle.std.proofs.lemmas.List.Sums.{sum_by-cons}
use Rattle.assign_heads.specs.Sums.{one, how_many}
use Rattle.assign_heads.specs.Whose.{free_at}
use Rattle.assign_heads.proofs.SumsLaws.{sum-none, sum-zero, sum_same, sum-front}

-- how many of the first n are true
front-count : (bs : List Bool) (n : ℕ) → count_by (λ (b : Bool). b) (take n bs) ≡ how_many n (free_at bs)
front-count bs zero = sym (sum-none (λ i. one (free_at bs i)))
front-count [] (suc n) = sym (sum-zero (suc n))
front-count (b ∷ bs) (suc n) =
    omega (arith, front-count bs n, sum-front n (λ i. one (free_at (b ∷ bs) i)), sum_by-cons one b (take n bs))

-- how many of the n from k on are
pub part-count : (bs : List Bool) (k n : ℕ) → count_by (λ (b : Bool). b) (take n (drop k bs)) ≡ how_many n (λ u. free_at bs (k + u))
part-count bs k n =
    front-count (drop k bs) n
    ∙ sum_same n (λ u. one (free_at (drop k bs) u)) (λ u. one (free_at bs (k + u))) (λ u h. ap one (get_or-drop k bs u false))
