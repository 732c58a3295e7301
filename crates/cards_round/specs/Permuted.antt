-- Entry order apart: two lists with the same entries, whatever their order.
use Rattle.std.specs.Prelude.{ℕ, List, [], ◌∷◌}

-- one list of texts is another one in some order: two neighbours are exchanged, as often as one likes
pub data Permuted : List (List ℕ) → List (List ℕ) → Type 0 where
  none : Permuted [] []
  more : {t : List ℕ} {ts us : List (List ℕ)} → Permuted ts us → Permuted (t ∷ ts) (t ∷ us)
  swap : {t u : List ℕ} {ts : List (List ℕ)} → Permuted (t ∷ u ∷ ts) (u ∷ t ∷ ts)
  next : {ts us vs : List (List ℕ)} → Permuted ts us → Permuted us vs → Permuted ts vs
