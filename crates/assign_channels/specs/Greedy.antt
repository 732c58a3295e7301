-- How the least list is found. Each entry in turn takes the lowest channel after which the rest can still be served,
-- which the threshold test says. Nothing here has to be believed: ChoiceLaws shows that what is found is what Choice
-- asks for.
use Rattle.std.specs.Prelude.{ℕ, zero, suc, ◌+◌, ◌≤◌, Bool, true, false, cond, ◌&&◌, ◌||◌, List, [], ◌∷◌, leb, eqb, get_or, set, drop, replicate}
use Rattle.numbers.specs.declared.ChannelNumber.{ChannelNumber}
use Rattle.assign_channels.specs.declared.ByChannel.{ByChannel}
use Rattle.assign_channels.specs.declared.ByLogical.{ByLogical}
use Rattle.assign_channels.specs.declared.Picks.{Picks}
use Rattle.assign_channels.specs.Choice.{channel, total}

-- 1 where t ≤ x, else 0
unfoldable pub ge : ℕ → ℕ → ℕ
ge t x = cond (leb t x) 1 0

-- how many of a list are at least t
abbrev pub cnt : ℕ → List ℕ → ℕ
cnt t [] = 0
cnt t (x ∷ xs) = ge t x + cnt t xs

-- the threshold condition: no more entries ask for t units or more than channels have as many
abbrev pub Hall : List ℕ → List ℕ → Type 0
Hall counts ns = (t : ℕ) → 1 ≤ t → cnt t ns ≤ cnt t counts

-- it is enough to test the thresholds that entries ask for
unfoldable pub tests_b : List ℕ → List ℕ → List ℕ → Bool
tests_b counts all [] = true
tests_b counts all (n ∷ ns) = (eqb n 0 || leb (cnt n all) (cnt n counts)) && tests_b counts all ns

-- whether each entry can have a channel of its own
abbrev pub hall_b : List ℕ → List ℕ → Bool
hall_b counts ns = tests_b counts ns ns

-- the lowest of k channels from c on that has n units and after which the rest can be served
unfoldable pub lowest_from : List ℕ → ℕ → List ℕ → ℕ → ℕ → ℕ
lowest_from counts n rest zero c = c
lowest_from counts n rest (suc k) c =
    cond (leb n (get_or counts c 0))
    (cond (hall_b (set counts c 0) rest) c (lowest_from counts n rest k (suc c)))
    (lowest_from counts n rest k (suc c))

-- the lowest of all 16
abbrev pub lowest_of : List ℕ → ℕ → List ℕ → ℕ
lowest_of counts n rest = lowest_from counts n rest 16 0

-- the channels of all entries; one that is taken has no units left
unfoldable pub picks : List ℕ → List ℕ → List ChannelNumber
picks counts [] = []
picks counts (zero ∷ ns) = channel 0 ∷ picks counts ns
picks counts (suc n ∷ ns) = channel (lowest_of counts (suc n) ns) ∷ picks (set counts (lowest_of counts (suc n) ns) 0) ns

-- the whole
unfoldable pub choose_of : ByChannel → ByLogical → Picks
choose_of counts wants =
    cond (leb (total wants.0) (total counts.0))
    (cond (hall_b counts.0 (drop 1 wants.0))
    (record { ok = true; on = channel 0 ∷ picks counts.0 (drop 1 wants.0) })
    (record { ok = false; on = replicate 16 (channel 0) }))
    (record { ok = false; on = replicate 16 (channel 0) })
