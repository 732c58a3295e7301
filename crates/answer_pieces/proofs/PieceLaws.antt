-- What a loop that puts one piece after the other keeps: whoever puts the pieces that are left has put them all. How
-- long such a text is. Assumes nothing.
use Prim.Native.Nat.{ℕ, zero, suc, ◌+◌, ◌-◌, ◌*◌, ◌≤◌, ◌<◌}
use mathlib.Core.Path.{◌≡◌}
use mathlib.Core.List.{List, [], ◌∷◌, ◌++◌}
use native.Mathlib.Numerals.{add-one}
use native.Mathlib.Nat.{suc-mul}
use native.Mathlib.Omega.{arith}
use lib.ListN.{length, get_or, drop, drop_of_length-le, length-append}
use lib.Seq.{drop-cons}
use Rattle.text.specs.Room.{Written, Puts}
use Rattle.text.specs.declared.room.Room.{Room}
use Rattle.text.proofs.RoomLaws.{Going, turn, end, Goes, goes-turn, goes-end}
use Rattle.answer_pieces.specs.Pieces.{each_from, each_of}

each_turn : (piece : ℕ → List ℕ) (n k : ℕ) → k < n → each_from piece (n - k) k ≡ piece k ++ each_from piece (n - (k + 1)) (k + 1)
unfolding each_from
each_turn piece n k h = let e : n - k ≡ suc (n - (k + 1)) = omega arith in rw e

each-end : (piece : ℕ → List ℕ) (n k : ℕ) → n ≤ k → each_from piece (n - k) k ≡ []
unfolding each_from
each-end piece n k h = let e : n - k ≡ 0 = omega arith in rw e

-- for the numbers below n: `k` of them are dealt with
module _ (piece : ℕ → List ℕ) (n : ℕ) where
  pub on : {room₀ whole room after : List ℕ} {at₀ at next k : ℕ} → k < n
      → Going room₀ at₀ whole room at (each_from piece (n - k) k) → Written room at (piece k) after next
      → Going room₀ at₀ whole after next (each_from piece (n - (k + 1)) (k + 1))
  on {k = k} h g w = turn (rw (each_turn piece n k h) at g) w

  pub over : {room₀ whole room : List ℕ} {at₀ at k : ℕ} → n ≤ k → Going room₀ at₀ whole room at (each_from piece (n - k) k)
      → Written room₀ at₀ whole room at
  over {k = k} h g = end (rw (each-end piece n k h) at g)

  pub puts-on : {first room next : Room} {whole : List ℕ} {k : ℕ} → k < n → Goes first whole room (each_from piece (n - k) k)
      → Puts room (piece k) next → Goes first whole next (each_from piece (n - (k + 1)) (k + 1))
  puts-on {k = k} h g p = goes-turn (rw (each_turn piece n k h) at g) p

  pub puts-over : {first room : Room} {whole : List ℕ} {k : ℕ} → n ≤ k → Goes first whole room (each_from piece (n - k) k)
      → Puts first whole room
  puts-over {k = k} h g = goes-end (rw (each-end piece n k h) at g)

-- for the things in a list: `k` of them are dealt with
module _ {A : Type 0} (piece : A → List ℕ) (list : List A) where
  pub on_of : {room₀ whole room after : List ℕ} {at₀ at next k : ℕ} (d : A) → k < length list
      → Going room₀ at₀ whole room at (each_of piece (drop k list)) → Written room at (piece (get_or list k d)) after next
      → Going room₀ at₀ whole after next (each_of piece (drop (k + 1) list))
  unfolding each_of
  on_of {k = k} d h g w =
      let e : each_of piece (drop k list) ≡ piece (get_or list k d) ++ each_of piece (drop (k + 1) list) = rw (add-one k, drop-cons list k d h) in
      turn (rw e at g) w

  pub over-of : {room₀ whole room : List ℕ} {at₀ at k : ℕ} → length list ≤ k → Going room₀ at₀ whole room at (each_of piece (drop k list))
      → Written room₀ at₀ whole room at
  unfolding each_of
  over-of {k = k} h g = let e : each_of piece (drop k list) ≡ [] = rw (drop_of_length-le list h) in end (rw e at g)

  pub puts-on_of : {first room next : Room} {whole : List ℕ} {k : ℕ} (d : A) → k < length list
      → Goes first whole room (each_of piece (drop k list)) → Puts room (piece (get_or list k d)) next
      → Goes first whole next (each_of piece (drop (k + 1) list))
  unfolding each_of
  puts-on_of {k = k} d h g p =
      let e : each_of piece (drop k list) ≡ piece (get_or list k d) ++ each_of piece (drop (k + 1) list) = rw (add-one k, drop-cons list k d h) in
      goes-turn (rw e at g) p

  pub puts-over-of : {first room : Room} {whole : List ℕ} {k : ℕ} → length list ≤ k → Goes first whole room (each_of piece (drop k list))
      → Puts first whole room
  unfolding each_of
  puts-over-of {k = k} h g = let e : each_of piece (drop k list) ≡ [] = rw (drop_of_length-le list h) in goes-end (rw e at g)

-- so many pieces of so many bytes at most
pub each-bound : (piece : ℕ → List ℕ) (most n k : ℕ) → ((i : ℕ) → k ≤ i → i < k + n → length (piece i) ≤ most)
    → length (each_from piece n k) ≤ n * most
unfolding each_from
each-bound piece most zero k h = omega arith
each-bound piece most (suc n) k h =
    omega (
      arith,
      suc-mul n most,
      length-append (piece k) (each_from piece n (k + 1)),
      h k (omega arith) (omega arith),
      each-bound piece most n (k + 1) (λ i a b. h i (omega arith) (omega arith)),
    )

pub of-bound : {A : Type 0} (piece : A → List ℕ) (d : A) (most : ℕ) (list : List A)
    → ((i : ℕ) → i < length list → length (piece (get_or list i d)) ≤ most) → length (each_of piece list) ≤ length list * most
unfolding each_of
of-bound piece d most [] h = omega arith
of-bound piece d most (a ∷ rest) h =
    omega (
      arith,
      suc-mul (length rest) most,
      length-append (piece a) (each_of piece rest),
      h 0 (omega arith),
      of-bound piece d most rest (λ i k. h (suc i) (omega arith)),
    )
