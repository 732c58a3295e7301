-- The channels decide the lowest units: two ways to serve a kind's entries on the same channels, both lowest, give
-- every unit alike. Assumes nothing.
use Rattle.std.specs.Prelude.{Option, Some, None}
use Rattle.numbers.specs.declared.LogicalChannel.{LogicalChannel}
use Prim.Native.Nat.{ℕ, zero, suc, ◌≤◌, ◌<◌}
use mathlib.Core.Path.{◌≡◌, refl, sym, ap, ◌∙◌, subst}
use mathlib.Core.Bool.{Bool, true, false}
use mathlib.Core.Logic.{⊎_elim}
use native.Mathlib.Nat.{eq-zero-or-pos}
use native.Mathlib.Omega.{arith}
use borrow.Author.Tests.{eq-eqb, eqb-true}
use Rattle.numbers.proofs.Order.{le-or-lt, one_more}
use Rattle.numbers.proofs.Tests.{by_bool, never}
use Rattle.assign_heads.specs.Sums.{one, how_many}
use Rattle.assign_heads.proofs.SumsLaws.{sum_same, sum-suc, grows, passes-later}
use Rattle.assign_heads.specs.Heads.{is_to, is_given, Served, Lowest}
use Rattle.assign_heads.proofs.GivingLaws.{to_one, to-given}

-- a unit that is given has its entry
entry : (g : Option LogicalChannel) → is_given g ≡ true → (l : ℕ) × (is_to l g ≡ true)
entry None t = never t refl
entry (Some m) t = (m.0, eq-eqb m.0 m.0 refl)

-- two units that are given to the same entries are given alike
alike : (g h : Option LogicalChannel) → ((l : ℕ) → is_to l g ≡ true → is_to l h ≡ true) → ((l : ℕ) → is_to l h ≡ true → is_to l g ≡ true) → g ≡ h
alike None None p q = refl
alike None (Some n) p q = never (q n.0 (eq-eqb n.0 n.0 refl)) refl
alike (Some m) None p q = never (p m.0 (eq-eqb m.0 m.0 refl)) refl
alike (Some m) (Some n) p q = let e : m.0 ≡ n.0 = sym (eqb-true n.0 m.0 (p m.0 (eq-eqb m.0 m.0 refl))) in λ i. Some (record { 0 = e i })

-- a unit that an entry has in the one way, after units that are alike, is in the other way passed over by a later
-- one, or the entry has it too
later : (want i l : ℕ) (a b : ℕ → Option LogicalChannel) → i < 256 → ((j : ℕ) → j < i → a j ≡ b j) → how_many 256 (λ j. is_to l (a j)) ≡ want
    → how_many 256 (λ j. is_to l (b j)) ≡ want
    → is_to l (a i) ≡ true → is_to l (b i) ≡ false → (j : ℕ) × ((i < j) × (is_to l (b j) ≡ true))
later want i l a b h same ca cb t e =
    let n = sum_same i (λ j. one (is_to l (a j))) (λ j. one (is_to l (b j))) (λ j k. ap (λ (g : Option LogicalChannel). one (is_to l g)) (same j k)) in
    let x : one (is_to l (a i)) ≡ 1 = ap one t in
    let y : one (is_to l (b i)) ≡ 0 = ap one e in
    let r = passes-later 256 (suc i) (λ j. is_to l (b j))
    (omega (
      arith,
      sum-suc i (λ j. one (is_to l (a j))),
      sum-suc i (λ j. one (is_to l (b j))),
      grows (suc i) 256 (λ j. is_to l (a j)) (omega arith),
    )) in
    (r.0, (omega (arith, r.1.0), r.1.1.1))

module _ (free : ℕ → Bool) (want on : ℕ → ℕ) (a b : ℕ → Option LogicalChannel) (sa : Served free want on a) (sb : Served free want on b) (lb : Lowest free b)
    (i : ℕ) (small : i < 256) (same : (j : ℕ) → j < i → a j ≡ b j) where
  -- an entry with a channel has the unit in both
  follows : (l : ℕ) → 1 ≤ l → is_to l (a i) ≡ true → is_to l (b i) ≡ true
  follows l h t =
      by_bool (is_to l (b i)) (λ u. u)
      (λ u. ⊎_elim (λ k. absurd (sa.known i l k t))
      (λ k.
      let r = later (want l) i l a b small same (sa.all l k) (sb.all l k) t u in
      lb.units i r.0 l r.1.0 h r.1.1 (sa.there i l h t ∙ sym (sb.there r.0 l h r.1.1)) (sa.only i (to-given (a i) l t)))
      (le-or-lt 16 l))

  -- a unit that logical channel 0 has in the one is given in the other
  follows-0 : is_to 0 (a i) ≡ true → is_given (b i) ≡ true
  follows-0 t =
      by_bool (is_to 0 (b i)) (λ u. to-given (b i) 0 u)
      (λ u.
      let r = later (want 0) i 0 a b small same (sa.all 0 (omega arith)) (sb.all 0 (omega arith)) t u in
      lb.rest i r.0 r.1.0 r.1.1 (sa.only i (to-given (a i) 0 t)))

module _ (free : ℕ → Bool) (want on : ℕ → ℕ) (a b : ℕ → Option LogicalChannel) (sa : Served free want on a) (la : Lowest free a) (sb : Served free want on b)
    (lb : Lowest free b) where
  -- so an entry of the one is the entry of the other
  half : (c d : ℕ → Option LogicalChannel) → Served free want on c → Lowest free c → Served free want on d → Lowest free d → (i : ℕ) → i < 256
      → ((j : ℕ) → j < i → c j ≡ d j) → (l : ℕ) → is_to l (c i) ≡ true → is_to l (d i) ≡ true
  half c d sc lc sd ld i h same l t =
      ⊎_elim (λ z.
      let t0 : is_to 0 (c i) ≡ true = subst (λ (x : ℕ). is_to x (c i) ≡ true) z t in
      let e = entry (d i) (follows-0 free want on c d sc sd ld i h same t0) in
      ⊎_elim (λ y. subst (λ (x : ℕ). is_to x (d i) ≡ true) (y ∙ sym z) e.1)
      (λ p. absurd (omega (arith, to_one (c i) 0 e.0 t0 (follows free want on d c sd sc lc i h (λ j k. sym (same j k)) e.0 p e.1))))
      (eq-zero-or-pos e.0))
      (λ p. follows free want on c d sc sd ld i h same l p t)
      (eq-zero-or-pos l)

  below : (n : ℕ) → n ≤ 256 → (j : ℕ) → j < n → a j ≡ b j
  below zero h j k = absurd (omega arith)
  below (suc n) h j k =
      let before = below n (omega arith) in
      one_more (λ (x : ℕ). a x ≡ b x) n before
      (alike (a n) (b n) (half a b sa la sb lb n h before) (half b a sb lb sa la n h (λ i l. sym (before i l)))) j (omega arith)

  pub units-one : (j : ℕ) → j < 256 → a j ≡ b j
  units-one = below 256 (omega arith)
