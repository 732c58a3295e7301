-- What changing one unit means, proved: that unit is the new one, every other stays, and a state is known by its
-- units. Assumes nothing.
use Prim.Native.Nat.{ℕ, ◌≤◌, ◌<◌}
use mathlib.Core.Path.{◌≡◌, refl, sym, ap, subst, ◌∙◌}
use mathlib.Core.Bool.{false, cond, ◌&&◌}
use mathlib.Core.List.{List, []}
use native.Mathlib.Omega.{arith}
use lib.Dec.{eqb, ltb}
use lib.ListN.{length, get_or, set, length-set, replicate, length-replicate, get_or-replicate, get_or-eq_default}
use lib.Seq.{set_out, set-get_or, ext_get_or}
use borrow.Author.Tests.{eqb-true, ltb-true, ltb-false}
use Rattle.numbers.proofs.Stores.{get_d_set, get_d-replicate-same}
use Rattle.numbers.proofs.Tests.{by_bool}
use Rattle.units.specs.declared.Holder.TheVariants.{Free}
use Rattle.units.specs.declared.Unit.{Unit}
use Rattle.units.specs.declared.Units.{Units}
use Rattle.units.specs.State.{Square, GridOf, fresh_unit, none_held, unit_in, unit_set}

-- the channels of a state that was taken apart
pub of-square : {units : Units} {grid : List (List Unit)} → GridOf units grid → Square units.of
of-square g = subst Square g.is g.square

module _ (grid : List (List Unit)) (square : Square grid) (c u : ℕ) where
  -- no unit of the cell: free and unmarked
  pub read_past : 16 ≤ c → unit_in grid c u ≡ fresh_unit false
  unfolding unit_in
  read_past h = rw (get_or-eq_default grid [] {n = c} (omega (arith, square.channels))) refl

  pub read-beside : c < 16 → 16 ≤ u → unit_in grid c u ≡ fresh_unit false
  unfolding unit_in
  read-beside k h = get_or-eq_default (get_or grid c []) (fresh_unit false) (omega (arith, square.units c k))

  pub read_off : 16 ≤ u → unit_in grid c u ≡ fresh_unit false
  read_off h = by_bool (ltb c 16) (λ t. read-beside (ltb-true c 16 t) h) (λ t. read_past (ltb-false c 16 t))

  -- a unit is free where those of the cell are
  pub free_all : ((d v : ℕ) → d < 16 → v < 16 → (unit_in grid d v).holder ≡ Free) → (unit_in grid c u).holder ≡ Free
  free_all e =
      by_bool (ltb u 16)
      (λ t. by_bool (ltb c 16)
      (λ s. e c u (ltb-true c 16 s) (ltb-true u 16 t))
      (λ s. rw (read_past (ltb-false c 16 s)) refl))
      (λ t. rw (read_off (ltb-false u 16 t)) refl)

module _ (grid : List (List Unit)) (square : Square grid) (c u : ℕ) (unit : Unit) where
  -- no unit of the cell: nothing changes
  pub set_past : 16 ≤ c → unit_set grid c u unit ≡ grid
  unfolding unit_set
  set_past h = set_out grid c (set (get_or grid c []) u unit) (omega (arith, square.channels))

  pub set-beside : c < 16 → 16 ≤ u → unit_set grid c u unit ≡ grid
  unfolding unit_set
  set-beside k h = rw (set_out (get_or grid c []) u unit (omega (arith, square.units c k))) (set-get_or grid c [])

  pub set-off : 16 ≤ u → unit_set grid c u unit ≡ grid
  set-off h = by_bool (ltb c 16) (λ t. set-beside (ltb-true c 16 t) h) (λ t. set_past (ltb-false c 16 t))

  module _ (k : c < 16) where
    row : (d : ℕ) → get_or (unit_set grid c u unit) d [] ≡ cond (eqb d c) (set (get_or grid c []) u unit) (get_or grid d [])
    unfolding unit_set
    row d = get_d_set grid c (set (get_or grid c []) u unit) d [] (omega (arith, square.channels))

    -- 16 channels of 16 units stay so
    pub set-square : Square (unit_set grid c u unit)
    unfolding unit_set
    set-square =
        record {
          channels = length-set grid c (set (get_or grid c []) u unit) ∙ square.channels;
          units = λ d h. by_bool (eqb d c)
              (λ t. rw (row d, t) (length-set (get_or grid c []) u unit ∙ square.units c k))
              (λ f. rw (row d, f) (square.units d h));
        }

    -- the unit is the new one, every other stays
    pub set-read : u < 16 → (d v : ℕ) → unit_in (unit_set grid c u unit) d v ≡ cond (eqb d c && eqb v u) unit (unit_in grid d v)
    unfolding unit_in
    set-read l d v =
        by_bool (eqb d c)
        (λ t.
        let e : d ≡ c = eqb-true d c t in
        rw (row d, t) (get_d_set (get_or grid c []) u unit v (fresh_unit false) (omega (arith, square.units c k))
        ∙ ap (λ (n : ℕ). cond (eqb v u) unit (get_or (get_or grid n []) v (fresh_unit false))) (sym e)))
        (λ f. rw (row d, f) refl)

-- two states whose units are the same are the same
pub same_units : (g h : List (List Unit)) → Square g → Square h → ((c u : ℕ) → c < 16 → u < 16 → unit_in g c u ≡ unit_in h c u) → g ≡ h
unfolding unit_in
same_units g h p q same =
    ext_get_or [] g h (p.channels ∙ sym q.channels) λ c l.
    let k : c < 16 = omega (arith, p.channels) in
    ext_get_or (fresh_unit false) (get_or g c []) (get_or h c []) (p.units c k ∙ sym (q.units c k)) λ u m.
    same c u k (omega (arith, p.units c k))

-- all units free and unmarked is a state, and has such units
pub none-square : Square none_held
none-square =
    record {
      channels = refl;
      units = λ c h. ap length (get_or-replicate 16 c (replicate 16 (fresh_unit false)) [] h) ∙ length-replicate 16 (fresh_unit false);
    }

pub none_read : (c u : ℕ) → c < 16 → u < 16 → unit_in none_held c u ≡ fresh_unit false
unfolding unit_in
none_read c u h k =
    ap (λ (row : List Unit). get_or row u (fresh_unit false)) (get_or-replicate 16 c (replicate 16 (fresh_unit false)) [] h)
    ∙ get_d-replicate-same 16 u (fresh_unit false)

-- none of them is held
pub none_free : (c u : ℕ) → (unit_in none_held c u).holder ≡ Free
none_free c u = free_all none_held none-square c u (λ d v h k. rw (none_read d v h k) refl)
