-- What the definitions of Assignable mean: a channel of another kind has no unit of the kind, no unit is of two
-- kinds, none stands past the last, and the marks are one list. Assumes nothing.
use Rattle.std.specs.Prelude.{Option, Some, None}
use Prim.Native.Nat.{ℕ, ◌≤◌, ◌/◌, ◌%◌}
use mathlib.Core.Path.{◌≡◌, refl, sym, ap, ◌∙◌}
use mathlib.Core.Bool.{Bool, true, false, cond}
use mathlib.Core.List.{List}
use native.Mathlib.Omega.{arith}
use lib.Dec.{ltb}
use lib.ListN.{length, get_or, get_or-eq_default}
use lib.Seq.{ext_get_or}
use borrow.Author.Tests.{eqb-true, ltb-true, ltb-false, le-ltb}
use Rattle.numbers.specs.Kinds.{order_of}
use Rattle.numbers.proofs.Tests.{by_bool, never, both}
use Rattle.units.specs.declared.Unit.{Unit}
use Rattle.units.specs.State.{unit_in, assignable}
use Rattle.channels.specs.declared.Fitted.{Fitted}
use Rattle.channels.specs.declared.Channel.{Channel}
use Rattle.channels.specs.Channels.{no_channel, units_of}
use Rattle.assign_free.specs.Assignable.{is_fitted, units_of_kind, is_free_of, FreeUnits}

-- a channel of one kind is of no other
fitted-one : (f : Option Fitted) (a b : ℕ) → is_fitted a f ≡ true → is_fitted b f ≡ true → a ≡ b
fitted-one None a b p q = never p refl
fitted-one (Some its) a b p q = sym (eqb-true (order_of its.kind) a p) ∙ eqb-true (order_of its.kind) b q

has_some : (order u : ℕ) (channel : Channel) → ltb u (units_of_kind order channel) ≡ true → is_fitted order channel.has ≡ true
has_some order u channel t =
    by_bool (is_fitted order channel.has) (λ e. e)
    (λ e.
    let z : units_of_kind order channel ≡ 0 = ap (λ (b : Bool). cond b (units_of channel) 0) e in
    absurd (omega (arith, ltb-true u (units_of_kind order channel) t)))

module _ (units : List (List Unit)) (channels : List Channel) where
  parts : (order i : ℕ) → is_free_of units channels order i ≡ true
      → (ltb (i % 16) (units_of_kind order (get_or channels (i / 16) no_channel)) ≡ true) × (assignable (unit_in units (i / 16) (i % 16)) ≡ true)
  unfolding is_free_of
  parts order i t = both (ltb (i % 16) (units_of_kind order (get_or channels (i / 16) no_channel))) (assignable (unit_in units (i / 16) (i % 16))) t

  -- no unit is of two kinds
  pub one-kind : (a b i : ℕ) → is_free_of units channels a i ≡ true → is_free_of units channels b i ≡ true → a ≡ b
  one-kind a b i p q =
      let c = get_or channels (i / 16) no_channel in
      fitted-one c.has a b (has_some a (i % 16) c (parts a i p).0) (has_some b (i % 16) c (parts b i q).0)

  -- none stands past the last
  pub past-last : length channels ≡ 16 → (order i : ℕ) → 256 ≤ i → is_free_of units channels order i ≡ false
  unfolding is_free_of
  past-last e order i h =
      let d : get_or channels (i / 16) no_channel ≡ no_channel = get_or-eq_default channels no_channel {n = i / 16} (omega arith) in
      let z : units_of_kind order (get_or channels (i / 16) no_channel) ≡ 0 = ap (units_of_kind order) d in
      rw (le-ltb (i % 16) (units_of_kind order (get_or channels (i / 16) no_channel)) (omega arith)) refl

  -- the marks say it of every number
  pub marks : {order : ℕ} {free : List Bool} → length channels ≡ 16 → FreeUnits units channels order free → (i : ℕ)
      → get_or free i false ≡ is_free_of units channels order i
  marks {order} {free} e f i =
      by_bool (ltb i 256) (λ t. f.each i (ltb-true i 256 t))
      (λ t. get_or-eq_default free false {n = i} (omega (arith, ltb-false i 256 t, f.long))
      ∙ sym (past-last e order i (omega (arith, ltb-false i 256 t))))

-- two answers are one
pub free_one : (units : List (List Unit)) (channels : List Channel) (order : ℕ) (a b : List Bool) → FreeUnits units channels order a
    → FreeUnits units channels order b → a ≡ b
free_one units channels order a b p q =
    ext_get_or false a b (p.long ∙ sym q.long) λ i h. p.each i (omega (arith, p.long)) ∙ sym (q.each i (omega (arith, p.long)))
