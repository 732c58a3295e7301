-- `shift_selected::put_kinds` meets its contract. The loop's invariant is `Going`: whoever puts the kinds that are left has
-- put them all. Assumes nothing.
use Prim.Native.Nat.{ℕ}
use mathlib.Core.List.{List}
use mathlib.Core.Path.{◌≡◌, subst}
use native.Mathlib.Omega.{arith}
use Rattle.numbers.specs.Kinds.{unit_kinds, kind_at}
use Rattle.numbers.specs.declared.Kind.{Kind}
use Rattle.channels.specs.declared.Channel.{Channel}
use Rattle.assign_heads.specs.declared.Head.{Head}
use Rattle.text.specs.Room.{Puts}
use Rattle.text.specs.declared.room.Room.{Room}
use Rattle.text.proofs.RoomLaws.{goes-start}
use Rattle.answer_pieces.proofs.PieceLaws.{puts-on, puts-over}
use Rattle.shift_selected.specs.Selected.{kind_text}
use Rattle.shift_selected.proofs.put_kinds.Goals as goal

-- what is put of a kind is put of one that is the same
same_kind : {room next : Room} (units : List ℕ) (channels : List Channel) (heads : List Head) {k m : Kind} → k ≡ m
    → Puts room (kind_text units channels heads k) next → Puts room (kind_text units channels heads m) next
same_kind {room} {next} units channels heads e p = subst (λ (k : Kind). Puts room (kind_text units channels heads k) next) e p

pub loop-order-init : goal.loop-order-init
loop-order-init c = (omega arith, goes-start _ _)

pub loop-order-preserved : goal.loop-order-preserved
loop-order-preserved c = (
  omega arith,
  puts-on (λ i. kind_text c.args.units c.args.channels c.args.heads (kind_at i)) unit_kinds (omega arith) c.loop-order.invariant.1
      (same_kind c.args.units c.args.channels c.args.heads c.kind_at.ensures c.put_kind.ensures),
)

pub returns : goal.returns
returns c =
    puts-over (λ i. kind_text c.args.units c.args.channels c.args.heads (kind_at i)) unit_kinds (omega arith) c.loop-order.invariant.1
