-- `cards_group::is_other_id` meets its contract: the ID was gathered whole, and is a word of at most twelve bytes.
-- Assumes nothing.
use Prim.Native.Nat.{◌≤◌}
use native.Mathlib.Omega.{arith}
use mathlib.Core.Path.{◌≡◌, sym, ap, ◌∙◌}
use Prim.Native.Nat.{ℕ}
use mathlib.Core.List.{List}
use mathlib.Core.Bool.{not}
use lib.ListN.{length, take}
use lib.Seq.{length-take-le}
use Rattle.cards_fields.specs.Fields.{field, field_of}
use Rattle.cards_fields.specs.Deck.{cards_of}
use Rattle.cards_fields.proofs.FieldLaws.{whole, within}
use Rattle.cards_fields.specs.declared.Field.{Field}
use Rattle.cards_group.proofs.GroupLaws.{other-id, any-other}
use Rattle.cards_group.proofs.is_other_id.Goals as goal

-- the ID of the PTY card is gathered: it fits in the twelve bytes
short : (pty : List ℕ) (f : Field) → f ≡ field_of (field pty 0) → length (field pty 0) ≤ 12 → (f.len ≤ 12) × (length f.bytes ≡ 12)
short pty f e h = (omega (arith, ap (λ (f : Field). f.len) e, h), within f (field pty 0) e)

-- and is there whole
all : (pty : List ℕ) (f : Field) → f ≡ field_of (field pty 0) → length (field pty 0) ≤ 12 → take f.len f.bytes ≡ field pty 0
all pty f e h = whole f (field pty 0) e (short pty f e h).0

pub slice_bounds-bytes-end : goal.slice_bounds-bytes-end
slice_bounds-bytes-end c = omega (arith, short c.args.pty.now c.field_at-f.result c.field_at-f.ensures c.requires)

pub slice_bounds-field_is-end : goal.slice_bounds-field_is-end
slice_bounds-field_is-end c =
    sym (length-take-le c.field_at-f.result.len c.field_at-f.result.bytes (omega (arith, short c.args.pty.now c.field_at-f.result c.field_at-f.ensures c.requires)))

pub slice_bounds-bytes-end-then-field_is : goal.slice_bounds-bytes-end-then-field_is
slice_bounds-bytes-end-then-field_is c = omega (arith, short c.args.pty.now c.field_at-f.result c.field_at-f.ensures c.requires)

pub slice_bounds-is_other_id-end : goal.slice_bounds-is_other_id-end
slice_bounds-is_other_id-end c =
    sym (length-take-le c.field_at-f.result.len c.field_at-f.result.bytes (omega (arith, short c.args.pty.now c.field_at-f.result c.field_at-f.ensures c.requires)))

pub returns-then-field_is : goal.returns-then-field_is
returns-then-field_is c =
    c.is_other_id.ensures ∙ any-other c.args.pty.now _ (cards_of c.args.rest.now) (all c.args.pty.now c.field_at-f.result c.field_at-f.ensures c.requires) c.requires
    ∙ rw (sym (ap not c.field_is.ensures ∙ other-id c.args.pty.now c.args.fac.now _ (all c.args.pty.now c.field_at-f.result c.field_at-f.ensures c.requires) c.requires) ∙ ap not c.if-field_is.true)

pub returns : goal.returns
returns c =
    rw (sym (ap not c.field_is.ensures ∙ other-id c.args.pty.now c.args.fac.now _ (all c.args.pty.now c.field_at-f.result c.field_at-f.ensures c.requires) c.requires) ∙ ap not c.if-field_is.false)
