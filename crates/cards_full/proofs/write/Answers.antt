-- `cards_full::write` meets its contract, one law for each way out: 13, then 12 for a card or the room, then the pieces.
-- Assumes nothing.
use Rattle.cards_full.proofs.FullHeld.{fourteen-in, six-in}
use Rattle.cards_full.proofs.FurtherPut.{few-taken, id-few, id-long, put-most}
use mathlib.Core.Path.{◌≡◌, sym, ◌∙◌}
use native.Mathlib.Omega.{arith}
use lib.ListN.{length}
use Rattle.text.proofs.RoomLaws.{written-length}
use Rattle.cards_fields.specs.Fields.{spaceless}
use Rattle.cards_full.proofs.FurtherPut.{few-taken, id-few, id-long}
use Rattle.cards_full.specs.Full.{written}
use Rattle.cards_full.proofs.WriteLaws.{not_taken, pty-long, fac-long, card-long, room-short, all-put, further-taken}
use borrow.Author.Rules.{rules}
use Rattle.cards_full.proofs.write.Goals as goal

pub returns-then-not-is_taken : goal.returns-then-not-is_taken
returns-then-not-is_taken c =
    let r =
    not_taken c.args.full c.args.room.now (sym c.is_taken.ensures ∙ c.if-not-is_taken.true) in
    record { answers = r.0; holds = r.1 }

pub overflow_add-further : goal.overflow_add-further
overflow_add-further c =
    omega (arith, few-taken c.args.full.further (further-taken c.args.full (sym c.is_taken.ensures ∙ c.if-not-is_taken.false)))

pub returns-then-p-gt-CARD_LENGTH : goal.returns-then-p-gt-CARD_LENGTH
returns-then-p-gt-CARD_LENGTH c =
    let r =
    pty-long c.args.full c.args.room.now (sym c.is_taken.ensures ∙ c.if-not-is_taken.false)
    c.pty_in-p.ensures c.if-p-gt-CARD_LENGTH.true in
    record { answers = r.0; holds = r.1 }

pub returns-then-f-gt-CARD_LENGTH : goal.returns-then-f-gt-CARD_LENGTH
returns-then-f-gt-CARD_LENGTH c =
    let r =
    fac-long c.args.full c.args.room.now (sym c.is_taken.ensures ∙ c.if-not-is_taken.false) c.pty_in-p.ensures c.if-p-gt-CARD_LENGTH.false
    c.fac_in-f.ensures c.if-f-gt-CARD_LENGTH.true in
    record { answers = r.0; holds = r.1 }

pub overflow_add-before : goal.overflow_add-before
overflow_add-before c =
    let s : length c.args.full.request.id ≡ 6 = search rules in
    omega (arith, id-few c.gathered-before.result c.args.full.request.id c.gathered-before.ensures s)

pub are_short-requires : goal.are_short-requires
are_short-requires c =
    let s : length c.args.full.request.id ≡ 6 = search rules in
    omega (arith, id-few c.gathered-before.result c.args.full.request.id c.gathered-before.ensures s)

pub returns-then-not-are_short : goal.returns-then-not-are_short
returns-then-not-are_short c =
    let r =
    card-long c.args.full c.args.room.now (sym c.is_taken.ensures ∙ c.if-not-is_taken.false) c.pty_in-p.ensures c.if-p-gt-CARD_LENGTH.false
    c.fac_in-f.ensures c.if-f-gt-CARD_LENGTH.false (sym (c.are_short.ensures (spaceless c.args.full.request.id)
    (sym (id-long c.gathered-before.result c.args.full.request.id c.gathered-before.ensures)))
    ∙ c.if-not-are_short.true) in
    record { answers = r.0; holds = r.1 }

pub slice_bounds-further_in-end-2 : goal.slice_bounds-further_in-end-2
slice_bounds-further_in-end-2 c =
    sym (six-in c.args.full _ c.well_formed.1.0)

pub returns-then-room-p : goal.returns-then-room-p
returns-then-room-p c =
    let r =
    room-short c.args.full c.args.room.now (sym c.is_taken.ensures ∙ c.if-not-is_taken.false) c.pty_in-p.ensures c.if-p-gt-CARD_LENGTH.false
    c.fac_in-f.ensures c.if-f-gt-CARD_LENGTH.false
    (sym (c.are_short.ensures (spaceless c.args.full.request.id)
    (sym (id-long c.gathered-before.result c.args.full.request.id c.gathered-before.ensures)))
    ∙ c.if-not-are_short.false)
    (fourteen-in c.args.full _ c.well_formed.1.0) c.further_in-n.ensures c.if-room-p.true in
    record { answers = r.0; holds = r.1 }

pub slice_bounds-put_bytes-end : goal.slice_bounds-put_bytes-end
slice_bounds-put_bytes-end c =
    written-length c.pty_in-p.ensures

pub slice_bounds-put_bytes-end-2 : goal.slice_bounds-put_bytes-end-2
slice_bounds-put_bytes-end-2 c =
    written-length c.fac_in-f.ensures

pub slice_bounds-lines-end : goal.slice_bounds-lines-end
slice_bounds-lines-end c =
    put-most c.further_in-n.ensures

pub slice_bounds-put_bytes-end-3 : goal.slice_bounds-put_bytes-end-3
slice_bounds-put_bytes-end-3 c =
    written-length c.further_in-n.ensures

pub returns : goal.returns
returns c =
    let r =
    all-put c.args.full c.args.room.now (sym c.is_taken.ensures ∙ c.if-not-is_taken.false) c.pty_in-p.ensures c.if-p-gt-CARD_LENGTH.false c.fac_in-f.ensures
    c.if-f-gt-CARD_LENGTH.false
    (sym (c.are_short.ensures (spaceless c.args.full.request.id)
    (sym (id-long c.gathered-before.result c.args.full.request.id c.gathered-before.ensures)))
    ∙ c.if-not-are_short.false)
    (fourteen-in c.args.full _ c.well_formed.1.0) c.further_in-n.ensures c.if-room-p.false c.put_bytes.ensures.written c.put_byte.ensures.written
    c.put_bytes-2.ensures.written c.put_byte-2.ensures.written c.put_bytes-3.ensures.written in
    let e : c.put_bytes-3.new.self.bytes.now ≡ written c.args.full c.args.room.now = r.1 in
    record { answers = r.0; holds = search (rules, e) }
