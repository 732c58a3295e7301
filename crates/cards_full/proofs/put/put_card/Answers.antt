-- `cards_full::put::put_card` meets its contract: the ID, a comma, the text and LF. Assumes nothing.
use mathlib.Core.Path.{sym}
use lib.Seq.{length-take-le}
use Rattle.cards_further.proofs.Fourteen.{counted-most, take_counted}
use Rattle.cards_full.proofs.FurtherPut.{line-put}
use Rattle.cards_full.proofs.put.put_card.Goals as goal

pub slice_bounds-bytes-end : goal.slice_bounds-bytes-end
slice_bounds-bytes-end c =
    counted-most c.args.card.len c.args.card.text c.len_of-n.result c.len_of-n.ensures

pub slice_bounds-put_bytes-end : goal.slice_bounds-put_bytes-end
slice_bounds-put_bytes-end c =
    sym (length-take-le c.len_of-n.result c.args.card.text
    (counted-most c.args.card.len c.args.card.text c.len_of-n.result c.len_of-n.ensures))

pub returns : goal.returns
returns c =
    line-put c.args.card c.len_of-n.result (take_counted c.args.card.len c.args.card.text c.len_of-n.result c.len_of-n.ensures)
    c.put_name.ensures c.put_byte.ensures c.put_bytes.ensures c.put_byte-2.ensures
