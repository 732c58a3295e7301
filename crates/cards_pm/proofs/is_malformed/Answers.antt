-- `cards_pm::is_malformed` meets its contract, one law for each way out. Assumes nothing.
use mathlib.Core.Path.{sym, ap, ◌∙◌}
use mathlib.Core.Bool.{not}
use mathlib.Core.List.{List}
use Prim.Native.Nat.{ℕ}
use native.Mathlib.Omega.{arith}
use lib.Seq.{length-take-le}
use Rattle.std.proofs.lemmas.Bool.Decides.{nat_tests}
use Rattle.words.specs.Words.{has}
use Rattle.cards_pm.proofs.PmLaws.{fault-long, fault-byte, fault-period, fault-behind, fault-comma, period-none, period-some, body-most}
use Rattle.cards_pm.proofs.is_malformed.Goals as goal

pub returns-then-card-gt-CARD_LENGTH : goal.returns-then-card-gt-CARD_LENGTH
returns-then-card-gt-CARD_LENGTH c = grind (arith, nat_tests, fault-long, fault-byte)

pub returns-then-n-card : goal.returns-then-n-card
returns-then-n-card c =
    sym (fault-period c.args.card.now c.if-card-gt-CARD_LENGTH.false
    (sym c.are_card_bytes.ensures ∙ c.if-not-are_card_bytes.false)
    (period-none c.args.card.now (sym c.body_len-n.ensures ∙ c.if-n-card.true)))

pub overflow_add-n : goal.overflow_add-n
overflow_add-n c = omega (arith, c.body_len-n.ensures, body-most c.args.card.now, c.if-n-card.false)

pub slice_bounds-all_in-count : goal.slice_bounds-all_in-count
slice_bounds-all_in-count c = omega (arith, c.body_len-n.ensures, body-most c.args.card.now, c.if-n-card.false)

pub slice_bounds-all_in-start : goal.slice_bounds-all_in-start
slice_bounds-all_in-start c = omega (arith, c.body_len-n.ensures, body-most c.args.card.now, c.if-n-card.false)

pub slice_bounds-behind_comma-end : goal.slice_bounds-behind_comma-end
slice_bounds-behind_comma-end c =
    sym (length-take-le c.body_len-n.result c.args.card.now (omega (arith, c.body_len-n.ensures, body-most c.args.card.now)))

pub returns-then-not-all_in : goal.returns-then-not-all_in
returns-then-not-all_in c =
    rw c.if-not-all_in.true
    (sym (fault-behind c.args.card.now c.if-card-gt-CARD_LENGTH.false (sym c.are_card_bytes.ensures ∙ c.if-not-are_card_bytes.false)
    (period-some c.args.card.now (λ e. c.if-n-card.false (c.body_len-n.ensures ∙ e))) c.body_len-n.result c.body_len-n.ensures
    (sym c.all_in.ensures ∙ c.if-not-all_in.true)))

pub returns-else-not-all_in : goal.returns-else-not-all_in
returns-else-not-all_in c =
    ap not (c.is_in.ensures ∙ ap (λ (l : List ℕ). has l 44) c.behind_comma.ensures)
    ∙ fault-comma c.args.card.now c.if-card-gt-CARD_LENGTH.false (sym c.are_card_bytes.ensures ∙ c.if-not-are_card_bytes.false)
    (period-some c.args.card.now (λ e. c.if-n-card.false (c.body_len-n.ensures ∙ e))) c.body_len-n.result c.body_len-n.ensures
    (sym c.all_in.ensures ∙ c.if-not-all_in.false)
