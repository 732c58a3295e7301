-- `text::two_digits` meets its contract: a byte that passes is a digit, so none is below 0. Assumes nothing.
use Rattle.text.proofs.ClassLaws.{digit-bounds}
use Rattle.text.proofs.two_digits.Goals as goal

pub overflow_sub-result : goal.overflow_sub-result
overflow_sub-result c = (digit-bounds c.byte_at-tens.result (cc)).0

pub overflow_sub-result-then-is_digit-2 : goal.overflow_sub-result-then-is_digit-2
overflow_sub-result-then-is_digit-2 c = (digit-bounds c.byte_at-ones.result (cc)).0
