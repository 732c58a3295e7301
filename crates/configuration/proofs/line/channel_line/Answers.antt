-- `configuration::line::channel_line` meets its contract: the line lies within the text. Assumes nothing.
use Rattle.std.proofs.Common.{◌+◌, ◌≤◌, length, drop, length-drop, eq-eqb, arith}
use Rattle.numbers.specs.Kinds.{kind_of}
use Rattle.configuration.specs.Lines.{channel_line, least, most, last_number}
use Rattle.configuration.proofs.Told.{told, told-2, told-3, there, lent}
use Rattle.configuration.proofs.Within.{last_within, up_small}
use Rattle.configuration.proofs.line.channel_line.Goals as goal

-- the whole line lies within the text
within : (c : goal.In_ok-n) → 6 + c.in_ok-n.k ≤ length c.args.s.now
within c =
    omega (
      arith,
      last_within (least c.in_ok-kind.kind) (most c.in_ok-kind.kind) (drop 6 c.args.s.now)
          (told-3 last_number c.last_number.ensures c.least_of.ensures c.most_of.ensures (lent c.args.s.now 6) c.in_ok-n.was),
      length-drop 6 c.args.s.now,
      there c.args.s.now 5 32 (told c.byte_at-3.ensures c.if-byte_at-ne32.false) (omega (arith, c)),
    )

pub overflow_add-result : goal.overflow_add-result
overflow_add-result c = record { fits = omega (arith, within c) }

pub returns : goal.returns
unfolding channel_line
returns c =
    let p = told c.up_to_15.ensures c.in_ok-up_to_15.was in
    record {
      is = rw (
        p,
        told-2 kind_of c.kind_of.ensures c.byte_at.ensures c.byte_at-2.ensures c.in_ok-kind.was,
        eq-eqb _ _ (told c.byte_at-3.ensures c.if-byte_at-ne32.false),
        told-3 last_number c.last_number.ensures c.least_of.ensures c.most_of.ensures (lent c.args.s.now 6) c.in_ok-n.was,
      );
      fits = (up_small 32 c.args.s.now p, within c);
    }
