-- `cards_fac::entry_of` meets its contract, one law for each way out. Assumes nothing.
use Prim.Native.Nat.{ℕ, ◌+◌, ◌-◌}
use mathlib.Core.Path.{refl, sym, ap, ◌∙◌}
use native.Mathlib.Omega.{arith}
use lib.ListN.{length, take, drop, length-take, length-drop}
use Rattle.std.proofs.lemmas.Result.{err_from_is_err_and}
use Rattle.text.specs.Class.{is_letter}
use Rattle.words.specs.Words.{isnt}
use Rattle.words.proofs.WordLaws.{number_short, leading-most}
use Rattle.cards_fac.specs.Fac.{slot}
use Rattle.cards_fac.proofs.EntryLaws.{known, unknown, entry-error, read-error, no_slash, bad-channel, bad-number, good-entry, code-low, channel-short, channel-low, number-few}
use Rattle.cards_fac.proofs.AskLaws.{small-entry}
use Rattle.cards_fac.proofs.entry_of.Goals as goal
use Rattle.cards_fac.proofs.entry_of.Goals.{then-t-at-via-then-t-at, then-t-at-via-else-t-at+then-not-is_channel, then-t-at-via-else-t-at+else-not-is_channel+then-not-is_number}

pub returns-in_err-code : goal.returns-in_err-code
returns-in_err-code c =
    let p = err_from_is_err_and c.from_residual.result c.from_residual.ensures.1 in
    rw (p.1, p.2) (read-error c.args.t.now c.in_err-code.field-0.0 _ refl
    (entry-error c.args.t.now c.in_err-code.field-0.0 (unknown c.args.t.now c.in_err-code.field-0.0 (sym c.code_of.ensures ∙ c.in_err-code.was))))

pub slice_bounds-until-count : goal.slice_bounds-until-count
slice_bounds-until-count c = omega (arith, leading-most is_letter c.args.t.now)

pub slice_bounds-until-start : goal.slice_bounds-until-start
slice_bounds-until-start c = omega (arith, leading-most is_letter c.args.t.now)

pub overflow_add-at : goal.overflow_add-at
overflow_add-at c =
    omega (
      arith,
      leading-most is_letter c.args.t.now,
      leading-most (isnt 47) (take (length c.args.t.now - c.leading_of-n.result) (drop c.leading_of-n.result c.args.t.now)),
      length-take (length c.args.t.now - c.leading_of-n.result) (drop c.leading_of-n.result c.args.t.now),
      length-drop c.leading_of-n.result c.args.t.now,
    )

pub returns-then-t-at : goal.returns-then-t-at
returns-then-t-at c =
    read-error c.args.t.now _ _ refl
    (elim c.then-t-at.branch [
      | then-t-at-via-then-t-at w ↦ no_slash c.args.t.now (known c.args.t.now c.in_ok-code.code (sym c.code_of.ensures ∙ c.in_ok-code.was)).0 c.leading_of-n.result c.in_ok-code.code
          (c.leading_of-n.result + c.until.result) c.leading_of-n.ensures (known c.args.t.now c.in_ok-code.code (sym c.code_of.ensures ∙ c.in_ok-code.was)).1 (ap (λ (x : ℕ). c.leading_of-n.result + x) c.until.ensures) w.if-t-at.true
      | then-t-at-via-else-t-at+then-not-is_channel w ↦ bad-channel c.args.t.now (known c.args.t.now c.in_ok-code.code (sym c.code_of.ensures ∙ c.in_ok-code.was)).0 c.leading_of-n.result c.in_ok-code.code
          (c.leading_of-n.result + c.until.result) c.leading_of-n.ensures (known c.args.t.now c.in_ok-code.code (sym c.code_of.ensures ∙ c.in_ok-code.was)).1 (ap (λ (x : ℕ). c.leading_of-n.result + x) c.until.ensures) w.if-t-at.false w.is_channel.result w.is_channel.ensures w.if-not-is_channel.true
      | then-t-at-via-else-t-at+else-not-is_channel+then-not-is_number w ↦ bad-number c.args.t.now (known c.args.t.now c.in_ok-code.code (sym c.code_of.ensures ∙ c.in_ok-code.was)).0 c.leading_of-n.result c.in_ok-code.code
          (c.leading_of-n.result + c.until.result) c.leading_of-n.ensures (known c.args.t.now c.in_ok-code.code (sym c.code_of.ensures ∙ c.in_ok-code.was)).1 (ap (λ (x : ℕ). c.leading_of-n.result + x) c.until.ensures) w.if-t-at.false w.is_channel.result w.is_channel.ensures
          w.if-not-is_channel.false w.is_number.result w.is_number.ensures w.if-not-is_number.true
    ])

pub slot_of-requires : goal.slot_of-requires
slot_of-requires c =
    let channel = take (c.leading_of-n.result + c.until.result - c.leading_of-n.result) (drop c.leading_of-n.result c.args.t.now) in
    let good = sym c.is_channel.ensures ∙ c.if-not-is_channel.false in
    let k = (known c.args.t.now c.in_ok-code.code (sym c.code_of.ensures ∙ c.in_ok-code.was)) in (
      omega (arith, k.1, code-low c.args.t.now k.0),
      rw (c.number.ensures ∙ number_short channel (omega (arith, channel-short c.in_ok-code.code channel good)))
          (channel-low c.in_ok-code.code channel good),
    )

pub returns : goal.returns
returns c =
    let channel = take (c.leading_of-n.result + c.until.result - c.leading_of-n.result) (drop c.leading_of-n.result c.args.t.now) in
    let slash = c.leading_of-n.result + c.until.result in
    let digits = take (length c.args.t.now - (slash + 1)) (drop (slash + 1) c.args.t.now) in
    let good = sym c.is_channel.ensures ∙ c.if-not-is_channel.false in
    let i =
    good-entry c.args.t.now (known c.args.t.now c.in_ok-code.code (sym c.code_of.ensures ∙ c.in_ok-code.was)).0 c.leading_of-n.result c.in_ok-code.code
    (c.leading_of-n.result + c.until.result) c.leading_of-n.ensures (known c.args.t.now c.in_ok-code.code (sym c.code_of.ensures ∙ c.in_ok-code.was)).1 (ap (λ (x : ℕ). c.leading_of-n.result + x) c.until.ensures) c.if-t-at.false c.is_channel.result c.is_channel.ensures
    (c.if-not-is_channel.false) c.is_number.result c.is_number.ensures (c.if-not-is_number.false)
    c.slot_of.result c.number-2.result
    (c.slot_of.ensures.0 ∙ ap (slot c.in_ok-code.code)
    (c.number.ensures ∙ number_short channel (omega (arith, channel-short c.in_ok-code.code channel good))))
    (c.number-2.ensures ∙ number_short digits (number-few c.in_ok-code.code digits (sym c.is_number.ensures ∙ c.if-not-is_number.false))) in
    record {
      is = i;
      low = c.slot_of.ensures.1;
      small = small-entry c.args.t.now (record { slot = c.slot_of.result; number = c.number-2.result }) i;
    }
