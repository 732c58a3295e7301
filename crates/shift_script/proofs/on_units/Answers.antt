-- `shift_script::on_units` meets its contract: each answer by the rows that did not fit and the one that did. Assumes
-- nothing.
use Prim.Native.Nat.{ℕ}
use mathlib.Core.Path.{sym, ap, ap₂, ◌∙◌}
use mathlib.Core.Bool.{true, false}
use Rattle.numbers.specs.declared.ChannelNumber.{ChannelNumber}
use Rattle.numbers.specs.declared.UnitNumber.{UnitNumber}
use Rattle.packets.specs.declared.Act.TheVariants.{End, Mark}
use Rattle.shift_script.specs.Script.{said, say_by, table}
use Rattle.shift_script.specs.declared.Line.TheVariants.{Do}
use Rattle.units.specs.declared.Mark.TheVariants as Mark'
use Rattle.shift_script.proofs.on_units.Goals as goal

pub returns-then-fits : goal.returns-then-fits
unfolding say_by table
returns-then-fits c =
    c.plain.ensures ∙ ap (λ (p : ℕ). said (Do (End p false))) c.small_at.ensures
    ∙ rw (sym c.fits.ensures ∙ c.if-fits.true)

pub returns-then-fits-2 : goal.returns-then-fits-2
unfolding say_by table
returns-then-fits-2 c =
    c.plain-then-fits-2.ensures ∙ ap (λ (p : ℕ). said (Do (End p true))) c.small_at-then-fits-2.ensures
    ∙ rw (sym c.fits.ensures ∙ c.if-fits.false, sym c.fits-2.ensures ∙ c.if-fits-2.true)

pub returns-then-fits-3 : goal.returns-then-fits-3
unfolding say_by table
returns-then-fits-3 c =
    c.plain-then-fits-3.ensures ∙ ap₂ (λ (c : ChannelNumber) (u : UnitNumber). said (Do (Mark c u Mark'.Down true)))
    c.channel_at.ensures c.unit_at.ensures
    ∙ rw (sym c.fits.ensures ∙ c.if-fits.false, sym c.fits-2.ensures ∙ c.if-fits-2.false, sym c.fits-3.ensures ∙ c.if-fits-3.true)

pub returns-then-fits-4 : goal.returns-then-fits-4
unfolding say_by table
returns-then-fits-4 c =
    c.plain-then-fits-4.ensures ∙ ap₂ (λ (c : ChannelNumber) (u : UnitNumber). said (Do (Mark c u Mark'.Down false)))
    c.channel_at-then-fits-4.ensures c.unit_at-then-fits-4.ensures
    ∙ rw (sym c.fits.ensures ∙ c.if-fits.false, sym c.fits-2.ensures ∙ c.if-fits-2.false, sym c.fits-3.ensures ∙ c.if-fits-3.false, sym c.fits-4.ensures ∙ c.if-fits-4.true)

pub returns-then-fits-5 : goal.returns-then-fits-5
unfolding say_by table
returns-then-fits-5 c =
    c.plain-then-fits-5.ensures ∙ ap₂ (λ (c : ChannelNumber) (u : UnitNumber). said (Do (Mark c u Mark'.Reserved true)))
    c.channel_at-then-fits-5.ensures c.unit_at-then-fits-5.ensures
    ∙ rw (
      sym c.fits.ensures ∙ c.if-fits.false,
      sym c.fits-2.ensures ∙ c.if-fits-2.false,
      sym c.fits-3.ensures ∙ c.if-fits-3.false,
      sym c.fits-4.ensures ∙ c.if-fits-4.false,
      sym c.fits-5.ensures ∙ c.if-fits-5.true,
    )

pub returns-then-fits-6 : goal.returns-then-fits-6
unfolding say_by table
returns-then-fits-6 c =
    c.plain-then-fits-6.ensures ∙ ap₂ (λ (c : ChannelNumber) (u : UnitNumber). said (Do (Mark c u Mark'.Reserved false)))
    c.channel_at-then-fits-6.ensures c.unit_at-then-fits-6.ensures
    ∙ rw (
      sym c.fits.ensures ∙ c.if-fits.false,
      sym c.fits-2.ensures ∙ c.if-fits-2.false,
      sym c.fits-3.ensures ∙ c.if-fits-3.false,
      sym c.fits-4.ensures ∙ c.if-fits-4.false,
      sym c.fits-5.ensures ∙ c.if-fits-5.false,
      sym c.fits-6.ensures ∙ c.if-fits-6.true,
    )

pub returns : goal.returns
unfolding say_by table
returns c =
    c.on_requests.ensures ∙ rw (
      sym c.fits.ensures ∙ c.if-fits.false,
      sym c.fits-2.ensures ∙ c.if-fits-2.false,
      sym c.fits-3.ensures ∙ c.if-fits-3.false,
      sym c.fits-4.ensures ∙ c.if-fits-4.false,
      sym c.fits-5.ensures ∙ c.if-fits-5.false,
      sym c.fits-6.ensures ∙ c.if-fits-6.false,
    )
