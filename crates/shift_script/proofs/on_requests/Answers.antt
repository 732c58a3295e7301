-- `shift_script::on_requests` meets its contract: each answer by the rows that did not fit and the one that did.
-- Assumes nothing.
use Prim.Native.Nat.{ℕ}
use mathlib.Core.Path.{◌≡◌, sym, ◌∙◌, ap₂}
use Rattle.packets.specs.declared.Act.TheVariants.{Return}
use Rattle.shift_script.specs.Script.{said, say_by, table}
use Rattle.shift_script.specs.declared.Line.TheVariants.{Status, Do}
use Rattle.shift_script.proofs.on_requests.Goals as goal

returning : {p q c d u v : ℕ} → p ≡ q → c ≡ d → u ≡ v
    → said (Do (Return p (record { 0 = c }) (record { 0 = u }))) ≡ said (Do (Return q (record { 0 = d }) (record { 0 = v })))
returning e f g = rw (e, f, g)

pub returns-then-fits : goal.returns-then-fits
unfolding say_by table
returns-then-fits c = c.naming.ensures ∙ rw (sym c.fits.ensures ∙ c.if-fits.true)

pub returns-then-fits-2 : goal.returns-then-fits-2
unfolding say_by table
returns-then-fits-2 c =
    c.naming-then-fits-2.ensures ∙ rw (sym c.fits.ensures ∙ c.if-fits.false, sym c.fits-2.ensures ∙ c.if-fits-2.true)

pub returns-then-fits-3 : goal.returns-then-fits-3
unfolding say_by table
returns-then-fits-3 c =
    c.plain.ensures ∙ ap₂ (λ (p k : ℕ). said (Status p k)) c.small_at.ensures c.small_at-then-fits-3.ensures
    ∙ rw (sym c.fits.ensures ∙ c.if-fits.false, sym c.fits-2.ensures ∙ c.if-fits-2.false, sym c.fits-3.ensures ∙ c.if-fits-3.true)

pub returns-then-fits-4 : goal.returns-then-fits-4
unfolding say_by table
returns-then-fits-4 c =
    c.plain-then-fits-4.ensures ∙ rw (
      sym c.fits.ensures ∙ c.if-fits.false,
      sym c.fits-2.ensures ∙ c.if-fits-2.false,
      sym c.fits-3.ensures ∙ c.if-fits-3.false,
      sym c.fits-4.ensures ∙ c.if-fits-4.true,
    )

pub returns-then-fits-5 : goal.returns-then-fits-5
unfolding say_by table
returns-then-fits-5 c =
    c.plain-then-fits-5.ensures ∙ returning c.small_at-then-fits-5-3.ensures c.small_at-then-fits-5.ensures c.small_at-then-fits-5-2.ensures
    ∙ rw (
      sym c.fits.ensures ∙ c.if-fits.false,
      sym c.fits-2.ensures ∙ c.if-fits-2.false,
      sym c.fits-3.ensures ∙ c.if-fits-3.false,
      sym c.fits-4.ensures ∙ c.if-fits-4.false,
      sym c.fits-5.ensures ∙ c.if-fits-5.true,
    )

pub returns : goal.returns
unfolding say_by table
returns c =
    c.plain-2.ensures ∙ rw (
      sym c.fits.ensures ∙ c.if-fits.false,
      sym c.fits-2.ensures ∙ c.if-fits-2.false,
      sym c.fits-3.ensures ∙ c.if-fits-3.false,
      sym c.fits-4.ensures ∙ c.if-fits-4.false,
      sym c.fits-5.ensures ∙ c.if-fits-5.false,
    )
