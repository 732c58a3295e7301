-- `shift_script::on_packets` meets its contract: after the rows that do not fit, each answer by the one that does.
-- Assumes nothing.
use Prim.Native.Nat.{ℕ}
use mathlib.Core.Path.{sym, ap, ap₂, ◌∙◌}
use Rattle.line_words.specs.Forms.{words_of}
use Rattle.numbers.specs.declared.ChannelNumber.{ChannelNumber}
use Rattle.packets.specs.declared.How.TheVariants.{Full, Cut, Failed}
use Rattle.packets.specs.declared.Act.{Act}
use Rattle.packets.specs.declared.Act.TheVariants.{Start, Complete}
use Rattle.shift_script.specs.Script.{submission_of, said, say_by, table}
use Rattle.shift_script.specs.declared.Line.TheVariants.{Do}
use Rattle.shift_script.proofs.on_packets.Goals as goal

pub returns-then-fits : goal.returns-then-fits
unfolding say_by table
returns-then-fits c = c.plain.ensures ∙ rw (sym c.fits.ensures ∙ c.if-fits.true)

pub returns-then-fits-2 : goal.returns-then-fits-2
unfolding say_by table
returns-then-fits-2 c =
    c.plain-then-fits-2.ensures ∙ rw (sym c.fits.ensures ∙ c.if-fits.false, sym c.fits-2.ensures ∙ c.if-fits-2.true)

pub returns-then-fits-3 : goal.returns-then-fits-3
unfolding say_by table
returns-then-fits-3 c =
    c.plain-then-fits-3.ensures ∙ ap (λ (t : Act). said (Do t)) c.submitted.ensures
    ∙ rw (sym c.fits.ensures ∙ c.if-fits.false, sym c.fits-2.ensures ∙ c.if-fits-2.false, sym c.fits-3.ensures ∙ c.if-fits-3.true)

pub returns-then-fits-4 : goal.returns-then-fits-4
unfolding say_by table
returns-then-fits-4 c =
    let line = c.args.line.now in
    c.plain-then-fits-4.ensures ∙ ap (λ (t : Act). said (Do t))
    (c.submitted-then-fits-4.ensures ∙ ap (λ (n : ℕ). submission_of n (words_of line)) c.number_at-to.ensures)
    ∙ rw (sym c.fits.ensures ∙ c.if-fits.false, sym c.fits-2.ensures ∙ c.if-fits-2.false, sym c.fits-3.ensures ∙ c.if-fits-3.false, sym c.fits-4.ensures ∙ c.if-fits-4.true)

pub returns-then-fits-5 : goal.returns-then-fits-5
unfolding say_by table
returns-then-fits-5 c =
    c.plain-then-fits-5.ensures ∙ ap (λ (c : ChannelNumber). said (Do (Start c))) c.channel_at.ensures
    ∙ rw (sym c.fits.ensures ∙ c.if-fits.false, sym c.fits-2.ensures ∙ c.if-fits-2.false, sym c.fits-3.ensures ∙ c.if-fits-3.false, sym c.fits-4.ensures ∙ c.if-fits-4.false, sym c.fits-5.ensures ∙ c.if-fits-5.true)

pub returns-then-fits-6 : goal.returns-then-fits-6
unfolding say_by table
returns-then-fits-6 c =
    c.plain-then-fits-6.ensures ∙ ap (λ (c : ChannelNumber). said (Do (Complete c Full))) c.channel_at-then-fits-6.ensures
    ∙ rw (sym c.fits.ensures ∙ c.if-fits.false, sym c.fits-2.ensures ∙ c.if-fits-2.false, sym c.fits-3.ensures ∙ c.if-fits-3.false, sym c.fits-4.ensures ∙ c.if-fits-4.false, sym c.fits-5.ensures ∙ c.if-fits-5.false, sym c.fits-6.ensures ∙ c.if-fits-6.true)

pub returns-then-fits-7 : goal.returns-then-fits-7
unfolding say_by table
returns-then-fits-7 c =
    c.plain-then-fits-7.ensures ∙ ap (λ (c : ChannelNumber). said (Do (Complete c Cut))) c.channel_at-then-fits-7.ensures
    ∙ rw (sym c.fits.ensures ∙ c.if-fits.false, sym c.fits-2.ensures ∙ c.if-fits-2.false, sym c.fits-3.ensures ∙ c.if-fits-3.false, sym c.fits-4.ensures ∙ c.if-fits-4.false, sym c.fits-5.ensures ∙ c.if-fits-5.false, sym c.fits-6.ensures ∙ c.if-fits-6.false, sym c.fits-7.ensures ∙ c.if-fits-7.true)

pub returns-then-fits-8 : goal.returns-then-fits-8
unfolding say_by table
returns-then-fits-8 c =
    c.plain-then-fits-8.ensures
    ∙ ap₂ (λ (c : ChannelNumber) (f : ℕ). said (Do (Complete c (Failed f)))) c.channel_at-then-fits-8.ensures c.code_at.ensures
    ∙ rw (sym c.fits.ensures ∙ c.if-fits.false, sym c.fits-2.ensures ∙ c.if-fits-2.false, sym c.fits-3.ensures ∙ c.if-fits-3.false, sym c.fits-4.ensures ∙ c.if-fits-4.false, sym c.fits-5.ensures ∙ c.if-fits-5.false, sym c.fits-6.ensures ∙ c.if-fits-6.false, sym c.fits-7.ensures ∙ c.if-fits-7.false, sym c.fits-8.ensures ∙ c.if-fits-8.true)

pub returns : goal.returns
unfolding say_by table
returns c = c.on_units.ensures ∙ rw (sym c.fits.ensures ∙ c.if-fits.false, sym c.fits-2.ensures ∙ c.if-fits-2.false, sym c.fits-3.ensures ∙ c.if-fits-3.false, sym c.fits-4.ensures ∙ c.if-fits-4.false, sym c.fits-5.ensures ∙ c.if-fits-5.false, sym c.fits-6.ensures ∙ c.if-fits-6.false, sym c.fits-7.ensures ∙ c.if-fits-7.false, sym c.fits-8.ensures ∙ c.if-fits-8.false)
