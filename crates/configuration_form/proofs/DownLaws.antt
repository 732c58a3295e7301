-- The down lines, as the channel lines: a line that is read and allowed is a right one, and where none is no right one
-- comes. Assumes nothing.
use Prim.Native.Nat.{ℕ, suc, ◌+◌, ◌*◌, ◌≤◌, ◌<◌}
use mathlib.Core.Path.{◌≡◌, refl, sym, ap, ◌∙◌}
use mathlib.Core.Bool.{Bool, true}
use mathlib.Core.List.{List, ◌++◌}
use lib.Dec.{leb, ltb}
use lib.ListN.{get_or}
use borrow.Author.Tests.{le-leb, leb-true, lt-ltb, ltb-true}
use Rattle.numbers.proofs.Tests.{by_bool, never, both}
use Rattle.numbers.specs.declared.ChannelNumber.{ChannelNumber}
use Rattle.numbers.specs.declared.UnitNumber.{UnitNumber}
use Rattle.channels.specs.declared.Channel.{Channel}
use Rattle.channels.specs.Channels.{no_channel, units_of}
use Rattle.configuration.specs.declared.line.DownLine.{DownLine}
use Rattle.std.specs.Prelude.{Option, Some, None}
use Rattle.configuration.specs.Lines.{down_line}
use Rattle.configuration.specs.Sections.{down_allowed}
use Rattle.configuration.proofs.AnySection.{DownsAt, down_section, downs-wrong, downs-refused, downs-go}
use Rattle.configuration_form.specs.Form.{Item, line, Due, Right, Bad}
use Rattle.configuration_form.proofs.LineLaws.{no_line, one_line, down-redone, down-undone}
use Rattle.configuration_form.proofs.SectionLaws.{Step}

-- what the reader allows is what is right
allowed : (next : ℕ) (on : Channel) (c : ChannelNumber) (u : UnitNumber) → down_allowed next on c u ≡ true
    → (next ≤ c.0 * 16 + u.0) × (u.0 < units_of on)
unfolding down_allowed
allowed next on c u e =
    let p = both (leb next (c.0 * 16 + u.0)) (ltb u.0 (units_of on)) e in
    (leb-true next (c.0 * 16 + u.0) p.0, ltb-true u.0 (units_of on) p.1)

allows : (next : ℕ) (on : Channel) (c : ChannelNumber) (u : UnitNumber) → next ≤ c.0 * 16 + u.0 → u.0 < units_of on → down_allowed next on c u ≡ true
unfolding down_allowed
allows next on c u h k = rw (le-leb next (c.0 * 16 + u.0) h, lt-ltb u.0 (units_of on) k)

-- where a down line is due, a right line is read as a unit that the reader allows
module _ {left next : ℕ} {of : List Channel} {marks : List Bool} where
  right-read : {item : Item} {end : Due} (s t : List ℕ) → Right (Due.downs (suc left) next of marks) item end → s ≡ line item ++ t
      → (l : DownLine) × (down_line s ≡ Some l) × (down_allowed next (get_or of l.channel.0 no_channel) l.channel l.unit ≡ true)
  right-read s t (Right.down_line {c = c} {u = u} a b d e) q = (
    record { channel = record { 0 = c }; unit = record { 0 = u } },
    ap down_line q ∙ down-undone c u t a b,
    allows next (get_or of c no_channel) (record { 0 = c }) (record { 0 = u }) d e,
  )

module _ (of : List Channel) where
  -- what is due where `left` lines are left
  abbrev pub downs_due : ℕ → DownsAt → Due
  downs_due left p = Due.downs left p.next of p.of

  pub down_step : (p : DownsAt) (s : List ℕ) → Step (down_section of) downs_due p s
  down_step p s = by (down_line s) refl
    where
      none : ((l : DownLine) → down_line s ≡ Some l → down_allowed p.next (get_or of l.channel.0 no_channel) l.channel l.unit ≡ true → ⊥)
          → (left : ℕ) → Bad (downs_due (suc left) p) s
      none f left = record { none = λ item end t r q. let w = right-read s t r q in f w.0 w.1 w.2; more = λ of marks word c e. c }

      by : (r : Option DownLine) → down_line s ≡ r → Step (down_section of) downs_due p s
      by None e = Step.stops (none (λ l q a. no_line (sym e ∙ q))) (downs-wrong of e)
      by (Some l) e =
          by_bool (down_allowed p.next (get_or of l.channel.0 no_channel) l.channel l.unit)
          (λ t. let i = down-redone s l e in
          let a = allowed p.next (get_or of l.channel.0 no_channel) l.channel l.unit t in
          Step.takes 6 _ (λ left. Right.down_line i.channel i.unit a.0 a.1) i.starts.same (downs-go of e t))
          (λ t. Step.stops (none (λ m q a.
          let w : l ≡ m = one_line (sym e ∙ q) in
          never (rw (← w) at a) t)) (downs-refused of e t))
