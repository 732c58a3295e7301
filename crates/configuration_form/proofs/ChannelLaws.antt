-- The channel lines: a line that is read and allowed is a right one, and where none is no right one comes. So what
-- proofs/SectionLaws.antt shows of any section holds of theirs. Assumes nothing.
use Prim.Native.Nat.{ℕ, suc, ◌≤◌}
use mathlib.Core.Path.{◌≡◌, refl, sym, ap, ◌∙◌}
use mathlib.Core.Bool.{Bool, true, false, not, ◌&&◌}
use mathlib.Core.List.{List, ◌++◌}
use lib.Dec.{leb}
use lib.ListN.{length}
use borrow.Author.Tests.{le-leb, leb-true, not-true}
use Rattle.numbers.proofs.Tests.{by_bool, never, both}
use Rattle.numbers.specs.declared.ChannelNumber.{ChannelNumber}
use Rattle.numbers.specs.declared.Kind.{Kind}
use Rattle.numbers.specs.Kinds.{is_drum}
use Rattle.channels.specs.declared.Channel.{Channel}
use Rattle.configuration.specs.declared.line.ChannelLine.{ChannelLine}
use Rattle.std.specs.Prelude.{Option, Some, None}
use Rattle.configuration.specs.Lines.{channel_line}
use Rattle.configuration.specs.Sections.{channel_allowed}
use Rattle.configuration.proofs.AnySection.{ChannelsAt, channel_section, channels-wrong, channels-refused, channels-go}
use Rattle.configuration_form.specs.Form.{Item, line, Due, Right, Bad}
use Rattle.configuration_form.proofs.LineLaws.{no_line, one_line, channel-redone, channel-undone}
use Rattle.configuration_form.proofs.SectionLaws.{Step}

-- what the reader allows is what is right
allowed : (next : ℕ) (drum : Bool) (c : ChannelNumber) (kind : Kind) → channel_allowed next drum c kind ≡ true
    → (next ≤ c.0) × ((drum && is_drum kind) ≡ false)
unfolding channel_allowed
allowed next drum c kind e =
    let p = both (leb next c.0) (not (drum && is_drum kind)) e in (leb-true next c.0 p.0, not-true (drum && is_drum kind) p.1)

allows : (next : ℕ) (drum : Bool) (c : ChannelNumber) (kind : Kind) → next ≤ c.0 → (drum && is_drum kind) ≡ false
    → channel_allowed next drum c kind ≡ true
unfolding channel_allowed
allows next drum c kind h e = rw (le-leb next c.0 h, e)

-- where a channel line is due, a right line is read as a channel that the reader allows
module _ {left next : ℕ} {drum : Bool} {of : List Channel} where
  right-read : {item : Item} {end : Due} (s t : List ℕ) → Right (Due.channels (suc left) next drum of) item end → s ≡ line item ++ t
      → (l : ChannelLine) × (channel_line s ≡ Some l) × (channel_allowed next drum l.channel l.has.kind ≡ true)
  right-read s t (Right.channel_line {c = c} {n = n} {kind = kind} a b d e f) q = (
    record { channel = record { 0 = c }; has = record { kind = kind; n = n }; length = length (line (Item.channel c kind n)) },
    ap channel_line q ∙ channel-undone c kind n t a b d,
    allows next drum (record { 0 = c }) kind e f,
  )

-- what is due where `left` lines are left
abbrev pub channels_due : ℕ → ChannelsAt → Due
channels_due left p = Due.channels left p.next p.drum p.of

pub channel-step : (p : ChannelsAt) (s : List ℕ) → Step channel_section channels_due p s
channel-step p s = by (channel_line s) refl
  where
    none : ((l : ChannelLine) → channel_line s ≡ Some l → channel_allowed p.next p.drum l.channel l.has.kind ≡ true → ⊥)
        → (left : ℕ) → Bad (channels_due (suc left) p) s
    none f left = record { none = λ item end t r q. let w = right-read s t r q in f w.0 w.1 w.2; more = λ of marks word c e. c }

    by : (r : Option ChannelLine) → channel_line s ≡ r → Step channel_section channels_due p s
    by None e = Step.stops (none (λ l q a. no_line (sym e ∙ q))) (channels-wrong e)
    by (Some l) e =
        by_bool (channel_allowed p.next p.drum l.channel l.has.kind)
        (λ t.
        let i = channel-redone s l e in
        let a = allowed p.next p.drum l.channel l.has.kind t in
        Step.takes l.length _ (λ left. Right.channel_line {c = l.channel.0} {n = l.has.n} {kind = l.has.kind} i.small i.least i.most a.0 a.1)
        i.starts.same (channels-go e t))
        (λ t. Step.stops (none (λ m q a.
        let w : l ≡ m = one_line (sym e ∙ q) in
        never (rw (← w) at a) t))
        (channels-refused e t))
