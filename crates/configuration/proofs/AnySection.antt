-- A section of a configuration, whatever its lines say: its reader takes the line that the text starts with and goes on
-- behind it, or stops there. Each of the three sections is one in this sense: what it does with a line is what its
-- definition says of that line. Assumes nothing.
use Prim.Native.Nat.{ℕ, zero, suc, ◌+◌, ◌*◌, ◌^◌}
use mathlib.Core.Path.{◌≡◌, refl}
use mathlib.Core.Bool.{Bool, true, false, ◌||◌}
use mathlib.Core.List.{List}
use lib.Dec.{leb}
use lib.ListN.{get_or, set, drop}
use Rattle.numbers.specs.Kinds.{is_drum}
use Rattle.channels.specs.declared.Channel.{Channel}
use Rattle.channels.specs.Channels.{fitted, no_channel}
use Rattle.configuration.specs.declared.section.Section.{Section}
use Rattle.std.specs.Prelude.{Some, None}
use Rattle.configuration.specs.declared.line.ChannelLine.{ChannelLine}
use Rattle.configuration.specs.declared.line.DownLine.{DownLine}
use Rattle.configuration.specs.Lines.{channel_line, down_line, code_line}
use Rattle.configuration.specs.Sections.{Read, bad, read_to, channel_allowed, down_allowed, channels_from, downs_from, codes_from}

-- how far its lines have come, what they say then, and what its reader answers to the lines that are left
pub record Reader : Type 1 where
  pub State : Type 0
  pub Said : Type 0
  pub said : State → Said
  pub from : ℕ → ℕ → ℕ → State → List ℕ → Read (Section Said)
  pub none-left : (line at : ℕ) (state : State) (s : List ℕ) → from zero line at state s ≡ read_to line at (said state)

module _ (S : Reader) where
  -- the line that a text starts with is bad
  pub record Stops (state : S.State) (s : List ℕ) : Type 0 where
    pub by : (left line at : ℕ) → S.from (suc left) line at state s ≡ bad line

  -- it is taken, and has k bytes
  pub record GoesOn (state : S.State) (s : List ℕ) (k : ℕ) (next : S.State) : Type 0 where
    pub by : (left line at : ℕ) → S.from (suc left) line at state s ≡ S.from left (line + 1) (at + k) next (drop k s)

-- the channel lines
pub record ChannelsAt : Type 0 where
  pub next : ℕ
  pub drum : Bool
  pub of : List Channel

abbrev pub channels_by : ℕ → ℕ → ℕ → ChannelsAt → List ℕ → Read (Section (List Channel))
channels_by left line at c s = channels_from left line at c.next c.drum c.of s

pub no-channels-left : (line at : ℕ) (p : ChannelsAt) (s : List ℕ) → channels_by zero line at p s ≡ read_to line at p.of
unfolding channels_from
no-channels-left line at p s = refl

abbrev pub channel_section : Reader
channel_section = record { State = ChannelsAt; Said = List Channel; said = λ p. p.of; from = channels_by; none-left = no-channels-left }

module _ {c : ChannelsAt} {s : List ℕ} where
  pub channels-wrong : channel_line s ≡ None → Stops channel_section c s
  unfolding channels_from
  channels-wrong e = record { by = λ left line at. rw e refl }

  module _ {l : ChannelLine} (e : channel_line s ≡ Some l) where
    pub channels-refused : channel_allowed c.next c.drum l.channel l.has.kind ≡ false → Stops channel_section c s
    unfolding channels_from
    channels-refused a = record { by = λ left line at. rw (e, a) refl }

    pub channels-go : channel_allowed c.next c.drum l.channel l.has.kind ≡ true
        → GoesOn channel_section c s l.length (record {
          next = l.channel.0 + 1;
          drum = c.drum || is_drum l.has.kind;
          of = set c.of l.channel.0 (fitted l.has.kind l.has.n);
        })
    unfolding channels_from
    channels-go a = record { by = λ left line at. rw (e, a) refl }

-- the down lines
pub record DownsAt : Type 0 where
  pub next : ℕ
  pub of : List Bool

module _ (channels : List Channel) where
  abbrev pub downs_by : ℕ → ℕ → ℕ → DownsAt → List ℕ → Read (Section (List Bool))
  downs_by left line at d s = downs_from left line at d.next channels d.of s

  pub no-downs-left : (line at : ℕ) (p : DownsAt) (s : List ℕ) → downs_by zero line at p s ≡ read_to line at p.of
  unfolding downs_from
  no-downs-left line at p s = refl

  abbrev pub down_section : Reader
  down_section = record { State = DownsAt; Said = List Bool; said = λ p. p.of; from = downs_by; none-left = no-downs-left }

module _ (channels : List Channel) {d : DownsAt} {s : List ℕ} where
  pub downs-wrong : down_line s ≡ None → Stops (down_section channels) d s
  unfolding downs_from
  downs-wrong e = record { by = λ left line at. rw e refl }

  module _ {l : DownLine} (e : down_line s ≡ Some l) where
    pub downs-refused : down_allowed d.next (get_or channels l.channel.0 no_channel) l.channel l.unit ≡ false → Stops (down_section channels) d s
    unfolding downs_from
    downs-refused a = record { by = λ left line at. rw (e, a) refl }

    pub downs-go : down_allowed d.next (get_or channels l.channel.0 no_channel) l.channel l.unit ≡ true
        → GoesOn (down_section channels) d s 6 (record { next = l.channel.0 * 16 + l.unit.0 + 1; of = set d.of (l.channel.0 * 16 + l.unit.0) true })
    unfolding downs_from
    downs-go a = record { by = λ left line at. rw (e, a) refl }

-- the code lines
pub record CodesAt : Type 0 where
  pub next : ℕ
  pub of : ℕ

abbrev pub codes_by : ℕ → ℕ → ℕ → CodesAt → List ℕ → Read (Section ℕ)
codes_by left line at c s = codes_from left line at c.next c.of s

pub no-codes-left : (line at : ℕ) (p : CodesAt) (s : List ℕ) → codes_by zero line at p s ≡ read_to line at p.of
unfolding codes_from
no-codes-left line at p s = refl

abbrev pub code_section : Reader
code_section = record { State = CodesAt; Said = ℕ; said = λ p. p.of; from = codes_by; none-left = no-codes-left }

module _ {c : CodesAt} {s : List ℕ} where
  pub codes-wrong : code_line s ≡ None → Stops code_section c s
  unfolding codes_from
  codes-wrong e = record { by = λ left line at. rw e refl }

  module _ {code : ℕ} (e : code_line s ≡ Some code) where
    pub codes-refused : leb c.next code ≡ false → Stops code_section c s
    unfolding codes_from
    codes-refused a = record { by = λ left line at. rw (e, a) refl }

    pub codes-go : leb c.next code ≡ true → GoesOn code_section c s 3 (record { next = code + 1; of = c.of + 2 ^ code })
    unfolding codes_from
    codes-go a = record { by = λ left line at. rw (e, a) refl }
