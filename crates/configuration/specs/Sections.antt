-- The sections of a configuration, line by line. A line is judged with the lines before it.
use Rattle.std.specs.Prelude.{ℕ, zero, suc, ◌+◌, ◌*◌, ◌^◌, ◌≤◌, ◌≡◌, Bool, true, false, cond, not, ◌&&◌, ◌||◌, Result, Ok, Err, List, leb, ltb, length, get_or, set, drop, MatchResult}
use Rattle.numbers.specs.declared.ChannelNumber.{ChannelNumber}
use Rattle.numbers.specs.declared.UnitNumber.{UnitNumber}
use Rattle.numbers.specs.declared.Kind.{Kind}
use Rattle.numbers.specs.Kinds.{is_drum}
use Rattle.channels.specs.declared.Channel.{Channel}
use Rattle.configuration.specs.declared.BadLine.{BadLine}
use Rattle.configuration.specs.declared.section.Section.{Section}
use Rattle.configuration.specs.Lines.{on_read, channel_line, down_line, code_line}
use Rattle.channels.specs.Channels.{fitted, no_channel, no_channels, no_down, units_of}

-- channels ascend strictly, so from `next` on; at most one drum channel
unfoldable pub channel_allowed : ℕ → Bool → ChannelNumber → Kind → Bool
channel_allowed next drum channel kind = leb next channel.0 && not (drum && is_drum kind)

-- down units ascend strictly, channel first, so from channel * 16 + unit `next` on; a down unit is a configured one
unfoldable pub down_allowed : ℕ → Channel → ChannelNumber → UnitNumber → Bool
down_allowed next on channel unit = leb next (channel.0 * 16 + unit.0) && ltb unit.0 (units_of on)

-- what a reader answers: what it read, or the bad line
abbrev pub Read : Type 0 → Type 0
Read A = Result A BadLine

-- a bad line, by its number
abbrev pub bad : {A : Type 0} → ℕ → Read A
bad line = Err (record { 0 = line })

-- a section was read: what it says, and the next line's number and index
abbrev pub read_to : {A : Type 0} → ℕ → ℕ → A → Read (Section A)
read_to line at of = Ok (record { of = of; line = line; at = at })

-- the channel lines that are left, of the text s that starts at `at`; `of` has the channels before
unfoldable pub channels_from : ℕ → ℕ → ℕ → ℕ → Bool → List Channel → List ℕ → Read (Section (List Channel))
channels_from zero line at next drum of s = read_to line at of
channels_from (suc left) line at next drum of s =
    on_read (channel_line s) (bad line) λ l.
    cond (channel_allowed next drum l.channel l.has.kind)
    (channels_from left (line + 1) (at + l.length) (l.channel.0 + 1) (drum || is_drum l.has.kind)
    (set of l.channel.0 (fitted l.has.kind l.has.n)) (drop l.length s))
    (bad line)

-- the down lines that are left, six bytes each
unfoldable pub downs_from : ℕ → ℕ → ℕ → ℕ → List Channel → List Bool → List ℕ → Read (Section (List Bool))
downs_from zero line at next channels of s = read_to line at of
downs_from (suc left) line at next channels of s =
    on_read (down_line s) (bad line) λ l.
    cond (down_allowed next (get_or channels l.channel.0 no_channel) l.channel l.unit)
    (downs_from left (line + 1) (at + 6) (l.channel.0 * 16 + l.unit.0 + 1) channels (set of (l.channel.0 * 16 + l.unit.0) true) (drop 6 s))
    (bad line)

-- the code lines that are left, three bytes each; codes ascend strictly, so from `next` on, and code k is bit k
unfoldable pub codes_from : ℕ → ℕ → ℕ → ℕ → ℕ → List ℕ → Read (Section ℕ)
codes_from zero line at next of s = read_to line at of
codes_from (suc left) line at next of s =
    on_read (code_line s) (bad line) λ code.
    cond (leb next code) (codes_from left (line + 1) (at + 3) (code + 1) (of + 2 ^ code) (drop 3 s)) (bad line)

-- what a reader of `count` lines from line `first` on answers: what is defined of them. It ends at an index within the
-- text and at a line no further on than there are lines
pub record SectionRead {A : Type 0} (s : List ℕ) (count first : ℕ) (defined r : Read (Section A)) : Type 0 where
  pub is : r ≡ defined
  pub ends : MatchResult r (λ section. (section.at ≤ length s) × (section.line ≤ count + first)) (λ b. b.0 ≤ count + first)

abbrev pub ChannelsRead : List ℕ → ℕ → ℕ → Read (Section (List Channel)) → Type 0
ChannelsRead s count start r = SectionRead s count 2 (channels_from count 2 start 0 false no_channels (drop start s)) r

abbrev pub DownsRead : List ℕ → ℕ → ℕ → ℕ → List Channel → Read (Section (List Bool)) → Type 0
DownsRead s count first start channels r = SectionRead s count first (downs_from count first start 0 channels no_down (drop start s)) r
