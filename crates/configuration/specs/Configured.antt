-- A configuration: the count of channels, at most 16, and their lines; the count of down units, at most 256, and their
-- lines. Then the count of codes that set interlock, at most 60, and their lines; nothing follows. Otherwise the first
-- bad or missing line, counted from 1.
use Rattle.std.specs.Prelude.{ℕ, ◌+◌, Bool, false, cond, Ok, Err, List, ltb, length, drop}
use Rattle.numbers.specs.Limits.{most_codes}
use Rattle.channels.specs.declared.Channel.{Channel}
use Rattle.channels.specs.declared.Configuration.{Configuration}
use Rattle.configuration.specs.declared.section.Section.{Section}
use Rattle.configuration.specs.Lines.{on_number, last_number}
use Rattle.channels.specs.Channels.{no_channels, no_down, no_codes}
use Rattle.configuration.specs.Sections.{Read, bad, channels_from, downs_from, codes_from}

-- what a text is read as: a configuration, or refusal 14 with its line
abbrev pub Answer : Type 0
Answer = Read Configuration

-- refusal 14 with its line
abbrev pub refused : ℕ → Answer
refused line = bad line

-- these channels, these down units and these codes
abbrev pub good : List Channel → List Bool → ℕ → Answer
good channels down codes = Ok (record { channels = channels; down = down; codes = codes })

-- goes on with what was read; a bad line stays the answer
abbrev pub on_good : {A B : Type 0} → Read A → (A → Read B) → Read B
on_good (Ok read) go = go read
on_good (Err line) go = Err line

-- nothing follows the third section
unfoldable pub and_no_more : List ℕ → Read (Section ℕ) → Read (Section ℕ)
and_no_more s third = on_good third λ t. cond (ltb t.at (length s)) (bad t.line) (Ok t)

-- the third section, from `at` on, where line `line` begins
unfoldable pub third_section : List ℕ → ℕ → ℕ → Read (Section ℕ)
third_section s line at =
    on_number (last_number 0 most_codes (drop at s)) (bad line) λ n k.
    and_no_more s (codes_from n (line + 1) (at + k) 0 no_codes (drop (at + k) s))

-- a configuration, if the third section is good
abbrev pub with_codes : List Channel → List Bool → Read (Section ℕ) → Answer
with_codes channels down third = on_good third λ t. good channels down t.of

-- the third section follows the second
unfoldable pub after_downs : List ℕ → List Channel → Read (Section (List Bool)) → Answer
after_downs s channels second = on_good second λ t. with_codes channels t.of (third_section s t.line t.at)

-- the second section follows the first
unfoldable pub after_channels : List ℕ → Read (Section (List Channel)) → Answer
after_channels s first =
    on_good first λ t.
    on_number (last_number 0 256 (drop t.at s)) (refused t.line) λ m j.
    after_downs s t.of (downs_from m (t.line + 1) (t.at + j) 0 t.of no_down (drop (t.at + j) s))

-- what a text is read as
unfoldable pub configuration_of : List ℕ → Answer
configuration_of s =
    on_number (last_number 0 16 s) (refused 1) λ n k.
    after_channels s (channels_from n 2 k 0 false no_channels (drop k s))
