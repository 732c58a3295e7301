-- The whole text, by what its parts were read as. Assumes nothing.
use Prim.Native.Nat.{ℕ, ◌+◌, ◌≤◌, ◌<◌}
use mathlib.Core.Path.{◌≡◌}
use mathlib.Core.Bool.{Bool, false}
use mathlib.Core.List.{List}
use lib.ListN.{length, drop}
use borrow.Author.Tests.{lt-ltb, le-ltb}
use Rattle.std.specs.Prelude.{Some, None, Ok, Err}
use Rattle.numbers.specs.Limits.{most_codes}
use Rattle.channels.specs.declared.Channel.{Channel}
use Rattle.configuration.specs.declared.BadLine.{BadLine}
use Rattle.configuration.specs.declared.section.Section.{Section}
use Rattle.configuration.specs.Lines.{last_number}
use Rattle.channels.specs.Channels.{no_channels, no_down, no_codes}
use Rattle.configuration.specs.Sections.{Read, bad, channels_from, downs_from, codes_from}
use Rattle.configuration.specs.Configured.{refused, good, and_no_more, third_section, after_downs, after_channels, configuration_of}

-- the third section, and that nothing follows it
module _ (s : List ℕ) (line at : ℕ) where
  pub no-codes : last_number 0 most_codes (drop at s) ≡ None → bad line ≡ third_section s line at
  unfolding third_section
  no-codes e = rw e

  module _ {n k : ℕ} (e : last_number 0 most_codes (drop at s) ≡ Some (n, k)) where
    -- read as it is
    abbrev codes : Read (Section ℕ)
    codes = codes_from n (line + 1) (at + k) 0 no_codes (drop (at + k) s)

    pub bad-codes : {b : BadLine} → Err b ≡ codes → Err b ≡ third_section s line at
    unfolding third_section and_no_more
    bad-codes q = rw (e, ← q)

    pub more-follows : {third : Section ℕ} → Ok third ≡ codes → third.at < length s → bad third.line ≡ third_section s line at
    unfolding third_section and_no_more
    more-follows {third} q h = rw (e, ← q, lt-ltb third.at (length s) h)

    pub nothing-follows : {third : Section ℕ} → Ok third ≡ codes → length s ≤ third.at → Ok third ≡ third_section s line at
    unfolding third_section and_no_more
    nothing-follows {third} q h = rw (e, ← q, le-ltb third.at (length s) h)

-- the whole text
module _ (s : List ℕ) where
  pub no-count : last_number 0 16 s ≡ None → refused 1 ≡ configuration_of s
  unfolding configuration_of
  no-count e = rw e

  module _ {n k : ℕ} (e : last_number 0 16 s ≡ Some (n, k)) where
    abbrev channels : Read (Section (List Channel))
    channels = channels_from n 2 k 0 false no_channels (drop k s)

    pub bad-first : {b : BadLine} → Err b ≡ channels → Err b ≡ configuration_of s
    unfolding configuration_of after_channels
    bad-first q = rw (e, ← q)

    module _ {first : Section (List Channel)} (q : Ok first ≡ channels) where
      pub no-downs : last_number 0 256 (drop first.at s) ≡ None → refused first.line ≡ configuration_of s
      unfolding configuration_of after_channels
      no-downs d = rw (e, ← q, d)

      module _ {m j : ℕ} (d : last_number 0 256 (drop first.at s) ≡ Some (m, j)) where
        abbrev downs : Read (Section (List Bool))
        downs = downs_from m (first.line + 1) (first.at + j) 0 first.of no_down (drop (first.at + j) s)

        pub bad-second : {b : BadLine} → Err b ≡ downs → Err b ≡ configuration_of s
        unfolding configuration_of after_channels after_downs
        bad-second r = rw (e, ← q, d, ← r)

        module _ {second : Section (List Bool)} (r : Ok second ≡ downs) where
          pub bad-third : {b : BadLine} → Err b ≡ third_section s second.line second.at → Err b ≡ configuration_of s
          unfolding configuration_of after_channels after_downs
          bad-third u = rw (e, ← q, d, ← r, ← u)

          pub all_read : {third : Section ℕ} → Ok third ≡ third_section s second.line second.at → good first.of second.of third.of ≡ configuration_of s
          unfolding configuration_of after_channels after_downs
          all_read u = rw (e, ← q, d, ← r, ← u)
