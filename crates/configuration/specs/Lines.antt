-- The lines of a configuration: decimal text but for the codes, single spaces, LF at the end.
use Rattle.std.specs.Prelude.{ℕ, ◌+◌, ◌*◌, ◌/◌, ◌%◌, ◌≤◌, ◌≡◌, Bool, cond, Option, Some, None, not, ◌&&◌, List, eqb, leb, length, get_or, drop}
use Rattle.text.specs.Reading.{two_digits_of, decimal_of}
use Rattle.numbers.specs.declared.Kind.{Kind}
use Rattle.numbers.specs.Quoted.{byte}
use Rattle.numbers.specs.Kinds.{kind_of, is_drum}
use Rattle.numbers.specs.Limits.{least_words, most_words}
use Rattle.numbers.specs.declared.ChannelNumber.{ChannelNumber}
use Rattle.numbers.specs.declared.UnitNumber.{UnitNumber}
use Rattle.configuration.specs.declared.line.ChannelLine.{ChannelLine}
use Rattle.configuration.specs.declared.line.DownLine.{DownLine}

-- units 1 to 16, or for MD the drum length, 35,330 to 1,000,000 words
abbrev pub least : Kind → ℕ
least kind = cond (is_drum kind) least_words 1

abbrev pub most : Kind → ℕ
most kind = cond (is_drum kind) most_words 16

-- goes on with a number that was read, and its length
abbrev pub on_number : {A : Type 0} → Option (ℕ × ℕ) → A → (ℕ → ℕ → A) → A
on_number (Some read) wrong go = go read.0 read.1
on_number None wrong go = wrong

-- goes on with what was read
abbrev pub on_read : {A B : Type 0} → Option A → B → (A → B) → B
on_read (Some read) wrong go = go read
on_read None wrong go = wrong

-- the byte at an index is b
abbrev pub stands : ℕ → ℕ → List ℕ → Bool
stands b at s = eqb (get_or s at 0) b

-- what a line `cc KK n` of k bytes says, and what a line `cc uu` says
abbrev pub says_channel : ChannelNumber → Kind → ℕ → ℕ → Option ChannelLine
says_channel channel kind n k = Some (record { channel = channel; has = record { kind = kind; n = n }; length = k })

abbrev pub says_down : ChannelNumber → UnitNumber → Option DownLine
says_down channel unit = Some (record { channel = channel; unit = unit })

-- a decimal number from low to high that ends its line
unfoldable pub last_number : ℕ → ℕ → List ℕ → Option (ℕ × ℕ)
last_number low high s =
    on_number (decimal_of s) None λ n k.
    cond (leb low n) (cond (leb n high) (cond (stands (byte "\n") k s) (Some (n, k + 1)) None) None) None

-- two digits, 00 to 15, with a byte behind them
unfoldable pub up_to_15 : ℕ → List ℕ → Option ℕ
up_to_15 end s = on_number (two_digits_of s) None λ n _. cond (leb n 15) (cond (stands end 2 s) (Some n) None) None

-- `cc KK n`: a channel number 00 to 15, its kind, its n
unfoldable pub channel_line : List ℕ → Option ChannelLine
channel_line s =
    on_read (up_to_15 (byte " ") s) None λ c.
    on_read (kind_of (get_or s 3 0) (get_or s 4 0)) None λ kind.
    cond (stands (byte " ") 5 s) (on_number (last_number (least kind) (most kind) (drop 6 s)) None λ n k.
    says_channel (record { 0 = c }) kind n (6 + k)) None

-- `cc uu`: a channel number 00 to 15, a unit number 00 to 15
unfoldable pub down_line : List ℕ → Option DownLine
down_line s =
    on_read (up_to_15 (byte " ") s) None λ c.
    on_read (up_to_15 (byte "\n") (drop 3 s)) None λ u.
    says_down (record { 0 = c }) (record { 0 = u })

-- a code that may be listed: "02 to 77 octal and neither 16 nor 17"
abbrev pub is_code : ℕ → Bool
is_code k = leb 0o02 k && (leb k 0o77 && (not (eqb k 0o16) && not (eqb k 0o17)))

-- two octal digits, so two digits of which each is at most 7: such a code
unfoldable pub code_line : List ℕ → Option ℕ
code_line s =
    on_number (two_digits_of s) None λ n _.
    cond (leb (n / 10) 7) (cond (leb (n % 10) 7)
    (cond (is_code (n / 10 * 8 + n % 10)) (cond (stands (byte "\n") 2 s) (Some (n / 10 * 8 + n % 10)) None) None)
    None) None

-- what a reader of a line answers: what the line says, and that it lies within the text
abbrev pub channel_fits : Option ChannelLine → ℕ → Type 0
channel_fits (Some said) size = (said.channel.0 ≤ 15) × (said.length ≤ size)
channel_fits None size = 0 ≤ size

pub record ChannelRead (s : List ℕ) (r : Option ChannelLine) : Type 0 where
  pub is : r ≡ channel_line s
  pub fits : channel_fits r (length s)

abbrev pub down_fits : Option DownLine → ℕ → Type 0
down_fits (Some said) size = (said.channel.0 ≤ 15) × (said.unit.0 ≤ 15) × (6 ≤ size)
down_fits None size = 0 ≤ size

pub record DownRead (s : List ℕ) (r : Option DownLine) : Type 0 where
  pub is : r ≡ down_line s
  pub fits : down_fits r (length s)

abbrev pub code_fits : Option ℕ → ℕ → Type 0
code_fits (Some code) size = (code ≤ 0o77) × (3 ≤ size)
code_fits None size = 0 ≤ size

pub record CodeRead (s : List ℕ) (r : Option ℕ) : Type 0 where
  pub is : r ≡ code_line s
  pub fits : code_fits r (length s)
