-- The written form of a configuration: one item a line, and which item is right where, judged with the lines before
-- it.
use Rattle.std.specs.Prelude.{ℕ, zero, suc, ◌+◌, ◌*◌, ◌^◌, ◌≤◌, ◌<◌, ◌≡◌, Bool, false, ◌&&◌, ◌||◌, true, List, [], ◌∷◌, ◌++◌, eqb, length, get_or, set}
use Rattle.numbers.specs.Quoted.{bytes}
use Rattle.numbers.specs.Kinds.{code_of, is_drum}
use Rattle.numbers.specs.declared.Kind.{Kind}
use Rattle.numbers.specs.Limits.{most_codes}
use Rattle.text.specs.Writing.{two_text, octal_text, decimal_text}
use Rattle.channels.specs.declared.Channel.{Channel}
use Rattle.channels.specs.Channels.{fitted, no_channel, no_channels, no_down, no_codes, units_of}
use Rattle.configuration.specs.Lines.{least, most}

-- what a line says: a count; a channel, its kind and its n; a down unit's channel and number; a code
pub data Item : Type 0 where
  count : ℕ → Item
  channel : ℕ → Kind → ℕ → Item
  down : ℕ → ℕ → Item
  code : ℕ → Item

-- how it is written: `n`, `cc KK n`, `cc uu`, "two octal digits", with LF at the end
abbrev pub line : Item → List ℕ
line (count n) = decimal_text n ++ bytes "\n"
line (channel c kind n) = two_text c ++ (bytes " " ++ (code_of kind ++ (bytes " " ++ (decimal_text n ++ bytes "\n"))))
line (down c u) = two_text c ++ (bytes " " ++ (two_text u ++ bytes "\n"))
line (code k) = octal_text k ++ bytes "\n"

abbrev pub written : List Item → List ℕ
written [] = []
written (item ∷ items) = line item ++ written items

-- what is due next. The count of channels; `left` channel lines, from channel `next` on, a drum before or not, and then
-- the count of down units. Or `left` down lines, from channel * 16 + unit `next` on, and then the count of codes. Or
-- `left` code lines, from code `next` on. With them, what is configured so far.
pub data Due : Type 0 where
  first : Due
  channels : (left next : ℕ) (drum : Bool) (of : List Channel) → Due
  downs : (left next : ℕ) (of : List Channel) (down : List Bool) → Due
  codes : (left next : ℕ) (of : List Channel) (down : List Bool) (word : ℕ) → Due

-- an item is right where it is due, and then something else is
pub data Right : Due → Item → Due → Type 0 where
  -- first the count of channels, at most 16
  channel_count : {n : ℕ} → n ≤ 16 → Right first (count n) (channels n 0 false no_channels)
  -- lines `cc KK n`, ascending strictly, n as the kind has it, at most one drum
  channel_line : {left next c n : ℕ} {drum : Bool} {kind : Kind} {of : List Channel}
      → c ≤ 15 → least kind ≤ n → n ≤ most kind → next ≤ c → (drum && is_drum kind) ≡ false
      → Right (channels (suc left) next drum of) (channel c kind n)
      (channels left (c + 1) (drum || is_drum kind) (set of c (fitted kind n)))
  -- then the count of down units, at most 256
  down_count : {next m : ℕ} {drum : Bool} {of : List Channel} → m ≤ 256 → Right (channels 0 next drum of) (count m) (downs m 0 of no_down)
  -- and lines `cc uu`, ascending strictly, each a configured unit
  down_line : {left next c u : ℕ} {of : List Channel} {marks : List Bool}
      → c ≤ 15 → u ≤ 15 → next ≤ c * 16 + u → u < units_of (get_or of c no_channel)
      → Right (downs (suc left) next of marks) (down c u) (downs left (c * 16 + u + 1) of (set marks (c * 16 + u) true))
  -- "a third section after its count, at most 60, the codes that set interlock"
  code_count : {next n : ℕ} {of : List Channel} {marks : List Bool} → n ≤ most_codes
      → Right (downs 0 next of marks) (count n) (codes n 0 of marks no_codes)
  -- "strictly ascending, each 02 to 77 octal and neither 16 nor 17"; code k is bit k of the word, which it sets
  code_line : {left next k word : ℕ} {of : List Channel} {marks : List Bool}
      → 0o02 ≤ k → k ≤ 0o77 → (k ≡ 0o16 → ⊥) → (k ≡ 0o17 → ⊥) → next ≤ k
      → Right (codes (suc left) next of marks word) (code k) (codes left (k + 1) of marks (word + 2 ^ k))

-- items that are right one after the other
pub data AllRight : Due → List Item → Due → Type 0 where
  none : {due : Due} → AllRight due [] due
  more : {due next end : Due} {item : Item} {items : List Item} → Right due item next
      → AllRight next items end → AllRight due (item ∷ items) end

-- nothing is due any more, and this is configured
abbrev pub Complete : Due → List Channel → List Bool → ℕ → Type 0
Complete first of marks word = ⊥
Complete (channels left next drum before) of marks word = ⊥
Complete (downs left next before now) of marks word = ⊥
Complete (codes zero next before now told) of marks word = (before ≡ of) × (now ≡ marks) × (told ≡ word)
Complete (codes (suc left) next before now told) of marks word = ⊥

-- from where `due` is due, a text has `count` right lines; then `end` is due, and the text goes on with `rest`
pub record Reads (due : Due) (s : List ℕ) (count : ℕ) (end : Due) (rest : List ℕ) : Type 0 where
  pub items : List Item
  pub many : length items ≡ count
  pub right : AllRight due items end
  pub text : s ≡ written items ++ rest

-- a text in the written form of these channels, down units and codes
pub record InForm (s : List ℕ) (of : List Channel) (marks : List Bool) (word : ℕ) : Type 0 where
  pub lines : ℕ
  pub end : Due
  pub reads : Reads first s lines end []
  pub all : Complete end of marks word

-- no right line comes where one is due, or something comes where nothing is due
pub record Bad (due : Due) (rest : List ℕ) : Type 0 where
  pub none : (item : Item) (next : Due) (t : List ℕ) → Right due item next → rest ≡ line item ++ t → ⊥
  pub more : (of : List Channel) (marks : List Bool) (word : ℕ) → Complete due of marks word → rest ≡ [] → ⊥

-- a code is among those that lines list
abbrev pub lists_code : List Item → ℕ → Bool
lists_code [] k = false
lists_code (count n ∷ items) k = lists_code items k
lists_code (channel c kind n ∷ items) k = lists_code items k
lists_code (down c u ∷ items) k = lists_code items k
lists_code (code j ∷ items) k = eqb j k || lists_code items k

-- the first bad or missing line, counted from 1: those before it are right, and it is not
pub record FirstBad (s : List ℕ) (number : ℕ) : Type 0 where
  pub before : ℕ
  pub next : number ≡ before + 1
  pub due : Due
  pub rest : List ℕ
  pub reads : Reads first s before due rest
  pub bad : Bad due rest
