-- The configuration in front of a script, "exactly as document 01 gives it, except that lines may follow it". It is
-- asked for whenever a line has come.
use Rattle.std.specs.Prelude.{ℕ, Bool, cond, ◌&&◌, Ok, Err, List, ltb, length}
use Rattle.words.specs.Lines.{lines_of}
use Rattle.configuration.specs.Configured.{Answer, configuration_of}
use Rattle.shift_begin.specs.declared.Begun.{Begun}
use Rattle.shift_begin.specs.declared.Begun.TheVariants.{More, Good, Bad}

-- an answer to so many lines: where more may come, a bad line that is not among them is still to come
abbrev pub said_so_far : Answer → Bool → ℕ → Begun
said_so_far (Ok configuration) more lines = Good configuration
said_so_far (Err line) more lines = cond (more && ltb lines line.0) More (Bad line)

-- what a text begins: its lines are those ended by LF
unfoldable pub opening_of : Bool → List ℕ → Begun
opening_of more s = said_so_far (configuration_of s) more (length (lines_of s))
