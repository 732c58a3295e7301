-- A field with one more byte: what the loop that gathers a field keeps. Nothing here has to be believed.
use Rattle.std.specs.Prelude.{ℕ, ◌+◌, cond, eqb, ltb, set}
use Rattle.cards_fields.specs.declared.Field.{Field}

-- a field with one more byte, which is kept among the first twelve alone
abbrev pub added : Field → ℕ → Field
added f b = record { bytes = cond (ltb f.len 12) (set f.bytes f.len b) f.bytes; len = f.len + 1 }

-- the same, a space dropped
abbrev pub pushed : Field → ℕ → Field
pushed f b = cond (eqb b 32) f (added f b)
