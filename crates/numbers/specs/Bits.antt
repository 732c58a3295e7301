-- The bits of a word.
use Rattle.std.specs.Prelude.{ℕ, ◌/◌, ◌%◌, ◌^◌}

-- bit b of a word, 0 or 1
abbrev pub bit : ℕ → ℕ → ℕ
bit w b = (w / 2 ^ b) % 2
