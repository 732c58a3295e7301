-- What the reader's answer says of a text: a configuration exactly for its written form, refusal 14 with the first
-- bad or missing line.
use Rattle.std.specs.Prelude.{ℕ, ◌≡◌, Bool, List}
use Rattle.channels.specs.declared.Channel.{Channel}
use Rattle.configuration.specs.Configured.{Answer, refused, good}
use Rattle.configuration_form.specs.Form.{InForm, FirstBad}

-- an answer is a configuration, or a line's number
pub data Said (a : Answer) : Type 0 where
  goods : (of : List Channel) (marks : List Bool) (word : ℕ) → a ≡ good of marks word → Said a
  bads : (number : ℕ) → a ≡ refused number → Said a

-- what an answer says of a text
pub record Means (s : List ℕ) (a : Answer) : Type 0 where
  pub said : Said a
  pub written : (of : List Channel) (marks : List Bool) (word : ℕ) → a ≡ good of marks word → InForm s of marks word
  pub first : (number : ℕ) → a ≡ refused number → FirstBad s number
