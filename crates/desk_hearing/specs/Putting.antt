-- An answer put into lent room, as the function beneath `hear` and `finish` promises it. Nothing on this page has to be
-- believed.
use Rattle.std.specs.Prelude.{ℕ, List}
use Rattle.text.specs.Room.{Whole}
use Rattle.desk_hearing.specs.Printing.{Says}

-- an ID is answered in lent room
pub record Answered (id repair day out after : List ℕ) (at : ℕ) : Type 0 where
  pub text : List ℕ
  pub says : Says id repair day text
  pub put : Whole text out after at
