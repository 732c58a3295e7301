-- The list as the code holds it. A reader has to believe this page.
use Rattle.std.specs.Prelude.{ℕ, ◌-◌, ◌≤◌, ◌≡◌, List, ◌++◌, length, take, replicate}
use Rattle.packets.specs.declared.RequestList.{RequestList}

-- the packets of a list
abbrev pub list_of : RequestList → List ℕ
list_of list = take list.count list.entries

-- packets as a list, with 0 past them
abbrev pub padded : List ℕ → RequestList
padded l = record { entries = l ++ replicate (256 - length l) 0; count = length l }

-- a list with 0 past its packets
pub record Tidy (list : RequestList) : Type 0 where
  pub is : list ≡ padded (list_of list)
  pub few : length (list_of list) ≤ 256
