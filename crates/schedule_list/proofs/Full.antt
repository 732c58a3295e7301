-- A schedule's array has 64 entries: what owning a schedule tells. Assumes nothing.
use mathlib.Core.Path.{◌≡◌}
use mathlib.Core.List.{List}
use lib.ListN.{length}
use mir.Val.{Val}
use denote.Laws.{Is}
use denote.Struct.Laws as LL
use Rattle.numbers.specs.Limits.{most_requests}
use Rattle.schedule_list.specs.declared.Schedule as S
use Rattle.schedule_list.specs.contracts.Schedule as T
use Rattle.schedule_list.proofs.Schedule.TheLaws as T'

pub full : (s : S.Schedule) (vs : List Val) → Is T.the_row s vs → length s.entries ≡ most_requests
full s vs g = (LL.owed T.the_type T'.the_laws s vs g).0.1.0.1
