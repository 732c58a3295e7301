-- The state's places are 16 and its list has 256 entries: what owning a state tells. Assumes nothing.
use mathlib.Core.Path.{◌≡◌}
use mathlib.Core.List.{List}
use lib.ListN.{length}
use mir.Val.{Val}
use denote.Laws.{Is}
use denote.Struct.Laws as LL
use Rattle.packets.specs.declared.Lists as S
use Rattle.packets.specs.contracts.Lists as T
use Rattle.packets.proofs.Lists.TheLaws as T'
use Rattle.packets.specs.contracts.RequestList as Q
use Rattle.packets.proofs.RequestList.TheLaws as Q'

pub places : (s : S.Lists) (vs : List Val) → Is T.the_row s vs → length s.jobs ≡ 16
places s vs g = (LL.owed T.the_type T'.the_laws s vs g).1.1.0.1.0.1

pub entries : (s : S.Lists) (vs : List Val) → Is T.the_row s vs → length s.list.entries ≡ 256
entries s vs g =
    (LL.owed Q.the_type Q'.the_laws s.list _ (LL.owed T.the_type T'.the_laws s vs g).1.1.1.0).0.1.0.1
