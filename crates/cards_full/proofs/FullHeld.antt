-- The array of a request's further cards has 14 of them, and that of its ID six bytes: what owning the request tells.
-- Assumes nothing.
use mathlib.Core.Path.{◌≡◌}
use mathlib.Core.List.{List}
use lib.ListN.{length}
use mir.Val.{Val}
use denote.Laws.{Is}
use denote.Struct.Laws as LL
use Rattle.numbers.specs.Limits.{most_further}
use Rattle.cards_request.specs.declared.FullRequest.{FullRequest}
use Rattle.cards_request.specs.contracts.Request as R
use Rattle.cards_request.proofs.Request.TheLaws as R'
use Rattle.cards_request.specs.contracts.FullRequest as T
use Rattle.cards_request.proofs.FullRequest.TheLaws as T'
use Rattle.cards_further.proofs.Fourteen.{fourteen}

pub fourteen-in : (v : FullRequest) (vs : List Val) → Is T.the_row v vs → length v.further.cards ≡ most_further
fourteen-in v vs g = fourteen v.further _ (LL.owed T.the_type T'.the_laws v vs g).1.0

pub six-in : (v : FullRequest) (vs : List Val) → Is T.the_row v vs → length v.request.id ≡ 6
six-in v vs g =
    (LL.owed R.the_type R'.the_laws v.request _ (LL.owed T.the_type T'.the_laws v vs g).0).0.1.0.1
