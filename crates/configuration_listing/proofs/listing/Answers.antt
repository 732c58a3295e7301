-- `configuration_listing::listing` meets its contract: the text of the answer that the reader gave, whole in a room
-- of 96 bytes. Assumes nothing.
use Rattle.std.proofs.Common.{ℕ, List, ◌≡◌, sym, subst, rules}
use Rattle.text.specs.Room.{Written}
use Rattle.configuration_listing.proofs.Bounds.{listed}
use Rattle.configuration_listing.proofs.listing.Goals as goal

-- the bytes that were lent are those of the room, where it still lends the same
back : {A : Type 0} {a b : A} {room text x y : List ℕ} {at r : ℕ} → b ≡ a → (a ≡ b → x ≡ y) → Written room at text y r → Written room at text x r
back {room = room} {text = text} {at = at} {r = r} e f w = subst (λ (l : List ℕ). Written room at text l r) (sym (f (sym e))) w

pub returns : goal.returns
returns c = listed c.args.config.now (back c.put_answer.ensures.same (search rules) (rw c.read.ensures at c.put_answer.ensures.written))
