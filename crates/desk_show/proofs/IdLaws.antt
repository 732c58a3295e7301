-- WHETHER A CARD OPENS A GROUP WITH AN ID, as the code tests it: the ID is well formed, and the card's first field is
-- the ID. Assumes nothing.
use Prim.Native.Nat.{ℕ, ◌≤◌, ◌<◌}
use mathlib.Core.Path.{◌≡◌, sym, ap, ◌∙◌}
use mathlib.Core.Bool.{Bool, true, false, ◌&&◌}
use mathlib.Core.List.{List}
use native.Mathlib.Omega.{arith}
use lib.Dec.{leb}
use lib.ListN.{length}
use borrow.Author.Tests.{le-leb, lt-leb, leb-true}
use Rattle.numbers.proofs.Tests.{by_bool, both}
use Rattle.text.specs.Class.{is_alnum}
use Rattle.words.specs.Words.{every, same}
use Rattle.words.proofs.WordLaws.{same-equal, and-false}
use Rattle.cards_fields.specs.Fields.{field, field_is, is_name, is_pty}
use Rattle.desk_show.specs.Showing.{opens_for}

module _ (id : List ℕ) where
  pub id-empty : length id < 1 → false ≡ is_name id
  unfolding is_name
  id-empty h = rw (lt-leb 1 (length id) h)

  pub id-long : 6 < length id → false ≡ is_name id
  unfolding is_name
  id-long h = rw (lt-leb (length id) 6 h) (sym (and-false (leb 1 (length id))))

  pub id-tested : 1 ≤ length id → length id ≤ 6 → every is_alnum id ≡ is_name id
  unfolding is_name
  id-tested h k = rw (le-leb 1 (length id) h, le-leb (length id) 6 k)

  short : is_name id ≡ true → leb (length id) 12 ≡ true
  unfolding is_name
  short t =
      let p = both (leb 1 (length id)) (leb (length id) 6 && every is_alnum id) t in
      let q = both (leb (length id) 6) (every is_alnum id) p.1 in
      le-leb (length id) 12 (omega (arith, leb-true (length id) 6 q.0))

  module _ (card : List ℕ) where
    pub opens_not : is_pty card ≡ false → false ≡ opens_for id card
    opens_not f = sym (ap (λ (x : Bool). x && (is_name (field card 0) && same (field card 0) id)) f)

    -- a field that is the ID is as well formed as it
    pub opens-no-id : is_name id ≡ false → false ≡ opens_for id card
    opens-no-id f = sym (ap (λ (x : Bool). is_pty card && x) inner ∙ and-false (is_pty card))
      where
        inner : (is_name (field card 0) && same (field card 0) id) ≡ false
        inner =
            by_bool (same (field card 0) id)
            (λ s. rw (ap is_name (same-equal (field card 0) id s), f))
            (λ s. rw s (and-false (is_name (field card 0))))

    pub opens-is : is_pty card ≡ true → is_name id ≡ true → field_is card 0 id ≡ opens_for id card
    opens-is p t = rw (p, short t) inner
      where
        inner : same (field card 0) id ≡ (is_name (field card 0) && same (field card 0) id)
        inner =
            by_bool (same (field card 0) id)
            (λ s. rw (ap is_name (same-equal (field card 0) id s), t))
            (λ s. rw s (sym (and-false (is_name (field card 0)))))
