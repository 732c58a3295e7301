-- What the writer takes, by the tests that the code makes. Assumes nothing.
use Prim.Native.Nat.{ℕ, ◌+◌, ◌-◌, ◌≤◌, ◌<◌}
use mathlib.Core.Path.{◌≡◌, refl, sym, ap, ◌∙◌}
use mathlib.Core.Bool.{Bool, true, false, ◌&&◌}
use mathlib.Core.List.{List, []}
use mathlib.Core.Logic.{⊎_elim}
use native.Mathlib.Nat.{eq-zero-or-pos}
use native.Mathlib.Numerals.{add-one}
use native.Mathlib.Omega.{arith}
use lib.Dec.{ltb}
use lib.ListN.{length, get_or, take, drop, drop_of_length-le, replicate, length-replicate}
use lib.Seq.{length-take-le}
use borrow.Author.Tests.{lt-ltb, le-ltb}
use Rattle.text.specs.Room.{Written}
use Rattle.text.proofs.RoomLaws.{same-room}
use Rattle.words.proofs.WordLaws.{drop-step}
use Rattle.cards_request.specs.Errors.{good}
use Rattle.cards_fac.specs.Fac.{slots}
use Rattle.cards_pty.specs.Pty.{rule_at, field_error}
use Rattle.cards_pty.proofs.PtyLaws.{from_index, field-wrong, field-right, most-small, much-too-long}
use Rattle.cards_writing.specs.Writing.{limit, numbers_fit}
use Rattle.cards_writing.proofs.PutLaws.{put-reached, put_whole}

-- the numbers, one further
module _ (asks : List ℕ) (k n m : ℕ) (h : k < length asks) (is : n ≡ get_or asks k 0) (lim : m ≡ limit k) where
  number-here : numbers_fit k (drop k asks) ≡ ltb n m && numbers_fit (k + 1) (drop (k + 1) asks)
  number-here = rw (lim, is, drop-step asks k h, add-one k)

  pub number-high : m ≤ n → numbers_fit k (drop k asks) ≡ false
  number-high g = number-here ∙ rw (le-ltb n m g)

  pub number-low : n < m → numbers_fit k (drop k asks) ≡ numbers_fit (k + 1) (drop (k + 1) asks)
  number-low g = number-here ∙ rw (lt-ltb n m g)

pub numbers-done : (asks : List ℕ) (k : ℕ) → length asks ≡ slots → k ≡ slots → numbers_fit k (drop k asks) ≡ true
numbers-done asks k l e = rw (drop_of_length-le asks {i = k} (omega arith), e)

-- the fields, one further
module _ (fs : List (List ℕ)) (k : ℕ) (h : k < 14) (b : Bool) (is : b ≡ good (field_error k (rule_at k) (get_or fs k []))) where
  pub fields-wrong : b ≡ false → good (from_index k fs) ≡ false
  fields-wrong e = ap good (field-wrong fs k h (field_error k (rule_at k) (get_or fs k [])) refl (sym is ∙ e)) ∙ sym is ∙ e

  pub fields-right : b ≡ true → good (from_index k fs) ≡ good (from_index (k + 1) fs)
  fields-right e = ap good (field-right fs k h (field_error k (rule_at k) (get_or fs k [])) refl (sym is ∙ e))

-- a field that was put into thirteen bytes is judged as it is: twelve is the most that any may have
pub field_put : (k : ℕ) {p after : List ℕ} {next : ℕ} → Written (replicate 13 0) 0 p after next
    → field_error k (rule_at k) (take next after) ≡ field_error k (rule_at k) p
field_put k {p} {after} {next} w =
    let e = put-reached 13 w in
    let l : length (take next after) ≡ next = length-take-le next after (omega (arith, same-room w, length-replicate {A = ℕ} 13 0)) in
    ⊎_elim
    (λ z. ap (field_error k (rule_at k)) (put_whole 13 w (omega arith)).1)
    (λ q. much-too-long k (rule_at k) (take next after) (most-small k) (omega arith) ∙ sym (much-too-long k (rule_at k) p (most-small k) (omega arith)))
    (eq-zero-or-pos (length p - 13))
