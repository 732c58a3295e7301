-- The first bytes of an input decide what is printed, if they are over 16,384: a buffer that holds more serves an
-- input of any length. Assumes nothing.
use Prim.Native.Nat.{ℕ, ◌-◌, ◌<◌}
use mathlib.Core.Path.{◌≡◌, ap, sym, ◌∙◌}
use mathlib.Core.List.{List}
use mathlib.Core.Logic.{⊎_elim}
use native.Mathlib.Nat.{eq-zero-or-pos}
use native.Mathlib.Omega.{arith}
use lib.ListN.{length, take}
use lib.Seq.{take_all, length-take-le}
use borrow.Author.Tests.{lt-leb}
use Rattle.numbers.specs.declared.Refusal.TheVariants.{BadDeck}
use Rattle.numbers.specs.Limits.{deck_bytes}
use Rattle.cards_fields.specs.Deck.{deck_end}
use Rattle.cards_lines.specs.Shown.{refused_text}
use Rattle.schedule_deck.specs.Report.{deck_text}

-- a deck of over 16,384 bytes is refused
pub too_long : (s : List ℕ) → deck_bytes < length s → deck_text s ≡ refused_text BadDeck
unfolding deck_end
too_long s h = rw (lt-leb (length s) deck_bytes h)

pub enough : (s : List ℕ) (n : ℕ) → deck_bytes < n → deck_text (take n s) ≡ deck_text s
enough s n h =
    ⊎_elim
    (λ z. ap deck_text (take_all n s (omega arith)))
    (λ p. too_long (take n s) (omega (arith, length-take-le n s (omega arith))) ∙ sym (too_long s (omega arith)))
    (eq-zero-or-pos (length s - n))
