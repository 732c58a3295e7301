-- The deck that a script gives is one of document 01's: its cards are the lines, the termination card ends it, and
-- its size counts them all. Assumes nothing.
use Prim.Native.Nat.{ℕ, ◌≤◌, ◌<◌}
use mathlib.Core.Path.{◌≡◌, refl, ap, ◌∙◌}
use mathlib.Core.Bool.{true, false}
use mathlib.Core.List.{List, [], ◌∷◌, ◌++◌, append_assoc}
use native.Mathlib.Omega.{arith}
use lib.ListN.{length, length-append}
use borrow.Author.Tests.{le-leb, lt-leb}
use Rattle.numbers.specs.declared.Refusal.TheVariants.{BadDeck}
use Rattle.numbers.specs.Limits.{deck_bytes}
use Rattle.words.specs.Lines.{line_text}
use Rattle.words.proofs.LineLaws.{NoLf, no-lf-tested, first_ended}
use Rattle.cards_fields.specs.Deck.{cards_of, is_termination, termination, terminated, before, size, deck_end}
use Rattle.std.specs.Prelude.{Ok, Err}

-- the text of cards
abbrev pub text_of : List (List ℕ) → List ℕ
text_of [] = []
text_of (c ∷ cs) = line_text c ++ text_of cs

-- lines, none of which is the termination card
abbrev pub Cards : List (List ℕ) → Type 0
Cards [] = Unit {0}
Cards (c ∷ cs) = NoLf c × (is_termination c ≡ false) × Cards cs

card-then : (c t : List ℕ) → line_text c ++ t ≡ c ++ (10 ∷ t)
card-then c t = append_assoc c (10 ∷ []) t

-- the cards that the text has, with the termination card behind them
cards-are : (cs : List (List ℕ)) → Cards cs → cards_of (text_of cs ++ line_text termination) ≡ cs ++ (termination ∷ [])
cards-are [] h = first_ended termination [] (no-lf-tested termination refl)
cards-are (c ∷ cs) h =
    ap cards_of (append_assoc (line_text c) (text_of cs) (line_text termination) ∙ card-then c (text_of cs ++ line_text termination))
    ∙ first_ended c (text_of cs ++ line_text termination) h.0
    ∙ ap (λ (l : List (List ℕ)). c ∷ l) (cards-are cs h.2)

last-card : is_termination termination ≡ true
last-card = refl

ends : (cs : List (List ℕ)) → Cards cs → (terminated (cs ++ (termination ∷ [])) ≡ true) × (before (cs ++ (termination ∷ [])) ≡ cs)
ends [] h = (refl, refl)
ends (c ∷ cs) h = let e = ends cs h.2 in (rw h.1 e.0, rw h.1 (ap (λ (l : List (List ℕ)). c ∷ l) e.1))

sizes : (cs : List (List ℕ)) → size cs ≡ length (text_of cs)
sizes [] = refl
sizes (c ∷ cs) = omega (arith, sizes cs, length-append (line_text c) (text_of cs), length-append c (10 ∷ []))

-- where its termination card starts, or that it is too long
pub deck-given : (cs : List (List ℕ)) → Cards cs → length (text_of cs ++ line_text termination) ≤ deck_bytes
    → deck_end (text_of cs ++ line_text termination) ≡ Ok (length (text_of cs))
unfolding deck_end
deck-given cs h l =
    let e = ends cs h in
    rw (le-leb (length (text_of cs ++ line_text termination)) deck_bytes l, cards-are cs h, e.0, e.1, sizes cs)

pub deck-too-long : (cs : List (List ℕ)) → deck_bytes < length (text_of cs ++ line_text termination)
    → deck_end (text_of cs ++ line_text termination) ≡ Err BadDeck
unfolding deck_end
deck-too-long cs l = rw (lt-leb (length (text_of cs ++ line_text termination)) deck_bytes l)
