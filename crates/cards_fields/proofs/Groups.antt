-- THE GROUPS OF A DECK AS PARTS OF IT: the part up to the termination card has the cards before it, and cutting off
-- the first group's part over and over gives the groups in order. A text is cut where a card ends, so that the
-- cards of the two parts are the cards of the whole. Assumes nothing.
use Prim.Native.Nat.{ℕ, suc, ◌+◌, ◌-◌, ◌≤◌}
use mathlib.Core.Path.{◌≡◌, refl, sym, ap, subst, ◌∙◌}
use mathlib.Core.Bool.{Bool, true, false, cond, ◌&&◌}
use mathlib.Core.List.{List, [], ◌∷◌, ◌++◌}
use mathlib.Core.Logic.{⊎_elim}
use native.Mathlib.Nat.{eq-zero-or-pos}
use native.Mathlib.Omega.{arith}
use lib.Dec.{eqb, leb}
use lib.ListN.{length, get_or, drop, take, length-take}
use lib.ListN.{take-append-drop}
use lib.Seq.{take-append-add, drop-append-add}
use borrow.Author.Tests.{leb-true}
use Rattle.numbers.proofs.Tests.{by_bool, both, never}
use Rattle.numbers.specs.declared.Refusal.{Refusal}
use Rattle.numbers.specs.declared.Refusal.TheVariants.{BadDeck}
use Rattle.numbers.specs.Limits.{deck_bytes, card_length}
use Rattle.words.specs.Lines.{line_of, lf, onto_line}
use Rattle.words.proofs.WordLaws.{same-equal}
use Rattle.words.proofs.LineLaws.{NoLf, first_ended, no_line, first-line, line-split, line_clean}
use Rattle.cards_fields.specs.Fields.{is_pty}
use Rattle.cards_fields.specs.Deck.{cards_of, termination, is_termination, terminated, before, size, deck_end}
use Rattle.cards_fields.specs.Deck.{opens, onto_group, groups_of, first_group, group_size}
use Rattle.std.specs.Prelude.{Ok, Err}

-- cards take no more bytes than the text has that they are read from
pub size-cards : (s : List ℕ) → size (cards_of s) ≤ length s
size-cards [] = omega arith
size-cards (b ∷ s) = by (eqb b 10) (size-cards s)
  where
    line : (cs : List (List ℕ)) → size (onto_line b cs) ≤ suc (size cs)
    line [] = omega arith
    line (c ∷ cs) = omega arith

    by : (x : Bool) → size (cards_of s) ≤ length s → size (cond x ([] ∷ cards_of s) (onto_line b (cards_of s))) ≤ suc (length s)
    by true h = omega arith
    by false h = omega (arith, line (cards_of s))

-- one card further
cut-one : (c r : List ℕ) (a b : List (List ℕ)) → NoLf c → (cards_of (take (size a) r) ≡ a) × (cards_of (drop (size a) r) ≡ b)
    → (cards_of (take (size (c ∷ a)) (c ++ (lf ∷ r))) ≡ c ∷ a) × (cards_of (drop (size (c ∷ a)) (c ++ (lf ∷ r))) ≡ b)
cut-one c r a b n ih =
    let k : length c + 1 + size a ≡ length c + suc (size a) = omega arith in (
      rw (k, take-append-add c (lf ∷ r) (suc (size a))) (first_ended c (take (size a) r) n ∙ ap (λ (l : List (List ℕ)). c ∷ l) ih.0),
      rw (k, drop-append-add c (lf ∷ r) (suc (size a))) ih.1,
    )

-- a text is cut where cards end
pub cut : (a b : List (List ℕ)) (s : List ℕ) → cards_of s ≡ a ++ b → (cards_of (take (size a) s) ≡ a) × (cards_of (drop (size a) s) ≡ b)
cut [] b s e = (refl, e)
cut (c ∷ a) b s e =
    ⊎_elim
    (λ z. let n : [] ≡ c ∷ (a ++ b) = sym (no_line s (omega arith)) ∙ e in let z : ◌≡◌ {A = ℕ} 0 1 = cc in absurd (omega arith))
    (λ p.
    let f : line_of s ∷ cards_of (drop (suc (length (line_of s))) s) ≡ c ∷ (a ++ b) = sym (first-line s (omega arith)) ∙ e in
    let i : line_of s ≡ c = cc in
    let j : cards_of (drop (suc (length (line_of s))) s) ≡ a ++ b = cc in
    let r = drop (suc (length (line_of s))) s in
    let w : s ≡ c ++ (lf ∷ r) = line-split s (omega arith) ∙ ap (λ (l : List ℕ). l ++ (lf ∷ r)) i in
    subst (λ (l : List ℕ). (cards_of (take (size (c ∷ a)) l) ≡ c ∷ a) × (cards_of (drop (size (c ∷ a)) l) ≡ b)) (sym w)
    (cut-one c r a b (subst (λ (l : List ℕ). NoLf l) i (line_clean s)) (cut a b r j)))
    (eq-zero-or-pos (length s - length (line_of s)))

-- the first group is the first cards, and the others are the groups of the rest
record Splits (cs : List (List ℕ)) : Type 0 where
  whole : cs ≡ first_group cs ++ drop (length (first_group cs)) cs
  next : groups_of cs ≡ first_group cs ∷ groups_of (drop (length (first_group cs)) cs)

splits : (c : List ℕ) (cs : List (List ℕ)) → Splits (c ∷ cs)
splits c [] = record { whole = refl; next = refl }
splits c (d ∷ ds) =
    let ih = splits d ds in
    by_bool (is_pty d)
    (λ t. record { whole = rw t; next = rw t })
    (λ t. record { whole = rw (t, ih.next) (ap (λ (l : List (List ℕ)). c ∷ l) ih.whole); next = rw (t, ih.next) })

-- EACH GROUP IN TURN: a text that has a card has groups, the first of which is the cards of its first `group_size`
-- bytes, the others those of the rest
pub record Turn (s : List ℕ) : Type 0 where
  pub first : cards_of (take (group_size s) s) ≡ first_group (cards_of s)
  pub next : groups_of (cards_of s) ≡ cards_of (take (group_size s) s) ∷ groups_of (cards_of (drop (group_size s) s))

pub in-turn : (s c : List ℕ) (cs : List (List ℕ)) → cards_of s ≡ c ∷ cs → Turn s
in-turn s c cs e =
    let p : Splits (cards_of s) = subst (λ (l : List (List ℕ)). Splits l) (sym e) (splits c cs) in
    let q = cut (first_group (cards_of s)) (drop (length (first_group (cards_of s))) (cards_of s)) s p.whole in
    record { first = q.0; next = p.next ∙ cc (q.0, q.1) }

-- and a text without a card has none
pub no-turn : (s : List ℕ) → cards_of s ≡ [] → groups_of (cards_of s) ≡ []
no-turn s e = rw e

-- the first group is some of the cards, and has a byte at least
first-size : (c : List ℕ) (cs : List (List ℕ)) → (1 ≤ size (first_group (c ∷ cs))) × (size (first_group (c ∷ cs)) ≤ size (c ∷ cs))
first-size c [] = (omega arith, omega arith)
first-size c (d ∷ ds) = by (opens (d ∷ ds)) (groups_of (d ∷ ds)) (first-size d ds).1
  where
    by : (b : Bool) (gs : List (List (List ℕ))) → size (get_or gs 0 []) ≤ size (d ∷ ds)
        → (1 ≤ size (get_or (onto_group c b gs) 0 [])) × (size (get_or (onto_group c b gs) 0 []) ≤ length c + 1 + size (d ∷ ds))
    by true gs h = (omega arith, omega arith)
    by false [] h = (omega arith, omega arith)
    by false (g ∷ gs) h = (omega arith, omega arith)

-- a text without cards has no group; else its groups are the cards of its first bytes, and those of the rest
pub record First (d : List ℕ) : Type 0 where
  pub some : 1 ≤ group_size d
  pub within : group_size d ≤ length d
  pub sized : size (cards_of (take (group_size d) d)) ≡ group_size d
  pub next : groups_of (cards_of d) ≡ cards_of (take (group_size d) d) ∷ groups_of (cards_of (drop (group_size d) d))

first_of : (d c : List ℕ) (cs : List (List ℕ)) → cards_of d ≡ c ∷ cs → First d
first_of d c cs e =
    let p : (1 ≤ size (first_group (cards_of d))) × (size (first_group (cards_of d)) ≤ size (cards_of d)) =
    subst (λ (l : List (List ℕ)). (1 ≤ size (first_group l)) × (size (first_group l) ≤ size l)) (sym e) (first-size c cs) in
    let t = in-turn d c cs e in
    record { some = p.0; within = omega (arith, p.1, size-cards d); sized = ap size t.first; next = t.next }

pub data Either (d : List ℕ) : Type 0 where
  empty : groups_of (cards_of d) ≡ [] → group_size d ≡ 0 → Either d
  full : First d → Either d

pub either : (d : List ℕ) → Either d
either d = by (cards_of d) refl
  where
    by : (cs : List (List ℕ)) → cards_of d ≡ cs → Either d
    by [] e = empty (rw e) (rw e)
    by (c ∷ cs) e = full (first_of d c cs e)

-- what the code finds there: no group where it has no byte, else the first
pub no-groups : (d : List ℕ) → length (take (group_size d) d) ≡ 0 → groups_of (cards_of d) ≡ []
no-groups d h = by (either d)
  where
    by : Either d → groups_of (cards_of d) ≡ []
    by (empty e z) = e
    by (full f) = absurd (omega (arith, f.some, f.within, length-take (group_size d) d))

pub first_group_lem : (d : List ℕ) → (length (take (group_size d) d) ≡ 0 → ⊥) → First d
first_group_lem d n = by (either d)
  where
    by : Either d → First d
    by (empty e z) = absurd (n (rw z))
    by (full f) = f

before-front : (cs : List (List ℕ)) → cs ≡ before cs ++ drop (length (before cs)) cs
before-front [] = refl
before-front (c ∷ cs) = test (is_termination c) (before-front cs)
  where
    test : (x : Bool) → cs ≡ before cs ++ drop (length (before cs)) cs
        → c ∷ cs ≡ cond x [] (c ∷ before cs) ++ drop (length (cond x [] (c ∷ before cs))) (c ∷ cs)
    test true ih = refl
    test false ih = ap (λ (l : List (List ℕ)). c ∷ l) ih

-- the termination card stands among the cards of a deck that has one
size-before : (cs : List (List ℕ)) → terminated cs ≡ true → size (before cs) + (card_length + 1) ≤ size cs
size-before [] t = never t refl
size-before (c ∷ cs) t = by (is_termination c) refl t (size-before cs)
  where
    by : (x : Bool) → is_termination c ≡ x → cond x true (terminated cs) ≡ true
        → (terminated cs ≡ true → size (before cs) + (card_length + 1) ≤ size cs)
        → size (cond x [] (c ∷ before cs)) + (card_length + 1) ≤ length c + 1 + size cs
    by true e t h = let l : length c ≡ card_length = ap length (same-equal c termination e) in omega arith
    by false e t h = omega (arith, h t)

-- WHERE A DECK ENDS that is read
pub record Ends (s : List ℕ) (n : ℕ) : Type 0 where
  pub is : n ≡ size (before (cards_of s))
  pub within : n + (card_length + 1) ≤ length s
  pub most : length s ≤ deck_bytes

pub ends : (s : List ℕ) (n : ℕ) → deck_end s ≡ Ok n → Ends s n
unfolding deck_end
ends s n e =
    by_bool (leb (length s) deck_bytes && terminated (cards_of s))
    (λ t. let i : Ok (size (before (cards_of s))) ≡ Ok n = rw t at e in
    let k : size (before (cards_of s)) ≡ n = cc in
    let p = both (leb (length s) deck_bytes) (terminated (cards_of s)) t in
    record { is = cc; within = omega (arith, size-before (cards_of s) p.1, size-cards s); most = leb-true (length s) deck_bytes p.0 })
    (λ t. let i : Err BadDeck ≡ Ok n = rw t at e in let z : ◌≡◌ {A = ℕ} 0 1 = cc in absurd (omega arith))

-- and one that is not has one refusal
pub refused-bad : (s : List ℕ) (refusal : Refusal) → deck_end s ≡ Err refusal → refusal ≡ BadDeck
unfolding deck_end
refused-bad s refusal e =
    by_bool (leb (length s) deck_bytes && terminated (cards_of s))
    (λ t. let i : Ok (size (before (cards_of s))) ≡ Err refusal = rw t at e in let z : ◌≡◌ {A = ℕ} 0 1 = cc in absurd (omega arith))
    (λ t. let i : Err BadDeck ≡ Err refusal = rw t at e in cc)

-- THE PART OF A DECK UP TO ITS TERMINATION CARD HAS THE CARDS BEFORE IT
pub deck-cards : (s : List ℕ) (n : ℕ) → deck_end s ≡ Ok n → cards_of (take n s) ≡ before (cards_of s)
deck-cards s n e =
    rw (ends s n e).is (cut (before (cards_of s)) (drop (length (before (cards_of s))) (cards_of s)) s (before-front (cards_of s))).0

-- THE CARDS BEHIND THE FIRST FEW
pub behind-cards : (s : List ℕ) (k : ℕ) → cards_of (drop (size (take k (cards_of s))) s) ≡ drop k (cards_of s)
behind-cards s k = (cut (take k (cards_of s)) (drop k (cards_of s)) s (sym (take-append-drop k (cards_of s)))).1
