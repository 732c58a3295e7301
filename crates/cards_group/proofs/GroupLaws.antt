-- The order of a group's errors and what the group reads as, by the tests that the code makes. Assumes nothing.
use Prim.Native.Nat.{ℕ, ◌≤◌, ◌<◌}
use mathlib.Core.Path.{◌≡◌, refl, sym, ap, subst, ◌∙◌}
use mathlib.Core.Bool.{true, false, ◌||◌, not}
use mathlib.Core.List.{List, [], ◌∷◌}
use lib.Dec.{eqb}
use lib.ListN.{length, get_or, drop}
use borrow.Author.Tests.{le-leb, le-ltb, lt-ltb, eq-eqb, ne_eqb}
use Rattle.numbers.proofs.Tests.{never}
use Rattle.numbers.specs.Elements.{any}
use Rattle.numbers.specs.Limits.{most_cards}
use Rattle.words.specs.Words.{value}
use Rattle.cards_fields.specs.Fields.{field, field_is, padded}
use Rattle.cards_request.specs.Errors.{error_if, good, or_else}
use Rattle.cards_request.proofs.ErrorLaws.{good-is, or-else-good, or_else_some, or_else_none}
use Rattle.cards_fac.specs.Fac.{facilities_of, asks_of, asked_answer, is_fac, fac_error, asked, fac_of}
use Rattle.cards_request.specs.Requests.{no_further, no_request}
use Rattle.cards_pty.specs.Pty.{pty_error}
use Rattle.cards_tal.specs.Tal.{is_tal}
use Rattle.cards_trn.specs.Trn.{is_trn}
use Rattle.cards_further.specs.Together.{apart}
use Rattle.cards_further.specs.Further.{other_than, types_error, together_error, contents_error, pm_wrong, unknown, unnumbered}
pub use Rattle.cards_group.specs.Steps.{front_error, order_error}
use Rattle.cards_group.specs.Group.{wrong_count, other_id, mark, ordered_error, request_of, answer}
use Rattle.cards_group.specs.Group.{full_answer, further_of, read_cards, read_group, read_full}
use Rattle.cards_request.specs.declared.CardError.TheVariants.{
  WrongCount,
  NoFac,
  LaterFac,
  UnknownCard,
  OtherId,
  PmNumber,
  PmWrong,
  TalApart,
  TrnApart,
}
use Rattle.cards_request.specs.Errors.{CardVerdict}
use Rattle.std.specs.Prelude.{Result, Ok, Err}
use Rattle.cards_request.specs.declared.CardError.{CardError}
use Rattle.cards_request.specs.declared.Facilities.{Facilities}
use Rattle.cards_request.specs.declared.Request.{Request}
use Rattle.cards_request.specs.declared.Further.{Further}
use Rattle.cards_group.specs.declared.Reading.{Reading}
use Rattle.cards_group.specs.declared.FullReading.{FullReading}

pub mark-padded : (t : List ℕ) → get_or (padded 12 t) 0 0 ≡ mark t
mark-padded [] = refl
mark-padded (b ∷ t) = refl

-- the errors up to the second card's type, by the tests that the code makes
module _ (n : ℕ) (pty fac : List ℕ) where
  pub front-pty : (e : CardVerdict) → e ≡ pty_error pty → good e ≡ false → e ≡ front_error n pty fac
  front-pty e is h = rw (← is) (sym (or_else_some e _ h))

  module _ (p : pty_error pty ≡ Ok tt) where
    pub front-many : most_cards < n → front_error n pty fac ≡ Err WrongCount
    front-many h = rw (p, lt-ltb most_cards n h)

    module _ (m : n ≤ most_cards) where
      pub front-count : (value (field pty 2) ≡ n → ⊥) → front_error n pty fac ≡ Err WrongCount
      front-count h = rw (p, le-ltb most_cards n m, ne_eqb (value (field pty 2)) n h)

      module _ (c : value (field pty 2) ≡ n) where
        counted : eqb (value (field pty 2)) n ≡ true
        counted = eq-eqb (value (field pty 2)) n c

        pub front-other : is_fac fac ≡ false → front_error n pty fac ≡ Err NoFac
        front-other h = rw (p, le-ltb most_cards n m, counted, h)

        pub front-good : is_fac fac ≡ true → front_error n pty fac ≡ Ok tt
        front-good h = rw (p, le-ltb most_cards n m, counted, h)

-- a word of at most twelve bytes is the PTY card's ID
pub other-id : (pty c id : List ℕ) → id ≡ field pty 0 → length (field pty 0) ≤ 12 → not (field_is c 0 id) ≡ other_id pty c
other-id pty c id e h = rw (e, le-leb (length (field pty 0)) 12 h)

pub any-other : (pty id : List ℕ) (cs : List (List ℕ)) → id ≡ field pty 0 → length (field pty 0) ≤ 12
    → any (other_than id) cs ≡ any (other_id pty) cs
any-other pty id [] e h = refl
any-other pty id (c ∷ cs) e h = rw (other-id pty c id e h, any-other pty id cs e h)

-- the errors in between, by the tests that the code makes
module _ (pty fac : List ℕ) (further : List (List ℕ)) (e : CardVerdict) (is : e ≡ types_error further) where
  pub order-types : good e ≡ false → e ≡ order_error pty fac further
  order-types h = rw (← is) (sym (or_else_some e _ h))

  pub order-ids : good e ≡ true → (other_id pty fac || any (other_id pty) further) ≡ true → order_error pty fac further ≡ Err OtherId
  order-ids h o = rw (← is, good-is e h, o)

  pub order-together : good e ≡ true → (other_id pty fac || any (other_id pty) further) ≡ false → order_error pty fac further ≡ together_error further
  order-together h o = rw (← is, good-is e h, o) (or-else-good (together_error further))

-- an error alone
answer-alone : (v : CardVerdict) (r : Request) → good v ≡ false → answer v r ≡ answer v no_request
answer-alone (Ok tt) r h = never refl h
answer-alone (Err e) r h = refl

-- THE ORDER IN FOUR STEPS: the front, what goes by number, the FAC card's, the further cards'
chain : (a b c d e f g h i j k l : CardVerdict)
    → or_else a (or_else b (or_else c (or_else d (or_else e (or_else f (or_else g (or_else h (or_else i (or_else j (or_else k (or_else l (Ok tt))))))))))))
    ≡ or_else (or_else a (or_else b (or_else c (Ok tt))))
    (or_else (or_else (or_else d e) (or_else f (or_else (or_else g (or_else h (or_else i (or_else j (Ok tt))))) (Ok tt)))) (or_else k l))
chain (Err x) b c d e f g h i j k l = refl
chain (Ok tt) (Err x) c d e f g h i j k l = refl
chain (Ok u1) (Ok u2) (Err x) d e f g h i j k l = refl
chain (Ok u1) (Ok u2) (Ok u3) (Err x) e f g h i j k l = refl
chain (Ok u1) (Ok u2) (Ok u3) (Ok u4) (Err x) f g h i j k l = refl
chain (Ok u1) (Ok u2) (Ok u3) (Ok u4) (Ok u5) (Err x) g h i j k l = refl
chain (Ok u1) (Ok u2) (Ok u3) (Ok u4) (Ok u5) (Ok u6) (Err x) h i j k l = refl
chain (Ok u1) (Ok u2) (Ok u3) (Ok u4) (Ok u5) (Ok u6) (Ok u7) (Err x) i j k l = refl
chain (Ok u1) (Ok u2) (Ok u3) (Ok u4) (Ok u5) (Ok u6) (Ok u7) (Ok u8) (Err x) j k l = refl
chain (Ok u1) (Ok u2) (Ok u3) (Ok u4) (Ok u5) (Ok u6) (Ok u7) (Ok u8) (Ok u9) (Err x) k l = refl
chain (Ok u1) (Ok u2) (Ok u3) (Ok u4) (Ok u5) (Ok u6) (Ok u7) (Ok u8) (Ok u9) (Ok u10) (Err x) l = refl
chain (Ok u1) (Ok u2) (Ok u3) (Ok u4) (Ok u5) (Ok u6) (Ok u7) (Ok u8) (Ok u9) (Ok u10) (Ok u11) (Err x) = refl
chain (Ok u1) (Ok u2) (Ok u3) (Ok u4) (Ok u5) (Ok u6) (Ok u7) (Ok u8) (Ok u9) (Ok u10) (Ok u11) (Ok u12) = refl

pub in-steps : (n : ℕ) (pty fac : List ℕ) (further : List (List ℕ))
    → ordered_error n pty fac further
    ≡ or_else (front_error n pty fac) (or_else (order_error pty fac further) (or_else (fac_error fac) (contents_error false further)))
unfolding ordered_error types_error together_error
in-steps n pty fac further =
    chain
    (pty_error pty)
    (error_if (wrong_count n pty) WrongCount)
    (error_if (not (is_fac fac)) NoFac)
    (error_if (any is_fac further) LaterFac)
    (error_if (any unknown further) UnknownCard)
    (error_if (any (other_id pty) (fac ∷ further)) OtherId)
    (error_if (any unnumbered further) PmNumber)
    (error_if (pm_wrong further) PmWrong)
    (error_if (apart is_tal further) TalApart)
    (error_if (apart is_trn further) TrnApart)
    (fac_error fac)
    (contents_error false further)

-- what the FAC card asks for, or its error
fac-wrong : (v : CardVerdict) (asks : List ℕ) (x : CardError) → asked_answer v asks ≡ Err x → v ≡ Err x
fac-wrong (Ok tt) asks x h = absurd cc
fac-wrong (Err e) asks x h = let i : e ≡ x = cc in ap Err i

fac-asked : (v : CardVerdict) (asks : List ℕ) (g : Facilities) → asked_answer v asks ≡ Ok g → (v ≡ Ok tt) × (g ≡ facilities_of asks)
fac-asked (Ok tt) asks g h = let i : g ≡ facilities_of asks = cc in (refl, i)
fac-asked (Err e) asks g h = absurd cc

-- what the group reads as
module _ (n : ℕ) (pty fac : List ℕ) (further : List (List ℕ)) (front : CardVerdict) (is : front ≡ front_error n pty fac) where
  pub front-pty-good : good front ≡ true → pty_error pty ≡ Ok tt
  front-pty-good z = (or_else_none (pty_error pty) _ (sym is ∙ good-is front z)).0

  alone : (v : CardVerdict) → ordered_error n pty fac further ≡ v → good v ≡ false → read_cards n pty fac further ≡ answer v no_request
  unfolding read_cards
  alone v e h = rw e (answer-alone v (request_of pty (asked fac)) h)

  pub read-front : good front ≡ false → read_cards n pty fac further ≡ answer front no_request
  read-front h = alone front (in-steps n pty fac further ∙ rw (← is) (or_else_some front _ h)) h

  module _ (z : good front ≡ true) (order : CardVerdict) (ordered : order ≡ order_error pty fac further) where
    pub read-order : good order ≡ false → read_cards n pty fac further ≡ answer order no_request
    read-order h = alone order (in-steps n pty fac further ∙ rw (← is, good-is front z, ← ordered) (or_else_some order _ h)) h

    module _ (y : good order ≡ true) (f : Result Facilities CardError) (of : f ≡ fac_of fac) where
      behind : ordered_error n pty fac further ≡ or_else (fac_error fac) (contents_error false further)
      behind = in-steps n pty fac further ∙ rw (← is, good-is front z, ← ordered, good-is order y) refl

      pub read-wrong : (x : CardError) → f ≡ Err x → read_cards n pty fac further ≡ answer (Err x) no_request
      unfolding fac_of
      read-wrong x e =
          let w : fac_error fac ≡ Err x = fac-wrong (fac_error fac) (asked fac) x (sym of ∙ e) in
          alone (Err x) (behind ∙ rw w) refl

      module _ (g : Facilities) (e : f ≡ Ok g) (k : CardVerdict) (contents : k ≡ contents_error false further) where
        last : ordered_error n pty fac further ≡ k
        unfolding fac_of
        last = behind ∙ rw ((fac-asked (fac_error fac) (asked fac) g (sym of ∙ e)).0) (sym contents)

        pub read-contents : good k ≡ false → read_cards n pty fac further ≡ answer k no_request
        read-contents h = alone k last h

        pub read-good : good k ≡ true → (r : Request) → r ≡ request_of pty (asks_of g)
            → ◌≡◌ {A = Reading} (record { verdict = Ok tt; request = r }) (read_cards n pty fac further)
        unfolding read_cards fac_of
        read-good q r m =
            let a : g ≡ facilities_of (asked fac) = (fac-asked (fac_error fac) (asked fac) g (sym of ∙ e)).1 in
            let b : request_of pty (asks_of g) ≡ request_of pty (asked fac) = ap (λ (y : Facilities). request_of pty (asks_of y)) a in
            rw (last ∙ good-is k q, m, b)

-- with the further cards
full-good : (v : CardVerdict) (q : Request) (f : Further) → good v ≡ true
    → ◌≡◌ {A = FullReading} (record { verdict = v; full = record { request = q; further = f } }) (full_answer v q f)
full-good (Ok tt) q f h = refl
full-good (Err e) q f h = never h refl

pub full-read : (cards : List (List ℕ)) (r : Reading) → r ≡ read_group cards → good r.verdict ≡ true → (f : Further) → f ≡ further_of cards
    → ◌≡◌ {A = FullReading} (record { verdict = r.verdict; full = record { request = r.request; further = f } }) (read_full cards)
unfolding read_full
full-read cards r e g f h =
    full-good r.verdict r.request f g
    ∙ ap (λ (x : Reading). full_answer x.verdict x.request f) e
    ∙ ap (full_answer (read_group cards).verdict (read_group cards).request) h

wrong-alone : (v : CardVerdict) (q : Request) (f g : Further) → good (answer v q).verdict ≡ false → f ≡ no_further
    → ◌≡◌ {A = FullReading} (record { verdict = (answer v q).verdict; full = record { request = (answer v q).request; further = f } })
    (full_answer (answer v q).verdict (answer v q).request g)
wrong-alone (Ok tt) q f g h e = never refl h
wrong-alone (Err x) q f g h e = rw e

pub full-wrong : (cards : List (List ℕ)) (r : Reading) → r ≡ read_group cards → good r.verdict ≡ false → (f : Further) → f ≡ no_further
    → ◌≡◌ {A = FullReading} (record { verdict = r.verdict; full = record { request = r.request; further = f } }) (read_full cards)
unfolding read_full read_cards
full-wrong cards r e g f h =
    let n = length cards in
    let pty = get_or cards 0 [] in
    let fac = get_or cards 1 [] in
    let v = ordered_error n pty fac (drop 2 cards) in
    let q = request_of pty (asked fac) in
    ap (λ (x : Reading). record { verdict = x.verdict; full = record { request = x.request; further = f } }) e
    ∙ wrong-alone v q f (further_of cards) (subst (λ (x : Reading). good x.verdict ≡ false) e g) h
