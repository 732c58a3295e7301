-- FURTHER CARDS, WRITTEN AND READ: cards that keep the rules, written behind an ID in at most 80 characters each, have no
-- error and are held as they were written; good cards mean cards that keep the rules and are written in no more
-- characters than they had. Assumes nothing.
use Prim.Native.Nat.{ℕ, suc, ◌+◌, ◌≤◌}
use mathlib.Core.Path.{◌≡◌, refl, sym, ap, subst, ◌∙◌}
use mathlib.Core.Bool.{Bool, true, false, cond, ◌&&◌, ◌||◌, not}
use mathlib.Core.List.{List, [], ◌∷◌, ◌++◌, append_assoc}
use mathlib.Core.Option.{none, some}
use native.Mathlib.Omega.{arith}
use lib.Dec.{leb}
use lib.ListN.{length}
use borrow.Author.Tests.{leb-true}
use Rattle.numbers.proofs.Tests.{by_bool, never, both}
use Rattle.numbers.specs.Elements.{any}
use Rattle.numbers.specs.Limits.{card_length, most_further, text_length}
use Rattle.words.specs.Words.{every}
use Rattle.words.specs.Lines.{lf, lines_text}
use Rattle.words.proofs.WordLaws.{same_self}
use Rattle.words.proofs.LineLaws.{NoLf, first_ended}
use Rattle.cards_fields.specs.Deck.{cards_of}
use Rattle.cards_fields.specs.Fields.{field}
use Rattle.cards_fields.proofs.CardLaws.{plain}
use Rattle.cards_request.specs.Errors.{error_if, or_else}
use Rattle.cards_request.proofs.ErrorLaws.{or_else_none, not-error}
use Rattle.cards_request.specs.declared.CardError.TheVariants.{LaterFac, UnknownCard, PmNumber, PmWrong, TalApart, TrnApart}
use Rattle.std.specs.Prelude.{Ok}
use Rattle.cards_fac.specs.Fac.{is_fac}
use Rattle.cards_tal.specs.Tal.{is_tal}
use Rattle.cards_trn.specs.Trn.{is_trn, has_count}
use Rattle.cards_pm.specs.Pm.{is_pm, rising}
use Rattle.cards_further.specs.Together.{apart}
use Rattle.cards_further.specs.Further.{unknown, unnumbered, faulty, types_error, pm_wrong, together_error}
use Rattle.cards_further.specs.Further.{content_error, contents_error, canonical, canonicals}
use Rattle.cards_group.specs.Group.{other_id}
use Rattle.cards_full.specs.Full.{behind_id, short}
use Rattle.cards_round.specs.AllowedFurther.{Card, tal, trn, pm, text_in, texts_of, Proper, AllProper, counts, Kept}
use Rattle.cards_round.proofs.Meaning.{Stands, AllStand, counted, none_of, tals-as, trns-as, pms-as, rises-as}
use Rattle.cards_round.proofs.Meaning.{written_stands, written-content, written-id, written-line, Meant, meant}
use Rattle.cards_fields.proofs.RoundLaws.{neither}

-- ---- lists

-- no card of a list has an LF in it
abbrev pub AllLines : List (List ℕ) → Type 0
AllLines [] = Unit {0}
AllLines (c ∷ cs) = NoLf c × AllLines cs

-- so that they are cut where they were put together
pub cards-back : (cs : List (List ℕ)) → AllLines cs → cards_of (lines_text cs) ≡ cs
cards-back [] n = refl
cards-back (c ∷ cs) n =
    ap cards_of (append_assoc c (lf ∷ []) (lines_text cs)) ∙ first_ended c (lines_text cs) n.0
    ∙ ap (λ (l : List (List ℕ)). c ∷ l) (cards-back cs n.1)

-- each text has at most 78 characters
abbrev pub AllFew : List (List ℕ) → Type 0
AllFew [] = Unit {0}
AllFew (t ∷ ts) = (length t ≤ text_length) × AllFew ts

-- how many counts
count-step : (m : Card) (ms : List Card) → counts (m ∷ ms) ≡ cond (counted m) (suc (counts ms)) (counts ms)
count-step (tal is) ms = refl
count-step (trn none ts) ms = refl
count-step (trn (some n) ts) ms = refl
count-step (pm s) ms = refl

-- ---- cards that stand for what keeps the rules

known : (m : Card) (c : List ℕ) → Stands m c → unknown c ≡ false
known (tal is) c s = rw (s.fac, s.talled)
known (trn n ts) c s = rw (s.fac, s.talled, s.trned)
known (pm x) c s = rw (s.fac, s.talled, s.trned, s.pmed)

pub canonicals-as : (ms : List Card) (cs : List (List ℕ)) → AllStand ms cs → canonicals cs ≡ texts_of ms
canonicals-as [] [] s = refl
canonicals-as [] (c ∷ cs) s = absurd s
canonicals-as (m ∷ ms) [] s = absurd s
canonicals-as (m ∷ ms) (c ∷ cs) s = rw (s.0.text, canonicals-as ms cs s.1)

module _ (ms : List Card) (k : Kept ms) (cs : List (List ℕ)) (s : AllStand ms cs) where
  pub types-right : types_error cs ≡ Ok tt
  unfolding types_error
  types-right = rw (none_of is_fac (λ m c x. x.fac) ms cs s, none_of unknown known ms cs s)

  pms-right : pm_wrong cs ≡ false
  unfolding pm_wrong
  pms-right = rw (pms-as ms cs s ∙ k.pms, none_of faulty (λ m c x. x.form) ms cs s, rises-as ms cs s ∙ k.digits)

  pub together-right : together_error cs ≡ Ok tt
  unfolding together_error
  together-right = rw (none_of unnumbered (λ m c x. x.number) ms cs s, pms-right, tals-as ms cs s ∙ k.tals, trns-as ms cs s ∙ k.trns)

-- ---- what was written

module _ (id : List ℕ) (d : every plain id ≡ true) where
  abbrev behind : List Card → List (List ℕ)
  behind ms = behind_id id (texts_of ms)

  pub written-lines : (ms : List Card) → AllProper ms → AllLines (behind ms)
  written-lines [] p = tt
  written-lines (m ∷ ms) p = (written-line id d m p.0.0, written-lines ms p.1)

  pub written-ids : (pty : List ℕ) → field pty 0 ≡ id → (ms : List Card) → AllProper ms → any (other_id pty) (behind ms) ≡ false
  written-ids pty e [] p = refl
  written-ids pty e (m ∷ ms) p = rw (written-id id d m p.0.0, e, same_self id) (written-ids pty e ms p.1)

  pub written-stand : (ms : List Card) → AllProper ms → short (behind ms) ≡ true → AllStand ms (behind ms)
  written-stand [] p h = tt
  written-stand (m ∷ ms) p h =
      let q = both (leb (length (id ++ (44 ∷ text_in m))) card_length) (short (behind ms)) h in
      (written_stands id d m p.0.0 (leb-true (length (id ++ (44 ∷ text_in m))) card_length q.0), written-stand ms p.1 q.1)

  pub written-contents : (already : Bool) (ms : List Card) → AllProper ms → short (behind ms) ≡ true → (already ≡ true → counts ms ≡ 0)
      → counts ms ≤ 1 → contents_error already (behind ms) ≡ Ok tt
  written-contents already [] p h f n = refl
  written-contents already (m ∷ ms) p h f n =
      let c = id ++ (44 ∷ text_in m) in
      let q = both (leb (length c) card_length) (short (behind ms)) h in
      let l = leb-true (length c) card_length q.0 in
      let s = written_stands id d m p.0.0 l in
      let u = count-step m ms in
      rw (
        written-content id d m p.0.0 l already
            (λ e. by_bool already (λ a. let v : counts (m ∷ ms) ≡ suc (counts ms) = rw e at u in absurd (omega (arith, f a))) (λ a. a)),
        s.count,
      )
      (written-contents (already || counted m) ms p.1 q.1 (λ a. rest a) (omega (arith, less)))
    where
      less : counts ms ≤ counts (m ∷ ms)
      less = rw (count-step m ms) (by_bool (counted m) (λ e. rw e (omega arith)) (λ e. rw e (omega arith)))

      rest : (already || counted m) ≡ true → counts ms ≡ 0
      rest a =
          by_bool (counted m)
          (λ e. let v : counts (m ∷ ms) ≡ suc (counts ms) = rw e at (count-step m ms) in omega arith)
          (λ e. let b : already ≡ true = by_bool already (λ x. x) (λ x. never a (rw (x, e))) in omega (arith, f b, less))

  -- IT HAS NO ERROR, and is held as it was written
  module _ (ms : List Card) (k : Kept ms) (h : short (behind ms) ≡ true) where
    pub written-types : types_error (behind ms) ≡ Ok tt
    written-types = types-right ms k (behind ms) (written-stand ms k.each h)

    pub written-together : together_error (behind ms) ≡ Ok tt
    written-together = together-right ms k (behind ms) (written-stand ms k.each h)

    pub written-content-all : contents_error false (behind ms) ≡ Ok tt
    written-content-all = written-contents false ms k.each h (λ e. never e refl) k.count

    pub written-again : canonicals (behind ms) ≡ texts_of ms
    written-again = canonicals-as ms (behind ms) (written-stand ms k.each h)

-- ---- what was read

-- each card has room for what is written of it, behind its own ID, and at most 80 characters
abbrev pub AllRoom : List (List ℕ) → Type 0
AllRoom [] = Unit {0}
AllRoom (c ∷ cs) = ((length (canonical c) + 1 + length (field c 0) ≤ length c) × (length c ≤ card_length)) × AllRoom cs

abbrev EachProper : List Card → Type 0
EachProper [] = Unit {0}
EachProper (m ∷ ms) = Proper m × EachProper ms

record AllMeant (already : Bool) (cs : List (List ℕ)) : Type 0 where
  pub cards : List Card
  pub stand : AllStand cards cs
  pub each : EachProper cards
  pub many : counts cards ≤ 1
  pub first : already ≡ true → counts cards ≡ 0
  pub room : AllRoom cs

all-meant : (already : Bool) (cs : List (List ℕ)) → any is_fac cs ≡ false → any unknown cs ≡ false → any unnumbered cs ≡ false
    → any faulty cs ≡ false → contents_error already cs ≡ Ok tt → AllMeant already cs
all-meant already [] a b c d e = record { cards = []; stand = tt; each = tt; many = omega arith; first = λ x. refl; room = tt }
all-meant already (x ∷ xs) a b c d e =
    let a₁ = neither (is_fac x) (any is_fac xs) a in
    let b₁ = neither (unknown x) (any unknown xs) b in
    let c₁ = neither (unnumbered x) (any unnumbered xs) c in
    let d₁ = neither (faulty x) (any faulty xs) d in
    let e₁ = or_else_none (content_error already x) (contents_error (already || (is_trn x && has_count x)) xs) e in
    let here = meant already x a₁.0 b₁.0 c₁.0 d₁.0 e₁.0 in
    let f : contents_error (already || counted here.card) xs ≡ (Ok tt) = rw here.stands.count at e₁.1 in
    joined here (all-meant (already || counted here.card) xs a₁.1 b₁.1 c₁.1 d₁.1 f)
  where
    joined : (here : Meant already x) → AllMeant (already || counted here.card) xs → AllMeant already (x ∷ xs)
    joined here rest =
        let u = count-step here.card rest.cards in
        record {
          cards = here.card ∷ rest.cards;
          stand = (here.stands, rest.stand);
          each = (here.proper, rest.each);
          many = by_bool (counted here.card)
              (λ t.
              let z : already || counted here.card ≡ true = by_bool already (λ y. rw y) (λ y. rw (y, t)) in
              let v : counts (here.card ∷ rest.cards) ≡ suc (counts rest.cards) = rw t at u in omega (arith, rest.first z))
              (λ t. let v : counts (here.card ∷ rest.cards) ≡ counts rest.cards = rw t at u in omega (arith, rest.many));
          first = λ y.
              let t = here.first y in
              let v : counts (here.card ∷ rest.cards) ≡ counts rest.cards = rw t at u in
              omega (arith, rest.first (rw y));
          room = ((here.room, here.short), rest.room);
        }

-- WHAT GOOD CARDS MEAN
pub record FurtherMeant (cs : List (List ℕ)) : Type 0 where
  pub cards : List Card
  pub is : canonicals cs ≡ texts_of cards
  pub lines : AllLines (canonicals cs)
  pub kept : length cs ≤ most_further → AllFew (canonicals cs) → Kept cards
  pub room : AllRoom cs

stand-many : (ms : List Card) (cs : List (List ℕ)) → AllStand ms cs → length ms ≡ length cs
stand-many [] [] s = refl
stand-many [] (c ∷ cs) s = absurd s
stand-many (m ∷ ms) [] s = absurd s
stand-many (m ∷ ms) (c ∷ cs) s = ap suc (stand-many ms cs s.1)

proper-lines : (ms : List Card) → EachProper ms → AllLines (texts_of ms)
proper-lines [] p = tt
proper-lines (m ∷ ms) p = ((written-line [] refl m p.0).1, proper-lines ms p.1)

all-proper : (ms : List Card) → EachProper ms → AllFew (texts_of ms) → AllProper ms
all-proper [] p f = tt
all-proper (m ∷ ms) p f = ((p.0, f.0), all-proper ms p.1 f.1)

module _ (cs : List (List ℕ)) (types : types_error cs ≡ Ok tt) (together : together_error cs ≡ Ok tt) (contents : contents_error false cs ≡ Ok tt) where
  types-tests : (any is_fac cs ≡ false) × (any unknown cs ≡ false)
  unfolding types_error
  types-tests =
      let q = or_else_none (error_if (any is_fac cs) LaterFac) (error_if (any unknown cs) UnknownCard) types in
      (not-error (any is_fac cs) LaterFac q.0, not-error (any unknown cs) UnknownCard q.1)

  together-tests : (any unnumbered cs ≡ false) × ((pm_wrong cs ≡ false) × ((apart is_tal cs ≡ false) × (apart is_trn cs ≡ false)))
  unfolding together_error
  together-tests =
      let last = or_else (error_if (apart is_trn cs) TrnApart) (Ok tt) in
      let a = or_else_none (error_if (any unnumbered cs) PmNumber)
      (or_else (error_if (pm_wrong cs) PmWrong) (or_else (error_if (apart is_tal cs) TalApart) last)) together in
      let b = or_else_none (error_if (pm_wrong cs) PmWrong) (or_else (error_if (apart is_tal cs) TalApart) last) a.1 in
      let c = or_else_none (error_if (apart is_tal cs) TalApart) last b.1 in
      let d = or_else_none (error_if (apart is_trn cs) TrnApart) (Ok tt) c.1 in (
        not-error (any unnumbered cs) PmNumber a.0,
        (not-error (pm_wrong cs) PmWrong b.0, (not-error (apart is_tal cs) TalApart c.0, not-error (apart is_trn cs) TrnApart d.0)),
      )

  pm-tests : (apart is_pm cs ≡ false) × ((any faulty cs ≡ false) × (rising 0 cs ≡ true))
  unfolding pm_wrong
  pm-tests =
      let a = neither (apart is_pm cs) (any faulty cs || not (rising 0 cs)) together-tests.1.0 in
      let b = neither (any faulty cs) (not (rising 0 cs)) a.1 in
      (a.0, (b.0, by_bool (rising 0 cs) (λ e. e) (λ e. never (rw e) b.1)))

  pub further-meant : FurtherMeant cs
  further-meant =
      let w = all-meant false cs types-tests.0 types-tests.1 together-tests.0 pm-tests.1.0 contents in
      let is = canonicals-as w.cards cs w.stand in
      record {
        cards = w.cards;
        is = is;
        lines = subst AllLines (sym is) (proper-lines w.cards w.each);
        kept = λ n f. record {
          few = omega (arith, stand-many w.cards cs w.stand);
          each = all-proper w.cards w.each (subst AllFew is f);
          tals = sym (tals-as w.cards cs w.stand) ∙ together-tests.1.1.0;
          trns = sym (trns-as w.cards cs w.stand) ∙ together-tests.1.1.1;
          pms = sym (pms-as w.cards cs w.stand) ∙ pm-tests.0;
          digits = sym (rises-as w.cards cs w.stand) ∙ pm-tests.1.1;
          count = w.many;
        };
        room = w.room;
      }
