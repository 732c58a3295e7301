-- WHAT FURTHER CARDS MEAN, one by one: a card stands for a meaning where it is of its kind, has its digit and its count,
-- and is written as it; a written card stands for what was written, and a good card for what it means. Then tests over
-- the cards of a list answer as over their meanings. Assumes nothing.
use Prim.Native.Nat.{ℕ, suc, ◌+◌, ◌≤◌}
use mathlib.Core.Path.{◌≡◌, refl, ap}
use mathlib.Core.Bool.{Bool, true, false, ◌&&◌}
use mathlib.Core.List.{List, [], ◌∷◌, ◌++◌}
use native.Mathlib.Omega.{arith}
use lib.Dec.{leb, ltb}
use lib.ListN.{length, take, get_or}
use borrow.Author.Tests.{le-leb, lt-leb, leb-true, leb-false, ltb-true, ltb-false}
use Rattle.numbers.specs.Quoted.{bytes}
use Rattle.numbers.proofs.Tests.{by_bool, never}
use Rattle.numbers.specs.Elements.{any}
use Rattle.numbers.specs.Limits.{card_length}
use Rattle.words.specs.Words.{every, same}
use Rattle.words.proofs.WordLaws.{same-equal}
use Rattle.words.proofs.LineLaws.{NoLf}
use Rattle.cards_fields.specs.Fields.{field, malformed}
use Rattle.cards_fields.proofs.CardLaws.{plain}
use Rattle.cards_fields.proofs.FieldLaws.{too_long}
use Rattle.cards_request.specs.Errors.{error_if}
use Rattle.cards_request.proofs.ErrorLaws.{or_else_none, not-error}
use Rattle.cards_request.specs.declared.CardError.TheVariants.{TalWrong, TrnWrong}
use Rattle.std.specs.Prelude.{Ok}
use Rattle.cards_fac.specs.Fac.{is_fac}
use Rattle.cards_tal.specs.Tal.{is_tal, tal_error}
use Rattle.cards_tal.proofs.TalRound.{tal-written, tal-text, tal-proper, tal-short, meant_increments}
use Rattle.cards_trn.specs.Trn.{is_trn, has_count, trn_error}
use Rattle.cards_trn.specs.Transfers.{is_there}
use Rattle.cards_trn.proofs.TrnMeant.{meant_count, meant_transfers}
use Rattle.cards_trn.proofs.TrnReadBack.{trn-written}
use Rattle.cards_trn.proofs.TrnAgain.{trn-text, trn-proper, trn-short, trn-counts, trn-first}
use Rattle.cards_pm.specs.Pm.{is_pm, numbered, digit_of, pm_fault, pm_malformed, rising}
use Rattle.cards_pm.proofs.PmReadBack.{sheet_in, read_back}
use Rattle.cards_pm.proofs.PmAgain.{held}
use Rattle.cards_further.specs.Together.{apart}
use Rattle.cards_further.specs.Further.{unknown, unnumbered, faulty, content_error, canonical}
use Rattle.cards_round.specs.AllowedFurther.{Card, tal, trn, pm, text_in, Proper, of_tal, of_trn, of_pm, digits_rise}
use Rattle.cards_round.proofs.MarksLaws.{marks, apart-as}

-- ---- a card and a meaning

-- the digit of a PM card, and whether a TRN card has a count
abbrev pub digit_in : Card → ℕ
digit_in (tal increments) = 0
digit_in (trn count transfers) = 0
digit_in (pm sheet) = sheet.digit

abbrev pub counted : Card → Bool
counted (tal increments) = false
counted (trn count transfers) = is_there count
counted (pm sheet) = false

pub record Stands (m : Card) (c : List ℕ) : Type 0 where
  pub fac : is_fac c ≡ false
  pub talled : is_tal c ≡ of_tal m
  pub trned : is_trn c ≡ of_trn m
  pub pmed : is_pm c ≡ of_pm m
  pub number : unnumbered c ≡ false
  pub form : faulty c ≡ false
  pub digit : of_pm m ≡ true → digit_of c ≡ 48 + digit_in m
  pub count : (is_trn c && has_count c) ≡ counted m
  pub text : canonical c ≡ text_in m

-- and each of them
abbrev pub AllStand : List Card → List (List ℕ) → Type 0
AllStand [] [] = Unit {0}
AllStand [] (c ∷ cs) = ⊥
AllStand (m ∷ ms) [] = ⊥
AllStand (m ∷ ms) (c ∷ cs) = Stands m c × AllStand ms cs

module _ where
  -- a test that no card of a list passes, and one that each passes as its meaning does
  pub none_of : (p : List ℕ → Bool) → ((m : Card) (c : List ℕ) → Stands m c → p c ≡ false) → (ms : List Card) (cs : List (List ℕ))
      → AllStand ms cs → any p cs ≡ false
  none_of p h [] [] s = refl
  none_of p h [] (c ∷ cs) s = absurd s
  none_of p h (m ∷ ms) [] s = refl
  none_of p h (m ∷ ms) (c ∷ cs) s = rw (h m c s.0) (none_of p h ms cs s.1)

  marks-as : (p : List ℕ → Bool) (q : Card → Bool) → ((m : Card) (c : List ℕ) → Stands m c → p c ≡ q m) → (ms : List Card) (cs : List (List ℕ))
      → AllStand ms cs → marks p cs ≡ marks q ms
  marks-as p q h [] [] s = refl
  marks-as p q h [] (c ∷ cs) s = absurd s
  marks-as p q h (m ∷ ms) [] s = absurd s
  marks-as p q h (m ∷ ms) (c ∷ cs) s = rw (h m c s.0, marks-as p q h ms cs s.1)

  pub tals-as : (ms : List Card) (cs : List (List ℕ)) → AllStand ms cs → apart is_tal cs ≡ apart of_tal ms
  tals-as ms cs s = apart-as is_tal of_tal cs ms (marks-as is_tal of_tal (λ m c x. x.talled) ms cs s)

  pub trns-as : (ms : List Card) (cs : List (List ℕ)) → AllStand ms cs → apart is_trn cs ≡ apart of_trn ms
  trns-as ms cs s = apart-as is_trn of_trn cs ms (marks-as is_trn of_trn (λ m c x. x.trned) ms cs s)

  pub pms-as : (ms : List Card) (cs : List (List ℕ)) → AllStand ms cs → apart is_pm cs ≡ apart of_pm ms
  pms-as ms cs s = apart-as is_pm of_pm cs ms (marks-as is_pm of_pm (λ m c x. x.pmed) ms cs s)

-- the digits rise as the meanings' do
shift : (k d : ℕ) → leb (suc (48 + k)) (48 + d) ≡ leb (suc k) d
shift k d =
    by_bool (leb (suc k) d)
    (λ e. rw e (le-leb (suc (48 + k)) (48 + d) (omega (arith, leb-true (suc k) d e))))
    (λ e. rw e (lt-leb (suc (48 + k)) (48 + d) (omega (arith, leb-false (suc k) d e))))

rise-from : (l k : ℕ) → ((d : ℕ) → leb l (48 + d) ≡ leb k d) → (ms : List Card) (cs : List (List ℕ)) → AllStand ms cs → rising l cs ≡ digits_rise k ms
rise-from l k h [] [] s = refl
rise-from l k h [] (c ∷ cs) s = absurd s
rise-from l k h (m ∷ ms) [] s = absurd s
rise-from l k h (tal is ∷ ms) (c ∷ cs) s = rw s.0.pmed (rise-from l k h ms cs s.1)
rise-from l k h (trn n ts ∷ ms) (c ∷ cs) s = rw s.0.pmed (rise-from l k h ms cs s.1)
rise-from l k h (pm x ∷ ms) (c ∷ cs) s =
    let r : rising (suc (48 + x.digit)) cs ≡ digits_rise (suc x.digit) ms =
    rise-from (suc (48 + x.digit)) (suc x.digit) (shift x.digit) ms cs s.1 in
    rw (s.0.pmed, s.0.digit refl, h x.digit, r)

pub rises-as : (ms : List Card) (cs : List (List ℕ)) → AllStand ms cs → rising 0 cs ≡ digits_rise 0 ms
rises-as ms cs s = rise-from 0 0 (λ d. rw (le-leb 0 (48 + d) (omega arith), le-leb 0 d (omega arith))) ms cs s

-- ---- a written card stands for what was written

module _ (id : List ℕ) (d : every plain id ≡ true) where
  abbrev pub behind : Card → List ℕ
  behind m = id ++ (44 ∷ text_in m)

  pub written_stands : (m : Card) → Proper m → length (behind m) ≤ card_length → Stands m (behind m)
  unfolding is_pm
  written_stands (tal is) p l =
      let w = tal-written id is d p in
      let n : is_pm (behind (tal is)) ≡ false = ap (λ (fs : List (List ℕ)). same (take 2 (get_or fs 1 [])) (bytes "PM")) w.apart in
      record {
        fac = ap (λ (fs : List (List ℕ)). same (get_or fs 1 []) (bytes "FAC")) w.apart;
        talled = w.tal;
        trned = w.other;
        pmed = n;
        number = rw n;
        form = rw n;
        digit = λ e. never e refl;
        count = rw w.other;
        text = rw w.tal w.text;
      }
  written_stands (trn c ts) p l =
      let w = trn-written id c ts d p in
      let n : is_pm (behind (trn c ts)) ≡ false = ap (λ (fs : List (List ℕ)). same (take 2 (get_or fs 1 [])) (bytes "PM")) w.apart in
      record {
        fac = ap (λ (fs : List (List ℕ)). same (get_or fs 1 []) (bytes "FAC")) w.apart;
        talled = w.other;
        trned = w.trn;
        pmed = n;
        number = rw n;
        form = rw n;
        digit = λ e. never e refl;
        count = rw w.trn w.counts;
        text = rw (w.other, w.trn) w.text;
      }
  written_stands (pm s) p l =
      let w = read_back id s d p in
      let a = w.other-type 84 (65 ∷ 76 ∷ []) (λ e. omega arith) in
      let r = w.other-type 84 (82 ∷ 78 ∷ []) (λ e. omega arith) in
      record {
        fac = w.other-type 70 (65 ∷ 67 ∷ []) (λ e. omega arith);
        talled = a;
        trned = r;
        pmed = w.pm;
        number = rw (w.pm, w.number);
        form = rw (w.pm, w.good l);
        digit = λ e. w.digit-is;
        count = rw r;
        text = rw (a, r) w.text-is;
      }

  pub written-content : (m : Card) → Proper m → length (behind m) ≤ card_length → (already : Bool) → (counted m ≡ true → already ≡ false)
      → content_error already (behind m) ≡ Ok tt
  written-content (tal is) p l already h = let w = tal-written id is d p in rw w.tal (w.good l)
  written-content (trn c ts) p l already h = let w = trn-written id c ts d p in rw (w.other, w.trn) (w.good already h l)
  written-content (pm s) p l already h =
      let w = read_back id s d p in
      rw (w.other-type 84 (65 ∷ 76 ∷ []) (λ e. omega arith), w.other-type 84 (82 ∷ 78 ∷ []) (λ e. omega arith))

  pub written-id : (m : Card) → Proper m → field (behind m) 0 ≡ id
  written-id (tal is) p = (tal-written id is d p).named
  written-id (trn c ts) p = (trn-written id c ts d p).named
  written-id (pm s) p = (read_back id s d p).id-is

  pub written-line : (m : Card) → Proper m → NoLf (behind m)
  written-line (tal is) p = (tal-written id is d p).line
  written-line (trn c ts) p = (trn-written id c ts d p).line
  written-line (pm s) p = (read_back id s d p).line

-- ---- a good card stands for what it means

pub record Meant (already : Bool) (c : List ℕ) : Type 0 where
  pub card : Card
  pub stands : Stands card c
  pub proper : Proper card
  pub first : already ≡ true → counted card ≡ false
  pub room : length (canonical c) + 1 + length (field c 0) ≤ length c
  pub short : length c ≤ card_length

short-card : (c : List ℕ) → malformed c ≡ false → length c ≤ card_length
short-card c m =
    by_bool (ltb card_length (length c)) (λ e. never (too_long c (ltb-true card_length (length c) e)) m) (λ e. ltb-false card_length (length c) e)

module _ (already : Bool) (c : List ℕ) (fac : is_fac c ≡ false) (known : unknown c ≡ false) (number : unnumbered c ≡ false)
    (form : faulty c ≡ false) (good : content_error already c ≡ Ok tt) where
  of-tal : is_tal c ≡ true → Meant already c
  unfolding is_pm tal_error
  of-tal t =
      let w : field c 1 ≡ bytes "TAL" = same-equal (field c 1) (bytes "TAL") t in
      let g : tal_error c ≡ (Ok tt) = rw t at good in
      let r : is_trn c ≡ false = ap (λ (f : List ℕ). same f (bytes "TRN")) w in
      record {
        card = tal (meant_increments c);
        stands = record {
          fac = fac;
          talled = t;
          trned = r;
          pmed = ap (λ (f : List ℕ). same (take 2 f) (bytes "PM")) w;
          number = number;
          form = form;
          digit = λ e. never e refl;
          count = rw r;
          text = rw t (tal-text c);
        };
        proper = tal-proper c g;
        first = λ e. refl;
        room = rw t (tal-short c g t);
        short = short-card c (not-error (malformed c) TalWrong (or_else_none (error_if (malformed c) TalWrong) _ g).0);
      }

  of-trn : is_tal c ≡ false → is_trn c ≡ true → Meant already c
  unfolding is_pm trn_error
  of-trn a t =
      let w : field c 1 ≡ bytes "TRN" = same-equal (field c 1) (bytes "TRN") t in
      let g : trn_error already c ≡ (Ok tt) = rw (a, t) at good in
      record {
        card = trn (meant_count c) (meant_transfers c);
        stands = record {
          fac = fac;
          talled = a;
          trned = t;
          pmed = ap (λ (f : List ℕ). same (take 2 f) (bytes "PM")) w;
          number = number;
          form = form;
          digit = λ e. never e refl;
          count = rw t (trn-counts already c g);
          text = rw (a, t) (trn-text already c g);
        };
        proper = trn-proper already c g;
        first = trn-first already c g;
        room = rw (a, t) (trn-short already c g t);
        short = short-card c (not-error (malformed c) TrnWrong (or_else_none (error_if (malformed c) TrnWrong) _ g).0);
      }

  of-pm : is_tal c ≡ false → is_trn c ≡ false → Meant already c
  unfolding pm_fault pm_malformed
  of-pm a r =
      let t : is_pm c ≡ true = by_bool (is_pm c) (λ e. e) (λ e. never (rw (fac, a, r, e)) known) in
      let n : numbered c ≡ true = by_bool (numbered c) (λ e. e) (λ e. never (rw (t, e)) number) in
      let f : pm_fault c ≡ false = rw t at form in
      let w = held c n f in
      record {
        card = pm (sheet_in c);
        stands = record {
          fac = fac;
          talled = a;
          trned = r;
          pmed = t;
          number = number;
          form = form;
          digit = λ e. w.digit-is;
          count = rw r;
          text = rw (a, r) w.text-is;
        };
        proper = w.proper;
        first = λ e. refl;
        room = rw (a, r) w.no_longer;
        short = by_bool (ltb card_length (length c)) (λ e. never (rw e) f) (λ e. ltb-false card_length (length c) e);
      }

  pub meant : Meant already c
  meant = by_bool (is_tal c) of-tal (λ a. by_bool (is_trn c) (of-trn a) (of-pm a))
