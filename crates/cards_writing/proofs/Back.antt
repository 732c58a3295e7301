-- Written text read back, form by form: fields left off at the end, names, numbers of two digits and the priority.
-- Assumes nothing.
use Rattle.std.specs.Prelude.{Option, Some, is_some}
use Prim.Native.Nat.{ℕ, suc, ◌+◌, ◌/◌, ◌%◌, ◌≤◌, ◌<◌}
use mathlib.Core.Path.{◌≡◌, refl, sym, ap, ◌∙◌}
use mathlib.Core.Bool.{true, false, cond, not}
use mathlib.Core.List.{List, [], ◌∷◌, ◌++◌}
use mathlib.Core.Logic.{⊎_elim}
use native.Mathlib.Nat.{eq-zero-or-pos}
use native.Mathlib.Omega.{arith}
use lib.Dec.{eqb}
use lib.ListN.{length, get_or}
use borrow.Author.Tests.{eq-eqb, ne_eqb, eqb-true}
use Rattle.numbers.proofs.Tests.{by_bool, never, both}
use Rattle.text.specs.Class.{is_digit, is_letter}
use Rattle.text.proofs.ClassLaws.{is_digit_lem}
use Rattle.text.specs.Writing.{two_text}
use Rattle.words.specs.Words.{passes, every, has, value}
use Rattle.words.specs.declared.Class.TheVariants.{Hyphened}
use Rattle.words.proofs.WordLaws.{every_append, every-weaker}
use Rattle.cards_fields.specs.Fields.{spaceless, padded}
use Rattle.cards_fields.proofs.CardLaws.{plain, AllPlain, listed_plain, hyphened-plain, letter-plain, digit-plain, digit-no-letter}
use Rattle.cards_request.specs.Errors.{or_else}
use Rattle.cards_pty.specs.Pty.{Rule, one_of, program_name, field_error, fields_from, priority_of, priority_good, ranked, last_of_all}
use Rattle.cards_pty.proofs.PriorityLaws.{lettered, sequenced, rank-good, rank-last}
use Rattle.cards_pty.specs.declared.Priority.{Priority}
use Rattle.cards_writing.specs.Writing.{front, trimmed, formed_from, formed}

-- a text of listed letters, and a program's name
pub listed : (ls s : List ℕ) → every plain ls ≡ true → one_of ls s ≡ true → every plain s ≡ true
listed ls s p h = every-weaker (has ls) plain (listed_plain ls p) s h

pub named : (s : List ℕ) → program_name s ≡ true → every plain s ≡ true
unfolding program_name
named s h = every-weaker (passes Hyphened) plain hyphened-plain s (both (not (eqb (get_or s 0 0) 45)) (every (passes Hyphened) s) h).1

-- fields left off at the end
pub trimmed-plain : (fs : List (List ℕ)) → AllPlain fs → AllPlain (trimmed fs)
trimmed-plain [] p = tt
trimmed-plain (f ∷ fs) p = keep f (trimmed fs) p.0 (trimmed-plain fs p.1)
  where
    keep : (f : List ℕ) (gs : List (List ℕ)) → every plain f ≡ true → AllPlain gs → AllPlain (front f gs)
    keep [] [] h q = tt
    keep [] (g ∷ gs) h q = (h, q)
    keep (b ∷ f) gs h q = (h, q)

pub trimmed-few : (fs : List (List ℕ)) → length (trimmed fs) ≤ length fs
trimmed-few [] = omega arith
trimmed-few (f ∷ fs) = omega (arith, few f (trimmed fs), trimmed-few fs)
  where
    few : (f : List ℕ) (gs : List (List ℕ)) → length (front f gs) ≤ suc (length gs)
    few [] [] = omega arith
    few [] (g ∷ gs) = omega arith
    few (b ∷ f) gs = omega arith

pub trimmed-error : (k : ℕ) (rs : List Rule) (fs : List (List ℕ)) → fields_from k rs (trimmed fs) ≡ fields_from k rs fs
trimmed-error k [] fs = refl
trimmed-error k (r ∷ rs) [] = refl
trimmed-error k (r ∷ rs) (f ∷ fs) = here f (trimmed fs) ∙ ap (or_else (field_error k r f)) (trimmed-error (suc k) rs fs)
  where
    here : (f : List ℕ) (gs : List (List ℕ)) → fields_from k (r ∷ rs) (front f gs) ≡ or_else (field_error k r f) (fields_from (suc k) rs gs)
    here [] [] = refl
    here [] (g ∷ gs) = refl
    here (b ∷ f) gs = refl

-- a name in the one form
blanks : (s : List ℕ) → formed_from true s ≡ true → (spaceless s ≡ []) × (padded (length s) [] ≡ s)
blanks [] h = (refl, refl)
blanks (b ∷ s) h =
    let q = both (eqb b 32) (formed_from true s) h in
    let r = blanks s q.1 in
    let e : 32 ≡ b = sym (eqb-true b 32 q.0) in
    (rw q.0 r.0, cc r.1)

pub name_back : (w : ℕ) (s : List ℕ) → formed w s ≡ true → padded w (spaceless s) ≡ s
name_back w s h =
    let q = both (eqb (length s) w) (formed_from false s) h in
    rw (← eqb-true (length s) w q.0) (from s q.1)
  where
    from : (s : List ℕ) → formed_from false s ≡ true → padded (length s) (spaceless s) ≡ s
    from [] h = refl
    from (b ∷ s) h =
        by_bool (eqb b 32)
        (λ e. let r = blanks s (rw e at h) in let i : 32 ≡ b = sym (eqb-true b 32 e) in rw (e, r.0) (cc r.1))
        (λ e. rw e (ap (λ (l : List ℕ). b ∷ l) (from s (rw e at h))))

pub two_back : (n : ℕ) → value (two_text n) ≡ n
two_back n = omega arith

pub two_digits : (n : ℕ) → n < 100 → every is_digit (two_text n) ≡ true
two_digits n h = rw (is_digit_lem (n / 10) (omega arith), is_digit_lem (n % 10) (omega arith))

-- a written priority is read as it was
module _ (q l p : ℕ) (hq : q < 64) (hp : p < 64) (hl : is_letter l ≡ true) where
  abbrev text : List ℕ
  text = cond (eqb q 0) [] (two_text q) ++ (l ∷ two_text p)

  pub priority-ranked : priority_of text ≡ ranked q l (two_text p)
  priority-ranked =
      ⊎_elim
      (λ e. rw (eq-eqb q 0 e) (lettered (l ∷ two_text p) hl ∙ ap (λ (k : ℕ). ranked k l (two_text p)) (sym e)))
      (λ n. rw (ne_eqb q 0 (λ e. omega arith))
      (sequenced (two_text q ++ (l ∷ two_text p)) (digit-no-letter (48 + q / 10) (is_digit_lem (q / 10) (omega arith))) (two_digits q (omega arith)) q
      (sym (two_back q)) n (omega arith)))
      (eq-zero-or-pos q)

  pub priority-back : priority_good text ≡ true → priority_of text ≡ Some (record { sequence = q; letter = l; precedence = p })
  priority-back g =
      priority-ranked
      ∙ by_bool (last_of_all l p)
      (λ z. never g (ap (λ (x : Option Priority). is_some x)
      (priority-ranked ∙ rank-last q l (two_text p) hl (omega arith) (two_digits p (omega arith)) p (sym (two_back p)) (omega arith) z)))
      (λ z. rank-good q l (two_text p) hl (omega arith) (two_digits p (omega arith)) p (sym (two_back p)) (omega arith) z)

  pub priority-plain : every plain text ≡ true
  priority-plain =
      every_append plain (cond (eqb q 0) [] (two_text q)) (l ∷ two_text p)
      (by_bool (eqb q 0) (λ e. rw e) (λ e. rw e (every-weaker is_digit plain digit-plain (two_text q) (two_digits q (omega arith)))))
      (rw (letter-plain l hl) (every-weaker is_digit plain digit-plain (two_text p) (two_digits p (omega arith))))
