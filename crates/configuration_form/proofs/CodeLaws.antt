-- The code lines. One line, both ways: two digits, each at most 7, are two octal digits, so what is read as a code is
-- that code written, and a code written is read as itself. And as the channel lines: a line that is read and allowed is
-- a right one, and where none is no right one comes. Assumes nothing.
use Prim.Native.Nat.{ℕ, suc, ◌+◌, ◌*◌, ◌/◌, ◌%◌, ◌≤◌}
use mathlib.Core.Path.{◌≡◌, refl, sym, ap, ◌∙◌}
use mathlib.Core.Bool.{Bool, true, cond, not, ◌&&◌}
use mathlib.Core.List.{List, ◌∷◌, ◌++◌}
use native.Mathlib.Omega.{arith}
use lib.Dec.{eqb, leb}
use lib.ListN.{get_or, drop}
use borrow.Author.Tests.{le-leb, leb-true, eqb-true, eqb-false, ne_eqb, not-true}
use Rattle.numbers.specs.Quoted.{byte}
use Rattle.numbers.proofs.Tests.{by_bool, never, both}
use Rattle.std.specs.Prelude.{Option, Some, None}
use Rattle.text.specs.Reading.{two_digits_of}
use Rattle.text.specs.Writing.{two_text, octal_text}
use Rattle.text.proofs.Undo.{two-undone}
use Rattle.text.proofs.Redo.{two-redone}
use Rattle.channels.specs.declared.Channel.{Channel}
use Rattle.configuration.specs.Lines.{on_number, stands, is_code, code_line}
use Rattle.configuration.proofs.AnySection.{CodesAt, code_section, codes-wrong, codes-refused, codes-go}
use Rattle.configuration_form.specs.Form.{Item, line, Due, Right, Bad}
use Rattle.configuration_form.proofs.LineLaws.{Starts, head_at, no_line, one_line}
use Rattle.configuration_form.proofs.SectionLaws.{Step}

-- two digits, the last at most 7, are the octal digits of eights and ones
octal : (n k : ℕ) → n % 10 ≤ 7 → k ≡ n / 10 * 8 + n % 10 → two_text n ≡ octal_text k
octal n k h e =
    let x : n / 10 ≡ k / 8 = omega arith in
    let y : n % 10 ≡ k % 8 = omega arith in
    rw (x, y) refl

-- a code that may be listed
pub record Code (k : ℕ) : Type 0 where
  pub least : 0o02 ≤ k
  pub most : k ≤ 0o77
  pub not16 : k ≡ 0o16 → ⊥
  pub not17 : k ≡ 0o17 → ⊥

is-code : (k : ℕ) → is_code k ≡ true → Code k
is-code k e =
    let p = both (leb 2 k) (leb k 63 && (not (eqb k 14) && not (eqb k 15))) e in
    let q = both (leb k 63) (not (eqb k 14) && not (eqb k 15)) p.1 in
    let r = both (not (eqb k 14)) (not (eqb k 15)) q.1 in
    record {
      least = leb-true 2 k p.0;
      most = leb-true k 63 q.0;
      not16 = eqb-false k 14 (not-true (eqb k 14) r.0);
      not17 = eqb-false k 15 (not-true (eqb k 15) r.1);
    }

code_is : (k : ℕ) → Code k → is_code k ≡ true
code_is k c = rw (le-leb 2 k c.least, le-leb k 63 c.most, ne_eqb k 14 c.not16, ne_eqb k 15 c.not17)

-- two octal digits
pub record CodeIs (s : List ℕ) (k : ℕ) : Type 0 where
  pub code : Code k
  pub starts : Starts s (Item.code k) 3

-- what is read as two octal digits is that line written
pub code-redone : (s : List ℕ) (k : ℕ) → code_line s ≡ Some k → CodeIs s k
unfolding code_line
code-redone s k e = number (two_digits_of s) refl e
  where
    put : (n j : ℕ) → n % 10 ≤ 7 → is_code (n / 10 * 8 + n % 10) ≡ true → get_or s 2 0 ≡ 10 → s ≡ two_text n ++ drop 2 s → n / 10 * 8 + n % 10 ≡ j
        → CodeIs s j
    put n j h c l two i =
        let f : drop 2 s ≡ 10 ∷ drop 3 s = head_at s 2 9 l in
        let o : two_text n ≡ octal_text j = octal n j h (sym i) in
        record {
          code = is-code j (rw i at c);
          starts = record { same = two ∙ (ap (λ (t : List ℕ). two_text n ++ t) f ∙ ap (λ (t : List ℕ). t ++ (10 ∷ drop 3 s)) o); long = refl };
        }

    number : (d : Option (ℕ × ℕ)) → two_digits_of s ≡ d
        → on_number d None (λ n _. cond (leb (n / 10) 7) (cond (leb (n % 10) 7)
        (cond (is_code (n / 10 * 8 + n % 10)) (cond (stands (byte "\n") 2 s) (Some (n / 10 * 8 + n % 10)) None) None)
        None) None) ≡ Some k → CodeIs s k
    number None d e = no_line e
    number (Some r) d e =
        let n = r.0 in
        by_bool (leb (n / 10) 7)
        (λ a. by_bool (leb (n % 10) 7)
        (λ b. by_bool (is_code (n / 10 * 8 + n % 10))
        (λ c. by_bool (stands (byte "\n") 2 s)
        (λ t. let i : Some (n / 10 * 8 + n % 10) ≡ Some k = rw (a, b, c, t) at e in
        let m : n / 10 * 8 + n % 10 ≡ k = cc in
        put n k (leb-true (n % 10) 7 b) c (eqb-true (get_or s 2 0) 10 t) (two-redone s r.0 r.1 d).2 m)
        (λ t. no_line (rw (a, b, c, t) at e)))
        (λ c. no_line (rw (a, b, c) at e)))
        (λ b. no_line (rw (a, b) at e)))
        (λ a. no_line (rw a at e))

-- and two octal digits written are read as themselves
pub code-undone : (k : ℕ) (rest : List ℕ) → Code k → code_line (line (Item.code k) ++ rest) ≡ Some k
unfolding code_line
code-undone k rest c = ap (λ (t : List ℕ). code_line (t ++ (10 ∷ rest))) (sym o) ∙ digits
  where
    n : ℕ
    n = k / 8 * 10 + k % 8

    eights : n / 10 ≡ k / 8
    eights = omega (arith, c.most)

    ones : n % 10 ≡ k % 8
    ones = omega (arith, c.most)

    same : n / 10 * 8 + n % 10 ≡ k
    same = omega (arith, eights, ones)

    o : two_text n ≡ octal_text k
    o = octal n k (omega (arith, ones)) (sym same)

    digits : code_line (two_text n ++ (10 ∷ rest)) ≡ Some k
    digits =
        rw (
          two-undone n (10 ∷ rest) (omega (arith, c.most)),
          le-leb (n / 10) 7 (omega (arith, c.most, eights)),
          le-leb (n % 10) 7 (omega (arith, ones)),
          same,
          code_is k c,
        )

module _ (of : List Channel) (marks : List Bool) where
  -- what is due where `left` lines are left
  abbrev pub codes_due : ℕ → CodesAt → Due
  codes_due left p = Due.codes left p.next of marks p.of

  -- where a code line is due, a right line is read as a code that the reader allows
  right-read : {left next word : ℕ} {item : Item} {end : Due} (s t : List ℕ) → Right (Due.codes (suc left) next of marks word) item end
      → s ≡ line item ++ t
      → (k : ℕ) × (code_line s ≡ Some k) × (leb next k ≡ true)
  right-read {next = next} s t (Right.code_line {k = k} a b d e h) q =
      (k, ap code_line q ∙ code-undone k t (record { least = a; most = b; not16 = d; not17 = e }), le-leb next k h)

  pub code_step : (p : CodesAt) (s : List ℕ) → Step code_section codes_due p s
  code_step p s = by (code_line s) refl
    where
      none : ((k : ℕ) → code_line s ≡ Some k → leb p.next k ≡ true → ⊥) → (left : ℕ) → Bad (codes_due (suc left) p) s
      none f left = record { none = λ item end t r q. let w = right-read s t r q in f w.0 w.1 w.2; more = λ of marks word c e. c }

      by : (r : Option ℕ) → code_line s ≡ r → Step code_section codes_due p s
      by None e = Step.stops (none (λ k q a. no_line (sym e ∙ q))) (codes-wrong e)
      by (Some k) e =
          by_bool (leb p.next k)
          (λ t.
          let i = code-redone s k e in
          let c = i.code in
          Step.takes 3 _ (λ left. Right.code_line c.least c.most c.not16 c.not17 (leb-true p.next k t))
          i.starts.same (codes-go e t))
          (λ t. Step.stops (none (λ j q a. let w : k ≡ j = one_line (sym e ∙ q) in never (rw (← w) at a) t)) (codes-refused e t))
