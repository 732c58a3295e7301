-- The lines of a text that starts with right ones: each of these ends at its only LF, so they are counted, and a line
-- that is there is not made another by what follows. Assumes nothing.
use Prim.Native.Nat.{ℕ, zero, suc, ◌+◌, ◌/◌, ◌%◌, ◌≤◌}
use mathlib.Core.Path.{◌≡◌, refl, sym, ap, subst, ◌∙◌}
use mathlib.Core.Bool.{true, not, ◌&&◌}
use mathlib.Core.List.{List, [], ◌∷◌, ◌++◌, append_assoc}
use native.Mathlib.Omega.{arith}
use lib.Dec.{eqb, ltb}
use borrow.Author.Tests.{eq-eqb}
use lib.ListN.{length, get_or, drop, length-append}
use Rattle.numbers.proofs.Tests.{by_bool, both, never}
use Rattle.numbers.proofs.KindLaws.{all_kinds, code-two}
use Rattle.numbers.specs.Kinds.{code_of}
use Rattle.numbers.specs.declared.Kind.{Kind}
use Rattle.text.specs.Writing.{two_text, octal_text, digits_text, decimal_text}
use Rattle.words.specs.Lines.{line_of, lines_of, size}
use Rattle.words.proofs.LineLaws.{NoLf, no-lf-append, first_ended, has-line, line-split, line_clean}
use Rattle.configuration_form.specs.Form.{Item, line, written}

digits-clean : (most n : ℕ) → NoLf (digits_text most n)
unfolding digits_text
digits-clean zero n = ((λ e. omega arith), tt)
digits-clean (suc most) n =
    by_bool (ltb n 10)
    (λ t. rw t ((λ e. omega arith), tt))
    (λ t. rw t (no-lf-append (digits_text most (n / 10)) ((48 + n % 10) ∷ []) (digits-clean most (n / 10)) ((λ e. omega arith), tt)))

two-clean : (n : ℕ) (t : List ℕ) → NoLf t → NoLf (two_text n ++ t)
two-clean n t p = ((λ e. omega arith), ((λ e. omega arith), p))

code-clean : (kind : Kind) (t : List ℕ) → NoLf t → NoLf (code_of kind ++ t)
code-clean kind t p =
    let q = both (not (eqb (get_or (code_of kind) 0 0) 10)) (not (eqb (get_or (code_of kind) 1 0) 10))
    (all_kinds (λ k. not (eqb (get_or (code_of k) 0 0) 10) && not (eqb (get_or (code_of k) 1 0) 10)) refl kind) in
    subst (λ (code : List ℕ). NoLf (code ++ t)) (code-two kind)
    (apart (get_or (code_of kind) 0 0) q.0, (apart (get_or (code_of kind) 1 0) q.1, p))
  where
    apart : (b : ℕ) → not (eqb b 10) ≡ true → b ≡ 10 → ⊥
    apart b t e = never t (rw (eq-eqb b 10 e))

-- a line without its LF
abbrev body : Item → List ℕ
body (Item.count n) = decimal_text n
body (Item.channel c kind n) = two_text c ++ (32 ∷ (code_of kind ++ (32 ∷ decimal_text n)))
body (Item.down c u) = two_text c ++ (32 ∷ (two_text u ++ []))
body (Item.code k) = octal_text k

body_clean : (item : Item) → NoLf (body item)
body_clean (Item.count n) = digits-clean n n
body_clean (Item.channel c kind n) =
    two-clean c (32 ∷ (code_of kind ++ (32 ∷ decimal_text n)))
    ((λ e. omega arith), code-clean kind (32 ∷ decimal_text n) ((λ e. omega arith), digits-clean n n))
body_clean (Item.down c u) = two-clean c (32 ∷ (two_text u ++ [])) ((λ e. omega arith), two-clean u [] tt)
body_clean (Item.code k) = ((λ e. omega arith), ((λ e. omega arith), tt))

line-is : (item : Item) → line item ≡ body item ++ (10 ∷ [])
line-is (Item.count n) = refl
line-is (Item.channel c kind n) = ap (λ (l : List ℕ). two_text c ++ (32 ∷ l)) (sym (append_assoc (code_of kind) (32 ∷ decimal_text n) (10 ∷ [])))
line-is (Item.down c u) = refl
line-is (Item.code k) = refl

line-then : (item : Item) (t : List ℕ) → line item ++ t ≡ body item ++ (10 ∷ t)
line-then item t = ap (λ (l : List ℕ). l ++ t) (line-is item) ∙ append_assoc (body item) (10 ∷ []) t

-- a right line is the first line of what starts with it
pub first-is : (item : Item) (t : List ℕ) → lines_of (line item ++ t) ≡ body item ∷ lines_of t
first-is item t = ap lines_of (line-then item t) ∙ first_ended (body item) t (body_clean item)

-- lines that are written are counted
pub counted : (items : List Item) (rest : List ℕ) → length (lines_of (written items ++ rest)) ≡ length items + length (lines_of rest)
counted [] rest = omega arith
counted (item ∷ items) rest =
    let e : lines_of (written (item ∷ items) ++ rest) ≡ body item ∷ lines_of (written items ++ rest) =
    ap lines_of (append_assoc (line item) (written items) rest) ∙ first-is item (written items ++ rest) in
    omega (arith, ap length e, counted items rest)

-- what is left after the first line and its LF
abbrev pub rest_of : List ℕ → List ℕ
rest_of s = drop (suc (length (line_of s))) s

-- a right line that a longer text starts with is the first line of the text, where that has one
pub there : (s more t : List ℕ) (item : Item) → 1 ≤ length (lines_of s) → s ++ more ≡ line item ++ t → s ≡ line item ++ rest_of s
there s more t item h e =
    let is = line-split s (has-line s h) in
    let f : lines_of (s ++ more) ≡ line_of s ∷ lines_of (rest_of s ++ more) =
    ap (λ (x : List ℕ). lines_of (x ++ more)) is
    ∙ ap lines_of (append_assoc (line_of s) (10 ∷ rest_of s) more)
    ∙ first_ended (line_of s) (rest_of s ++ more) (line_clean s) in
    let g : line_of s ∷ lines_of (rest_of s ++ more) ≡ body item ∷ lines_of t = sym f ∙ ap lines_of e ∙ first-is item t in
    is ∙ ap (λ (x : List ℕ). x ++ (10 ∷ rest_of s)) (heads g) ∙ sym (line-then item (rest_of s))
  where
    heads : {a b : List ℕ} {k m : List (List ℕ)} → a ∷ k ≡ b ∷ m → a ≡ b
    heads e = cc

-- whole lines after which no LF is left end there
sizes : (items : List Item) (rest : List ℕ) → size (lines_of (written items ++ rest)) ≡ length (written items) + size (lines_of rest)
sizes [] rest = omega arith
sizes (item ∷ items) rest =
    let e : lines_of (written (item ∷ items) ++ rest) ≡ body item ∷ lines_of (written items ++ rest) =
    ap lines_of (append_assoc (line item) (written items) rest) ∙ first-is item (written items ++ rest) in
    let l : length (line item) ≡ length (body item) + 1 = ap length (line-is item) ∙ length-append (body item) (10 ∷ []) in
    omega (arith, ap size e, sizes items rest, length-append (line item) (written items))

pub nothing_left : (items : List Item) (rest : List ℕ) → length (lines_of rest) ≡ 0
    → size (lines_of (written items ++ rest)) ≡ length (written items ++ rest) → rest ≡ []
nothing_left items rest none whole =
    none_left rest (omega (arith, sizes items rest, length-append (written items) rest, no_size (lines_of rest) none))
  where
    no_size : (ls : List (List ℕ)) → length ls ≡ 0 → size ls ≡ 0
    no_size [] h = refl
    no_size (l ∷ ls) h = absurd (omega arith)

    none_left : (s : List ℕ) → length s ≡ 0 → s ≡ []
    none_left [] h = refl
    none_left (b ∷ s) h = absurd (omega arith)
