-- What asking for the configuration after each line comes to. Good is answered for the written form of a
-- configuration and for nothing else; a bad line stays the answer whatever follows; and where more is due, every line
-- so far is right. So no question but the one at the end of the configuration is answered with good, and none before
-- it with bad. Assumes nothing.
use Prim.Native.Nat.{ℕ, ◌+◌, ◌≤◌, ◌<◌}
use mathlib.Core.Path.{◌≡◌, refl, sym, ap, subst, ◌∙◌}
use mathlib.Core.Bool.{Bool, true, false}
use mathlib.Core.List.{List, [], ◌∷◌, ◌++◌, append_assoc}
use native.Mathlib.Omega.{arith}
use lib.Dec.{ltb}
use lib.ListN.{length, take, drop, length-append, take-append-drop}
use lib.Seq.{length-take-le}
use borrow.Author.Tests.{ltb-true, ltb-false}
use Rattle.numbers.proofs.Tests.{by_bool}
use Rattle.channels.specs.declared.Channel.{Channel}
use Rattle.words.specs.Lines.{lines_of, size}
use Rattle.words.proofs.LineLaws.{has-line}
use Rattle.channels.specs.declared.Configuration.{Configuration}
use Rattle.configuration.specs.declared.BadLine.{BadLine}
use Rattle.configuration.specs.Configured.{refused, good, configuration_of}
use Rattle.configuration_form.specs.Form.{written, Due, Complete, Reads, InForm, FirstBad}
use Rattle.configuration_form.specs.Means.{Said}
use Rattle.configuration_form.proofs.Meaning.{meaning}
use Rattle.configuration_form.proofs.Unique.{all-stops, read_back, first-named}
use Rattle.configuration_form.proofs.Enough.{enough}
use Rattle.shift_begin.specs.declared.Begun.TheVariants as Begun'
use Rattle.shift_begin.specs.declared.Begun.{Begun}
use Rattle.shift_begin.specs.Opening.{opening_of}
use Rattle.shift_begin.proofs.LineLaws.{counted, rest_of, there, nothing_left}

-- these lines are a configuration
abbrev pub begun_with : List Channel → List Bool → ℕ → Begun
begun_with of marks word = Begun'.Good (record { channels = of; down = marks; codes = word })

-- this line is bad
abbrev pub begun_bad : ℕ → Begun
begun_bad number = Begun'.Bad (record { 0 = number })

-- what is answered: good for the written form, else by whether the first bad or missing line is there
data Answered (s : List ℕ) : Type 0 where
  goods : (of : List Channel) (marks : List Bool) (word : ℕ) → InForm s of marks word → opening_of true s ≡ begun_with of marks word → Answered s
  bads : (number : ℕ) → FirstBad s number → number ≤ length (lines_of s) → opening_of true s ≡ begun_bad number → Answered s
  dues : (number : ℕ) → FirstBad s number → length (lines_of s) < number → opening_of true s ≡ Begun'.More → Answered s

answered : (s : List ℕ) → Answered s
unfolding opening_of
answered s = by (meaning s).said
  where
    by : Said (configuration_of s) → Answered s
    by (Said.goods of marks word e) = Answered.goods of marks word ((meaning s).written of marks word e) (rw e)
    by (Said.bads n e) =
        by_bool (ltb (length (lines_of s)) n)
        (λ t. Answered.dues n ((meaning s).first n e) (ltb-true (length (lines_of s)) n t) (rw (e, t)))
        (λ t. Answered.bads n ((meaning s).first n e) (ltb-false (length (lines_of s)) n t) (rw (e, t)))

-- good is answered for the written form of a configuration
pub form-good : (s : List ℕ) (of : List Channel) (marks : List Bool) (word : ℕ) → InForm s of marks word → opening_of true s ≡ begun_with of marks word
unfolding opening_of
form-good s of marks word w = rw (read_back s of marks word w)

-- the answers are told apart
good-not-bad : {c : Configuration} {n : BadLine} → Begun'.Good c ≡ Begun'.Bad n → ⊥
good-not-bad e = let z : ◌≡◌ {A = ℕ} 0 1 = cc in omega arith

good-not-more : {c : Configuration} → Begun'.Good c ≡ Begun'.More → ⊥
good-not-more e = let z : ◌≡◌ {A = ℕ} 0 1 = cc in omega arith

more-not-bad : {n : BadLine} → Begun'.More ≡ Begun'.Bad n → ⊥
more-not-bad e = let z : ◌≡◌ {A = ℕ} 0 1 = cc in omega arith

same-line : {m n : BadLine} → Begun'.Bad m ≡ Begun'.Bad n → m ≡ n
same-line e = cc

same-bad : {m n : ℕ} → begun_bad m ≡ begun_bad n → m ≡ n
same-bad e = ap (λ (b : BadLine). b.0) (same-line e)

same-good : {c d : Configuration} → Begun'.Good c ≡ Begun'.Good d → c ≡ d
same-good e = cc

bad-not-good : {number : ℕ} {of : List Channel} {marks : List Bool} {word : ℕ} → refused number ≡ good of marks word → ⊥
bad-not-good e = let z : ◌≡◌ {A = ℕ} 0 1 = cc in omega arith

-- what follows a whole configuration is its first bad line
after : (s more : List ℕ) (of : List Channel) (marks : List Bool) (word : ℕ) (w : InForm s of marks word) → (more ≡ [] → ⊥)
    → FirstBad (s ++ more) (w.lines + 1)
after s more of marks word w n =
    let r = w.reads in
    record {
      before = w.lines;
      next = refl;
      due = w.end;
      rest = more;
      reads = record {
        items = r.items;
        many = r.many;
        right = r.right;
        text = ap (λ (p : List ℕ). p ++ more) r.text ∙ append_assoc (written r.items) [] more;
      };
      bad = record { none = all-stops w.end of marks word more w.all; more = λ o m x c e. n e };
    }

-- and for nothing else
pub good-form : (s : List ℕ) (of : List Channel) (marks : List Bool) (word : ℕ) → opening_of true s ≡ begun_with of marks word → InForm s of marks word
good-form s of marks word e = by (answered s)
  where
    by : Answered s → InForm s of marks word
    by (Answered.goods o m x w f) =
        let p : o ≡ of = ap (λ (b : Configuration). b.channels) (same-good (sym f ∙ e)) in
        let q : m ≡ marks = ap (λ (b : Configuration). b.down) (same-good (sym f ∙ e)) in
        let r : x ≡ word = ap (λ (b : Configuration). b.codes) (same-good (sym f ∙ e)) in
        rw (← p, ← q, ← r) w
    by (Answered.bads n f l g) = absurd (good-not-bad (sym e ∙ g))
    by (Answered.dues n f l g) = absurd (good-not-more (sym e ∙ g))

-- a bad line that is there is the first bad line of every text that starts so
stays : (s more : List ℕ) (number : ℕ) → number ≤ length (lines_of s) → FirstBad s number → FirstBad (s ++ more) number
stays s more number h f =
    let r = f.reads in
    let c : length (lines_of s) ≡ length r.items + length (lines_of f.rest) =
    ap (λ (l : List ℕ). length (lines_of l)) r.text ∙ counted r.items f.rest in
    let some : 1 ≤ length (lines_of f.rest) = omega (arith, f.next, r.many) in
    record {
      before = f.before;
      next = f.next;
      due = f.due;
      rest = f.rest ++ more;
      reads = record {
        items = r.items;
        many = r.many;
        right = r.right;
        text = ap (λ (p : List ℕ). p ++ more) r.text ∙ append_assoc (written r.items) f.rest more;
      };
      bad = record {
        none = λ item next t q e. f.bad.none item next (rest_of f.rest) q (there f.rest more t item some e);
        more = λ of marks word c e.
            let z : length (f.rest ++ more) ≡ 0 = ap length e in
            omega (arith, length-append f.rest more, has-line f.rest some);
      };
    }

-- bad is answered for the first bad line, and whatever follows does not change it
pub bad-stays : (s more : List ℕ) (number : ℕ) → opening_of true s ≡ begun_bad number
    → FirstBad (s ++ more) number × (configuration_of (s ++ more) ≡ refused number)
bad-stays s more number e = by (answered s)
  where
    by : Answered s → FirstBad (s ++ more) number × (configuration_of (s ++ more) ≡ refused number)
    by (Answered.goods o m x w f) = absurd (good-not-bad (sym f ∙ e))
    by (Answered.bads n f l g) =
        let p : n ≡ number = same-bad (sym g ∙ e) in
        let b = stays s more number (rw (← p) l) (subst (FirstBad s) p f) in
        (b, first-named (s ++ more) number b)
    by (Answered.dues n f l g) = absurd (more-not-bad (sym g ∙ e))

-- where more is due, whole lines are all right ones, and the configuration is not complete
pub more-due : (s : List ℕ) → size (lines_of s) ≡ length s → opening_of true s ≡ Begun'.More
    → (due : Due) × Reads Due.first s (length (lines_of s)) due []
    × ((of : List Channel) (marks : List Bool) (word : ℕ) → Complete due of marks word → ⊥)
more-due s whole e = by (answered s)
  where
    by : Answered s → (due : Due) × Reads Due.first s (length (lines_of s)) due []
        × ((of : List Channel) (marks : List Bool) (word : ℕ) → Complete due of marks word → ⊥)
    by (Answered.goods o m x w f) = absurd (good-not-more (sym f ∙ e))
    by (Answered.bads n f l g) = absurd (more-not-bad (sym e ∙ g))
    by (Answered.dues n f l g) =
        let r = f.reads in
        let c : length (lines_of s) ≡ length r.items + length (lines_of f.rest) =
        ap (λ (l : List ℕ). length (lines_of l)) r.text ∙ counted r.items f.rest in
        let z : f.rest ≡ [] = nothing_left r.items f.rest (omega (arith, f.next, r.many)) (rw r.text at whole) in (
          f.due,
          record {
            items = r.items;
            many = omega (arith, ap (λ (l : List ℕ). length (lines_of l)) z);
            right = r.right;
            text = rw z at r.text;
          },
          λ of marks word k. f.bad.more of marks word k z,
        )

-- so every question before the end of a configuration is answered with more
pub before-good : (s more : List ℕ) (of : List Channel) (marks : List Bool) (word : ℕ) → InForm (s ++ more) of marks word → (more ≡ [] → ⊥)
    → opening_of true s ≡ Begun'.More
before-good s more of marks word w n = by (answered s)
  where
    never-bad : {number : ℕ} → configuration_of (s ++ more) ≡ refused number → ⊥
    never-bad e = bad-not-good (sym e ∙ read_back (s ++ more) of marks word w)

    by : Answered s → opening_of true s ≡ Begun'.More
    by (Answered.goods o m x v f) = absurd (never-bad (first-named (s ++ more) (v.lines + 1) (after s more o m x v n)))
    by (Answered.bads k f l g) = absurd (never-bad (bad-stays s more k g).1)
    by (Answered.dues k f l g) = g

-- where no more comes, the reader's verdict is the answer
pub ended : (s : List ℕ) (number : ℕ) → configuration_of s ≡ refused number → opening_of false s ≡ begun_bad number
unfolding opening_of
ended s number e = rw e

-- 2,048 bytes decide: of a text of as many no more need be kept, and the line that they blame is the first bad line
-- whatever follows
pub kept : (s more : List ℕ) → 2048 ≤ length s
    → (number : ℕ) × (opening_of false (take 2048 s) ≡ begun_bad number) × (configuration_of (s ++ more) ≡ refused number)
kept s more h = by (meaning (take 2048 s)).said
  where
    same : configuration_of (s ++ more) ≡ configuration_of (take 2048 s)
    same =
        ap (λ (l : List ℕ). configuration_of (l ++ more)) (sym (take-append-drop 2048 s))
        ∙ ap configuration_of (append_assoc (take 2048 s) (drop 2048 s) more)
        ∙ enough (take 2048 s) (drop 2048 s ++ more) (omega (arith, length-take-le 2048 s h))

    by : Said (configuration_of (take 2048 s))
        → (number : ℕ) × (opening_of false (take 2048 s) ≡ begun_bad number) × (configuration_of (s ++ more) ≡ refused number)
    by (Said.goods o m x e) =
        let w = (meaning (take 2048 s)).written o m x e in
        let f = first-named ((take 2048 s) ++ (0 ∷ [])) (w.lines + 1) (after (take 2048 s) (0 ∷ []) o m x w some) in
        absurd (bad-not-good (sym f ∙ enough (take 2048 s) (0 ∷ []) (omega (arith, length-take-le 2048 s h)) ∙ e))
      where
        some : ◌≡◌ {A = List ℕ} (0 ∷ []) [] → ⊥
        some e = let z : ◌≡◌ {A = ℕ} 1 0 = ap length e in omega arith
    by (Said.bads n e) = (n, ended (take 2048 s) n e, same ∙ e)
