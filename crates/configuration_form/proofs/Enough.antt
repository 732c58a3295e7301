-- The first 2,048 bytes decide: a longer text is read as what it begins with, so a program need not keep more. No
-- right lines take more than 1,950 bytes, so a text of 2,048 bytes has a bad line, and that line lies within them.
-- Assumes nothing.
use Prim.Native.Nat.{ℕ, suc, ◌+◌, ◌*◌, ◌^◌, ◌≤◌, ◌<◌}
use mathlib.Core.Path.{◌≡◌, sym, ap, ◌∙◌}
use mathlib.Core.Bool.{Bool}
use mathlib.Core.List.{List, [], ◌++◌, append_assoc}
use native.Mathlib.Omega.{arith}
use lib.ListN.{length, take, drop, length-append, take-append-drop}
use lib.Seq.{take-append-le, take-append_seam}
use Rattle.numbers.specs.Quoted.{bytes}
use Rattle.text.specs.Writing.{decimal_text}
use Rattle.text.proofs.Undo.{few-digits}
use Rattle.channels.specs.declared.Channel.{Channel}
use Rattle.configuration.specs.Configured.{configuration_of}
use Rattle.configuration_form.specs.Form.{Item, line, written, Due, Right, AllRight, InForm, FirstBad}
use Rattle.configuration_form.proofs.LineLaws.{channel-long, most-small}
use Rattle.configuration_form.specs.Means.{Said}
use Rattle.configuration_form.proofs.Meaning.{meaning}
use Rattle.configuration_form.proofs.Unique.{first-named}

-- how many bytes the lines that are due take at most
abbrev weight : Due → ℕ
weight Due.first = 1950
weight (Due.channels left next drum of) = 14 * left + 1723
weight (Due.downs left next of marks) = 6 * left + 183
weight (Due.codes left next of marks word) = 3 * left

count_long : (k n : ℕ) → n < 10 ^ suc k → length (line (Item.count n)) ≤ k + 2
count_long k n h = omega (arith, length-append (decimal_text n) (bytes "\n"), few-digits k n h)

-- a right line takes its share, and no more than 14
share : {due next : Due} {item : Item} → Right due item next → (length (line item) + weight next ≤ weight due) × (length (line item) ≤ 14)
share (Right.channel_count {n = n} a) = let l = count_long 1 n (omega arith) in (omega arith, omega arith)
share (Right.channel_line {left = left} {c = c} {n = n} {kind = kind} a b d e f) =
    let l = count_long 6 n (omega (arith, most-small kind)) in
    (omega (arith, channel-long c kind n), omega (arith, channel-long c kind n))
share (Right.down_count {m = m} a) = let l = count_long 2 m (omega arith) in (omega arith, omega arith)
share (Right.down_line {left = left} a b d e) = (omega arith, omega arith)
share (Right.code_count {n = n} a) = let l = count_long 1 n (omega arith) in (omega arith, omega arith)
share (Right.code_line {left = left} a b d e f) = (omega arith, omega arith)

shares : {due end : Due} {items : List Item} → AllRight due items end → length (written items) + weight end ≤ weight due
shares AllRight.none = omega arith
shares (AllRight.more {item = item} {items = items} r a) = omega (arith, length-append (line item) (written items), (share r).0, shares a)

-- what a longer text starts with, a shorter one that has as many bytes starts with
starts : (l rest more x : List ℕ) → length l ≤ length rest → rest ++ more ≡ l ++ x → rest ≡ l ++ drop (length l) rest
starts l rest more x h e =
    let n = length l in
    let f : take n rest ≡ l = sym (take-append-le n rest more h) ∙ ap (take n) e ∙ take-append_seam l x in
    sym (take-append-drop n rest) ∙ ap (λ (p : List ℕ). p ++ drop n rest) f

-- the first bad line of a text is that of a longer one, where it has 14 bytes or more to show
longer : (s more : List ℕ) (number : ℕ) → 1964 ≤ length s → FirstBad s number → FirstBad (s ++ more) number
longer s more number h f =
    let r = f.reads in
    let w = shares r.right in
    let l : length s ≡ length (written r.items) + length f.rest = ap length r.text ∙ length-append (written r.items) f.rest in
    let m : 14 ≤ length f.rest = omega arith in
    record {
      before = f.before;
      next = f.next;
      due = f.due;
      rest = f.rest ++ more;
      reads = record {
        items = r.items;
        many = r.many;
        right = r.right;
        text = ap (λ (p : List ℕ). p ++ more) r.text ∙ append_assoc (written r.items) f.rest more;
      };
      bad = record {
        none = λ item next t q e. f.bad.none item next (drop (length (line item)) f.rest) q
            (starts (line item) f.rest more t (omega (arith, (share q).1)) e);
        more = λ of marks word c e. let z : length (f.rest ++ more) ≡ 0 = ap length e in omega (arith, length-append f.rest more);
      };
    }

-- the written form of a configuration is shorter
form-long : {s : List ℕ} {of : List Channel} {marks : List Bool} {word : ℕ} → InForm s of marks word → length s ≤ 1950
form-long {s} w =
    let r = w.reads in
    let l : length s ≡ length (written r.items) + 0 = ap length r.text ∙ length-append (written r.items) [] in
    omega (arith, shares r.right)

-- the first 2,048 bytes decide
pub enough : (s more : List ℕ) → 2048 ≤ length s → configuration_of (s ++ more) ≡ configuration_of s
enough s more h = by (meaning s).said
  where
    by : Said (configuration_of s) → configuration_of (s ++ more) ≡ configuration_of s
    by (Said.goods of marks word e) = absurd (omega (arith, form-long ((meaning s).written of marks word e)))
    by (Said.bads n e) = first-named (s ++ more) n (longer s more n (omega arith) ((meaning s).first n e)) ∙ sym e

-- how many lines are due at most
abbrev lines : Due → ℕ
lines Due.first = 335
lines (Due.channels left next drum of) = left + 318
lines (Due.downs left next of marks) = left + 61
lines (Due.codes left next of marks word) = left

one_less : {due next : Due} {item : Item} → Right due item next → lines next + 1 ≤ lines due
one_less (Right.channel_count a) = omega arith
one_less (Right.channel_line a b d e f) = omega arith
one_less (Right.down_count a) = omega arith
one_less (Right.down_line a b d e) = omega arith
one_less (Right.code_count a) = omega arith
one_less (Right.code_line a b d e f) = omega arith

less : {due end : Due} {items : List Item} → AllRight due items end → length items + lines end ≤ lines due
less AllRight.none = omega arith
less (AllRight.more r a) = omega (arith, one_less r, less a)

-- and no line after the 336th is ever named
pub few-lines : (s : List ℕ) (number : ℕ) → FirstBad s number → number ≤ 336
few-lines s number f = omega (arith, f.next, f.reads.many, less f.reads.right)
