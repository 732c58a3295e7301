-- Right lines one after the other: none, one more, and a section of them, read to its end or to its first bad line.
-- Assumes nothing.
use Prim.Native.Nat.{ℕ, suc, ◌+◌, ◌-◌, ◌≤◌}
use mathlib.Core.Path.{◌≡◌, refl, sym, ap, ◌∙◌}
use mathlib.Core.List.{List, [], ◌∷◌, ◌++◌, append_assoc}
use native.Mathlib.Omega.{arith}
use lib.ListN.{drop, length-append}
use lib.Seq.{drop-drop}
use Rattle.configuration_form.specs.Form.{Item, line, written, Due, Right, AllRight, Reads, Bad}

-- no line at all
pub no_lines : (due : Due) (s : List ℕ) → Reads due s 0 due s
no_lines due s = record { items = []; many = refl; right = AllRight.none; text = refl }

-- one line, and then others
pub one_more : {due next end : Due} {s t rest : List ℕ} {item : Item} {count : ℕ} → Right due item next → s ≡ line item ++ t
    → Reads next t count end rest → Reads due s (suc count) end rest
one_more {item = item} r e m =
    record {
      items = item ∷ m.items;
      many = ap suc m.many;
      right = AllRight.more r m.right;
      text = e ∙ ap (λ (l : List ℕ). line item ++ l) m.text ∙ sym (append_assoc (line item) (written m.items) _);
    }

-- lines, and then others
then-all : {due next end : Due} {items others : List Item} → AllRight due items next → AllRight next others end → AllRight due (items ++ others) end
then-all AllRight.none b = b
then-all (AllRight.more r a) b = AllRight.more r (then-all a b)

written-append : (items others : List Item) → written (items ++ others) ≡ written items ++ written others
written-append [] others = refl
written-append (item ∷ items) others =
    ap (λ (l : List ℕ). line item ++ l) (written-append items others) ∙ sym (append_assoc (line item) (written items) (written others))

pub and_then : {due next end : Due} {s t rest : List ℕ} {m n : ℕ} → Reads due s m next t → Reads next t n end rest → Reads due s (m + n) end rest
and_then {rest = rest} a b =
    record {
      items = a.items ++ b.items;
      many = omega (arith, length-append a.items b.items, a.many, b.many);
      right = then-all a.right b.right;
      text =
          a.text
          ∙ ap (λ (l : List ℕ). written a.items ++ l) b.text
          ∙ sym (append_assoc (written a.items) (written b.items) rest)
          ∙ ap (λ (l : List ℕ). l ++ rest) (sym (written-append a.items b.items));
    }

-- a section that was read: as many lines as there are, from one position of the text to another
pub record Ended (due : Due) (s : List ℕ) (count : ℕ) (end : Due) (from at : ℕ) : Type 0 where
  pub on : from ≤ at
  pub reads : Reads due s count end (drop (at - from) s)

-- a section that was not: the first bad line's number, where the first line has the number `from`
pub record Stopped (due : Due) (s : List ℕ) (from number : ℕ) : Type 0 where
  pub before : ℕ
  pub counted : number ≡ from + before
  pub end : Due
  pub rest : List ℕ
  pub reads : Reads due s before end rest
  pub bad : Bad end rest

-- stopped at once
pub at_once : {due : Due} {s : List ℕ} (from : ℕ) → Bad due s → Stopped due s from from
at_once {due} {s} from b = record { before = 0; counted = omega arith; end = due; rest = s; reads = no_lines due s; bad = b }

-- one line more in front
pub ended-more : {due next end : Due} {s : List ℕ} {item : Item} {count from at : ℕ} (k : ℕ) → Right due item next → s ≡ line item ++ drop k s
    → Ended next (drop k s) count end (from + k) at → Ended due s (suc count) end from at
ended-more {s = s} {from = from} {at = at} k r e m =
    let d : k + (at - (from + k)) ≡ at - from = omega (arith, m.on) in
    let f : drop (at - (from + k)) (drop k s) ≡ drop (at - from) s = drop-drop (at - (from + k)) k s ∙ ap (λ (n : ℕ). drop n s) d in
    record { on = omega (arith, m.on); reads = one_more r e (rw f at m.reads) }

pub stopped_more : {due next : Due} {s t : List ℕ} {item : Item} {from number : ℕ} → Right due item next → s ≡ line item ++ t
    → Stopped next t (from + 1) number → Stopped due s from number
stopped_more r e m =
    record {
      before = suc m.before;
      counted = omega (arith, m.counted);
      end = m.end;
      rest = m.rest;
      reads = one_more r e m.reads;
      bad = m.bad;
    }
