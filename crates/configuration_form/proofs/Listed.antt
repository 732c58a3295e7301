-- "The codes that set interlock, one a line": in the word of a text in the written form, bit k is 1 exactly if a line of
-- the text lists code k. Line by line: a code line's code is above all before it, so that adding its bit sets that bit
-- and no other; every other line leaves the word as it is. Assumes nothing.
use Prim.Native.Nat.{ℕ, zero, suc, ◌+◌, ◌^◌, ◌≤◌, ◌<◌}
use mathlib.Core.Path.{◌≡◌, refl, sym, ap, ◌∙◌}
use mathlib.Core.Bool.{Bool, true, false, ◌||◌}
use mathlib.Core.List.{List, [], ◌∷◌}
use native.Mathlib.Nat.{lt_of_lt_of_le}
use native.Mathlib.Omega.{arith}
use lib.Dec.{eqb}
use lib.Pow.{pow_mono}
use borrow.Author.Tests.{eqb-true, eqb-false, eq-eqb, ne_eqb}
use Rattle.numbers.specs.Bits.{bit}
use Rattle.numbers.proofs.BitLaws.{bit-none, bit-add, add-below}
use Rattle.numbers.proofs.Tests.{by_bool, or_assoc, or-false, or-true}
use Rattle.channels.specs.declared.Channel.{Channel}
use Rattle.channels.specs.Channels.{sets_interlock}
use Rattle.configuration_form.specs.Form.{Item, Due, Right, AllRight, Complete, InForm, lists_code}

-- the word so far, and the code from which on it has no bit
abbrev word_at : Due → ℕ
word_at Due.first = 0
word_at (Due.channels left next drum of) = 0
word_at (Due.downs left next of marks) = 0
word_at (Due.codes left next of marks word) = word

abbrev next_at : Due → ℕ
next_at Due.first = 0
next_at (Due.channels left next drum of) = 0
next_at (Due.downs left next of marks) = 0
next_at (Due.codes left next of marks word) = next

-- one line lists a code
abbrev says : Item → ℕ → Bool
says item k = lists_code (item ∷ []) k

says-more : (item : Item) (items : List Item) (k : ℕ) → (says item k || lists_code items k) ≡ lists_code (item ∷ items) k
says-more (Item.count n) items k = refl
says-more (Item.channel c kind n) items k = refl
says-more (Item.down c u) items k = refl
says-more (Item.code j) items k = ap (λ (b : Bool). b || lists_code items k) (or-false (eqb j k))

-- the bit of a code above the word is set, and no other
added : (word next j k : ℕ) → word < 2 ^ next → next ≤ j → sets_interlock (word + 2 ^ j) k ≡ (sets_interlock word k || says (Item.code j) k)
unfolding sets_interlock
added word next j k h l =
    let a = bit-add word j k (lt_of_lt_of_le h (pow_mono l)) in
    by_bool (eqb k j)
    (λ t. let i : eqb j k ≡ true = eq-eqb j k (sym (eqb-true k j t)) in rw (a, t, i) (sym (or-true (eqb (bit word k) 1))))
    (λ t. let i : eqb j k ≡ false = ne_eqb j k (λ q. eqb-false k j t (sym q)) in rw (a, t, i) (sym (or-false (eqb (bit word k) 1))))

-- a right line adds what it says, and keeps the word below its next code
turn : {due next : Due} {item : Item} (k : ℕ) → Right due item next → word_at due < 2 ^ next_at due
    → (word_at next < 2 ^ next_at next) × (sets_interlock (word_at next) k ≡ (sets_interlock (word_at due) k || says item k))
turn k (Right.channel_count a) h = (h, sym (or-false (sets_interlock 0 k)))
turn k (Right.channel_line a b d e f) h = (h, sym (or-false (sets_interlock 0 k)))
turn k (Right.down_count a) h = (h, sym (or-false (sets_interlock 0 k)))
turn k (Right.down_line a b d e) h = (h, sym (or-false (sets_interlock 0 k)))
turn k (Right.code_count a) h = (omega arith, sym (or-false (sets_interlock 0 k)))
turn k (Right.code_line {next = next} {k = j} {word = word} a b d e f) h = (add-below word next j h f, added word next j k h f)

-- and so do right lines
turns : {due end : Due} {items : List Item} (k : ℕ) → AllRight due items end → word_at due < 2 ^ next_at due
    → sets_interlock (word_at end) k ≡ (sets_interlock (word_at due) k || lists_code items k)
turns {due} k AllRight.none h = sym (or-false (sets_interlock (word_at due) k))
turns {due} k (AllRight.more {item = item} {items = items} r a) h =
    let t = turn k r h in
    turns k a t.0
    ∙ ap (λ (b : Bool). b || lists_code items k) t.1
    ∙ or_assoc (sets_interlock (word_at due) k) (says item k) (lists_code items k)
    ∙ ap (λ (b : Bool). sets_interlock (word_at due) k || b) (says-more item items k)

-- what is configured is the word at the end
the_word : (due : Due) (of : List Channel) (marks : List Bool) (word : ℕ) → Complete due of marks word → word_at due ≡ word
the_word (Due.codes zero next o m w) of marks word c = c.2
the_word Due.first of marks word c = elim c [ ]
the_word (Due.channels left next drum _) of marks word c = elim c [ ]
the_word (Due.downs left next _ down) of marks word c = elim c [ ]
the_word (Due.codes (suc _) next o m w) of marks word c = elim c [ ]

none-set : (k : ℕ) → sets_interlock 0 k ≡ false
unfolding sets_interlock
none-set k = rw (bit-none k)

-- the codes that set interlock are exactly those that lines of the text list
pub listed-exactly : (s : List ℕ) (of : List Channel) (marks : List Bool) (word : ℕ) (f : InForm s of marks word) (k : ℕ)
    → sets_interlock word k ≡ lists_code f.reads.items k
listed-exactly s of marks word f k =
    ap (λ (w : ℕ). sets_interlock w k) (sym (the_word f.end of marks word f.all))
    ∙ turns k f.reads.right (omega arith)
    ∙ ap (λ (b : Bool). b || lists_code f.reads.items k) (none-set k)
