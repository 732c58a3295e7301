-- The line of a keyboard message. Every message that a line can hold is read back from its line as it stands; a line
-- that is read as a keyboard message is `KEY` alone or `KEY`, one space and that message: no row of the table says one,
-- and a line that starts with another letter is none. Assumes nothing.
use Prim.Native.Nat.{ℕ, ◌≤◌}
use mathlib.Core.Path.{◌≡◌, refl, sym, ap, ◌∙◌}
use mathlib.Core.Bool.{Bool, true, false, ◌&&◌, not}
use mathlib.Core.List.{List, [], ◌∷◌, ◌++◌}
use mathlib.Core.Logic.{◌⊎◌, inl, inr}
use native.Mathlib.Omega.{arith}
use lib.Dec.{eqb, ltb}
use lib.ListN.{length, take, drop, take-append-drop}
use borrow.Author.Tests.{le-ltb, ltb-false, ne_eqb, not-true}
use Rattle.numbers.proofs.Tests.{by_bool, never, both}
use Rattle.numbers.specs.Quoted.{bytes}
use Rattle.words.specs.Words.{same}
use Rattle.words.proofs.WordLaws.{same-equal}
use Rattle.line_words.specs.Forms.{words_of, fitting}
use Rattle.shift_script.specs.declared.Line.{Line}
use Rattle.shift_script.specs.declared.Line.TheVariants as Line'
use Rattle.shift_script.specs.declared.Said.{Said}
use Rattle.shift_script.specs.Script.{said, Row, table, say_by, is_echo, is_key, message_in, line_says}
use Rattle.shift_script_form.specs.Written.{key_line}

-- a line that starts with another letter is no keyboard message
pub no_key : (c : ℕ) (s : List ℕ) → eqb c 75 ≡ false → is_key (c ∷ s) ≡ false
unfolding is_key
no_key c s n = rw n

-- every message that a line can hold is read back from its line, and the empty one from `KEY` alone
pub key_back : (m : List ℕ) → length m ≤ 251 → (line_says (key_line m) ≡ said Line'.Key) × (message_in (key_line m) ≡ m)
unfolding line_says is_echo is_key
key_back m h =
    let l : length (key_line m) ≤ 255 = omega arith in
    (rw (le-ltb 255 (length (key_line m)) l, ne_eqb (length (key_line m)) 0 (λ z. omega arith)) refl, refl)

pub key-alone : (line_says (bytes "KEY") ≡ said Line'.Key) × (message_in (bytes "KEY") ≡ [])
unfolding line_says is_echo is_key
key-alone = (refl, refl)

-- a meaning is a keyboard message; no row of the table has it
abbrev is_message : Line → Bool
is_message Line'.NoCall = false
is_message Line'.Echo = false
is_message Line'.Deck = false
is_message Line'.Select = false
is_message Line'.Board = false
is_message (Line'.Do act) = false
is_message Line'.Release = false
is_message Line'.Delete = false
is_message (Line'.Status p k) = false
is_message Line'.Key = true

abbrev without : List Row → List (List ℕ) → Bool
without [] ws = true
without (row ∷ rows) ws = not (is_message (row.says ws).line) && without rows ws

table-without : (ws : List (List ℕ)) → without table ws ≡ true
unfolding table
table-without ws = refl

rows-without : (rows : List Row) (ws : List (List ℕ)) → without rows ws ≡ true → is_message (say_by rows ws).line ≡ false
unfolding say_by
rows-without [] ws o = refl
rows-without (row ∷ rows) ws o =
    let p = both (not (is_message (row.says ws).line)) (without rows ws) o in
    by_bool (fitting (words_of row.form) ws)
    (λ t. rw t (not-true (is_message (row.says ws).line) p.0))
    (λ t. rw t (rows-without rows ws p.1))

-- a line that is read as a keyboard message
pub read-key : (s : List ℕ) → line_says s ≡ said Line'.Key → (length s ≤ 255) × (is_echo s ≡ false) × (is_key s ≡ true)
unfolding line_says
read-key s e =
    by_bool (ltb 255 (length s))
    (λ t. let f : said Line'.NoCall ≡ said Line'.Key = rw t at e in never refl (ap message (sym f)))
    (λ t. by_bool (is_echo s)
    (λ u. let f : said Line'.Echo ≡ said Line'.Key = rw (t, u) at e in never refl (ap message (sym f)))
    (λ u. by_bool (is_key s)
    (λ k. (ltb-false 255 (length s) t, u, k))
    (λ k. let f : say_by table (words_of s) ≡ said Line'.Key = rw (t, u, k) at e in
    never refl (ap message (sym f) ∙ rows-without table (words_of s) (table-without (words_of s))))))
  where
    message : Said → Bool
    message m = is_message m.line

-- is `KEY`, or `KEY`, one space and its message
key-form : (s : List ℕ) → is_key s ≡ true → (s ≡ bytes "KEY") ⊎ (s ≡ key_line (message_in s))
unfolding is_key
key-form s k =
    by_bool (same s (bytes "KEY"))
    (λ t. inl (same-equal s (bytes "KEY") t))
    (λ t. let f : same (take 4 s) (bytes "KEY ") ≡ true = rw t at k in
    inr (sym (take-append-drop 4 s) ∙ ap (λ (l : List ℕ). l ++ drop 4 s) (same-equal (take 4 s) (bytes "KEY ") f)))

pub key-is : (s : List ℕ) → line_says s ≡ said Line'.Key → (s ≡ bytes "KEY") ⊎ (s ≡ key_line (message_in s))
key-is s e = key-form s (read-key s e).2
