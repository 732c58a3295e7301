-- What reading a line means. Every call of the table that a line can say is read back from the line that is written for
-- it; a line that is read as such a call has exactly the words of one row of the table, with single spaces between
-- them; and an ID is that of one word alone. A keyboard message: page KeyLaws. Assumes nothing.
use Prim.Native.Nat.{ℕ, zero, suc, ◌^◌, ◌≤◌, ◌<◌}
use mathlib.Core.Path.{◌≡◌, refl, sym, ap, ◌∙◌}
use mathlib.Core.Bool.{true, false}
use mathlib.Core.List.{List, [], ◌∷◌}
use mathlib.Core.Logic.{⊎_elim}
use native.Mathlib.Omega.{arith}
use lib.Dec.{eqb, ltb}
use lib.ListN.{length}
use borrow.Author.Tests.{le-ltb, eq-eqb, ne_eqb, ltb-false, not-true}
use Rattle.numbers.proofs.Tests.{by_bool, never, both}
use Rattle.numbers.specs.Quoted.{bytes}
use Rattle.words.specs.Words.{every, isnt}
use Rattle.cards_fields.specs.Fields.{padded}
use Rattle.units.specs.declared.Mark.TheVariants as Mark'
use Rattle.packets.specs.declared.Spot.TheVariants.{OnDrum, OnUnit}
use Rattle.packets.specs.declared.How.TheVariants.{Full, Cut, Failed}
use Rattle.line_words.specs.declared.Base.TheVariants.{Decimal, Octal}
use Rattle.line_words.specs.Forms.{IsWord, words_of, id_of}
use Rattle.line_words.proofs.FormLaws.{id-long, id-short}
use Rattle.packets.specs.declared.Act.TheVariants.{Submit, Start, Complete, End, Return, Mark}
use Rattle.shift_script.specs.declared.Line.{Line}
use Rattle.shift_script.specs.declared.Line.TheVariants.{NoCall, Echo, Deck, Select, Board, Release, Delete, Status, Key, Do}
use Rattle.shift_script.specs.declared.Said.{Said}
use Rattle.shift_script.specs.Script.{said, table, say_by, is_echo, is_key, line_says}
use Rattle.shift_script_form.specs.Written.{spaced, decimal, octal, line_for, Sayable}
use Rattle.shift_script_form.proofs.SpacedLaws.{Plain, AllPlain, words-spaced, spaced-words, total, spaced-long, spaced-first}
use Rattle.shift_script_form.proofs.NumberLaws.{Writes, writes}
use Rattle.shift_script_form.proofs.TableLaws.{Fitted, says_row}
use Rattle.shift_script_form.proofs.KeyLaws.{no_key}
use Rattle.shift_script_form.proofs.RowLaws.{
  deck-row,
  select_row,
  board-row,
  start-row,
  done-row,
  cut-row,
  end_row,
  abort-row,
  down-row,
  up-row,
  reserve-row,
  unreserve-row,
  status-row,
  return-row,
  fail-row,
  release-row,
  delete-row,
  submit-row,
}

-- a line of at most 255 bytes that starts neither with `#` nor with `K` says what its words say
said-by : (c : ℕ) (w : List ℕ) (ws : List (List ℕ)) (r : Said) → eqb c 35 ≡ false → eqb c 75 ≡ false → Plain (c ∷ w) → AllPlain ws
    → total ((c ∷ w) ∷ ws) ≤ 256 → say_by table ((c ∷ w) ∷ ws) ≡ r
    → line_says (spaced ((c ∷ w) ∷ ws)) ≡ r
unfolding line_says is_echo
said-by c w ws r n k p a few e =
    let l : length (spaced ((c ∷ w) ∷ ws)) ≤ 255 = omega (arith, spaced-long (c ∷ w) ws) in
    rw (
      le-ltb 255 (length (spaced ((c ∷ w) ∷ ws))) l,
      words-spaced (c ∷ w) ws p a,
      spaced-first c w ws,
      ne_eqb (suc (length (spaced (w ∷ ws)))) 0 (λ z. omega arith),
      n,
      no_key c (spaced (w ∷ ws)) k,
    ) e

-- the words of numbers
ten : {n : ℕ} → n < 10 ^ 9 → Writes Decimal n (decimal n)
ten {n} h = writes Decimal n h

byte : {n : ℕ} → n ≤ 255 → Writes Decimal n (decimal n)
byte {n} h = writes Decimal n (omega arith)

code : {n : ℕ} → n ≤ 255 → Writes Octal n (octal n)
code {n} h = writes Octal n (omega arith)

-- every call that a line can say is read back from its line
pub read_back : (line : Line) (id : List ℕ) → Sayable line id → line_says (line_for line id) ≡ record { line = line; id = id_of id }
read_back NoCall id h = absurd h
read_back Echo id h = absurd h
read_back Deck id h = rw h (said-by 68 (bytes "ECK") [] (said Deck) refl refl refl tt (omega arith) deck-row)
read_back Select id h = rw h (said-by 83 (bytes "ELECT") [] (said Select) refl refl refl tt (omega arith) select_row)
read_back Board id h = rw h (said-by 66 (bytes "OARD") [] (said Board) refl refl refl tt (omega arith) board-row)
read_back (Do (Submit place packet function channel (OnUnit unit))) id h = absurd h
read_back (Do (Submit place packet function channel (OnDrum x y))) id h =
    let a = byte h.1 in
    let b = byte h.2 in
    let d = code h.3 in
    let e = byte h.4 in
    let g = ten h.5 in
    let w = ten h.6 in
    rw h.0
    (said-by 83 (bytes "UBMIT")
    (decimal place ∷ decimal packet ∷ octal function ∷ decimal channel.0 ∷ decimal x ∷ decimal y ∷ [])
    (said (Do (Submit place packet function channel (OnDrum x y)))) refl refl refl
    (a.plain, (b.plain, (d.plain, (e.plain, (g.plain, (w.plain, tt))))))
    (omega (arith, a.short, b.short, d.short, e.short, g.short, w.short))
    (submit-row h.1 h.2 h.3 h.4 a b d e g w))
read_back (Do (Start channel)) id h =
    let a = byte h.1 in
    rw h.0 (said-by 83 (bytes "TART") (decimal channel.0 ∷ []) (said (Do (Start channel))) refl refl refl (a.plain, tt)
    (omega (arith, a.short)) (start-row a h.1))
read_back (Do (Complete channel Full)) id h =
    let a = byte h.1 in
    rw h.0 (said-by 68 (bytes "ONE") (decimal channel.0 ∷ []) (said (Do (Complete channel Full))) refl refl refl (a.plain, tt)
    (omega (arith, a.short)) (done-row a h.1))
read_back (Do (Complete channel Cut)) id h =
    let a = byte h.1 in
    rw h.0 (said-by 67 (bytes "UT") (decimal channel.0 ∷ []) (said (Do (Complete channel Cut))) refl refl refl (a.plain, tt)
    (omega (arith, a.short)) (cut-row a h.1))
read_back (Do (Complete channel (Failed n))) id h =
    let a = byte h.1 in
    let b = code h.2 in
    rw h.0 (said-by 70 (bytes "AIL") (decimal channel.0 ∷ octal n ∷ []) (said (Do (Complete channel (Failed n)))) refl refl refl
    (a.plain, (b.plain, tt)) (omega (arith, a.short, b.short)) (fail-row a h.1 b h.2))
read_back (Do (End place false)) id h =
    let a = byte h.1 in
    rw h.0 (said-by 69 (bytes "ND") (decimal place ∷ []) (said (Do (End place false))) refl refl refl (a.plain, tt)
    (omega (arith, a.short)) (end_row a h.1))
read_back (Do (End place true)) id h =
    let a = byte h.1 in
    rw h.0 (said-by 65 (bytes "BORT") (decimal place ∷ []) (said (Do (End place true))) refl refl refl (a.plain, tt)
    (omega (arith, a.short)) (abort-row a h.1))
read_back (Do (Return place channel unit)) id h =
    let a = byte h.1 in
    let b = byte h.2 in
    let d = byte h.3 in
    rw h.0 (said-by 82 (bytes "ETURN") (decimal place ∷ decimal channel.0 ∷ decimal unit.0 ∷ [])
    (said (Do (Return place channel unit))) refl refl refl (a.plain, (b.plain, (d.plain, tt))) (omega (arith, a.short, b.short, d.short))
    (return-row a h.1 b h.2 d h.3))
read_back (Do (Mark channel unit Mark'.Down true)) id h =
    let a = byte h.1 in
    let b = byte h.2 in
    rw h.0 (said-by 68 (bytes "OWN") (decimal channel.0 ∷ decimal unit.0 ∷ []) (said (Do (Mark channel unit Mark'.Down true))) refl
    refl refl (a.plain, (b.plain, tt)) (omega (arith, a.short, b.short)) (down-row a h.1 b h.2))
read_back (Do (Mark channel unit Mark'.Down false)) id h =
    let a = byte h.1 in
    let b = byte h.2 in
    rw h.0 (said-by 85 (bytes "P") (decimal channel.0 ∷ decimal unit.0 ∷ []) (said (Do (Mark channel unit Mark'.Down false))) refl refl
    refl (a.plain, (b.plain, tt)) (omega (arith, a.short, b.short)) (up-row a h.1 b h.2))
read_back (Do (Mark channel unit Mark'.Reserved true)) id h =
    let a = byte h.1 in
    let b = byte h.2 in
    rw h.0 (said-by 82 (bytes "ESERVE") (decimal channel.0 ∷ decimal unit.0 ∷ []) (said (Do (Mark channel unit Mark'.Reserved true)))
    refl refl refl (a.plain, (b.plain, tt)) (omega (arith, a.short, b.short)) (reserve-row a h.1 b h.2))
read_back (Do (Mark channel unit Mark'.Reserved false)) id h =
    let a = byte h.1 in
    let b = byte h.2 in
    rw h.0 (said-by 85 (bytes "NRESERVE") (decimal channel.0 ∷ decimal unit.0 ∷ [])
    (said (Do (Mark channel unit Mark'.Reserved false))) refl refl refl (a.plain, (b.plain, tt)) (omega (arith, a.short, b.short))
    (unreserve-row a h.1 b h.2))
read_back Release id h =
    said-by 82 (bytes "ELEASE") (id ∷ []) (record { line = Release; id = id_of id }) refl refl refl (h.0.plain, tt) (omega (arith, h.1))
    (release-row id h.0.some)
read_back Delete id h =
    said-by 68 (bytes "ELETE") (id ∷ []) (record { line = Delete; id = id_of id }) refl refl refl (h.0.plain, tt) (omega (arith, h.1))
    (delete-row id h.0.some)
read_back (Status place packet) id h =
    let a = byte h.1 in
    let b = byte h.2 in
    rw h.0 (said-by 83 (bytes "TATUS") (decimal place ∷ decimal packet ∷ []) (said (Status place packet)) refl refl refl
    (a.plain, (b.plain, tt)) (omega (arith, a.short, b.short)) (status-row a h.1 b h.2))
read_back Key id h = absurd h

-- a line that is read as a call of the table: at most 255 bytes, no echo, no keyboard message, the words of one row
-- with single spaces between them, and what that row says
pub record Called (s : List ℕ) : Type 0 where
  pub few : length s ≤ 255
  pub loud : is_echo s ≡ false
  pub other : is_key s ≡ false
  pub words : spaced (words_of s) ≡ s
  pub row : Fitted table (words_of s) (line_says s)

pub read-call : (s : List ℕ) → (line_says s ≡ said NoCall → ⊥) → (line_says s ≡ said Echo → ⊥) → (line_says s ≡ said Key → ⊥) → Called s
unfolding line_says
read-call s n e m =
    by_bool (ltb 255 (length s))
    (λ t. absurd (n (rw t)))
    (λ t. by_bool (is_echo s)
    (λ u. absurd (e (rw (t, u))))
    (λ u. by_bool (is_key s)
    (λ k. absurd (m (rw (t, u, k))))
    (λ k. ⊎_elim
    (λ v. absurd (n (rw (t, u, k) v)))
    (λ f. record { few = ltb-false 255 (length s) t; loud = u; other = k; words = spaced-words s; row = rw (t, u, k) f })
    (says_row (words_of s)))))

heads : {x y : ℕ} {s t : List ℕ} → x ∷ s ≡ y ∷ t → x ≡ y
heads e = cc

tails : {x y : ℕ} {s t : List ℕ} → x ∷ s ≡ y ∷ t → s ≡ t
tails e = cc

no-blank : (x : ℕ) (s : List ℕ) → Plain (x ∷ s) → 32 ≡ x → ⊥
no-blank x s p e = never (eq-eqb x 32 (sym e)) (not-true (eqb x 32) (both (isnt 32 x) (every (isnt 32) s) p).0)

-- two words of at most six bytes are one ID only where they are one word
padded-one : (w : ℕ) (s t : List ℕ) → length s ≤ w → length t ≤ w → Plain s → Plain t → padded w s ≡ padded w t → s ≡ t
padded-one w [] [] h k p q e = refl
padded-one zero [] (y ∷ t) h k p q e = absurd (omega arith)
padded-one (suc w) [] (y ∷ t) h k p q e = absurd (no-blank y t q (heads e))
padded-one zero (x ∷ s) t h k p q e = absurd (omega arith)
padded-one (suc w) (x ∷ s) [] h k p q e = absurd (no-blank x s p (sym (heads e)))
padded-one (suc w) (x ∷ s) (y ∷ t) h k p q e =
    let a : x ≡ y = heads e in
    let b : s ≡ t =
    padded-one w s t (omega arith) (omega arith) (both (isnt 32 x) (every (isnt 32) s) p).1
    (both (isnt 32 y) (every (isnt 32) t) q).1 (tails e) in
    cc

pub same_id : (s t : List ℕ) → IsWord s → IsWord t → length s ≤ 6 → length t ≤ 6 → id_of s ≡ id_of t → s ≡ t
same_id s t a b h k e = padded-one 6 s t h k a.plain b.plain (sym (id-short s h) ∙ e ∙ id-short t k)

-- and a longer word is no word's
pub long-id : (s t : List ℕ) → 6 < length s → IsWord t → length t ≤ 6 → id_of s ≡ id_of t → ⊥
long-id s t h b k e =
    let z = padded-one 6 [] t (omega arith) k refl b.plain (sym (id-long s h) ∙ e ∙ id-short t k) in
    omega (arith, b.some, ap length z)
