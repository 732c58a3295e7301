-- One line, both ways: what is read as a line is that line written, and a line written is read as itself. Assumes
-- nothing.
use Prim.Native.Nat.{ℕ, zero, suc, ◌+◌, ◌^◌, ◌≤◌, ◌<◌}
use mathlib.Core.Path.{◌≡◌, refl, sym, ap, subst, ◌∙◌}
use mathlib.Core.Bool.{cond}
use mathlib.Core.List.{List, [], ◌∷◌, ◌++◌, append_assoc}
use native.Mathlib.Omega.{arith}
use lib.Dec.{leb}
use lib.ListN.{length, get_or, drop, length-append}
use lib.Seq.{drop-drop, get_or-append_seam}
use borrow.Author.Tests.{le-leb, leb-true, eq-eqb, eqb-true}
use Rattle.numbers.specs.Quoted.{byte, bytes}
use Rattle.numbers.proofs.Tests.{by_bool}
use Rattle.numbers.specs.Kinds.{code_of, kind_of, is_drum}
use Rattle.numbers.proofs.KindLaws.{code-two, code-long, code_read, read-code}
use Rattle.numbers.specs.declared.Kind.{Kind}
use Rattle.numbers.specs.Limits.{most_words}
use Rattle.text.specs.Class.{is_digit}
use Rattle.text.specs.Reading.{two_digits_of, decimal_of}
use Rattle.text.specs.Writing.{two_text, decimal_text}
use Rattle.text.proofs.Undo.{two-undone, decimal-undone}
use Rattle.text.proofs.Redo.{two-redone, decimal-redone}
use Rattle.std.specs.Prelude.{Option, Some, None}
use Rattle.configuration.specs.declared.line.ChannelLine.{ChannelLine}
use Rattle.configuration.specs.declared.line.DownLine.{DownLine}
use Rattle.configuration.specs.Lines.{on_number, on_read, says_channel, says_down, stands, least, most, last_number, up_to_15, channel_line, down_line}
use Rattle.configuration_form.specs.Form.{Item, line}

-- what is read is one thing, or nothing
pub no_line {ℓ} : {P : Type ℓ} {A : Type 0} {a : A} → None ≡ Some a → P
no_line e = let z : ◌≡◌ {A = ℕ} 0 1 = cc in absurd (omega arith)

pub one_line : {A : Type 0} {a b : A} → Some a ≡ Some b → a ≡ b
one_line e = cc

-- a text that starts with a line of k bytes
pub record Starts (s : List ℕ) (item : Item) (k : ℕ) : Type 0 where
  pub same : s ≡ line item ++ drop k s
  pub long : k ≡ length (line item)

-- a byte that stands at an index, not 0, is what is dropped there
pub head_at : (s : List ℕ) (k b : ℕ) → get_or s k 0 ≡ suc b → drop k s ≡ suc b ∷ drop (suc k) s
head_at [] k b e = absurd (omega arith)
head_at (x ∷ s) zero b e = rw e refl
head_at (x ∷ s) (suc k) b e = head_at s k b e

-- a number that ends its line
pub record Counted (low high : ℕ) (s : List ℕ) (n k : ℕ) : Type 0 where
  pub least : low ≤ n
  pub most : n ≤ high
  pub starts : Starts s (Item.count n) k

pub last-redone : (low high : ℕ) (s : List ℕ) (n k : ℕ) → last_number low high s ≡ Some (n, k) → Counted low high s n k
unfolding last_number
last-redone low high s n k e = by (decimal_of s) refl e
  where
    by : (d : Option (ℕ × ℕ)) → decimal_of s ≡ d
        → on_number {A = Option (ℕ × ℕ)} d None (λ n k. cond (leb low n)
        (cond (leb n high) (cond (stands (byte "\n") k s) (Some (n, k + 1)) None) None) None)
        ≡ Some (n, k)
        → Counted low high s n k
    by None d e = no_line e
    by (Some r) d e =
        let m = r.0 in
        let j = r.1 in
        by_bool (leb low m)
        (λ a. by_bool (leb m high)
        (λ b. by_bool (stands (byte "\n") j s)
        (λ t.
        let i = one_line (rw (a, b, t) at e) in
        let p : m ≡ n = ap (λ (x : ℕ × ℕ). x.0) i in
        let q : j + 1 ≡ k = ap (λ (x : ℕ × ℕ). x.1) i in
        let w = decimal-redone s m j d in
        let f : drop j s ≡ 10 ∷ drop (suc j) s = head_at s j 9 (eqb-true (get_or s j 0) 10 t) in
        let g : suc j ≡ k = omega arith in
        let whole : s ≡ line (Item.count m) ++ drop (suc j) s =
        w.same ∙ ap (λ (l : List ℕ). decimal_text m ++ l) f ∙ sym (append_assoc (decimal_text m) (bytes "\n") (drop (suc j) s)) in
        let l : suc j ≡ length (line (Item.count m)) = omega (arith, w.long, length-append (decimal_text m) (bytes "\n")) in
        rw (← p, ← g) (record { least = leb-true low m a; most = leb-true m high b; starts = record { same = whole; long = l } }))
        (λ t. no_line (rw (a, b, t) at e)))
        (λ b. no_line (rw (a, b) at e)))
        (λ a. no_line (rw a at e))

pub last-undone : (low high n : ℕ) (rest : List ℕ) → low ≤ n → n ≤ high → high < 10 ^ 7
    → last_number low high (line (Item.count n) ++ rest) ≡ Some (n, length (line (Item.count n)))
unfolding last_number is_digit
last-undone low high n rest a b c =
    rw (
      append_assoc (decimal_text n) (bytes "\n") rest,
      decimal-undone n (10 ∷ rest) (omega arith) refl,
      le-leb low n a,
      le-leb n high b,
      get_or-append_seam (decimal_text n) 10 rest 0,
      length-append (decimal_text n) (bytes "\n"),
    )

-- two digits, 00 to 15, with a byte behind them
pub record Up (end : ℕ) (s : List ℕ) (n : ℕ) : Type 0 where
  pub small : n ≤ 15
  pub two : s ≡ two_text n ++ drop 2 s
  pub behind : get_or s 2 0 ≡ end

pub up-redone : (end : ℕ) (s : List ℕ) (n : ℕ) → up_to_15 end s ≡ Some n → Up end s n
unfolding up_to_15
up-redone end s n e = by (two_digits_of s) refl e
  where
    by : (d : Option (ℕ × ℕ)) → two_digits_of s ≡ d → on_number d None (λ m _. cond (leb m 15) (cond (stands end 2 s) (Some m) None) None) ≡ Some n
        → Up end s n
    by None d e = no_line e
    by (Some r) d e =
        by_bool (leb r.0 15)
        (λ t. by_bool (stands end 2 s)
        (λ u. let q : r.0 ≡ n = one_line (rw (t, u) at e) in
        rw (← q) (record { small = leb-true r.0 15 t; two = (two-redone s r.0 r.1 d).2; behind = eqb-true (get_or s 2 0) end u }))
        (λ u. no_line (rw (t, u) at e)))
        (λ t. no_line (rw t at e))

pub up-undone : (end n : ℕ) (rest : List ℕ) → n ≤ 15 → up_to_15 end (two_text n ++ (end ∷ rest)) ≡ Some n
unfolding up_to_15
up-undone end n rest h = rw (two-undone n (end ∷ rest) (omega arith), le-leb n 15 h, eq-eqb end end refl)

-- `cc KK n`
pub record ChannelIs (s : List ℕ) (c : ℕ) (kind : Kind) (n k : ℕ) : Type 0 where
  pub small : c ≤ 15
  pub least : least kind ≤ n
  pub most : n ≤ most kind
  pub starts : Starts s (Item.channel c kind n) k

-- the two letters at indices 3 and 4, each with a space before and after, are what stands there
six : (s : List ℕ) (c : ℕ) → s ≡ two_text c ++ drop 2 s → get_or s 2 0 ≡ byte " " → get_or s 5 0 ≡ byte " "
    → s ≡ two_text c ++ (bytes " " ++ ((get_or s 3 0 ∷ get_or s 4 0 ∷ []) ++ (bytes " " ++ drop 6 s)))
six [] c e p q = absurd (omega arith)
six (a ∷ []) c e p q = absurd (omega arith)
six (a ∷ b ∷ []) c e p q = absurd (omega arith)
six (a ∷ b ∷ x ∷ []) c e p q = absurd (omega arith)
six (a ∷ b ∷ x ∷ y ∷ []) c e p q = absurd (omega arith)
six (a ∷ b ∷ x ∷ y ∷ z ∷ []) c e p q = absurd (omega arith)
six (a ∷ b ∷ x ∷ y ∷ z ∷ w ∷ s) c e p q = e ∙ ap (λ (l : List ℕ). two_text c ++ l) (rw (p, q) refl)

-- a channel line is six bytes and its n
pub channel-long : (c : ℕ) (kind : Kind) (n : ℕ) → length (line (Item.channel c kind n)) ≡ 6 + length (line (Item.count n))
channel-long c kind n = omega (arith, length-append (code_of kind) (bytes " " ++ line (Item.count n)), code-long kind)

-- the parts of a channel line that was read, put together
module _ (s : List ℕ) (c : ℕ) (kind : Kind) (n k : ℕ) where
  joined : c ≤ 15 → s ≡ two_text c ++ drop 2 s → get_or s 2 0 ≡ byte " " → kind_of (get_or s 3 0) (get_or s 4 0) ≡ Some kind → get_or s 5 0 ≡ byte " "
      → Counted (least kind) (most kind) (drop 6 s) n k → ChannelIs s c kind n (6 + k)
  joined small two sp code tp last =
      let rest = drop k (drop 6 s) in
      let tail : drop 6 s ≡ line (Item.count n) ++ rest = last.starts.same in
      let letters : get_or s 3 0 ∷ get_or s 4 0 ∷ [] ≡ code_of kind = read-code (get_or s 3 0) (get_or s 4 0) kind code in
      let whole : s ≡ two_text c ++ (bytes " " ++ (code_of kind ++ (bytes " " ++ (line (Item.count n) ++ rest)))) =
      six s c two sp tp ∙ cc in
      record {
        small = small;
        least = last.least;
        most = last.most;
        starts = record {
          same = whole ∙ regroup ∙ ap (λ (l : List ℕ). line (Item.channel c kind n) ++ l) (drop-drop k 6 s);
          long = ap (λ (m : ℕ). 6 + m) last.starts.long ∙ sym (channel-long c kind n);
        };
      }
    where
      regroup : two_text c ++ (bytes " " ++ (code_of kind ++ (bytes " " ++ (line (Item.count n) ++ drop k (drop 6 s)))))
          ≡ line (Item.channel c kind n) ++ drop k (drop 6 s)
      regroup =
          ap (λ (l : List ℕ). two_text c ++ (bytes " " ++ l))
          (sym (append_assoc (code_of kind) (bytes " " ++ line (Item.count n)) (drop k (drop 6 s))))

-- what is read as `cc KK n` is that line written
pub channel-redone : (s : List ℕ) (l : ChannelLine) → channel_line s ≡ Some l → ChannelIs s l.channel.0 l.has.kind l.has.n l.length
unfolding channel_line
channel-redone s l e = first (up_to_15 (byte " ") s) refl e
  where
    last : (b : ℕ) (m : Kind) (d : Option (ℕ × ℕ)) → last_number (least m) (most m) (drop 6 s) ≡ d → Up (byte " ") s b
        → kind_of (get_or s 3 0) (get_or s 4 0) ≡ Some m → get_or s 5 0 ≡ byte " "
        → on_number d None (λ n k. says_channel (record { 0 = b }) m n (6 + k)) ≡ Some l
        → ChannelIs s l.channel.0 l.has.kind l.has.n l.length
    last b m None d up code tp e = no_line e
    last b m (Some r) d up code tp e =
        subst (λ (x : ChannelLine). ChannelIs s x.channel.0 x.has.kind x.has.n x.length) (one_line e)
        (joined s b m r.0 r.1 up.small up.two up.behind code tp (last-redone (least m) (most m) (drop 6 s) r.0 r.1 d))

    code : (b : ℕ) (d : Option Kind) → kind_of (get_or s 3 0) (get_or s 4 0) ≡ d → Up (byte " ") s b
        → on_read d None (λ m. cond (stands (byte " ") 5 s)
        (on_number (last_number (least m) (most m) (drop 6 s)) None λ n k. says_channel (record { 0 = b }) m n (6 + k)) None)
        ≡ Some l
        → ChannelIs s l.channel.0 l.has.kind l.has.n l.length
    code b None d up e = no_line e
    code b (Some m) d up e =
        by_bool (stands (byte " ") 5 s)
        (λ t. last b m (last_number (least m) (most m) (drop 6 s)) refl up d (eqb-true (get_or s 5 0) (byte " ") t) (rw t at e))
        (λ f. no_line (rw f at e))

    first : (d : Option ℕ) → up_to_15 (byte " ") s ≡ d
        → on_read d None (λ c. on_read (kind_of (get_or s 3 0) (get_or s 4 0)) None λ kind.
        cond (stands (byte " ") 5 s)
        (on_number (last_number (least kind) (most kind) (drop 6 s)) None λ n k. says_channel (record { 0 = c }) kind n (6 + k)) None)
        ≡ Some l
        → ChannelIs s l.channel.0 l.has.kind l.has.n l.length
    first None d e = no_line e
    first (Some b) d e = code b (kind_of (get_or s 3 0) (get_or s 4 0)) refl (up-redone (byte " ") s b d) e

pub most-small : (kind : Kind) → most kind ≤ most_words
most-small kind = by_bool (is_drum kind) (λ t. rw t (omega arith)) (λ f. rw f (omega arith))

-- a channel line whose code is the letters x, y
spelt : (c n x y : ℕ) (kind : Kind) (rest : List ℕ) → kind_of x y ≡ Some kind → c ≤ 15 → least kind ≤ n → n ≤ most kind
    → channel_line (two_text c ++ (bytes " " ++ ((x ∷ y ∷ []) ++ (bytes " " ++ (line (Item.count n) ++ rest)))))
    ≡ says_channel (record { 0 = c }) kind n (6 + length (line (Item.count n)))
unfolding channel_line
spelt c n x y kind rest e a b d =
    rw (
      up-undone (byte " ") c ((x ∷ y ∷ []) ++ (bytes " " ++ (line (Item.count n) ++ rest))) a,
      e,
      last-undone (least kind) (most kind) n rest b d (omega (arith, most-small kind)),
    )

-- and `cc KK n` written is read as itself
pub channel-undone : (c : ℕ) (kind : Kind) (n : ℕ) (rest : List ℕ) → c ≤ 15 → least kind ≤ n → n ≤ most kind
    → channel_line (line (Item.channel c kind n) ++ rest) ≡ says_channel (record { 0 = c }) kind n (length (line (Item.channel c kind n)))
channel-undone c kind n rest a b d =
    subst
    (λ (code : List ℕ). channel_line ((two_text c ++ (bytes " " ++ (code ++ (bytes " " ++ line (Item.count n))))) ++ rest)
    ≡ says_channel (record { 0 = c }) kind n (6 + length (line (Item.count n))))
    (code-two kind) (spelt c n (get_or (code_of kind) 0 0) (get_or (code_of kind) 1 0) kind rest (code_read kind) a b d)
    ∙ ap (says_channel (record { 0 = c }) kind n) (sym (channel-long c kind n))

-- `cc uu`
pub record DownIs (s : List ℕ) (c u : ℕ) : Type 0 where
  pub channel : c ≤ 15
  pub unit : u ≤ 15
  pub starts : Starts s (Item.down c u) 6

-- the bytes at indices 2 and 5, and what stands between
five : (s : List ℕ) (c u : ℕ) → s ≡ two_text c ++ drop 2 s → get_or s 2 0 ≡ byte " " → drop 3 s ≡ two_text u ++ drop 2 (drop 3 s) → get_or (drop 3 s) 2 0 ≡ byte "\n"
    → s ≡ line (Item.down c u) ++ drop 6 s
five [] c u e p f q = absurd (omega arith)
five (a ∷ []) c u e p f q = absurd (omega arith)
five (a ∷ b ∷ []) c u e p f q = absurd (omega arith)
five (a ∷ b ∷ x ∷ []) c u e p f q = absurd (omega arith)
five (a ∷ b ∷ x ∷ y ∷ []) c u e p f q = absurd (omega arith)
five (a ∷ b ∷ x ∷ y ∷ z ∷ []) c u e p f q = absurd (omega arith)
five (a ∷ b ∷ x ∷ y ∷ z ∷ w ∷ s) c u e p f q =
    e ∙ ap (λ (l : List ℕ). two_text c ++ l)
    (ap (λ (v : ℕ). v ∷ y ∷ z ∷ w ∷ s) p ∙ ap (λ (l : List ℕ). byte " " ∷ l) (f ∙ ap (λ (v : ℕ). two_text u ++ (v ∷ s)) q))

-- what is read as `cc uu` is that line written
pub down-redone : (s : List ℕ) (l : DownLine) → down_line s ≡ Some l → DownIs s l.channel.0 l.unit.0
unfolding down_line
down-redone s l e = first (up_to_15 (byte " ") s) refl e
  where
    last : (a : ℕ) (d : Option ℕ) → up_to_15 (byte "\n") (drop 3 s) ≡ d → Up (byte " ") s a
        → on_read d None (λ u. says_down (record { 0 = a }) (record { 0 = u })) ≡ Some l → DownIs s l.channel.0 l.unit.0
    last a None d up e = no_line e
    last a (Some b) d up e =
        let w = up-redone (byte "\n") (drop 3 s) b d in
        subst (λ (x : DownLine). DownIs s x.channel.0 x.unit.0) (one_line e)
        (record {
          channel = up.small;
          unit = w.small;
          starts = record { same = five s a b up.two up.behind w.two w.behind; long = refl };
        })

    first : (d : Option ℕ) → up_to_15 (byte " ") s ≡ d
        → on_read d None (λ c. on_read (up_to_15 (byte "\n") (drop 3 s)) None λ u. says_down (record { 0 = c }) (record { 0 = u })) ≡ Some l
        → DownIs s l.channel.0 l.unit.0
    first None d e = no_line e
    first (Some a) d e = last a (up_to_15 (byte "\n") (drop 3 s)) refl (up-redone (byte " ") s a d) e

-- and `cc uu` written is read as itself
pub down-undone : (c u : ℕ) (rest : List ℕ) → c ≤ 15 → u ≤ 15
    → down_line (line (Item.down c u) ++ rest) ≡ says_down (record { 0 = c }) (record { 0 = u })
unfolding down_line
down-undone c u rest a b =
    rw (up-undone (byte " ") c (two_text u ++ (bytes "\n" ++ rest)) a, up-undone (byte "\n") u rest b)
