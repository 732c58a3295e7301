-- A text is read in one way: where a line is due, at most one right line comes. So the written form of a
-- configuration is read as that configuration, the first bad line is the one that is named, and neither leaves a
-- choice. Two readings of one text are compared line by line. Assumes nothing.
use Prim.Native.Nat.{ℕ, zero, suc, ◌+◌, ◌^◌, ◌≤◌, ◌<◌}
use mathlib.Core.Path.{◌≡◌, refl, sym, ap, subst, ◌∙◌}
use mathlib.Core.Bool.{Bool}
use mathlib.Core.List.{List, [], ◌∷◌, ◌++◌, append_assoc}
use native.Mathlib.Omega.{arith}
use lib.ListN.{length, drop}
use lib.Seq.{drop-append_seam}
use Rattle.numbers.specs.declared.Kind.{Kind}
use Rattle.numbers.specs.Limits.{most_codes}
use Rattle.channels.specs.declared.Channel.{Channel}
use Rattle.configuration.specs.declared.line.ChannelLine.{ChannelLine}
use Rattle.configuration.specs.declared.line.DownLine.{DownLine}
use Rattle.configuration.specs.Lines.{least, most, last_number, channel_line, down_line, code_line}
use Rattle.configuration.specs.Configured.{refused, good, configuration_of}
use Rattle.configuration_form.specs.Form.{Item, line, written, Due, Right, AllRight, Complete, Reads, InForm, FirstBad}
use Rattle.configuration_form.proofs.LineLaws.{one_line, last-undone, channel-undone, down-undone}
use Rattle.configuration_form.proofs.CodeLaws.{Code, code-undone}
use Rattle.configuration_form.specs.Means.{Said}
use Rattle.configuration_form.proofs.Meaning.{meaning, nothing-due}

-- two counts that one text starts with are one
same_count : (high m n : ℕ) (s t : List ℕ) → high < 10 ^ 7 → m ≤ high → n ≤ high → line (Item.count m) ++ s ≡ line (Item.count n) ++ t → m ≡ n
same_count high m n s t h a b e =
    let p = last-undone 0 high m s (omega arith) a h in
    let q = last-undone 0 high n t (omega arith) b h in
    ap (λ (r : ℕ × ℕ). r.0) (one_line (sym p ∙ ap (last_number 0 high) e ∙ q))

-- and two channels, two down units, two codes
same-channel : (c d : ℕ) (k l : Kind) (m n : ℕ) (s t : List ℕ) → c ≤ 15 → least k ≤ m → m ≤ most k → d ≤ 15 → least l ≤ n → n ≤ most l
    → line (Item.channel c k m) ++ s ≡ line (Item.channel d l n) ++ t → (c ≡ d) × (k ≡ l) × (m ≡ n)
same-channel c d k l m n s t c15 km mk d15 ln nl e =
    let r = one_line (sym (channel-undone c k m s c15 km mk) ∙ ap channel_line e ∙ channel-undone d l n t d15 ln nl) in
    (ap (λ (x : ChannelLine). x.channel.0) r, ap (λ (x : ChannelLine). x.has.kind) r, ap (λ (x : ChannelLine). x.has.n) r)

same-down : (c d u v : ℕ) (s t : List ℕ) → c ≤ 15 → u ≤ 15 → d ≤ 15 → v ≤ 15 → line (Item.down c u) ++ s ≡ line (Item.down d v) ++ t
    → (c ≡ d) × (u ≡ v)
same-down c d u v s t c15 u15 d15 v15 e =
    let r = one_line (sym (down-undone c u s c15 u15) ∙ ap down_line e ∙ down-undone d v t d15 v15) in
    (ap (λ (x : DownLine). x.channel.0) r, ap (λ (x : DownLine). x.unit.0) r)

same_code : (j k : ℕ) (s t : List ℕ) → Code j → Code k → line (Item.code j) ++ s ≡ line (Item.code k) ++ t → j ≡ k
same_code j k s t a b e = one_line (sym (code-undone j s a) ∙ ap code_line e ∙ code-undone k t b)

-- where a line is due, one text starts with one right line
one : {due next end : Due} {i j : Item} (s t : List ℕ) → Right due i next → Right due j end → line i ++ s ≡ line j ++ t → (i ≡ j) × (next ≡ end)
one s t (Right.channel_count {n = m} a) (Right.channel_count {n = n} b) e =
    let z = same_count 16 m n s t (omega arith) a b e in rw z (refl, refl)
one s t (Right.channel_line {c = c} {n = m} {kind = k} c15 km mk p q) (Right.channel_line {c = d} {n = n} {kind = l} d15 ln nl x y) e =
    let z = same-channel c d k l m n s t c15 km mk d15 ln nl e in rw (z.0, z.1, z.2) (refl, refl)
one s t (Right.down_count {m = m} a) (Right.down_count {m = n} b) e =
    let z = same_count 256 m n s t (omega arith) a b e in rw z (refl, refl)
one s t (Right.down_line {c = c} {u = u} c15 u15 p q) (Right.down_line {c = d} {u = v} d15 v15 x y) e =
    let z = same-down c d u v s t c15 u15 d15 v15 e in rw (z.0, z.1) (refl, refl)
one s t (Right.code_count {n = m} a) (Right.code_count {n = n} b) e =
    let z = same_count most_codes m n s t (omega arith) a b e in rw z (refl, refl)
one s t (Right.code_line {k = j} a b d f p) (Right.code_line {k = k} x y z w q) e =
    let i = same_code j k s t (record { least = a; most = b; not16 = d; not17 = f }) (record { least = x; most = y; not16 = z; not17 = w }) e in
    rw i (refl, refl)

-- nothing right follows
abbrev Stop : Due → List ℕ → Type 0
Stop due rest = (item : Item) (next : Due) (t : List ℕ) → Right due item next → rest ≡ line item ++ t → ⊥

cancel : (l s t : List ℕ) → l ++ s ≡ l ++ t → s ≡ t
cancel l s t e = sym (drop-append_seam l s) ∙ ap (drop (length l)) e ∙ drop-append_seam l t

-- two readings that go as far as they can go as far
same : (items others : List Item) {due a b : Due} (s t : List ℕ) → AllRight due items a → AllRight due others b
    → written items ++ s ≡ written others ++ t → Stop a s → Stop b t
    → (length items ≡ length others) × (a ≡ b) × (s ≡ t)
same [] [] s t AllRight.none AllRight.none e p q = (refl, refl, e)
same [] (j ∷ others) s t AllRight.none (AllRight.more {next = next} r b) e p q =
    absurd (p j next (written others ++ t) r (e ∙ append_assoc (line j) (written others) t))
same (i ∷ items) [] s t (AllRight.more {next = next} r a) AllRight.none e p q =
    absurd (q i next (written items ++ s) r (sym e ∙ append_assoc (line i) (written items) s))
same (i ∷ items) (j ∷ others) s t (AllRight.more {next = next} {end = last} r a) (AllRight.more {next = end} x b) e p q =
    let f : line i ++ (written items ++ s) ≡ line j ++ (written others ++ t) =
    sym (append_assoc (line i) (written items) s) ∙ e ∙ append_assoc (line j) (written others) t in
    let o = one (written items ++ s) (written others ++ t) r x f in
    let g : line i ++ (written items ++ s) ≡ line i ++ (written others ++ t) =
    f ∙ ap (λ (k : Item). line k ++ (written others ++ t)) (sym o.0) in
    let z = same items others s t (subst (λ (d : Due). AllRight d items last) o.1 a) b
    (cancel (line i) (written items ++ s) (written others ++ t) g) p q in
    (ap suc z.0, z.1, z.2)

pub reads-once : {due a b : Due} {s t u : List ℕ} {m n : ℕ} → Reads due s m a t → Stop a t → Reads due s n b u → Stop b u
    → (m ≡ n) × (a ≡ b) × (t ≡ u)
reads-once {t = t} {u = u} x p y q =
    let z = same x.items y.items t u x.right y.right (sym x.text ∙ y.text) p q in
    (sym x.many ∙ z.0 ∙ y.many, z.1, z.2)

-- where all is configured nothing right follows, and what is configured is known
pub all-stops : (due : Due) (of : List Channel) (marks : List Bool) (word : ℕ) (rest : List ℕ) → Complete due of marks word → Stop due rest
all-stops (Due.codes zero next o m w) of marks word rest c = λ item end t r e. nothing-due r
all-stops Due.first of marks word rest c = elim c [ ]
all-stops (Due.channels left next drum _) of marks word rest c = elim c [ ]
all-stops (Due.downs left next _ down) of marks word rest c = elim c [ ]
all-stops (Due.codes (suc _) next o m w) of marks word rest c = elim c [ ]

all_once : (due : Due) (of o : List Channel) (marks m : List Bool) (word w : ℕ) → Complete due of marks word → Complete due o m w
    → (of ≡ o) × (marks ≡ m) × (word ≡ w)
all_once (Due.codes zero next x y z) of o marks m word w c d = (sym c.0 ∙ d.0, sym c.1 ∙ d.1, sym c.2 ∙ d.2)
all_once Due.first of o marks m word w c d = elim c [ ]
all_once (Due.channels left next drum _) of o marks m word w c d = elim c [ ]
all_once (Due.downs left next _ down) of o marks m word w c d = elim c [ ]
all_once (Due.codes (suc _) next x y z) of o marks m word w c d = elim c [ ]

-- every configuration in the written form is read as itself
pub read_back : (s : List ℕ) (of : List Channel) (marks : List Bool) (word : ℕ) → InForm s of marks word → configuration_of s ≡ good of marks word
read_back s of marks word w = by (meaning s).said
  where
    stops : Stop w.end []
    stops = all-stops w.end of marks word [] w.all

    by : Said (configuration_of s) → configuration_of s ≡ good of marks word
    by (Said.goods o m x e) =
        let v = (meaning s).written o m x e in
        let z = reads-once w.reads stops v.reads (all-stops v.end o m x [] v.all) in
        let a = all_once v.end o of m marks x word v.all (subst (λ (d : Due). Complete d of marks word) z.1 w.all) in
        e ∙ rw (a.0, a.1, a.2) refl
    by (Said.bads n e) =
        let f = (meaning s).first n e in
        let z = reads-once w.reads stops f.reads f.bad.none in
        absurd (f.bad.more of marks word (subst (λ (d : Due). Complete d of marks word) z.1 w.all) (sym z.2))

-- and the first bad line is the one that is named
pub first-named : (s : List ℕ) (number : ℕ) → FirstBad s number → configuration_of s ≡ refused number
first-named s number f = by (meaning s).said
  where
    by : Said (configuration_of s) → configuration_of s ≡ refused number
    by (Said.goods o m x e) =
        let v = (meaning s).written o m x e in
        let z = reads-once v.reads (all-stops v.end o m x [] v.all) f.reads f.bad.none in
        absurd (f.bad.more o m x (subst (λ (d : Due). Complete d o m x) z.1 v.all) (sym z.2))
    by (Said.bads n e) =
        let g = (meaning s).first n e in
        let z = reads-once g.reads g.bad.none f.reads f.bad.none in
        e ∙ ap refused (g.next ∙ ap (λ (k : ℕ). k + 1) z.0 ∙ sym f.next)
