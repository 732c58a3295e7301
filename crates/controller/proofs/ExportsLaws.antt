-- What the definitions of Exports mean: 0 is the answer for a configuration and for nothing else, any other number is
-- that of the first bad or missing line, and `Placed` and `Located` leave one outcome. Assumes nothing.
use Rattle.std.proofs.Common.{None, Option, Some, Result}
use Rattle.numbers.specs.declared.Refusal.{Refusal}
use Rattle.assign_core.specs.declared.Pair.{Pair}
use Prim.Native.Nat.{ℕ, ◌≤◌}
use mathlib.Core.Path.{◌≡◌, refl, sym, ap, subst, ◌∙◌}
use mathlib.Core.Bool.{Bool, true, false}
use mathlib.Core.List.{List}
use native.Mathlib.Omega.{arith}
use Rattle.channels.specs.declared.Channel.{Channel}
use Rattle.configuration.specs.Configured.{Answer, configuration_of}
use Rattle.assign_core.proofs.CoreLaws.{answers_one}
use Rattle.configuration_form.specs.Form.{InForm, FirstBad}
use Rattle.configuration_form.specs.Means.{Said}
use Rattle.configuration_form.proofs.Meaning.{meaning}
use Rattle.configuration_form.proofs.Unique.{read_back, first-named}
use Rattle.desk_show.specs.Showing.{part_of, Shows}
use Rattle.desk_show.specs.declared.Extent.{Extent}
use Rattle.desk_show.specs.declared.Which.{Which}
use Rattle.desk_show.proofs.Unique.{shows-one}
use Rattle.controller.specs.Exports.{bad_line_of, Placed, refusal_of, deck_or, put_or, Located}

-- one answer of the reader has one line
same_line : {a b : Answer} → a ≡ b → bad_line_of a ≡ bad_line_of b
same_line e = ap bad_line_of e

-- the number that a text gets
abbrev pub bad_line : List ℕ → ℕ
bad_line s = bad_line_of (configuration_of s)

-- a text in the written form of some channels, down units and codes
pub record Configures (s : List ℕ) : Type 0 where
  pub of : List Channel
  pub marks : List Bool
  pub word : ℕ
  pub form : InForm s of marks word

-- the written form of a configuration gets 0
pub form-0 : (s : List ℕ) → Configures s → bad_line s ≡ 0
form-0 s w = same_line (read_back s w.of w.marks w.word w.form)

-- and the first bad or missing line of a text is the number that it gets
pub first-bad : (s : List ℕ) (number : ℕ) → FirstBad s number → bad_line s ≡ number
first-bad s number f = same_line (first-named s number f)

-- conversely, 0 is given for that form alone, and any other number for the first bad line alone
pub 0-form : (s : List ℕ) → bad_line s ≡ 0 → Configures s
0-form s z = by (meaning s).said
  where
    by : Said (configuration_of s) → Configures s
    by (Said.goods o m x e) = record { of = o; marks = m; word = x; form = (meaning s).written o m x e }
    by (Said.bads n e) =
        let f = (meaning s).first n e in
        let same : bad_line s ≡ n = same_line e in
        absurd (omega (arith, z, same, f.next))

pub bad-first : (s : List ℕ) → 1 ≤ bad_line s → FirstBad s (bad_line s)
bad-first s p = by (meaning s).said
  where
    by : Said (configuration_of s) → FirstBad s (bad_line s)
    by (Said.goods o m x e) =
        let same : bad_line s ≡ 0 = same_line e in
        absurd (omega (arith, p, same))
    by (Said.bads n e) = subst (FirstBad s) (sym (same_line e)) ((meaning s).first n e)

-- two outcomes of the core's search are one: what is answered, and what i and j then hold
pub placed_one : {taken ib db i j a b x y : ℕ} (r s : Bool) → Placed taken ib db i j a b r → Placed taken ib db i j x y s
    → (r ≡ s) × (a ≡ x) × (b ≡ y)
placed_one {taken} {ib} {db} {a = a} {b = b} {x = x} {y = y} true true p q =
    let e = answers_one taken ib db (Some (record { 0 = a; 1 = b })) (Some (record { 0 = x; 1 = y })) (p.found refl) (q.found refl) in
    (refl, ap first e, ap second e)
  where
    first : Option Pair → ℕ
    first (Some pair) = pair.0
    first None = 0

    second : Option Pair → ℕ
    second (Some pair) = pair.1
    second None = 0
placed_one {a = a} {b = b} true false p q = absurd ((q.none refl).0 a b (p.found refl).0)
placed_one {x = x} {y = y} false true p q = absurd ((p.none refl).0 x y (q.found refl).0)
placed_one false false p q = (refl, (p.none refl).1 ∙ sym (q.none refl).1, (p.none refl).2 ∙ sym (q.none refl).2)

-- ---- two decks
module _ {id repair day : List ℕ} {deck from length deck' from' length' r : ℕ} where
  -- what is put, by the deck that has the group
  pub located : (found : Extent) → Shows id repair day found (part_of found repair day) → (w : Result Which Refusal) → found.which ≡ w → r ≡ refusal_of w
      → deck' ≡ deck_or deck w → from' ≡ put_or from found.from w → length' ≡ put_or length found.len w
      → Located id repair day deck from length deck' from' length' r
  located found s w e n d a b = record {
    found = found;
    shows = s;
    number = n ∙ ap refusal_of (sym e);
    which = d ∙ ap (deck_or deck) (sym e);
    start = a ∙ ap (put_or from found.from) (sym e);
    long = b ∙ ap (put_or length found.len) (sym e);
  }

  -- and `Located` leaves one outcome
  pub located-one : {deck'' from'' length'' q : ℕ} → Located id repair day deck from length deck' from' length' r
      → Located id repair day deck from length deck'' from'' length'' q
      → (r ≡ q) × (deck' ≡ deck'') × (from' ≡ from'') × (length' ≡ length'')
  located-one v w =
      let f : v.found ≡ w.found = (shows-one v.shows w.shows).0 in (
        v.number ∙ ap (λ (x : Extent). refusal_of x.which) f ∙ sym w.number,
        v.which ∙ ap (λ (x : Extent). deck_or deck x.which) f ∙ sym w.which,
        v.start ∙ ap (λ (x : Extent). put_or from x.from x.which) f ∙ sym w.start,
        v.long ∙ ap (λ (x : Extent). put_or length x.len x.which) f ∙ sym w.long,
      )
