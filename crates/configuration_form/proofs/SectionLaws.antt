-- A section, whatever its lines say: where its reader takes each right line and stops where none comes, the lines that
-- it has read are right ones written, one after the other, and where it stopped no right one follows. Shown once, for
-- any section and for the section with its count, by the count of lines that are left. Assumes nothing.
use Prim.Native.Nat.{ℕ, zero, suc, ◌+◌, ◌-◌, ◌^◌, ◌≤◌, ◌<◌}
use mathlib.Core.Path.{◌≡◌, refl, sym, ap, subst, ◌∙◌}
use mathlib.Core.Bool.{Bool}
use mathlib.Core.List.{List, ◌++◌}
use native.Mathlib.Omega.{arith}
use lib.ListN.{drop}
use lib.Seq.{drop-drop}
use Rattle.std.specs.Prelude.{Option, Some, None}
use Rattle.configuration.specs.declared.section.Section.{Section}
use Rattle.configuration.specs.Sections.{Read}
use Rattle.configuration.specs.Sections as Sections
use Rattle.channels.specs.declared.Channel.{Channel}
use Rattle.configuration.specs.Lines.{on_number, last_number}
use Rattle.configuration.proofs.AnySection.{Reader, Stops, GoesOn}
use Rattle.configuration_form.specs.Form as Form
use Rattle.configuration_form.specs.Form.{Item, line, Due, Right, Complete, Reads, Bad, FirstBad}
use Rattle.configuration_form.proofs.ReadLaws.{no_lines, one_more, and_then, Ended, Stopped, at_once, ended-more, stopped_more}
use Rattle.configuration_form.proofs.LineLaws.{last-redone, last-undone}

-- the lines before line `line`, which begins at `at`, are right, and this is due
pub record SoFar (s : List ℕ) (line at : ℕ) (due : Due) : Type 0 where
  pub before : ℕ
  pub counted : line ≡ before + 1
  pub reads : Reads Due.first s before due (drop at s)

pub far-on : {s : List ℕ} {line at n to : ℕ} {due end : Due} → SoFar s line at due → Ended due (drop at s) n end at to → SoFar s (line + n) to end
far-on {s} {at = at} {n = n} {to = to} p e =
    let d : at + (to - at) ≡ to = omega (arith, e.on) in
    let f : drop (to - at) (drop at s) ≡ drop to s = drop-drop (to - at) at s ∙ ap (λ (m : ℕ). drop m s) d in
    record { before = p.before + n; counted = omega (arith, p.counted); reads = rw f at (and_then p.reads e.reads) }

pub far-bad : {s : List ℕ} {line at number : ℕ} {due : Due} → SoFar s line at due → Stopped due (drop at s) line number → FirstBad s number
far-bad p e =
    record {
      before = p.before + e.before;
      next = omega (arith, p.counted, e.counted);
      due = e.end;
      rest = e.rest;
      reads = and_then p.reads e.reads;
      bad = e.bad;
    }

module _ (S : Reader) (due : ℕ → S.State → Due) where
  -- what the reader makes of the line that a text starts with
  pub data Step (state : S.State) (s : List ℕ) : Type 0 where
    takes : {item : Item} (k : ℕ) (next : S.State) → ((left : ℕ) → Right (due (suc left) state) item (due left next))
        → s ≡ line item ++ drop k s → GoesOn S state s k next → Step state s
    stops : ((left : ℕ) → Bad (due (suc left) state) s) → Stops S state s → Step state s

  -- what it finds: all the lines, right ones, or the first that is not
  pub data Found (left line at : ℕ) (state : S.State) (s : List ℕ) (r : Read (Section S.Said)) : Type 0 where
    good : (to : ℕ) (last : S.State) → r ≡ S.from 0 (line + left) to last (drop (to - at) s)
        → Ended (due left state) s left (due 0 last) at to → Found left line at state s r
    bad : (number : ℕ) → r ≡ Sections.bad number → Stopped (due left state) s line number → Found left line at state s r

  module _ (step : (state : S.State) (s : List ℕ) → Step state s) where
    pub found : (left line at : ℕ) (state : S.State) (s : List ℕ) → Found left line at state s (S.from left line at state s)
    found zero line at state s =
        let z : at - at ≡ 0 = omega arith in
        let l : line + 0 ≡ line = omega arith in
        Found.good at state (rw (z, l) refl) (record { on = omega arith; reads = rw z (no_lines (due 0 state) s) })
    found (suc left) line at state s = by (step state s) (found left)
      where
        further : {item : Item} (k : ℕ) (next : S.State) → Right (due (suc left) state) item (due left next) → s ≡ Form.line item ++ drop k s
            → {r : Read (Section S.Said)}
            → Found left (line + 1) (at + k) next (drop k s) r → Found (suc left) line at state s r
        further k next right e (Found.good to last q m) =
            let d : k + (to - (at + k)) ≡ to - at = omega (arith, m.on) in
            let f : drop (to - (at + k)) (drop k s) ≡ drop (to - at) s = drop-drop (to - (at + k)) k s ∙ ap (λ (n : ℕ). drop n s) d in
            let l : line + 1 + left ≡ line + suc left = omega arith in
            Found.good to last (rw (f, l) at q) (ended-more k right e m)
        further k next right e (Found.bad number q m) = Found.bad number q (stopped_more right e m)

        by : Step state s → ((line at : ℕ) (state : S.State) (s : List ℕ) → Found left line at state s (S.from left line at state s))
            → Found (suc left) line at state s (S.from (suc left) line at state s)
        by (Step.takes k next right e g) rest =
            subst (Found (suc left) line at state s) (sym (g.by left line at))
            (further k next (right left) e (rest (line + 1) (at + k) next (drop k s)))
        by (Step.stops b q) rest = Found.bad line (q.by left line at) (at_once line (b left))

    -- the same of a section in a text that is right so far
    pub data Through (s : List ℕ) (r : Read (Section S.Said)) : Type 0 where
      good : (line to : ℕ) (last : S.State) → r ≡ S.from 0 line to last (drop to s) → SoFar s line to (due 0 last) → Through s r
      bad : (number : ℕ) → r ≡ Sections.bad number → FirstBad s number → Through s r

    -- and of a section with its count, at most `most`: what follows from a bad count, or from what is found after it,
    -- follows from the text
    module _ (most : ℕ) (small : most < 10 ^ 7) (counts : Due) (begin : S.State)
        (right : (n : ℕ) → n ≤ most → Right counts (Item.count n) (due n begin))
        (only : (item : Item) (next : Due) → Right counts item next → (n : ℕ) × (n ≤ most) × (item ≡ Item.count n))
        (due-yet : (of : List Channel) (marks : List Bool) (word : ℕ) → Complete counts of marks word → ⊥) where
      pub counted : {A : Type 0} (P : A → Type 0) (wrong : A) (go : Read (Section S.Said) → A) (s : List ℕ) (line at : ℕ) → SoFar s line at counts
          → (FirstBad s line → P wrong)
          → ((r : Read (Section S.Said)) → Through s r → P (go r))
          → P (on_number (last_number 0 most (drop at s)) wrong λ n k. go (S.from n (line + 1) (at + k) begin (drop (at + k) s)))
      counted P wrong go s line at far missing known = by (last_number 0 most (drop at s)) refl
        where
          none : last_number 0 most (drop at s) ≡ None → (item : Item) (next : Due) (t : List ℕ) → Right counts item next
              → drop at s ≡ Form.line item ++ t → ⊥
          none e item next t r q =
              let o = only item next r in
              let w : drop at s ≡ Form.line (Item.count o.0) ++ t = q ∙ ap (λ (j : Item). Form.line j ++ t) o.2 in
              let u = ap (last_number 0 most) w ∙ last-undone 0 most o.0 t (omega arith) o.1 small in
              let z : ◌≡◌ {A = ℕ} 0 1 = cc in
              omega arith

          through : {n l to : ℕ} {r : Read (Section S.Said)} → SoFar s l to (due n begin) → Found n l to begin (drop to s) r → Through s r
          through {n} {l} {to} f (Found.good end last q m) =
              let d : to + (end - to) ≡ end = omega (arith, m.on) in
              let e : drop (end - to) (drop to s) ≡ drop end s = drop-drop (end - to) to s ∙ ap (λ (i : ℕ). drop i s) d in
              Through.good (l + n) end last (rw e at q) (far-on f m)
          through f (Found.bad number q m) = Through.bad number q (far-bad f m)

          by : (d : Option (ℕ × ℕ)) → last_number 0 most (drop at s) ≡ d
              → P (on_number d wrong λ n k. go (S.from n (line + 1) (at + k) begin (drop (at + k) s)))
          by None e = missing (far-bad far (at_once line (record { none = none e; more = λ of marks word c q. due-yet of marks word c })))
          by (Some r) e =
              let n = r.0 in
              let k = r.1 in
              let c = last-redone 0 most (drop at s) n k e in
              let one : Reads counts (drop at s) 1 (due n begin) (drop (at + k) s) =
              rw (drop-drop k at s) at (one_more (right n c.most) c.starts.same (no_lines (due n begin) (drop k (drop at s)))) in
              let z : at + k - at ≡ k = omega arith in
              let ended : Ended counts (drop at s) 1 (due n begin) at (at + k) =
              record { on = omega arith; reads = rw (z, drop-drop k at s) one } in
              known (S.from n (line + 1) (at + k) begin (drop (at + k) s))
              (through (far-on far ended) (found n (line + 1) (at + k) begin (drop (at + k) s)))
