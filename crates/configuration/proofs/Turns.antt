-- The loop over the lines of a section: what is read of the lines that are left is what is read of them all. Shown
-- once, for any section. Assumes nothing.
use Prim.Native.Nat.{ℕ, suc, ◌+◌, ◌-◌, ◌≤◌, ◌<◌}
use mathlib.Core.Path.{◌≡◌, sym, ap, ◌∙◌}
use mathlib.Core.List.{List}
use native.Mathlib.Omega.{arith}
use lib.ListN.{length, drop}
use lib.Seq.{drop-drop}
use Rattle.configuration.specs.Sections.{SectionRead, bad, read_to}
use Rattle.configuration.proofs.AnySection.{Reader, Stops, GoesOn}

-- where the loop has come to, before line `line`
module _ (S : Reader) where
  pub record At (s : List ℕ) (count first start : ℕ) (begin : S.State) (line at : ℕ) (state : S.State) : Type 0 where
    pub within : at ≤ length s
    pub counted : line ≤ count + first
    pub same : S.from (count + first - line) line at state (drop at s) ≡ S.from count first start begin (drop start s)

module _ {S : Reader} {s : List ℕ} {count first start : ℕ} {begin : S.State} {line at : ℕ} {state : S.State}
    (p : At S s count first start begin line at state) where
  left_is : (n : ℕ) → count + first - line ≡ n → S.from n line at state (drop at s) ≡ S.from count first start begin (drop start s)
  left_is n e = ap (λ (m : ℕ). S.from m line at state (drop at s)) (sym e) ∙ p.same

  -- none is left
  pub at-end : {end : ℕ} → count + first ≤ line → end ≡ count + first
      → SectionRead s count first (S.from count first start begin (drop start s)) (read_to end at (S.said state))
  at-end {end} h e =
      let l : line ≡ end = omega (arith, p.counted) in
      record {
        is = ap (λ (n : ℕ). read_to n at (S.said state)) (sym l) ∙ (sym (S.none-left line at state (drop at s)) ∙ left_is 0 (omega arith));
        ends = (p.within, omega arith);
      }

  module _ (h : line < count + first) where
    one_left : S.from (suc (count + first - (line + 1))) line at state (drop at s) ≡ S.from count first start begin (drop start s)
    one_left = left_is (suc (count + first - (line + 1))) (omega arith)

    -- a bad line
    pub at-stop : Stops S state (drop at s) → SectionRead s count first (S.from count first start begin (drop start s)) (bad line)
    at-stop q = record { is = sym (q.by (count + first - (line + 1)) line at) ∙ one_left; ends = omega arith }

    -- a line that is taken
    pub at_turn : {k : ℕ} {next : S.State} → GoesOn S state (drop at s) k next → k ≤ length s - at
        → At S s count first start begin (line + 1) (at + k) next
    at_turn {k} {next} g w =
        record {
          within = omega (arith, p.within);
          counted = omega arith;
          same = ap (S.from (count + first - (line + 1)) (line + 1) (at + k) next) (sym (drop-drop k at s))
              ∙ (sym (g.by (count + first - (line + 1)) line at) ∙ one_left);
        }
