-- The turns of the loop that marks the candidates, and what is told of a schedule's requests. Assumes nothing.
use Prim.Native.Nat.{ℕ, zero, suc, ◌+◌, ◌≤◌, ◌<◌}
use mathlib.Core.Path.{◌≡◌, refl, sym, ap, ◌∙◌}
use mathlib.Core.Bool.{Bool, true, false, ◌&&◌, ◌||◌, not}
use mathlib.Core.List.{List, [], ◌∷◌}
use native.Mathlib.Omega.{arith}
use lib.ListN.{length, get_or, set, replicate, length-set}
use lib.Seq.{get_or-set_other}
use Rattle.std.specs.List.{list_any}
use Rattle.numbers.proofs.Stores.{stored}
use Rattle.numbers.specs.Elements.{any}
use Rattle.numbers.specs.Limits.{most_requests}
use Rattle.schedule_entries.specs.Entries.{key_of, lower_sequence, waiting, active, serial}
use Rattle.schedule_entries.specs.declared.Entry.{Entry}
use Rattle.schedule_list.specs.InSchedule.{in_schedule, entry_at}
use Rattle.schedule_candidates.specs.Candidates.{running, running_alone, lower_stands, candidate, Marks}

-- the library's word for some entry passing a test
any-is : (p : Entry → Bool) (es : List Entry) → list_any p es ≡ any p es
any-is p [] = refl
any-is p (e ∷ es) = ap (λ (x : Bool). p e || x) (any-is p es)

-- a candidate by what is told
pub candidate-told : (es : List Entry) (e : Entry) {lower alone runs : Bool}
    → lower ≡ list_any (λ f. lower_sequence (key_of f.request) (key_of e.request)) es
    → alone ≡ list_any (λ f. active f.state && serial f.request) es → runs ≡ list_any (λ f. active f.state) es
    → waiting e.state && (not lower && (not alone && not (serial e.request && runs))) ≡ candidate es e
unfolding candidate
candidate-told es e a b c =
    rw (
      a ∙ any-is (λ f. lower_sequence (key_of f.request) (key_of e.request)) es,
      b ∙ any-is (λ f. active f.state && serial f.request) es,
      c ∙ any-is (λ f. active f.state) es,
    )

pub record Marking (es : List Entry) (marks : List Bool) (i : ℕ) : Type 0 where
  pub high : i ≤ length es
  pub long : length marks ≡ most_requests
  pub each : (k : ℕ) → k < i → get_or marks k false ≡ candidate es (entry_at es k)
  pub rest : (k : ℕ) → i ≤ k → get_or marks k false ≡ false

no-marks : (n k : ℕ) → get_or (replicate n false) k false ≡ false
no-marks zero k = refl
no-marks (suc n) zero = refl
no-marks (suc n) (suc k) = no-marks n k

pub marks-start : (es : List Entry) → Marking es (replicate most_requests false) 0
marks-start es = record { high = omega arith; long = refl; each = λ k h. absurd (omega arith); rest = λ k h. no-marks most_requests k }

pub marks-more : {es : List Entry} {marks : List Bool} {i : ℕ} {v : Bool} → length es ≤ most_requests → Marking es marks i → i < length es
    → v ≡ candidate es (entry_at es i) → Marking es (set marks i v) (i + 1)
marks-more {es} {marks} {i} {v} few w h e =
    record {
      high = omega arith;
      long = length-set marks i v ∙ w.long;
      each = stored (λ (d : ℕ) (x : Bool). x ≡ candidate es (entry_at es d)) marks i most_requests v false w.long (omega arith) w.each e;
      rest = λ k l. get_or-set_other marks i k v false (λ q. omega arith) ∙ w.rest k (omega arith);
    }

pub marks-done : {es : List Entry} {marks : List Bool} {i : ℕ} → Marking es marks i → length es ≤ i → Marks es marks
marks-done {es} {marks} {i} w h =
    record {
      long = w.long;
      each = λ k l. w.each k (omega arith);
      rest = λ k l. w.rest k (omega (arith, w.high));
    }
