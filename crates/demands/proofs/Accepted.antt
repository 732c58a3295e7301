-- AN ACCEPTED CALL on packets, jobs, units or marks is one that the rules grant, and the lists are then what they say.
-- Assumes nothing.
use Rattle.std.proofs.Common.{Err, Ok}
use Prim.Native.Nat.{ℕ}
use mathlib.Core.Path.{◌≡◌, refl, sym, ap, ◌∙◌}
use mathlib.Core.Option.{none}
use native.Mathlib.Omega.{arith}
use Rattle.packets.specs.Rules as Rules
use Rattle.packets.specs.declared.Act.{Act}
use Rattle.packets.specs.State.{Verdict}
use Rattle.lists.proofs.History.{outcome-is}
use Rattle.cell.specs.Calls.{acted}
use Rattle.cell.specs.declared.Cell.{Cell}
use Rattle.cell_history.specs.Told.{inside}
use Rattle.cell_history.specs.History.{Do, Does, Reply}
use Rattle.demands.specs.Refusing.{refusal_in}
use Rattle.demands.proofs.Numbers.{answers_by, of_verdict}

granted-of : (v : Verdict) → of_verdict v ≡ none → v ≡ Ok tt
granted-of (Ok u) e = refl
granted-of (Err n) e = absurd (let z : ◌≡◌ {A = ℕ} 0 1 = cc in omega arith)

-- the rules grant it, and the lists are then what they say
pub accepted-is : (c d : Cell) (x : Act) (reply : Reply) → Does c (Do x) reply d → refusal_in reply ≡ none
    → (Rules.refusal (inside c) (Rules.Do x) ≡ Ok tt) × (inside d ≡ Rules.accept (inside c) (Rules.Do x))
unfolding acted Rules.step
accepted-is c d x reply h ok =
    let y = Rules.Do x in
    let g = granted-of (Rules.refusal (inside c) y) (sym (answers_by c x) ∙ sym (ap refusal_in h.0) ∙ ok) in
    (g, ap inside h.1 ∙ (outcome-is c.lists y).1 ∙ ap (λ (v : Verdict). (Rules.decided (inside c) y v).state) g)
