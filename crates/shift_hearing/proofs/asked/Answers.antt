-- `shift_hearing::asked` meets its contract: what the line says while calls are answered. Assumes nothing.
use Prim.Native.Nat.{ℕ}
use mathlib.Core.Path.{◌≡◌, refl, ap}
use mathlib.Core.List.{List}
use Rattle.shift_script.specs.declared.Line.TheVariants.{NoCall}
use Rattle.shift_script.specs.declared.Said.{Said}
use Rattle.shift_turns.specs.declared.Phase.{Phase}
use Rattle.shift_turns.specs.declared.Phase.TheVariants as Phase'
use Rattle.shift_hearing.specs.Behind.{asked_in}
use Rattle.shift_hearing.proofs.asked.Goals as goal

-- in no other phase
not-asked : (phase : Phase) (line : List ℕ) → (phase ≡ Phase'.Talks → ⊥) → NoCall ≡ asked_in phase line
not-asked (Phase'.Begins kept) line n = refl
not-asked Phase'.Talks line n = absurd (n refl)
not-asked (Phase'.Gathers kept) line n = refl
not-asked Phase'.Passes line n = refl
not-asked Phase'.Over line n = refl

pub returns-in-Talks : goal.returns-in-Talks
returns-in-Talks c = rw c.in-Talks.is (ap (λ (s : Said). s.line) c.read_line.ensures)

pub returns-in_default : goal.returns-in_default
returns-in_default c = not-asked c.args.phase c.args.line.now c.in_default.not-Talks
