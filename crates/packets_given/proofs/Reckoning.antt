-- What is reckoned from calls and their answers: over two parts of a history one after the other, and that a refused call
-- changes nothing of it. Assumes nothing.
use Prim.Native.Nat.{ℕ}
use mathlib.Core.Path.{◌≡◌, refl}
use mathlib.Core.List.{List, [], ◌∷◌, ◌++◌}
use mathlib.Core.Option.{Option}
use lib.Dec.{eqb}
use Rattle.numbers.proofs.Tests.{by_bool}
use Rattle.numbers.specs.declared.Refusal.{Refusal}
use Rattle.packets.specs.History.{Event}
use Rattle.packets.specs.Rules.{Call, Do, Take}
use Rattle.packets.specs.declared.Act.TheVariants as Act'
use Rattle.packets.specs.declared.Answer.{Answer}
use Rattle.packets.specs.declared.Answer.TheVariants.{Refused}
use Rattle.packets.specs.declared.Assignment.{Assignment}
use Rattle.packets_given.specs.Given.{Heads, UnderWay, asked_by, moved_by, reckoned, taken_by}

-- reckoned to the end of one part, and then on
pub reckoned-append : {A : Type 0} (f : A → Call → Answer → A) (t : A) (l m : List Event)
    → reckoned f t (l ++ m) ≡ reckoned f (reckoned f t l) m
reckoned-append f t [] m = refl
reckoned-append f t (e ∷ l) m = reckoned-append f (f t e.call e.answer) l m

-- a refused call gives nothing, asks for nothing, and neither starts nor completes anything
pub refused-keeps : (j : ℕ) (last : Option Assignment) (x : Call) (n : Refusal) → taken_by j last x (Refused n) ≡ last
unfolding taken_by
refused-keeps j last (Take i asg) n = refl
refused-keeps j last (Do x) n = refl

pub refused-asks : (j : ℕ) (t : Heads) (x : Call) (n : Refusal) (c u : ℕ) → asked_by j t x (Refused n) c u ≡ t c u
unfolding asked_by
refused-asks j t (Take i asg) n c u = refl
refused-asks j t (Do (Act'.Submit i p f d w)) n c u = refl
refused-asks j t (Do (Act'.Start d)) n c u = refl
refused-asks j t (Do (Act'.Complete d how)) n c u = refl
refused-asks j t (Do (Act'.End i e)) n c u = refl
refused-asks j t (Do (Act'.Return i d v)) n c u = refl
refused-asks j t (Do (Act'.Mark d v m on)) n c u = refl

pub refused-moves : (t : UnderWay) (x : Call) (n : Refusal) (c : ℕ) → moved_by t x (Refused n) c ≡ t c
unfolding moved_by
refused-moves t (Take i asg) n c = refl
refused-moves t (Do (Act'.Submit i p f d w)) n c = refl
refused-moves t (Do (Act'.Start d)) n c = by_bool (eqb c d.0) (λ e. rw e) (λ e. rw e)
refused-moves t (Do (Act'.Complete d how)) n c = by_bool (eqb c d.0) (λ e. rw e) (λ e. rw e)
refused-moves t (Do (Act'.End i e)) n c = refl
refused-moves t (Do (Act'.Return i d v)) n c = refl
refused-moves t (Do (Act'.Mark d v m on)) n c = refl
