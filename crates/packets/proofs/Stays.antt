-- WHAT IS CONFIGURED STAYS: no call changes what a channel has or which codes set interlock. Assumes nothing.
use Rattle.std.proofs.Common.{Err, None, Ok, Some}
use Prim.Native.Nat.{ℕ}
use mathlib.Core.Path.{◌≡◌, refl, ◌∙◌}
use mathlib.Core.Bool.{◌&&◌}
use mathlib.Core.List.{List}
use mathlib.Core.Option.{Option, none, some}
use lib.Dec.{eqb}
use Rattle.numbers.proofs.Tests.{by_bool}
use Rattle.channels.specs.declared.Channel.{Channel}
use Rattle.packets.specs.History.{Event, Leads}
use Rattle.packets.proofs.Reaching.{by-calls}
use Rattle.numbers.specs.Elements.{find}
use Rattle.packets.specs.Rules.{
  Call,
  Do,
  Take,
  accept,
  closed,
  completed,
  decided,
  finished,
  is_done,
  is_trouble,
  locked,
  refusal,
  return_if_done,
  site_of,
  startable,
  started,
  step,
  submitted,
}
use Rattle.packets.specs.declared.Act.TheVariants as Act'
use Rattle.packets.specs.State.{State, is_unit, motion_on, packet_in}
use Rattle.packets.specs.declared.How.{How}
use Rattle.packets.specs.State.{Motion}
use Rattle.packets.specs.declared.Spot.{Spot}
use Rattle.packets.specs.State.{Verdict}

-- what each channel has, and the codes
pub record Configured : Type 0 where
  pub channels : List Channel
  pub codes : ℕ

abbrev pub has : State → Configured
has s = record { channels = s.channels; codes = s.codes }

module _ (s : State) where
  starts-has : (c : ℕ) (o : Option ℕ) → has (started s c o) ≡ has s
  starts-has c none = refl
  starts-has c (some e) = refl

  returns-has : (j : ℕ) (t : State) → has t ≡ has s → has (return_if_done j t) ≡ has s
  returns-has j t h = by_bool (is_done t j) (λ e. rw e h) (λ e. rw e h)

  completed-has : (c : ℕ) (how : How) (m : Motion) → has (completed s c how m) ≡ has s
  completed-has c how None = refl
  completed-has c how (Some (j, p)) =
      returns-has j (finished s c how j p)
      (by_bool (is_trouble s.codes how && is_unit (packet_in s.jobs j p).at) (λ e. rw e refl) (λ e. rw e refl))

  submitted-has : (j p f c : ℕ) (w : Spot) → has (submitted s j p f c w) ≡ has s
  submitted-has j p f c w =
      by_bool (eqb f 0o07) (λ e. by_bool (locked s c (site_of w)) (λ d. rw (e, d) refl) (λ d. rw (e, d) refl))
      (λ e. by_bool (eqb f 0o23) (λ d. rw (e, d) refl) (λ d. rw (e, d) refl))

  accept-has : (x : Call) → has (accept s x) ≡ has s
  unfolding accept
  accept-has (Take j asg) = refl
  accept-has (Do (Act'.Submit j p f c w)) = submitted-has j p f c.0 w
  accept-has (Do (Act'.Start c)) = starts-has c.0 (find (startable s c.0) s.queue)
  accept-has (Do (Act'.Complete c how)) = completed-has c.0 how (motion_on s c.0)
  accept-has (Do (Act'.End j e)) = returns-has j (closed s j e) refl
  accept-has (Do (Act'.Return j c u)) = refl
  accept-has (Do (Act'.Mark c u m on)) = refl

  pub step-has : (x : Call) → has (step s x).state ≡ has s
  unfolding step
  step-has x = go (refusal s x)
    where
      go : (v : Verdict) → has (decided s x v).state ≡ has s
      go (Ok u) = accept-has x
      go (Err n) = refl

-- calls keep it, one after the other
pub leads-has : (s : State) (l : List Event) (t : State) → Leads s l t → has t ≡ has s
leads-has s = by-calls s (λ l t. has t ≡ has s) refl (λ l t d h x. step-has t x ∙ h)
