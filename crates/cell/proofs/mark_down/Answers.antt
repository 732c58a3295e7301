-- `cell::mark_down` meets its contract: no mark moves the schedule, whatever the lists answer. Assumes nothing.
use mathlib.Core.Path.{◌≡◌, refl, sym, ap, ◌∙◌}
use mathlib.Core.Bool.{Bool}
use Rattle.numbers.specs.declared.ChannelNumber.{ChannelNumber}
use Rattle.numbers.specs.declared.UnitNumber.{UnitNumber}
use Rattle.units.specs.declared.Mark.{Mark as UnitMark}
use Rattle.units.specs.declared.Mark.TheVariants.{Down}
use Rattle.schedule_list.specs.declared.Schedule.{Schedule}
use Rattle.packets.specs.Rules.{Do, answer, refusal}
use Rattle.packets.specs.declared.Act.TheVariants.{Mark}
use Rattle.packets.specs.declared.Acted.{Acted}
use Rattle.packets.specs.declared.Lists.{Lists}
use Rattle.std.specs.Prelude.{Ok, Err}
use Rattle.packets.specs.State.{Verdict}
use Rattle.lists.specs.Outcomes.{outcome, settled, state_of}
use Rattle.cell.specs.Calls.{acted, cell_of, followed}
use Rattle.cell.specs.declared.Answered.{Answered}
use Rattle.cell.proofs.mark_down.Goals as goal

-- a mark is answered as done, or refused: no schedule follows
stays : (s : Schedule) (lists : Lists) (c : ChannelNumber) (u : UnitNumber) (m : UnitMark) (on : Bool)
    → followed s (outcome lists (Do (Mark c u m on))).answer ≡ s
unfolding outcome answer
stays s lists c u m on = by (refusal (state_of lists) (Do (Mark c u m on)))
  where
    by : (v : Verdict) → followed s (settled lists (Do (Mark c u m on)) v).answer ≡ s
    by (Ok u) = refl
    by (Err n) = refl

-- the lists' outcome beside a schedule
abbrev with : Schedule → Acted → Answered
with s a = record { answer = a.answer; cell = cell_of s a.lists }

pub returns : goal.returns
unfolding acted
returns c =
    let o = outcome c.args.cell.lists (Do (Mark c.args.channel c.args.unit Down c.args.on)) in
    c.with_schedule.ensures ∙ ap (with c.args.cell.schedule) c.mark.ensures
    ∙ ap (λ (t : Schedule). with t o) (sym (stays c.args.cell.schedule c.args.cell.lists c.args.channel c.args.unit Down c.args.on))
