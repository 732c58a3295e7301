-- `desk_show::find_in` meets its contract: the repair deck's cards first, then the day's. Assumes nothing.
use mathlib.Core.Path.{refl, sym, subst}
use Rattle.desk_show.specs.Seeking.{Seeks, FindsIn}
use Rattle.std.specs.Prelude.{ℕ, Option}
use Rattle.desk_show.specs.declared.Extent.{Extent}
use Rattle.desk_show.proofs.find_in.Goals as goal

pub returns-in-Some : goal.returns-in-Some
returns-in-Some c =
    subst (λ (x : Option (ℕ × ℕ)). Seeks c.args.id.now c.args.repair.now x) c.in-Some.is c.seek.ensures

pub returns-in-Some-seek : goal.returns-in-Some-seek
returns-in-Some-seek c = (
  subst (λ (x : Option (ℕ × ℕ)). Seeks c.args.id.now c.args.repair.now x) c.in-None.is c.seek.ensures,
  subst (λ (x : Option (ℕ × ℕ)). Seeks c.args.id.now c.args.day.now x) c.in-Some-seek.is c.seek-in-None.ensures,
)

pub returns-in-None-seek : goal.returns-in-None-seek
returns-in-None-seek c =
    subst (λ (x : Extent). FindsIn c.args.id.now c.args.repair.now c.args.day.now x) (sym c.refused.ensures) (
      refl,
      (
        (
          subst (λ (x : Option (ℕ × ℕ)). Seeks c.args.id.now c.args.repair.now x) c.in-None.is c.seek.ensures,
          subst (λ (x : Option (ℕ × ℕ)). Seeks c.args.id.now c.args.day.now x) c.in-None-seek.is c.seek-in-None.ensures,
        ),
        (refl, refl),
      ),
    )
