-- `assign::find` meets its contract: the answers of its parts make the whole. Assumes nothing.
use mathlib.Core.Path.{ap, subst, ◌∙◌}
use borrow.Author.Tests.{not-true, not-false}
use Rattle.numbers.specs.declared.Kind.{Kind}
use Rattle.assign_core.specs.Core as Core
use Rattle.assign.specs.declared.Part.TheVariants.{Units}
use Rattle.assign.specs.Assignment.{supply_of}
use Rattle.assign.specs.Chosen.{without}
use Rattle.assign.proofs.ChosenLaws.{no-core, no-drum, no_kind, assigned, kinds-served, kinds-lacking, for-length}
use Rattle.assign.proofs.find.Goals as goal

pub returns-in_default : goal.returns-in_default
returns-in_default c =
    no-core (supply_of c.args.units.of c.args.occupancy c.args.areas c.args.channels) c.args.wanted
    (subst (Core.LeastPair c.args.occupancy c.args.wanted.ib c.args.wanted.db) c.in_default.is c.search.ensures)
    c.without.ensures

pub returns-in_default-lowest_start : goal.returns-in_default-lowest_start
returns-in_default-lowest_start c =
    no-drum (supply_of c.args.units.of c.args.occupancy c.args.areas c.args.channels) c.args.wanted
    (subst (Core.LeastPair c.args.occupancy c.args.wanted.ib c.args.wanted.db) c.in-Some.is c.search.ensures)
    (for-length c.args.areas c.args.wanted.md c.drum_length.ensures c.in_default-lowest_start.is c.lowest_start.ensures)
    c.without-in_default-lowest_start.ensures

pub returns-then-not-kinds : goal.returns-then-not-kinds
returns-then-not-kinds c =
    let supply = supply_of c.args.units.of c.args.occupancy c.args.areas c.args.channels in
    let core = subst (Core.LeastPair c.args.occupancy c.args.wanted.ib c.args.wanted.db) c.in-Some.is c.search.ensures in
    let area = for-length c.args.areas c.args.wanted.md c.drum_length.ensures c.in-Some-lowest_start.is
    c.lowest_start.ensures in
    no_kind supply c.args.wanted core area
    (kinds-lacking c.serve_kinds-kinds.result (not-true c.serve_kinds-kinds.result.ok c.if-not-kinds.true) c.serve_kinds-kinds.ensures)
    (c.without-then-not-kinds.ensures ∙ ap (λ (k : Kind). without (Units k)) c.kind_at.ensures)

pub returns : goal.returns
returns c =
    let supply = supply_of c.args.units.of c.args.occupancy c.args.areas c.args.channels in
    let core = subst (Core.LeastPair c.args.occupancy c.args.wanted.ib c.args.wanted.db) c.in-Some.is c.search.ensures in
    let area = for-length c.args.areas c.args.wanted.md c.drum_length.ensures c.in-Some-lowest_start.is
    c.lowest_start.ensures in
    assigned supply c.args.wanted c.in-Some.pair c.in-Some-lowest_start.start c.serve_kinds-kinds.result.channels c.serve_kinds-kinds.result.heads core
    area
    (kinds-served c.serve_kinds-kinds.result (not-false c.serve_kinds-kinds.result.ok c.if-not-kinds.false) c.serve_kinds-kinds.ensures)
