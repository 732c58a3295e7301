-- `assign_lacking::first_lacking` meets its contract: what the parts answer, in their order. Assumes nothing.
use mathlib.Core.Path.{refl}
use mathlib.Core.Logic.{inl, inr}
use Rattle.assign_lacking.proofs.PartsLaws.{no-core, core-there, no-drum, drum-there}
use borrow.Author.Rules.{rules}
use Rattle.assign_lacking.proofs.first_lacking.Goals as goal

pub returns-in_default : goal.returns-in_default
returns-in_default c =
    let none = no-core c.args.occupancy c.args.wanted c.search.ensures c.in_default.is in
    record { first = inl (none, refl); full = search rules }

pub returns-in_default-lowest_start : goal.returns-in_default-lowest_start
returns-in_default-lowest_start c =
    let core = core-there c.args.occupancy c.args.wanted c.search.ensures _ c.in-Some.is in
    let none = no-drum c.args.areas c.args.drum c.args.wanted c.lowest_start.ensures c.in_default-lowest_start.is in
    record { first = inr (core, inl (none, refl)); full = search rules }

pub returns : goal.returns
returns c =
    let core = core-there c.args.occupancy c.args.wanted c.search.ensures _ c.in-Some.is in
    let drum = drum-there c.args.areas c.args.drum c.args.wanted c.lowest_start.ensures _ c.in-Some-lowest_start.is in
    record { first = inr (core, inr (drum, c.lacking_kind.ensures)); full = search rules }
