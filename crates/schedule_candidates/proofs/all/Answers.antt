-- `schedule_candidates::all` meets its contract: each turn marks the request at its index. Assumes nothing.
use Rattle.std.proofs.Common.{arith, ap, subst, ◌∙◌, List, get_or}
use Rattle.std.specs.List.{list_any}
use Rattle.schedule_entries.specs.Entries.{key_of, lower_sequence, blank}
use Rattle.schedule_entries.specs.declared.Entry.{Entry}
use Rattle.schedule_entries.specs.declared.Key.{Key}
use Rattle.schedule_list.proofs.InScheduleLaws.{at-any}
use Rattle.schedule_candidates.specs.Candidates.{candidate, Marks}
use Rattle.schedule_candidates.proofs.MarkingLaws.{marks-start, marks-more, marks-done, candidate-told}
use Rattle.schedule_candidates.proofs.all.Goals as goal

pub loop-k-init : goal.loop-k-init
loop-k-init c = marks-start _

pub loop-k-preserved : goal.loop-k-preserved
loop-k-preserved c =
    let es = c.requests-requests.result.now in
    let told = candidate-told es (get_or es c.loop-k.k _) (c.lower_stands-lower.ensures ∙ ap (λ (key : Key). list_any (λ f. lower_sequence (key_of f.request) key) es) c.key_of.ensures)
    c.is_running_alone-alone.ensures c.is_running-runs.ensures in
    marks-more c.requests-requests.ensures.few c.loop-k.invariant c.loop-k-test.true
    (c.is_candidate.ensures ∙ told ∙ ap (candidate es) (at-any es c.loop-k.k _ blank c.loop-k-test.true))

pub returns : goal.returns
returns c =
    subst (λ (es : List Entry). Marks es c.loop-k.marks) c.requests-requests.ensures.same (marks-done c.loop-k.invariant (omega arith))
