-- WHAT THE MARKS OF THE CANDIDATES ARE: there is one list of them. Assumes nothing.
use mathlib.Core.Path.{◌≡◌, sym, ◌∙◌}
use mathlib.Core.Bool.{Bool, false}
use mathlib.Core.List.{List}
use lib.Dec.{ltb}
use lib.ListN.{length}
use lib.Seq.{ext_get_or}
use borrow.Author.Tests.{ltb-false, ltb-true}
use Rattle.numbers.proofs.Tests.{by_bool}
use Rattle.schedule_entries.specs.declared.Entry.{Entry}
use Rattle.schedule_candidates.specs.Candidates.{Marks}

pub marks-one : {es : List Entry} {a b : List Bool} → Marks es a → Marks es b → a ≡ b
marks-one {es} {a} {b} m w =
    ext_get_or false a b (m.long ∙ sym w.long)
    λ k h. by_bool (ltb k (length es)) (λ t. m.each k (ltb-true k (length es) t) ∙ sym (w.each k (ltb-true k (length es) t)))
    (λ t. m.rest k (ltb-false k (length es) t) ∙ sym (w.rest k (ltb-false k (length es) t)))
