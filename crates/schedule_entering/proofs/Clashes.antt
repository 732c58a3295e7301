-- What bars a request: the one of its ID, the first that has its priority, the first that has its whole key, and that
-- there is no room. Assumes nothing.
use Prim.Native.Nat.{ℕ}
use mathlib.Core.Path.{◌≡◌, refl, ◌∙◌}
use mathlib.Core.Bool.{Bool, true, false, ◌&&◌}
use mathlib.Core.List.{List}
use lib.Dec.{eqb, leb}
use lib.ListN.{length}
use borrow.Author.Tests.{ltb-true, ltb-false, ne_eqb}
use Rattle.numbers.proofs.Tests.{by_bool}
use Rattle.numbers.specs.Elements.{any, find}
use Rattle.numbers.specs.Limits.{most_requests}
use Rattle.cards_request.specs.Errors.{CardVerdict, error_if, or_else}
use Rattle.cards_request.proofs.ErrorLaws.{not_good}
use Rattle.cards_request.specs.declared.CardError.TheVariants.{SamePriority, SameSequence, ScheduleFull}
use Rattle.std.specs.Prelude.{Ok}
use Rattle.cards_request.specs.declared.Request.{Request}
use Rattle.schedule_entries.specs.Entries.{key_of, same_rank, same_key, is_named}
use Rattle.schedule_entries.specs.declared.Entry.{Entry}
use Rattle.schedule_list.specs.InSchedule.{there}
use Rattle.schedule_list.proofs.IndexLaws.{find-here, find_none}
use Rattle.schedule.specs.ByIndex.{of_name}
use Rattle.schedule_entering.specs.Entering.{barred, same_there, clash_error}
use Rattle.schedule_entering.specs.Outlines.{barred_at, clash_by}

-- the request of an ID
module _ (id : List ℕ) (es : List Entry) where
  pub barred-at : barred_at (of_name id es) es ≡ barred (find (is_named id) es)
  unfolding barred_at
  barred-at =
      by_bool (there (of_name id es) es)
      (λ t. rw (t, find-here (is_named id) es (ltb-true (of_name id es) (length es) t)))
      (λ t. rw (t, find_none (is_named id) es (ltb-false (of_name id es) (length es) t)))

-- no clash of priorities: a sequence, or none of the letter and precedence
pub with-sequence : (n : ℕ) (b : Bool) → (n ≡ 0 → ⊥) → eqb n 0 && b ≡ false
with-sequence n b f = rw (ne_eqb n 0 f)

pub without-rank : (n : ℕ) {b : Bool} → b ≡ false → eqb n 0 && b ≡ false
without-rank n e = rw e (by (eqb n 0))
  where
    by : (c : Bool) → c && false ≡ false
    by true = refl
    by false = refl

module _ (es : List Entry) (r : Request) where
  met : clash_by (any (λ e. same_rank (key_of e.request) (key_of r)) es) (any (λ e. same_key (key_of e.request) (key_of r)) es) r.sequence (length es)
      ≡ clash_error es r
  unfolding clash_by clash_error same_there
  met = refl

  pub clash-found : {ranked keyed : Bool} {n : ℕ} → ranked ≡ any (λ e. same_rank (key_of e.request) (key_of r)) es
      → keyed ≡ any (λ e. same_key (key_of e.request) (key_of r)) es → n ≡ length es
      → {v : CardVerdict} → v ≡ clash_by ranked keyed r.sequence n → v ≡ clash_error es r
  clash-found a c l e = e ∙ rw (a, c, l) met

-- where no error answers, each of the others has another key, and they leave room
pub clash-clear : (es : List Entry) (r : Request) → clash_error es r ≡ Ok tt
    → (any (λ e. same_key (key_of e.request) (key_of r)) es ≡ false) × (leb most_requests (length es) ≡ false)
unfolding clash_error
clash-clear es r e = by (same_there es r) (any (λ e. same_key (key_of e.request) (key_of r)) es) (leb most_requests (length es)) e
  where
    by : (a b c : Bool) → or_else (error_if a SamePriority) (or_else (error_if b SameSequence) (or_else (error_if c ScheduleFull) (Ok tt))) ≡ Ok tt
        → (b ≡ false) × (c ≡ false)
    by true b c e = not_good e
    by false true c e = not_good e
    by false false true e = not_good e
    by false false false e = (refl, refl)
