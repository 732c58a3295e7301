-- THE SCHEDULE IS SOUND in every cell that a history leads to: a call on the cell is at most one call on the
-- schedule, or a deck, and each keeps it sound. Assumes nothing.
use Prim.Native.Nat.{ℕ}
use mathlib.Core.Path.{sym, subst}
use mathlib.Core.Bool.{Bool, true, false}
use mathlib.Core.List.{List}
use Rattle.schedule_list.specs.declared.Schedule.{Schedule}
use Rattle.schedule.specs.Calls.{closing, deleted, released, returned, taken}
use Rattle.schedule_orderly.specs.Orderly as Orderly
use Rattle.schedule_orderly.specs.Orderly.{Sound, after}
use Rattle.schedule_orderly.proofs.Reachable.{sound-after, sound_empty}
use Rattle.schedule_deck.proofs.DeckLaws.{sound-deck}
use Rattle.packets.specs.Rules as Rules
use Rattle.packets.specs.declared.Answer.{Answer}
use Rattle.packets.specs.declared.Answer.TheVariants.{Closed, Completed, Done, Refused, Started}
use Rattle.packets.specs.declared.Leaving.{Leaving}
use Rattle.packets.specs.declared.Leaving.TheVariants.{AfterError, AfterNormal, Stays}
use Rattle.packets.specs.declared.Lists.{Lists}
use Rattle.lists.specs.Outcomes.{outcome}
use Rattle.cell_selection.specs.Selecting as Selecting
use Rattle.cell_selection.specs.declared.Selection.{Selection}
use Rattle.cell.specs.Calls.{acted, followed, fresh_cell, left_by}
use Rattle.cell.specs.declared.Cell.{Cell}
use Rattle.cell_history.proofs.MeantLaws.{Plain, by-meant}
use Rattle.cell_history.proofs.Reaching.{by-history}
use Rattle.cell_history.specs.History.{Call, Deck, Delete, Do, Does, Key, Release, Reply, Select, Status}
use Rattle.cell_agreement.specs.Agreement.{SoundAlways}

-- ---- the calls on a schedule

module _ (s : Schedule) (d : Sound s) where
  sound-taken : (k place : ℕ) → Sound (taken s k place)
  sound-taken k place = unfold after in sound-after s d (Orderly.Take k place)

  sound-closing : (place : ℕ) → Sound (closing s place)
  sound-closing place = unfold after in sound-after s d (Orderly.Close place)

  sound-returned : (place : ℕ) (in_error : Bool) → Sound (returned s place in_error)
  sound-returned place in_error = unfold after in sound-after s d (Orderly.Return place in_error)

  sound-released : (id : List ℕ) → Sound (released s id).schedule
  sound-released id = unfold after in sound-after s d (Orderly.Release id)

  sound-deleted : (id : List ℕ) → Sound (deleted s id).schedule
  sound-deleted id = unfold after in sound-after s d (Orderly.Delete id)

  -- ---- what follows a call on packets, jobs or marks

  sound-left : (leaving : Leaving) (place : ℕ) (otherwise : Schedule) → Sound otherwise → Sound (left_by leaving s place otherwise)
  sound-left Stays place otherwise o = o
  sound-left AfterNormal place otherwise o = sound-returned place false
  sound-left AfterError place otherwise o = sound-returned place true

  sound-followed : (a : Answer) → Sound (followed s a)
  sound-followed Done = d
  sound-followed (Started b) = d
  sound-followed (Completed place packet leaving) = sound-left leaving place s d
  sound-followed (Closed place leaving) = sound-left leaving place (closing s place) (sound-closing place)
  sound-followed (Refused n) = d

  -- a selection
  sound-select : (found : Bool) (lists : Lists) (selection : Selection) → Sound (Selecting.left_by found s lists selection).0
  sound-select true lists selection = sound-taken selection.at selection.place
  sound-select false lists selection = d

-- ---- the calls on the cell

-- the schedule of a cell is sound
abbrev SoundIn : Cell → Type 0
SoundIn c = Sound c.schedule

plain-sound : (c d : Cell) (x : Call) (reply : Reply) → Plain x → Does c x reply d → SoundIn c → SoundIn d
plain-sound c d (Deck bytes) reply p h s =
    subst SoundIn (sym h.2.1.1.1) (subst (λ (t : Schedule). Sound t) (sym h.2.1.0.deck.then) (sound-deck c.schedule bytes s))
plain-sound c d Select reply p h s =
    let r = h.0 in
    subst SoundIn (sym h.1.1.1)
    (subst (λ (t : Schedule × Lists). Sound t.0) (sym h.1.0.takes.leaves)
    (sound-select c.schedule s (Selecting.is_job r.selection.choice) c.lists r.selection))
plain-sound c d (Do x) reply p h s =
    unfold acted in subst SoundIn (sym h.1) (sound-followed c.schedule s (outcome c.lists (Rules.Do x)).answer)
plain-sound c d (Release id) reply p h s = subst SoundIn (sym h.1) (sound-released c.schedule s id)
plain-sound c d (Delete id) reply p h s = subst SoundIn (sym h.1) (sound-deleted c.schedule s id)
plain-sound c d (Status place packet) reply p h s = subst SoundIn (sym h.1) s
plain-sound c d (Key message) reply p h s = absurd p

-- a message does what the call does that it is
sound-does : (c d : Cell) (x : Call) (reply : Reply) → Does c x reply d → SoundIn c → SoundIn d
sound-does c d x reply h s = by-meant (λ o. SoundIn d) c d reply (λ e. subst SoundIn (sym e) s) (λ y p k. plain-sound c d y reply p k s) x h

pub sound-always : SoundAlways
sound-always configuration es c r =
    by-history configuration SoundIn (λ d b. unfold fresh_cell in subst SoundIn (sym b) sound_empty)
    (λ before d h s e x reply k. sound-does d e x reply k s) es c r
