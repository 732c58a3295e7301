-- A SOUND SCHEDULE IS SOUND AFTER ANY DECK: IDs stay distinct, keys distinct and in selection order, 64 requests at
-- most, and the schedule is the one value that holds them, whatever the bytes of the deck. What holds of each request
-- in it, and of each that is read without error, holds of each then. Each group enters its request or leaves the
-- schedule as it was. Assumes nothing.
use Prim.Native.Nat.{ℕ}
use mathlib.Core.Path.{◌≡◌, refl}
use mathlib.Core.List.{List, [], ◌∷◌}
use Rattle.cards_fields.specs.Deck.{deck_end, deck_groups}
use Rattle.cards_fields.specs.Deck.{DeckEnd}
use Rattle.std.specs.Prelude.{Ok, Err}
use Rattle.cards_group.specs.Group.{read_group}
use Rattle.cards_request.specs.Errors.{CardVerdict}
use Rattle.std.specs.Prelude.{Ok, Err}
use Rattle.cards_request.specs.declared.Request.{Request}
use Rattle.schedule_list.specs.InSchedule.{in_schedule}
use Rattle.schedule_list.specs.declared.Schedule.{Schedule}
use Rattle.schedule_orderly.specs.Orderly.{Each, requests, Sound}
use Rattle.schedule_orderly.proofs.Reachable.{sound-enter, each-enter}
use Rattle.schedule_deck.specs.Report.{begin, tried_by, after, end_from, schedule_by, deck_schedule}
use Rattle.schedule_deck.specs.declared.Progress.{Progress}

sound-tried : (v : CardVerdict) (s : Schedule) (r : Request) → Sound s → Sound (tried_by v s r).schedule
sound-tried (Ok tt) s r d = sound-enter s d r
sound-tried (Err e) s r d = d

sound-group : (p : Progress) (g : List (List ℕ)) → Sound p.schedule → Sound (after p g).schedule
unfolding after
sound-group p g d = sound-tried (read_group g).verdict p.schedule (read_group g).request d

pub sound-groups : (p : Progress) (gs : List (List (List ℕ))) → Sound p.schedule → Sound (end_from p gs).schedule
sound-groups p [] d = d
sound-groups p (g ∷ gs) d = sound-groups (after p g) gs (sound-group p g d)

-- what holds of each request
module _ (P : Request → Type 0) where
  each-tried : (v : CardVerdict) (s : Schedule) (r : Request) → Sound s → (v ≡ Ok tt → P r) → Each P (requests (in_schedule s))
      → Each P (requests (in_schedule (tried_by v s r).schedule))
  each-tried (Ok tt) s r d p h = each-enter s d P r (p refl) h
  each-tried (Err e) s r d p h = h

  module _ (read : (g : List (List ℕ)) → (read_group g).verdict ≡ Ok tt → P (read_group g).request) where
    each-group : (p : Progress) (g : List (List ℕ)) → Sound p.schedule → Each P (requests (in_schedule p.schedule))
        → Each P (requests (in_schedule (after p g).schedule))
    unfolding after
    each-group p g d h = each-tried (read_group g).verdict p.schedule (read_group g).request d (read g) h

    pub each-groups : (p : Progress) (gs : List (List (List ℕ))) → Sound p.schedule → Each P (requests (in_schedule p.schedule))
        → Each P (requests (in_schedule (end_from p gs).schedule))
    each-groups p [] d h = h
    each-groups p (g ∷ gs) d h = each-groups (after p g) gs (sound-group p g d) (each-group p g d h)

    pub each-deck : (s : Schedule) (deck : List ℕ) → Sound s → Each P (requests (in_schedule s)) → Each P (requests (in_schedule (deck_schedule s deck)))
    each-deck s deck d h = by (deck_end deck)
      where
        by : (end : DeckEnd) → Each P (requests (in_schedule (schedule_by end s deck)))
        by (Ok n) = each-groups (begin s) (deck_groups deck) d h
        by (Err refusal) = h

-- AFTER A DECK
pub sound-deck : (s : Schedule) (deck : List ℕ) → Sound s → Sound (deck_schedule s deck)
sound-deck s deck d = by (deck_end deck)
  where
    by : (end : DeckEnd) → Sound (schedule_by end s deck)
    by (Ok n) = sound-groups (begin s) (deck_groups deck) d
    by (Err refusal) = d
