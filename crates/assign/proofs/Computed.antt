-- An assigner that antt computes: it meets the contract of `assign`, so what `assign` answers is what it computes.
-- Assumes nothing.
use Rattle.std.specs.Prelude.{Option, Some, None}
use Rattle.assign.specs.declared.Part.{Part}
use Prim.Native.Nat.{ℕ, zero, suc, ◌+◌, ◌<◌}
use mathlib.Core.Path.{◌≡◌, refl}
use mathlib.Core.Bool.{Bool, true, false, cond}
use mathlib.Core.List.{List}
use native.Mathlib.Omega.{arith}
use lib.ListN.{length, set, replicate}
use lib.Dec.{eqb}
use borrow.Author.Tests.{eqb-true}
use Rattle.numbers.proofs.Tests.{by_bool}
use Rattle.assign_channels.specs.Choice.{total}
use Rattle.numbers.specs.Kinds.{unit_kinds, kind_at}
use Rattle.units.specs.declared.Unit.{Unit}
use Rattle.channels.specs.declared.Channel.{Channel}
use Rattle.assign_core.specs.declared.Pair.{Pair}
use Rattle.assign_core.specs.Core as Core
use Rattle.assign_core.proofs.Computed.{search_of, search-answers}
use Rattle.assign_drum.specs.Drum as Drum
use Rattle.assign_drum.proofs.Computed.{start_of, start-answers}
use Rattle.assign_heads.specs.declared.Head.{Head}
use Rattle.assign_heads.specs.declared.Service.{Service}
use Rattle.assign_heads.specs.Whose.{blank}
use Rattle.assign_heads.specs.Serving as Serving
use Rattle.assign_heads.proofs.ServingLaws.{served-so, lacking-so}
use Rattle.assign_heads.proofs.Computed.{serve_of, serve-answers}
use Rattle.assign_free.specs.Assignable.{is_free_of}
use Rattle.assign_free.proofs.Computed.{marks_of, marks-answer}
use Rattle.cards_request.specs.Requests.{counts}
use Rattle.cards_request.specs.declared.Facilities.{Facilities}
use Rattle.assign.specs.declared.KindChannels.{KindChannels}
use Rattle.assign.specs.declared.Kinds.{Kinds}
use Rattle.assign.specs.declared.Provision.{Provision}
use Rattle.assign.specs.Assignment.{Supply, drum_length, wants_of, no_channels, free_of}
use Rattle.assign.specs.Kinds.{KindsDone, KindsAnswer, ServesKinds}
use Rattle.assign.proofs.KindsLaws.{none_yet, one_more, unasked, lacking, all_done}
use Rattle.assign.specs.Chosen.{without, Assigns}
use Rattle.assign.proofs.ChosenLaws.{no-core, no-drum, no_kind, assigned, assigns-one}

-- ---- the kinds, n of them from one on
module _ (units : List (List Unit)) (channels : List Channel) (asked : Facilities) where
  abbrev pub service_at : ℕ → List Head → Service
  service_at order heads = serve_of (marks_of units channels order) (wants_of asked order) heads

  unfoldable pub kinds_from : ℕ → ℕ → List KindChannels → List Head → Kinds
  kinds_from zero order named heads = record { ok = true; order = order; channels = named; heads = heads }
  kinds_from (suc n) order named heads =
      cond (eqb (total (wants_of asked order).0) 0) (kinds_from n (order + 1) named heads)
      (cond (service_at order heads).ok
      (kinds_from n (order + 1) (set named order (record { on = (service_at order heads).on })) (service_at order heads).heads)
      (record { ok = false; order = order; channels = named; heads = heads }))

  abbrev pub kinds_of : Kinds
  kinds_of = kinds_from unit_kinds 0 (replicate unit_kinds no_channels) (replicate 256 blank)

  module _ (size : length channels ≡ 16) (full : length asked.units ≡ counts) where
    long : (order : ℕ) → order < unit_kinds → length (wants_of asked order).0 ≡ 16
    long order h = refl

    -- the next kind is served, or it is lacking
    step : (n order : ℕ) (named : List KindChannels) (heads : List Head) → order < unit_kinds → (s : Service)
        → Serving.Serves (marks_of units channels order) (wants_of asked order) heads s
        → (KindsDone (is_free_of units channels) asked (set named order (record { on = s.on })) s.heads (order + 1)
        → ServesKinds (is_free_of units channels) asked (kinds_from n (order + 1) (set named order (record { on = s.on })) s.heads))
        → KindsDone (is_free_of units channels) asked named heads order
        → ServesKinds (is_free_of units channels) asked (cond s.ok
        (kinds_from n (order + 1) (set named order (record { on = s.on })) s.heads)
        (record { ok = false; order = order; channels = named; heads = heads }))
    step n order named heads h s a more k = by_answer s.ok refl
      where
        by_answer : (b : Bool) → s.ok ≡ b
            → ServesKinds (is_free_of units channels) asked (cond s.ok
            (kinds_from n (order + 1) (set named order (record { on = s.on })) s.heads)
            (record { ok = false; order = order; channels = named; heads = heads }))
        by_answer true e =
            rw e (more (one_more units channels asked size order h (marks-answer units channels order) refl
            (served-so (marks_of units channels order) (wants_of asked order) heads s e a) k))
        by_answer false e =
            rw e (lacking units channels asked size order h (marks-answer units channels order) refl
            (lacking-so (marks_of units channels order) (wants_of asked order) heads s e a) k)

    kinds-from : (n order : ℕ) (named : List KindChannels) (heads : List Head) → order + n ≡ unit_kinds
        → KindsDone (is_free_of units channels) asked named heads order
        → ServesKinds (is_free_of units channels) asked (kinds_from n order named heads)
    unfolding kinds_from
    kinds-from zero order named heads e k = all_done (omega arith) k
    kinds-from (suc n) order named heads e k =
        by_bool (eqb (total (wants_of asked order).0) 0)
        (λ t. rw t (kinds-from n (order + 1) named heads (omega arith)
        (unasked units channels asked order (omega arith) (eqb-true (total (wants_of asked order).0) 0 t) k)))
        (λ f. rw f (step n order named heads (omega arith) (service_at order heads)
        (serve-answers (marks_of units channels order) (wants_of asked order) heads refl (long order (omega arith)) k.wide)
        (kinds-from n (order + 1) (set named order (record { on = (service_at order heads).on })) (service_at order heads).heads (omega arith))
        k))

    pub kinds-answer : ServesKinds (is_free_of units channels) asked kinds_of
    kinds-answer = kinds-from unit_kinds 0 (replicate unit_kinds no_channels) (replicate 256 blank) refl (none_yet (is_free_of units channels) asked)

-- ---- the whole
abbrev pub with_kinds : Pair → ℕ → Kinds → Provision
with_kinds p s k =
    cond k.ok (record {
      lacking = None;
      assigned = record { ib = p.0; db = p.1; drum = s; channels = k.channels; heads = k.heads };
    }) (without (Part.Units (kind_at k.order)))

abbrev pub with_drum : Supply → Facilities → Pair → Option ℕ → Provision
with_drum supply wanted p (Some s) = with_kinds p s (kinds_of supply.units supply.channels wanted)
with_drum supply wanted p None = without Part.Drum

abbrev pub with_core : Supply → Facilities → Option Pair → Provision
with_core supply wanted (Some p) = with_drum supply wanted p (start_of supply.areas (drum_length supply.channels) wanted.md)
with_core supply wanted None = without Part.Core

unfoldable pub assign_of : Supply → Facilities → Provision
assign_of supply wanted = with_core supply wanted (search_of supply.occupancy wanted.ib wanted.db)

module _ (supply : Supply) (wanted : Facilities) (size : length supply.channels ≡ 16) (full : length wanted.units ≡ counts) where
  with-kinds : (p : Pair) (s : ℕ) → Core.LeastPair supply.occupancy wanted.ib wanted.db (Some p)
      → Drum.LowestStart supply.areas (drum_length supply.channels) wanted.md (Some s)
      → (k : Kinds) (b : Bool) → k.ok ≡ b → KindsAnswer b (free_of supply) wanted k → Assigns supply wanted (with_kinds p s k)
  with-kinds p s c d k true e a = rw e (assigned supply wanted p s k.channels k.heads c d a)
  with-kinds p s c d k false e a = rw e (no_kind supply wanted c d a refl)

  with-drum : (p : Pair) → Core.LeastPair supply.occupancy wanted.ib wanted.db (Some p) → (r : Option ℕ)
      → Drum.LowestStart supply.areas (drum_length supply.channels) wanted.md r → Assigns supply wanted (with_drum supply wanted p r)
  with-drum p c (Some s) d =
      let k = kinds_of supply.units supply.channels wanted in
      with-kinds p s c d k k.ok refl (kinds-answer supply.units supply.channels wanted size full)
  with-drum p c None d = no-drum supply wanted c d refl

  with-core : (r : Option Pair) → Core.LeastPair supply.occupancy wanted.ib wanted.db r → Assigns supply wanted (with_core supply wanted r)
  with-core (Some p) c =
      with-drum p c (start_of supply.areas (drum_length supply.channels) wanted.md)
      (start-answers supply.areas (drum_length supply.channels) wanted.md)
  with-core None c = no-core supply wanted c refl

  -- there is always an answer, and it is the computed one
  pub assign-answers : Assigns supply wanted (assign_of supply wanted)
  unfolding assign_of
  assign-answers = with-core (search_of supply.occupancy wanted.ib wanted.db) (search-answers supply.occupancy wanted.ib wanted.db)

  pub computed : (a : Provision) → Assigns supply wanted a → a ≡ assign_of supply wanted
  computed a p = assigns-one supply wanted a (assign_of supply wanted) p assign-answers
