-- A kind's entries can have channels, by the counts of a cell, exactly if they are served in it in some way.
-- Assumes nothing.
use Rattle.std.specs.Prelude.{Option}
use Rattle.numbers.specs.declared.LogicalChannel.{LogicalChannel}
use Prim.Native.Nat.{ℕ, ◌+◌, ◌*◌, ◌<◌}
use mathlib.Core.Path.{◌≡◌, refl, sym, ap, ◌∙◌, subst}
use mathlib.Core.Bool.{Bool, true}
use mathlib.Core.List.{List}
use native.Mathlib.Omega.{arith}
use lib.ListN.{length, replicate}
use lib.Seq.{ext_get_or}
use Rattle.numbers.proofs.Tests.{by_bool}
use Rattle.numbers.specs.Kinds.{unit_kinds}
use Rattle.cards_request.specs.Requests.{counts as many}
use Rattle.numbers.proofs.ValuesLaws.{values-at}
use Rattle.units.specs.declared.Unit.{Unit}
use Rattle.channels.specs.declared.Channel.{Channel}
use Rattle.assign_channels.specs.declared.ByChannel.{ByChannel}
use Rattle.assign_channels.specs.Choice.{by_channel, want, on, Placed}
use Rattle.assign_channels.specs.Greedy.{choose_of}
use Rattle.assign_channels.proofs.ChoiceLaws.{chosen, found_none}
use Rattle.assign_heads.specs.declared.Head.{Head}
use Rattle.assign_heads.specs.Heads.{Served}
use Rattle.assign_heads.specs.Sums.{how_many}
use Rattle.assign_heads.specs.Whose.{free_at, blank, to_at}
use Rattle.assign_heads.specs.Giving.{FreeCounts}
use Rattle.assign_heads.proofs.HeadsLaws.{served-placed}
use Rattle.assign_heads.proofs.ServingLaws.{served-so}
use Rattle.assign_heads.proofs.Computed.{counts_of as free-counts, service_of, serve_of, serve-answers}
use Rattle.assign_free.specs.Assignable.{is_free_of}
use Rattle.assign_free.proofs.AssignableLaws.{marks}
use Rattle.assign_free.proofs.Computed.{marks_of, marks-answer}
use Rattle.assign_counts.specs.declared.Counts.{Counts}
use Rattle.assign_counts.specs.Assignable.{counts_of, Counted}
use Rattle.cards_request.specs.declared.Facilities.{Facilities}
use Rattle.assign.specs.Assignment.{wants_of}
use Rattle.assign.proofs.ChosenLaws.{listed, by-list}
use Rattle.assign_lacking.specs.ByCounts.{Servable}

module _ (units : List (List Unit)) (channels : List Channel) (size : length channels ≡ 16) (order : ℕ) (is : order < unit_kinds)
    (counts : Counts) (asked : Facilities) (full : length asked.units ≡ many)
    (c : Counted units channels counts) where
  wants-long : length (wants_of asked order).0 ≡ 16
  wants-long = refl

  -- the kind's assignable units, marked
  abbrev free : List Bool
  free = marks_of units channels order

  marked : free_at free ≡ is_free_of units channels order
  marked = λ j i. marks units channels size (marks-answer units channels order) i j

  -- the counts are those of the marks
  room : FreeCounts free (counts_of counts order)
  room = record {
    long = c.long order is;
    each = λ d h. c.each order d is h ∙ ap (λ (f : ℕ → Bool). how_many 16 (λ u. f (d * 16 + u))) (sym marked);
  }

  room-one : counts_of counts order ≡ free-counts free
  room-one = ap by_channel (ext_get_or 0 (counts_of counts order).0 (free-counts free).0 room.long λ d h.
      let k : d < 16 = omega (arith, room.long) in
      room.each d k ∙ sym (values-at 16 (λ c. how_many 16 (λ u. free_at free (c * 16 + u))) d 0 k))

  -- entries that are served can have channels
  pub kind-servable : (its : ℕ → ℕ) (to : ℕ → Option LogicalChannel) → Served (is_free_of units channels order) (want (wants_of asked order)) its to
      → Servable (counts_of counts order) (wants_of asked order)
  kind-servable its to s = record {
    channels = listed its;
    placed = served-placed free (wants_of asked order) (counts_of counts order) (listed its) to wants-long refl room
        (subst (λ (f : ℕ → Bool). Served f (want (wants_of asked order)) (on (listed its)) to) (sym marked)
        (by-list (is_free_of units channels order) (want (wants_of asked order)) its to s));
  }

  -- entries that can have channels are served, by the serving that antt computes
  abbrev none : List Head
  none = replicate 256 blank

  serve-ok : (choose_of (free-counts free) (wants_of asked order)).ok ≡ true → (serve_of free (wants_of asked order) none).ok ≡ true
  unfolding serve_of service_of
  serve-ok t = rw t refl

  pub servable-kind : Servable (counts_of counts order) (wants_of asked order)
      → (its : ℕ → ℕ) × ((to : ℕ → Option LogicalChannel) × Served (is_free_of units channels order) (want (wants_of asked order)) its to)
  servable-kind s =
      by_bool (choose_of (free-counts free) (wants_of asked order)).ok
      (λ t.
      let r = serve_of free (wants_of asked order) none in
      let k = served-so free (wants_of asked order) none r (serve-ok t) (serve-answers free (wants_of asked order) none refl wants-long refl) in (
        on r.on,
        (
          to_at free r.heads,
          subst (λ (f : ℕ → Bool). Served f (want (wants_of asked order)) (on r.on) (to_at free r.heads)) marked k.served,
        ),
      ))
      (λ t. absurd ((found_none (free-counts free) (wants_of asked order) (choose_of (free-counts free) (wants_of asked order)) t
      (chosen (free-counts free) (wants_of asked order) refl wants-long)).never s.channels
      (subst (λ (x : ByChannel). Placed x (wants_of asked order) s.channels) room-one s.placed)))
