-- What the searches and the two tests say of a part; and there is one answer. Assumes nothing.
use Rattle.std.specs.Prelude.{Option, Some, None}
use Rattle.assign.specs.declared.Part.{Part}
use Prim.Native.Nat.{ℕ, ◌<◌, ◌≤◌}
use mathlib.Core.Path.{◌≡◌, refl, sym, ap, ◌∙◌, subst}
use mathlib.Core.Bool.{Bool, true, false}
use mathlib.Core.List.{List}
use native.Mathlib.Omega.{arith}
use lib.ListN.{length, drop, replicate}
use Rattle.numbers.specs.Decides.{Decides}
use Rattle.numbers.specs.declared.ChannelNumber.{ChannelNumber}
use Rattle.numbers.proofs.Tests.{never}
use Rattle.numbers.proofs.Stores.{get_d-replicate-same}
use Rattle.assign_core.specs.Core as C
use Rattle.assign_core.specs.declared.Pair.{Pair}
use Rattle.assign_drum.specs.Drum as D
use Rattle.assign_drum.specs.declared.Area.{Area}
use Rattle.assign_channels.specs.declared.ByChannel.{ByChannel}
use Rattle.assign_channels.specs.declared.ByLogical.{ByLogical}
use Rattle.assign_channels.specs.Choice.{channel, total}
use Rattle.assign_channels.specs.Greedy.{hall_b}
use Rattle.assign_channels.proofs.GreedyLaws.{total-none}
use Rattle.assign_channels.proofs.Loops.{too_many, not-served, found}
use Rattle.assign_counts.specs.declared.Counts.{Counts}
use Rattle.cards_request.specs.declared.Facilities.{Facilities}
use Rattle.assign.specs.Parts.{parts, HasCore, HasDrum}
use Rattle.assign.proofs.FirstLaws.{first_one}
use Rattle.assign_lacking.specs.ByCounts.{Servable, HasBy, LackingByCounts}

-- ---- the core and the drum
module _ (occupancy : ℕ) (wanted : Facilities) {r : Option Pair} (a : C.LeastPair occupancy wanted.ib wanted.db r) where
  pub no-core : r ≡ None → HasCore occupancy wanted → ⊥
  no-core e h = subst (C.LeastPair occupancy wanted.ib wanted.db) e a h.ib h.db h.fits

  pub core-there : (p : Pair) → r ≡ Some p → HasCore occupancy wanted
  core-there p e = record { ib = p.0; db = p.1; fits = (subst (C.LeastPair occupancy wanted.ib wanted.db) e a).0 }

module _ (areas : List Area) (size : ℕ) (wanted : Facilities) {r : Option ℕ} (a : D.LowestStart areas size wanted.md r) where
  pub no-drum : r ≡ None → HasDrum areas size wanted → ⊥
  no-drum e h = subst (D.LowestStart areas size wanted.md) e a h.start h.fits

  pub drum-there : (s : ℕ) → r ≡ Some s → HasDrum areas size wanted
  drum-there s e = record { start = s; fits = (subst (D.LowestStart areas size wanted.md) e a).0 }

-- ---- a kind: where nothing is asked for, no channel is needed
pub none-asked : (counts : ByChannel) (wants : ByLogical) → total wants.0 ≡ 0 → Decides (Servable counts wants) true
none-asked counts wants e = (
  λ t. record {
    channels = replicate 16 (channel 0);
    placed = record {
      long = refl;
      fits = λ l h g w. absurd (omega (arith, total-none wants.0 e l));
      own = λ l m h g n w v q. absurd (omega (arith, total-none wants.0 e l));
      rest = omega arith;
      none-0 = refl;
      none = λ l h g w. ap (λ (c : ChannelNumber). c.0) (get_d-replicate-same 16 l (channel 0));
    };
  },
  λ f s. never refl f,
)

-- else the tests that `assign_channels::choose` makes before it chooses
module _ (counts : ByChannel) (wants : ByLogical) (wide : length counts.0 ≡ 16) (size : length wants.0 ≡ 16) where
  -- fewer units than the entries ask for together
  pub too_few : total counts.0 < total wants.0 → Decides (Servable counts wants) false
  too_few h = (λ t. never t refl, λ f s. (too_many counts wants wide size h).never s.channels s.placed)

  -- else the threshold test decides
  pub tested : {r : Bool} → total wants.0 ≤ total counts.0 → r ≡ hall_b counts.0 (drop 1 wants.0) → Decides (Servable counts wants) r
  tested {r} h e = (
    λ t. let f = found counts wants wide size h (sym e ∙ t) refl in record { channels = _; placed = f.placed },
    λ f s. (not-served counts wants wide size h (sym e ∙ f)).never s.channels s.placed,
  )

-- two answers are one
pub answers_one : (counts : Counts) (occupancy : ℕ) (areas : List Area) (size : ℕ) (wanted : Facilities) (r s : Option Part)
    → LackingByCounts counts occupancy areas size wanted r
    → LackingByCounts counts occupancy areas size wanted s → r ≡ s
answers_one counts occupancy areas size wanted r s a b = first_one (HasBy counts occupancy areas size wanted) parts r s a.first b.first
