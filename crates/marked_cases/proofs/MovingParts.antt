-- WHAT OF K9 DOES NOT GO BY THE SECTION: what computing has to show of calls, and the request of its deck. Then its
-- selection with channels and units left open, and the units that it then holds. Assumes nothing.
use mathlib.Core.Path.{◌≡◌, refl, sym, ap, subst, ◌∙◌}
use mathlib.Core.Bool.{true, Bool, false}
use mathlib.Core.List.{List, [], ◌∷◌, map}
use Rattle.units.specs.State.{unit_in, assignable, Square}
use Rattle.channels.specs.Channels.{no_down}
use Rattle.cell.specs.declared.Cell.{Cell}
use Rattle.marked_cases.proofs.Computed.{cell_after, does-computed, reply_of, sized}
use Rattle.numbers.specs.Quoted.{bytes, byte}
use Rattle.configuration_units.specs.Fresh.{fresh_units}
use Rattle.assign_heads.specs.Sums.{how_many, one}
use Rattle.packets.specs.State.{take_all, take_unit}
use Rattle.marked_cases.specs.Cases.{seen, Watched, Watches}
use Prim.Native.Nat.{ℕ, zero, suc, ◌+◌, ◌*◌, ◌≤◌}
use native.Mathlib.Omega.{arith}
use lib.ListN.{get_or, set}
use Rattle.numbers.proofs.Tests.{by_bool}
use Rattle.assign_heads.specs.declared.Head.{Head}
use Rattle.assign_heads.proofs.SumsLaws.{sum-suc, sum-none}
use Rattle.cards_request.specs.Requests.{no_units}
use Rattle.cards_request.specs.declared.Facilities.{Facilities}
use Rattle.cards_request.specs.declared.Request.{Request}
use Rattle.cell_selection.specs.Selecting.{is_taken, no_id, run_of}
use Rattle.cell_selection.specs.declared.Choice.TheVariants.{Job}
use Rattle.cell_selection.specs.declared.Selection.{Selection}
use Rattle.units.specs.declared.Holder.TheVariants.{Held}
use Rattle.units.specs.declared.Unit.{Unit as UnitState}
use Rattle.configuration_units.proofs.FreshLaws.{fresh-square}
use Rattle.assign.specs.declared.KindChannels.{KindChannels}
use Rattle.packets.proofs.UnitLaws.{take-read}
use Rattle.packets.specs.declared.Assignment.{Assignment}
use Rattle.cell_history.specs.Told.{inside}

-- what computing has to show, of each call its reply and who then holds the unit
abbrev pub Computed : ℕ → ℕ → Cell → List Watched → Type 0
Computed k u c [] = Unit {0}
Computed k u c (s ∷ ss) =
    (sized c ≡ true) × ((seen (reply_of c s.call) ≡ s.seen)
    × (((unit_in (inside (cell_after c s.call)).units k u).holder ≡ s.holder) × Computed k u (cell_after c s.call) ss))

pub watches : (k u : ℕ) (c : Cell) (ss : List Watched) → Computed k u c ss → Watches k u c ss
watches k u c [] x = tt
watches k u c (s ∷ ss) x = λ reply d h.
    let e = does-computed c d s.call reply x.0 h in (
      ap seen e.0 ∙ x.1.0,
      (
        ap (λ (y : Cell). (unit_in (inside y).units k u).holder) e.1 ∙ x.1.1.0,
        subst (λ (y : Cell). Watches k u y ss) (sym e.1) (watches k u (cell_after c s.call) ss x.1.1.1),
      ),
    )

-- what the deck asks for
abbrev pub wants : Facilities
wants = record { ib = 1; db = 0; md = 0; units = set no_units (16 + 1) 1 }

abbrev pub asks : Request
asks = record {
  id = bytes "A1    ";
  rush = byte " ";
  program = bytes "ECU         ";
  immediate = byte " ";
  device = byte "T";
  medium = bytes "PROG  ";
  mode = byte "P";
  sequence = 0;
  letter = byte "A";
  precedence = 5;
  mix = byte "P";
  minutes = 3;
  store = byte " ";
  library = bytes "      ";
  facilities = wants;
}

-- of a number that is not 0 there is one
pub some_of : (n : ℕ) (f : ℕ → Bool) → 1 ≤ how_many n f → (i : ℕ) × (f i ≡ true)
some_of zero f h = absurd (omega (arith, sum-none (λ i. one (f i))))
some_of (suc n) f h =
    by_bool (f n) (λ t. (n, t))
    (λ t. let z : ◌≡◌ {A = ℕ} (one (f n)) 0 = rw t refl in some_of n f (omega (arith, sum-suc n (λ i. one (f i)))))

abbrev pub sel : List KindChannels → List Head → Selection
sel named heads =
    record {
      choice = Job;
      first = no_id;
      place = 0;
      at = 0;
      request = asks;
      assigned = record { ib = 2; db = 0; drum = 0; channels = named; heads = heads };
    }

-- what it gives, but for the units
abbrev pub plain : Assignment
plain = record { units = []; from = 0; words = 0; core = record { ib = run_of 2 1; db = run_of 0 0 } }

abbrev pub units_of : List Head → List (List UnitState)
units_of heads = take_all (fresh_units no_down) 0 (λ c u. get_or (map is_taken heads) (c * 16 + u) false)

abbrev pub mine : UnitState
mine = record { holder = Held 0; down = false; reserved = false; interlock = false }

pub unit-so : (heads : List Head) → get_or (map is_taken heads) 48 false ≡ true → unit_in (units_of heads) 3 0 ≡ mine
unfolding unit_in assignable fresh_units
unit-so heads t =
    take-read (fresh_units no_down) 0 (λ c u. get_or (map is_taken heads) (c * 16 + u) false) (fresh-square no_down) 3 0 (omega arith) (omega arith)
    ∙ ap (λ (b : Bool). take_unit 0 b (unit_in (fresh_units no_down) 3 0)) t

-- units of which the first of channel 3 is known
pub shaped : (v : UnitState) (P : List (List UnitState) → Type 0)
    → ((r₀ r₁ r₂ row : List UnitState) (rest : List (List UnitState)) → P (r₀ ∷ r₁ ∷ r₂ ∷ (v ∷ row) ∷ rest))
    → (units : List (List UnitState)) → Square units → unit_in units 3 0 ≡ v → P units
unfolding unit_in
shaped v P f [] q e = absurd (omega (arith, q.channels))
shaped v P f (r₀ ∷ []) q e = absurd (omega (arith, q.channels))
shaped v P f (r₀ ∷ r₁ ∷ []) q e = absurd (omega (arith, q.channels))
shaped v P f (r₀ ∷ r₁ ∷ r₂ ∷ []) q e = absurd (omega (arith, q.channels))
shaped v P f (r₀ ∷ r₁ ∷ r₂ ∷ [] ∷ rest) q e = absurd (omega (arith, q.units 3 (omega arith)))
shaped v P f (r₀ ∷ r₁ ∷ r₂ ∷ (w ∷ row) ∷ rest) q e = subst (λ (x : UnitState). P (r₀ ∷ r₁ ∷ r₂ ∷ (x ∷ row) ∷ rest)) (sym e) (f r₀ r₁ r₂ row rest)
