-- What the parts answer makes what the assigner answers; and the promise leaves one answer. Assumes nothing.
use Rattle.std.specs.Prelude.{Option, Some, None}
use Rattle.numbers.specs.declared.LogicalChannel.{LogicalChannel}
use Prim.Native.Nat.{ℕ, zero, suc, ◌<◌}
use mathlib.Core.Path.{◌≡◌, refl, sym, ap, ◌∙◌, subst}
use mathlib.Core.Bool.{Bool, true, false, cond}
use mathlib.Core.List.{List}
use mathlib.Core.Logic.{◌⊎◌, inl, inr, ⊎_elim}
use native.Mathlib.Nat.{eq-or-lt_of_le}
use native.Mathlib.Omega.{arith}
use lib.Dec.{ltb}
use lib.Seq.{ext_get_or}
use borrow.Author.Tests.{ltb-true, ltb-false}
use Rattle.numbers.proofs.Order.{le-or-lt, one_more}
use Rattle.numbers.proofs.Tests.{by_bool, never}
use Rattle.numbers.specs.Kinds.{unit_kinds, kind_at}
use Rattle.numbers.specs.Values.{values}
use Rattle.numbers.proofs.ValuesLaws.{values-at}
use Rattle.numbers.specs.declared.ChannelNumber.{ChannelNumber}
use Rattle.assign_core.specs.declared.Pair.{Pair}
use Rattle.assign_core.specs.Core as Core
use Rattle.assign_core.proofs.CoreLaws.{three}
use Rattle.assign_drum.specs.declared.Area.{Area}
use Rattle.assign_drum.specs.Drum as Drum
use Rattle.assign_channels.specs.Choice.{channel, want, on}
use Rattle.assign_channels.proofs.ChoiceLaws.{lex-both}
use Rattle.assign_heads.specs.declared.Head.{Head}
use Rattle.assign_heads.specs.Heads.{is_given, Served}
use Rattle.assign_heads.proofs.HeadsOne.{units-one}
use Rattle.assign_heads.specs.Whose.{blank}
use Rattle.cards_request.specs.declared.Facilities.{Facilities}
use Rattle.assign.specs.declared.KindChannels.{KindChannels}
use Rattle.assign.specs.declared.Kinds.{Kinds}
use Rattle.assign.specs.declared.Assigned.{Assigned}
use Rattle.assign.specs.declared.Part.{Part}
use Rattle.assign.specs.declared.Provision.{Provision}
use Rattle.assign.specs.Parts.{parts, FirstLacking, Has, HasCore, HasKind}
use Rattle.assign.specs.Assignment.{Supply, drum_length, wants_of, no_channels, channels_of, free_of, given, given_of, IsAssignment}
use Rattle.assign.specs.Kinds.{Possible, KindsDone, KindLacking, KindsAnswer, ServesKinds}
use Rattle.assign.specs.Chosen.{Chosen, without, Answer, Assigns}
use Rattle.assign.proofs.FirstLaws.{first_one, not-nothing, first_kind, every-kind}

-- ---- the channels of a kind's entries as a list
abbrev pub listed : (ℕ → ℕ) → List ChannelNumber
listed its = values 16 (λ l. channel (its l))

module _ (free : ℕ → Bool) (wants : ℕ → ℕ) (its : ℕ → ℕ) (to : ℕ → Option LogicalChannel) (s : Served free wants its to) where
  same : (l : ℕ) → l < 16 → on (listed its) l ≡ its l
  same l h = ap (λ (c : ChannelNumber). c.0) (values-at 16 (λ l. channel (its l)) l (channel 0) h)

  pub by-list : Served free wants (on (listed its)) to
  by-list = record {
    only = s.only;
    all = s.all;
    known = s.known;
    there = λ i l h t. by_bool (ltb l 16) (λ b. s.there i l h t ∙ sym (same l (ltb-true l 16 b))) (λ b. absurd (s.known i l (ltb-false l 16 b) t));
    own = λ l m h k b p q e. s.own l m h k b p q (sym (same l (omega arith)) ∙ e ∙ same m b);
    none-0 = same 0 (omega arith) ∙ s.none-0;
    none = λ l h k e. same l k ∙ s.none l h k e;
  }

module _ (supply : Supply) (wanted : Facilities) where
  -- an assignment's channels are possible for each kind
  possible : {b : Assigned} {kind : ℕ} → kind < unit_kinds → IsAssignment supply wanted b → Possible (free_of supply) wanted kind (channels_of b kind)
  possible {b} {kind} h i = record { long = i.shaped.entries kind h; to = given_of supply kind b; served = i.kinds kind h }

  -- a kind that is served in some way has channels that are possible, and the other way round
  pub kind-possible : (order : ℕ) → HasKind supply wanted order → (others : List ChannelNumber) × Possible (free_of supply) wanted order others
  kind-possible order h = (
    listed h.on,
    record {
      long = refl;
      to = h.to;
      served = by-list (free_of supply order) (want (wants_of wanted order)) h.on h.to h.served;
    },
  )

  pub possible-kind : (order : ℕ) → (others : List ChannelNumber) × Possible (free_of supply) wanted order others → HasKind supply wanted order
  possible-kind order p = record { on = on p.0; to = p.1.to; served = p.1.served }

  -- ---- a part that is lacking
  lacks : (part : Part) → FirstLacking supply wanted (Some part) → {r : Provision} → r ≡ without part → Assigns supply wanted r
  lacks part f e = subst (Assigns supply wanted) (sym e) (f, refl)

  pub no-core : Core.LeastPair supply.occupancy wanted.ib wanted.db None → {r : Provision} → r ≡ without Part.Core
      → Assigns supply wanted r
  no-core c = lacks Part.Core (inl (λ h. c h.ib h.db h.fits, refl))

  module _ {p : Pair} (c : Core.LeastPair supply.occupancy wanted.ib wanted.db (Some p)) where
    has-core : HasCore supply.occupancy wanted
    has-core = record { ib = p.0; db = p.1; fits = c.0 }

    pub no-drum : Drum.LowestStart supply.areas (drum_length supply.channels) wanted.md None → {r : Provision}
        → r ≡ without Part.Drum → Assigns supply wanted r
    no-drum d = lacks Part.Drum (inr (has-core, inl (λ h. d h.start h.fits, refl)))

    pub no_kind : {s : ℕ} → Drum.LowestStart supply.areas (drum_length supply.channels) wanted.md (Some s)
        → {order : ℕ} → KindLacking (free_of supply) wanted order → {r : Provision} → r ≡ without (Part.Units (kind_at order)) → Assigns supply wanted r
    no_kind {s} d {order} k =
        lacks (Part.Units (kind_at order))
        (inr (
          has-core,
          inr (
            record { start = s; fits = d.0 },
            first_kind (Has supply wanted) (HasKind supply wanted) (λ m x. x) (λ m x. x) order k.is-kind
                (λ kind h. possible-kind kind (k.before kind h)) (λ h. let p = kind-possible order h in k.never p.0 p.1),
          ),
        ))

  -- ---- all parts
  module _ (p : Pair) (s : ℕ) (named : List KindChannels) (heads : List Head)
      (c : Core.LeastPair supply.occupancy wanted.ib wanted.db (Some p))
      (d : Drum.LowestStart supply.areas (drum_length supply.channels) wanted.md (Some s))
      (k : KindsDone (free_of supply) wanted named heads unit_kinds) where
    abbrev all : Assigned
    all = record { ib = p.0; db = p.1; drum = s; channels = named; heads = heads }

    is_one : IsAssignment supply wanted all
    is_one = record {
      shaped = record { kinds = k.count; entries = λ kind h. (k.each kind h).long; units = k.wide };
      core = c.0;
      drum = d.0;
      only = λ i t. let r = k.only i t in record { kind = r.0; is-kind = r.1.0; free = r.1.1 };
      kinds = λ kind h. (k.each kind h).served;
    }

    pub assigned : Chosen supply wanted all
    assigned = record {
      is = is_one;
      core = λ b i. c.1 b.ib b.db i.core;
      drum = λ b i h. d.1 b.drum h i.drum;
      channels = λ kind h b i. (k.each kind h).least (channels_of b kind) (possible h i);
      units = λ kind h. (k.each kind h).lowest;
    }

  -- ---- one answer
  module _ (a b : Assigned) (p : Chosen supply wanted a) (q : Chosen supply wanted b) where
    core-one : (a.ib ≡ b.ib) × (a.db ≡ b.db)
    core-one =
        ⊎_elim (λ l. absurd (q.core a p.is l))
        (λ m. ⊎_elim (λ e. (ap (λ (x : Pair). x.0) e, ap (λ (x : Pair). x.1) e)) (λ g. absurd (p.core b q.is g)) m)
        (three (record { 0 = a.ib; 1 = a.db }) (record { 0 = b.ib; 1 = b.db }))

    drum-one : a.drum ≡ b.drum
    drum-one =
        ⊎_elim (λ l. ⊎_elim (λ e. e) (λ m. absurd (q.drum a p.is m)) (eq-or-lt_of_le l)) (λ m. absurd (p.drum b q.is m))
        (le-or-lt a.drum b.drum)

    named-one : (kind : ℕ) → kind < unit_kinds → channels_of a kind ≡ channels_of b kind
    named-one kind h = lex-both (channels_of a kind) (channels_of b kind) (p.channels kind h b q.is) (q.channels kind h a p.is)

    channels-one : a.channels ≡ b.channels
    channels-one =
        ext_get_or no_channels a.channels b.channels (p.is.shaped.kinds ∙ sym q.is.shaped.kinds) λ kind h.
        let e = named-one kind (omega (arith, p.is.shaped.kinds)) in λ i. record { on = e i }

    -- a unit is of one of the kinds, or of none
    of-kind : (n i : ℕ) → ((kind : ℕ) × ((kind < n) × (free_of supply kind i ≡ true))) ⊎ ((kind : ℕ) → kind < n → free_of supply kind i ≡ false)
    of-kind zero i = inr (λ kind h. absurd (omega arith))
    of-kind (suc n) i =
        by_bool (free_of supply n i) (λ t. inl (n, (omega arith, t)))
        (λ f. ⊎_elim (λ r. inl (r.0, (omega (arith, r.1.0), r.1.1)))
        (λ g. inr (λ kind h. one_more (λ (x : ℕ). free_of supply x i ≡ false) n g f kind (omega arith))) (of-kind n i))

    of-free : (x : Assigned) (kind i : ℕ) → free_of supply kind i ≡ true → given_of supply kind x i ≡ given x i
    of-free x kind i t = ap (λ (z : Bool). cond z (given x i) None) t

    not-given : (x : Assigned) → IsAssignment supply wanted x → (i : ℕ) → ((kind : ℕ) → kind < unit_kinds → free_of supply kind i ≡ false)
        → given x i ≡ None
    not-given x e i none = nothing-else (given x i) (λ t. let r = e.only i t in never r.free (none r.kind r.is-kind))
      where
        nothing-else : (g : Option LogicalChannel) → (is_given g ≡ true → ⊥) → g ≡ None
        nothing-else None h = refl
        nothing-else (Some l) h = absurd (h refl)

    given-one : (i : ℕ) → i < 256 → given a i ≡ given b i
    given-one i h =
        ⊎_elim
        (λ r.
        let kind = r.0 in
        let m : kind < unit_kinds = r.1.0 in
        let s : Served (free_of supply kind) (want (wants_of wanted kind)) (on (channels_of b kind)) (given_of supply kind a) =
        subst (λ (cs : List ChannelNumber). Served (free_of supply kind) (want (wants_of wanted kind)) (on cs) (given_of supply kind a))
        (named-one kind m) (p.is.kinds kind m) in
        let e = units-one (free_of supply kind) (want (wants_of wanted kind)) (on (channels_of b kind)) (given_of supply kind a)
        (given_of supply kind b) s (p.units kind m) (q.is.kinds kind m) (q.units kind m) i h in
        sym (of-free a kind i r.1.1) ∙ e ∙ of-free b kind i r.1.1)
        (λ none. not-given a p.is i none ∙ sym (not-given b q.is i none))
        (of-kind unit_kinds i)

    heads-one : a.heads ≡ b.heads
    heads-one =
        ext_get_or blank a.heads b.heads (p.is.shaped.units ∙ sym q.is.shaped.units) λ i h.
        let e = given-one i (omega (arith, p.is.shaped.units)) in λ j. record { to = e j }

    pub chosen-one : a ≡ b
    chosen-one =
        let c = core-one in let d = drum-one in let n = channels-one in let u = heads-one in
        λ i. record { ib = c.0 i; db = c.1 i; drum = d i; channels = n i; heads = u i }

  -- ---- an assignment has every part
  module _ (b : Assigned) (i : IsAssignment supply wanted b) where
    kind-of : (order : ℕ) → order < unit_kinds → HasKind supply wanted order
    kind-of order h = possible-kind order (channels_of b order, possible h i)

    pub all_there : FirstLacking supply wanted None
    all_there =
        inr (
          record { ib = b.ib; db = b.db; fits = i.core },
          inr (
            record { start = b.drum; fits = i.drum },
            every-kind (Has supply wanted) (HasKind supply wanted) (λ m x. x) (λ m x. x) kind-of,
          ),
        )

    pub none-lacking : {part : Part} → FirstLacking supply wanted (Some part) → ⊥
    none-lacking {part} f = not-nothing (first_one (Has supply wanted) parts None (Some part) all_there f)

  one_of : (f g : Option Part) (a b : Assigned) → Answer f supply wanted a → Answer g supply wanted b → (f ≡ g) × (a ≡ b)
  one_of None None a b p q = (refl, chosen-one a b p q)
  one_of None (Some x) a b p q = absurd (none-lacking a p.is q.0)
  one_of (Some x) None a b p q = absurd (none-lacking b q.is p.0)
  one_of (Some x) (Some y) a b p q =
      (first_one (Has supply wanted) parts (Some x) (Some y) p.0 q.0, p.1 ∙ sym q.1)

  -- two answers are one
  pub assigns-one : (r s : Provision) → Assigns supply wanted r → Assigns supply wanted s → r ≡ s
  assigns-one r s p q =
      let e = one_of r.lacking s.lacking r.assigned s.assigned p q in
      λ i. record { lacking = e.0 i; assigned = e.1 i }

-- ---- what the kinds answer, by what it says of itself
pub kinds-served : {free : ℕ → ℕ → Bool} {asked : Facilities} (r : Kinds) → r.ok ≡ true → ServesKinds free asked r
    → KindsDone free asked r.channels r.heads unit_kinds
kinds-served {free} {asked} r e s = subst (λ (b : Bool). KindsAnswer b free asked r) e s

pub kinds-lacking : {free : ℕ → ℕ → Bool} {asked : Facilities} (r : Kinds) → r.ok ≡ false → ServesKinds free asked r
    → KindLacking free asked r.order
kinds-lacking {free} {asked} r e s = subst (λ (b : Bool). KindsAnswer b free asked r) e s

-- the drum's answer for the length that was worked out
pub for-length : (areas : List Area) (words : ℕ) {n m : ℕ} {r s : Option ℕ} → n ≡ m → r ≡ s → Drum.LowestStart areas n words r
    → Drum.LowestStart areas m words s
for-length areas words {n} {m} {r} {s} e f a = subst (λ (x : ℕ). Drum.LowestStart areas x words s) e (subst (Drum.LowestStart areas n words) f a)
