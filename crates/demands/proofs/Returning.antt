-- ONE HEAD BACK EARLY, shown of every reached cell: what a return leaves, that the completion frees a unit
-- that is being returned, and that no other call does. Assumes nothing.
use Rattle.std.proofs.Common.{Err, None, Ok, Some}
use Prim.Native.Nat.{ℕ}
use mathlib.Core.Path.{◌≡◌, refl, ap, ◌∙◌}
use mathlib.Core.Bool.{Bool, true, false, cond}
use mathlib.Core.List.{List}
use mathlib.Core.Option.{none}
use native.Mathlib.Omega.{arith}
use lib.Dec.{eqb}
use borrow.Author.Tests.{eqb-true}
use Rattle.numbers.proofs.Tests.{by_bool, never}
use Rattle.numbers.specs.declared.ChannelNumber.{ChannelNumber}
use Rattle.cell.specs.Calls.{Outcome}
use Rattle.numbers.specs.declared.UnitNumber.{UnitNumber}
use Rattle.units.specs.State.{is_returning, unit_in}
use Rattle.units.specs.declared.Mark.TheVariants.{Down}
use Rattle.units.specs.declared.Holder.TheVariants.{Free, Returning}
use Rattle.channels.specs.declared.Configuration.{Configuration}
use Rattle.keyboard.specs.Messages.{read_message}
use Rattle.keyboard.specs.declared.Asked.{Asked}
use Rattle.keyboard.specs.declared.Asked.TheVariants as Asked'
use Rattle.packets.proofs.Handing.{handed-to}
use Rattle.packets.proofs.Inv.{Inv}
use Rattle.packets.proofs.Laws.{and_left, and_right, eqb-self}
use Rattle.packets.proofs.Told.{returns_of}
use Rattle.packets.proofs.Until.{completion-frees, leads-until}
use Rattle.packets.proofs.Waiting.{reached-waits}
use Rattle.packets.specs.History as Lists
use Rattle.numbers.specs.Elements.{All}
use Rattle.packets.proofs.ByNumber.{Complete}
use Rattle.packets.specs.Rules as Rules
use Rattle.packets.specs.State.{State, motion_on, packet_in, Motion}
use Rattle.packets.specs.declared.Act.{Act}
use Rattle.packets.specs.declared.Act.TheVariants as Act'
use Rattle.packets.specs.declared.How.{How}
use Rattle.packets.specs.declared.Site.TheVariants.{AtUnit}
use Rattle.cell.specs.declared.Cell.{Cell}
use Rattle.cell_history.proofs.Reaching.{reached-inv, reached-lists}
use Rattle.cell_history.proofs.ToldLaws.{does-told}
use Rattle.cell_history.specs.Told.{chosen, done_as, inside, said, told, told_by, told_of}
use Rattle.cell_history.specs.History.{
  Call,
  Chosen,
  Deck,
  Delete,
  Do,
  Does,
  Entered,
  Event,
  Key,
  Mistyped,
  Reached,
  Release,
  Reply,
  Said,
  Select,
  Shown,
  call_of,
}
use Rattle.cell_reached.proofs.ReachedProof.{every-cell}
use Rattle.cell_selection.specs.declared.Selection.{Selection}
use Rattle.demands.specs.Demands.{MovesThere}
use Rattle.demands.specs.Refusing.{refusal_in}
use Rattle.demands.proofs.Accepted.{accepted-is}

pub back-so : (configuration : Configuration) (es : List Event) (c : Cell) → Reached configuration es c
    → (d : Cell) (place : ℕ) (k : ChannelNumber) (u : UnitNumber) (reply : Reply)
    → Does c (Do (Act'.Return place k u)) reply d → refusal_in reply ≡ none
    → (MovesThere c place k u → (unit_in (inside d).units k.0 u.0).holder ≡ Returning place)
    × ((MovesThere c place k u → ⊥) → (unit_in (inside d).units k.0 u.0).holder ≡ Free)
unfolding Rules.accept
back-so configuration es c l d place k u reply h ok =
    let channel = k.0 in
    let unit = u.0 in
    let a = accepted-is c d (Act'.Return place k u) reply h ok in
    let e : (unit_in (inside d).units channel unit).holder ≡ cond moves (Returning place) Free =
    ap (λ (s : State). (unit_in s.units channel unit).holder) a.1
    ∙ handed-to (inside c) I place channel unit (returns_of (inside c) place channel unit a.0) in
    (λ m. e ∙ rw (is-moving m) refl, λ n. e ∙ by_bool moves (λ t. absurd (n (moving (motion_on (inside c) channel) refl t))) (λ t. rw t refl))
  where
    I : Inv (inside c)
    I = reached-inv configuration es c l

    moves : Bool
    moves = Rules.moves_at (inside c) place k.0 (AtUnit u) (motion_on (inside c) k.0)

    -- what the return looks for is a packet that is in progress or stopping
    moving : (m : Motion) → motion_on (inside c) k.0 ≡ m → Rules.moves_at (inside c) place k.0 (AtUnit u) m ≡ true → MovesThere c place k u
    moving None e t = never {b = false} t refl
    moving (Some (j, p)) e t =
        let x : j ≡ place = eqb-true j place (and_left (eqb j place) _ t) in
        let e' : motion_on (inside c) k.0 ≡ Some (place, p) = rw x at e in
        (p, (I.motion k.0 place p e').going, and_right (eqb j place) _ t)

    is-moving : MovesThere c place k u → moves ≡ true
    is-moving m =
        let q = packet_in (inside c).jobs place m.0 in
        let x : q.channel.0 ≡ k.0 = eqb-true q.channel.0 k.0 (and_left (eqb q.channel.0 k.0) _ m.2) in
        let e : motion_on (inside c) k.0 ≡ Some (place, m.0) = rw x at ((every-cell configuration es c l).always.movers place m.0 m.1) in
        rw (e, eqb-self place) m.2

pub frees-so : (configuration : Configuration) (es : List Event) (c : Cell) → Reached configuration es c
    → (d : Cell) (k : ChannelNumber) (unit : ℕ) (how : How) (reply : Reply) → Does c (Do (Act'.Complete k how)) reply d → refusal_in reply ≡ none
    → is_returning (unit_in (inside c).units k.0 unit).holder ≡ true → (unit_in (inside d).units k.0 unit).holder ≡ Free
frees-so configuration es c l d k unit how reply h ok e =
    let a = accepted-is c d (Act'.Complete k how) reply h ok in
    ap (λ (s : State). (unit_in s.units k.0 unit).holder) a.1
    ∙ completion-frees (inside c) (reached-waits (told es) (inside c) (reached-lists configuration es c l)) k.0 unit how a.0 e

-- ---- every other call

-- no completion on channel k
abbrev Elsewhere : ℕ → Lists.Event → Type 0
Elsewhere k y = (how : How) → y.call ≡ Complete k how → ⊥

done-elsewhere : (k : ℕ) (o : Outcome) (s : Selection) → All (Elsewhere k) (done_as o s)
done-elsewhere k (Ok u) s = (λ how q. let y : ◌≡◌ {A = ℕ} 0 1 = cc in omega arith, tt)
done-elsewhere k (Err n) s = tt

chosen-elsewhere : (k : ℕ) (reply : Reply) → All (Elsewhere k) (chosen reply)
chosen-elsewhere k (Entered o) = tt
chosen-elsewhere k (Chosen o s) = done-elsewhere k o s
chosen-elsewhere k (Said a) = tt
chosen-elsewhere k (Shown s) = tt
chosen-elsewhere k (Mistyped f) = tt

said-elsewhere : (k : ℕ) (x : Act) (reply : Reply) → ((how : How) → Rules.Do x ≡ Complete k how → ⊥) → All (Elsewhere k) (said x reply)
said-elsewhere k x (Entered o) n = tt
said-elsewhere k x (Chosen o s) n = tt
said-elsewhere k x (Said a) n = (n, tt)
said-elsewhere k x (Shown s) n = tt
said-elsewhere k x (Mistyped f) n = tt

-- a message asks for no completion
asked-elsewhere : (k : ℕ) (a : Asked) (id : List ℕ) (reply : Reply) → All (Elsewhere k) (told_by (call_of a id) reply)
asked-elsewhere k Asked'.Unknown id reply = tt
asked-elsewhere k (Asked'.Wrong word fault) id reply = tt
asked-elsewhere k (Asked'.Mark channel unit on) id reply =
    said-elsewhere k (Act'.Mark channel unit Down on) reply (λ how q. let y : ◌≡◌ {A = ℕ} 0 1 = cc in omega arith)
asked-elsewhere k Asked'.Release id reply = tt
asked-elsewhere k Asked'.Delete id reply = tt

-- the call by plain numbers is the call
same-act : (x y : Act) → Rules.Do x ≡ Rules.Do y → x ≡ y
same-act x y e = cc

told-elsewhere : (k : ℕ) (x : Call) (reply : Reply) → ((how : How) → x ≡ Do (Act'.Complete (record { 0 = k }) how) → ⊥)
    → All (Elsewhere k) (told_of x reply)
told-elsewhere k (Deck bytes) reply n = tt
told-elsewhere k Select reply n = chosen-elsewhere k reply
told-elsewhere k (Do x) reply n =
    said-elsewhere k x reply (λ how q. n how (ap Do (same-act x (Act'.Complete (record { 0 = k }) how) q)))
told-elsewhere k (Release id) reply n = tt
told-elsewhere k (Delete id) reply n = tt
told-elsewhere k (Call.Status j p) reply n = tt
told-elsewhere k (Key message) reply n = asked-elsewhere k (read_message message).asks (read_message message).id reply

pub until-so : (configuration : Configuration) (es : List Event) (c : Cell) → Reached configuration es c
    → (d : Cell) (x : Call) (reply : Reply) → Does c x reply d
    → (channel unit : ℕ) → is_returning (unit_in (inside c).units channel unit).holder ≡ true
    → ((how : How) → x ≡ Do (Act'.Complete (record { 0 = channel }) how) → ⊥)
    → (unit_in (inside d).units channel unit).holder ≡ (unit_in (inside c).units channel unit).holder
until-so configuration es c l d x reply h channel unit e n =
    leads-until (told es) (inside c) (reached-lists configuration es c l) channel unit e (told_of x reply) (inside d)
    (does-told c d x reply h) (told-elsewhere channel x reply n)
