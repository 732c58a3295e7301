-- The lines of the schedule, and one group's answer. Assumes nothing.
use Prim.Native.Nat.{ℕ, ◌+◌, ◌≤◌, ◌<◌}
use mathlib.Core.Path.{◌≡◌, refl, sym, ap, subst, ◌∙◌}
use mathlib.Core.Bool.{Bool, true, false}
use mathlib.Core.List.{List, [], ◌++◌}
use native.Mathlib.Numerals.{add-one}
use lib.ListN.{length, get_or, drop, drop_of_length-le}
use lib.Seq.{drop-cons}
use Rattle.numbers.proofs.Tests.{never}
use Rattle.text.specs.Room.{Puts}
use Rattle.text.specs.declared.room.Room.{Room}
use Rattle.text.proofs.RoomLaws.{Goes, goes-turn}
use Rattle.cards_request.specs.Errors.{good}
use Rattle.cards_request.proofs.ErrorLaws.{good-is}
use Rattle.cards_group.specs.Group.{read_group}
use Rattle.cards_request.specs.Errors.{CardVerdict}
use Rattle.std.specs.Prelude.{Ok, Err}
use Rattle.cards_request.specs.declared.Request.{Request}
use Rattle.cards_group.specs.declared.Reading.{Reading}
use Rattle.schedule_entries.specs.Entries.{blank}
use Rattle.schedule_entries.specs.declared.Entry.{Entry}
use Rattle.schedule_list.specs.declared.Schedule.{Schedule}
use Rattle.schedule_list.proofs.InScheduleLaws.{at-any}
use Rattle.schedule_entering.specs.Entering.{entering, Entering}
use Rattle.cards_lines.specs.Shown.{shown_by}
use Rattle.schedule_deck.specs.Report.{request_line, schedule_text, tried_by, tried, line_by, last_by, shown_at, tried_at, group_text, after}
use Rattle.schedule_deck.specs.declared.Progress.{Progress}

-- one request of the schedule further
lines-turn : (es : List Entry) (i : ℕ) {e : Entry} → i < length es → e ≡ get_or es i blank
    → schedule_text (drop i es) ≡ request_line e.request ++ schedule_text (drop (i + 1) es)
lines-turn es i h a = rw (a, add-one i, drop-cons es i blank h)

pub lines-on : {first room next : Room} {whole : List ℕ} (es : List Entry) (i : ℕ) (d : Entry) → i < length es
    → Goes first whole room (schedule_text (drop i es)) → Puts room (request_line (get_or es i d).request) next
    → Goes first whole next (schedule_text (drop (i + 1) es))
lines-on es i d h g w = goes-turn (rw (lines-turn es i h (at-any es i d blank h)) at g) w

pub lines_end : (es : List Entry) (i : ℕ) → length es ≤ i → schedule_text (drop i es) ≡ []
lines_end es i h = rw (drop_of_length-le es h)

-- a group's own error, or what entering answers
pub tried-good : (s : Schedule) (r : Reading) {b : Bool} → b ≡ good r.verdict → b ≡ true → entering s r.request ≡ tried s r
tried-good s r e t = ap (λ (v : CardVerdict). tried_by v s r.request) (sym (good-is r.verdict (sym e ∙ t)))

tried-by : (s : Schedule) (r : Request) (v : CardVerdict) → good v ≡ false → record { verdict = v; schedule = s } ≡ tried_by v s r
tried-by s r (Ok u) e = never refl e
tried-by s r (Err x) e = refl

pub last-kept : (v : CardVerdict) (last id : List ℕ) {b : Bool} → b ≡ good v → b ≡ false → last ≡ last_by v last id
last-kept (Ok u) last id e t = never refl (sym e ∙ t)
last-kept (Err x) last id e t = refl

pub tried-bad : (s : Schedule) (r : Reading) {b : Bool} → b ≡ good r.verdict → b ≡ false
    → record { verdict = r.verdict; schedule = s } ≡ tried s r
tried-bad s r e t = tried-by s r.request r.verdict (sym e ∙ t)

-- one group: its text, and what has been read then
pub record Read (room : Room) (p : Progress) (cards : List (List ℕ)) (after· : Room) (r : Progress) : Type 0 where
  pub text : Puts room (group_text p cards) after·
  pub then : r ≡ after p cards

pub group-read : {room out : Room} (p : Progress) (cards : List (List ℕ)) {card shown last : List ℕ}
    {reading : Reading} {a : Entering}
    → card ≡ get_or cards 0 [] → shown ≡ shown_by card p.shown → reading ≡ read_group cards → a ≡ tried p.schedule reading
    → last ≡ last_by a.verdict p.last reading.request.id → Puts room (line_by a.verdict shown) out
    → Read room p cards out (record { schedule = a.schedule; shown = shown; last = last })
unfolding group_text after
group-read {room} {out} p cards {card} {shown} {last} {reading} {a} c s r t l w =
    let s' : shown ≡ shown_at p cards = s ∙ ap (λ (x : List ℕ). shown_by x p.shown) c in
    let t' : a ≡ tried_at p cards = t ∙ ap (λ (x : Reading). tried p.schedule x) r in
    let v : a.verdict ≡ (tried_at p cards).verdict = ap (λ (x : Entering). x.verdict) t' in
    let k : a.schedule ≡ (tried_at p cards).schedule = ap (λ (x : Entering). x.schedule) t' in
    let i : reading.request.id ≡ (read_group cards).request.id = ap (λ (x : Reading). x.request.id) r in
    let m : last ≡ last_by (tried_at p cards).verdict p.last (read_group cards).request.id =
    l ∙ ap (λ (x : CardVerdict). last_by x p.last reading.request.id) v
    ∙ ap (λ (x : List ℕ). last_by (tried_at p cards).verdict p.last x) i in
    record {
      text = subst (λ (x : List ℕ). Puts room x out)
          (ap (λ (x : CardVerdict). line_by x shown) v ∙ ap (λ (x : List ℕ). line_by (tried_at p cards).verdict x) s') w;
      then = cc;
    }
