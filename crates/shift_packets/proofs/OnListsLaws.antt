-- What the parts of an answer from the request lists come to, and that a line has one. Assumes nothing.
use Prim.Native.Nat.{ℕ, min}
use mathlib.Core.Path.{◌≡◌, refl, sym, ap, subst, ◌∙◌}
use mathlib.Core.Bool.{Bool, true, false}
use mathlib.Core.List.{List}
use Rattle.numbers.specs.declared.ChannelNumber.{ChannelNumber}
use Rattle.channels.specs.declared.Channel.{Channel}
use Rattle.text.specs.Room.{Written}
use Rattle.text.proofs.RoomLaws.{written_one}
use Rattle.packets.specs.State.{Fitting, drum_on, fitted_on, is_drum_of}
use Rattle.packets.specs.declared.Act.{Act}
use Rattle.packets.specs.declared.Acted.{Acted}
use Rattle.packets.specs.declared.Answer.{Answer}
use Rattle.packets.specs.declared.Answer.TheVariants.{Done}
use Rattle.packets.specs.declared.Lists.{Lists}
use Rattle.packets.specs.declared.Spot.TheVariants.{OnUnit, OnDrum}
use Rattle.shift_script.specs.declared.Line.{Line}
use Rattle.shift_script.specs.declared.Line.TheVariants as Line'
use Rattle.shift_packets.specs.Texts.{spot_on}
use Rattle.shift_packets.specs.OnLists.{nothing_done, Tells, Gives, NotHere, Handles}
use Rattle.shift_packets.specs.declared.Handled.{Handled}

module _ (channels : List Channel) (channel : ChannelNumber) (x h : ℕ) where
  pub to-drum : drum_on channels channel.0 ≡ true → OnDrum x h ≡ spot_on channels channel (OnDrum x h)
  unfolding spot_on
  to-drum d = rw d

  pub to-unit : drum_on channels channel.0 ≡ false → (n : ℕ) → n ≡ min x 255
      → OnUnit (record { 0 = n }) ≡ spot_on channels channel (OnDrum x h)
  unfolding spot_on
  to-unit d n e = rw (d, e)

-- whether a channel has the drum, by what it has
pub drum-of : (channels : List Channel) (c : ℕ) {has : Fitting} {b : Bool} → has ≡ fitted_on channels c → b ≡ is_drum_of has → b ≡ drum_on channels c
drum-of channels c e f = unfold drum_on in f ∙ ap is_drum_of e

-- a line that changes nothing
pub told : {text room after : List ℕ} {lists : Lists} {n : ℕ} {r : Handled} → r ≡ record { lists = lists; answer = Done; at = n }
    → Written room 0 text after n → Tells text (nothing_done lists) room after r
told e w = rw e (record { lists = refl; answer = refl; put = w })

-- a line that is neither a call on packets, jobs, units and marks nor a status
pub other-line : (lists : Lists) (call : Line) {room after : List ℕ} {r : Handled} → ((act : Act) → call ≡ Line'.Do act → ⊥)
    → ((p k : ℕ) → call ≡ Line'.Status p k → ⊥) → NotHere lists room after r → Handles lists call room after r
other-line lists Line'.NoCall d s n = n
other-line lists Line'.Echo d s n = n
other-line lists Line'.Deck d s n = n
other-line lists Line'.Select d s n = n
other-line lists Line'.Board d s n = n
other-line lists (Line'.Do act) d s n = absurd (d act refl)
other-line lists Line'.Release d s n = n
other-line lists Line'.Delete d s n = n
other-line lists (Line'.Status p k) d s n = absurd (s p k refl)
other-line lists Line'.Key d s n = n

-- the outcome of a call is the outcome that its contract gives
pub gives_as : {a b : Acted} {room after : List ℕ} {r : Handled} → a ≡ b → Gives a room after r → Gives b room after r
gives_as {room = room} {after = after} {r = r} e g = subst (λ (x : Acted). Gives x room after r) e g

abbrev handled : Lists → Answer → ℕ → Handled
handled lists answer at = record { lists = lists; answer = answer; at = at }

tells-one : {text room a b : List ℕ} {next : Acted} {r q : Handled} → Tells text next room a r → Tells text next room b q → (a ≡ b) × (r ≡ q)
tells-one {r = r} {q = q} x y =
    let w = written_one x.put y.put in
    let e : handled r.lists r.answer r.at ≡ handled q.lists q.answer q.at =
    rw (x.lists ∙ sym y.lists, x.answer ∙ sym y.answer, w.1) in
    (w.0, e)

-- one answer to every line
pub handles-one : (lists : Lists) (call : Line) (room a b : List ℕ) (r q : Handled) → Handles lists call room a r → Handles lists call room b q
    → (a ≡ b) × (r ≡ q)
handles-one lists Line'.NoCall room a b r q x y = tells-one x y
handles-one lists Line'.Echo room a b r q x y = tells-one x y
handles-one lists Line'.Deck room a b r q x y = tells-one x y
handles-one lists Line'.Select room a b r q x y = tells-one x y
handles-one lists Line'.Board room a b r q x y = tells-one x y
handles-one lists (Line'.Do act) room a b r q x y = tells-one x y
handles-one lists Line'.Release room a b r q x y = tells-one x y
handles-one lists Line'.Delete room a b r q x y = tells-one x y
handles-one lists (Line'.Status p k) room a b r q x y = tells-one x y
handles-one lists Line'.Key room a b r q x y = tells-one x y
