-- What the loop over a piece keeps: its lines so far are heard, and no fewer answer enough. Assumes nothing.
use Prim.Native.Nat.{ℕ, zero, suc, ◌+◌, ◌-◌, ◌≤◌, ◌<◌}
use mathlib.Core.Path.{◌≡◌, refl, sym, ap, ap₂, subst, ◌∙◌}
use mathlib.Core.Bool.{Bool, true, false, cond, false≢true}
use mathlib.Core.List.{List, [], ◌∷◌, ◌++◌, append-nil}
use native.Mathlib.Omega.{arith}
use lib.Dec.{ltb}
use lib.ListN.{length, take, drop, length-append, length-take, length-drop}
use lib.Seq.{take_all, take-take, take-add, take-append-add}
use borrow.Author.Tests.{ltb-true, ltb-false}
use Rattle.numbers.proofs.Tests.{by_bool}
use Rattle.text.specs.Room.{Written}
use Rattle.text.proofs.RoomLaws.{none, and_then}
use Rattle.words.specs.Words.{isnt}
use Rattle.words.specs.Lines.{lf, line_of}
use Rattle.words.proofs.WordLaws.{leading-front}
use Rattle.words.proofs.LineLaws.{NoLf, line-split, line_clean}
use Rattle.input_lines.specs.Lines.{is_whole, TakesUp}
use Rattle.input_lines.specs.declared.Cut.{Cut}
use Rattle.input_lines.proofs.LineLaws.{taken-within}
use Rattle.packets.specs.declared.Lists.{Lists}
use Rattle.schedule_list.specs.declared.Schedule.{Schedule}
use Rattle.cell.specs.Calls.{cell_of, followed}
use Rattle.shift_script.specs.Script.{line_says}
use Rattle.shift_script.specs.declared.Line.{Line}
use Rattle.shift_script.specs.declared.Line.TheVariants as Line'
use Rattle.shift_packets.specs.OnLists.{is_for_lists, Handles}
use Rattle.shift_packets.specs.declared.Handled.{Handled}
use Rattle.shift_reply.specs.Followed.{followed_by}
use Rattle.shift_reply.proofs.FollowedLaws.{followed-replies}
use Rattle.shift_turns.specs.Turns.{Turns, shift_of, turn_of, after_line}
use Rattle.shift_turns.specs.declared.Phase.{Phase}
use Rattle.shift_turns.specs.declared.Phase.TheVariants as Phase'
use Rattle.shift_turns.specs.declared.Shift.{Shift}
use Rattle.shift_turns.specs.declared.Turn.{Turn}
use Rattle.shift_hearing.specs.Hearing.{Standing, standing, kept, Answers, Hears, HearsSome, HearsPiece}
use Rattle.shift_hearing.specs.Behind.{asked_in, Behind, AnswersBehind, HandlesBehind}
use Rattle.shift_hearing.specs.declared.Heard.{Heard}
use Rattle.shift_hearing.proofs.HearingLaws.{joined, parted, hears-one, hears-clean, hears-lf, same}

-- what is left of a piece, as a part of it is
abbrev rest : List ℕ → ℕ → List ℕ
rest piece taken = take (length piece - taken) (drop taken piece)

rest-is : (piece : List ℕ) (taken : ℕ) → rest piece taken ≡ drop taken piece
rest-is piece taken = take_all (length piece - taken) (drop taken piece) (omega (arith, length-drop taken piece))

-- one piece more
taken-on : (piece : List ℕ) (taken n : ℕ) → take (taken + n) piece ≡ take taken piece ++ take n (rest piece taken)
taken-on piece taken n = take-add taken n piece ∙ ap (λ (p : List ℕ). take taken piece ++ take n p) (sym (rest-is piece taken))

-- a line with its LF
line-ended : (p : List ℕ) → length (line_of p) < length p → take (length (line_of p) + 1) p ≡ line_of p ++ (lf ∷ [])
line-ended p h =
    ap (take (length (line_of p) + 1)) (line-split p h) ∙ take-append-add (line_of p) (lf ∷ drop (suc (length (line_of p))) p) 1

clean-front : (n : ℕ) (p : List ℕ) → NoLf p → NoLf (take n p)
clean-front zero p h = tt
clean-front (suc n) [] h = tt
clean-front (suc n) (b ∷ p) h = (h.0, clean-front n p h.1)

line-front : (n : ℕ) (p : List ℕ) → n ≤ length (line_of p) → NoLf (take n p)
line-front n p h =
    subst NoLf (ap (take n) (sym (leading-front (isnt 10) p)) ∙ take-take n (length (line_of p)) p h) (clean-front n (line_of p) (line_clean p))

-- ---- what is kept of a line

hears-kept : (shift : Shift) (len : ℕ) (line room answer p after : List ℕ) (end : ℕ) → Written line len p after end → NoLf p
    → Hears (standing shift len line room answer) p [] (standing shift end after room answer)
hears-kept shift len line room answer p after end w n =
    subst (λ (u : Standing). Hears (standing shift len line room answer) p [] u) kept-as (hears-clean (standing shift len line room answer) p n)
  where
    kept-as : kept (standing shift len line room answer) p ≡ standing shift end after room answer
    kept-as = same refl (sym w.reached) (sym w.bytes) refl refl

-- ---- one line

-- an answer put behind those before it
pub put-behind : {answer said out after : List ℕ} {n at end : ℕ} → said ≡ take n answer → length answer ≡ 53248 → length out ≡ 65536
    → Written out at said after end → Behind answer out n at after end
put-behind {answer} {said} {out} {after} {n} {at} {end} e b c v =
    let w : Written out at (take n answer) after end = subst (λ (p : List ℕ). Written out at p after end) e v in
    record { put = w; uncut = λ s. omega (arith, w.reached, length-take n answer) }

-- after a call on the request lists calls are answered on
talks-on : (call : Line) → is_for_lists call ≡ true → after_line call ≡ Phase'.Talks
talks-on Line'.NoCall e = refl
talks-on Line'.Echo e = refl
talks-on Line'.Deck e = absurd (false≢true e)
talks-on Line'.Select e = refl
talks-on Line'.Board e = refl
talks-on (Line'.Do act) e = refl
talks-on Line'.Release e = refl
talks-on Line'.Delete e = refl
talks-on (Line'.Status p k) e = refl
talks-on Line'.Key e = refl

-- a call on the request lists is answered only while calls are, and the phase stays
call-turns : (phase : Phase) (schedule : Schedule) (lists : Lists) (line room answer answer' : List ℕ) (h : Handled)
    → is_for_lists (asked_in phase line) ≡ true → Handles lists (asked_in phase line) answer answer' h
    → Turns phase (cell_of schedule lists) line room room answer answer' (turn_of phase (followed_by schedule h) h.at)
call-turns (Phase'.Begins kept) schedule lists line room answer answer' h e g = absurd (false≢true e)
call-turns Phase'.Talks schedule lists line room answer answer' h e g = (
  refl,
  record {
    replied = record { cell = followed_by schedule h; at = h.at };
    replies = followed-replies (cell_of schedule lists) (line_says line).line (line_says line).id line answer answer' h e g;
    is = ap (λ (p : Phase). turn_of p (followed_by schedule h) h.at) (sym (talks-on (line_says line).line e));
  },
)
call-turns (Phase'.Gathers kept) schedule lists line room answer answer' h e g = absurd (false≢true e)
call-turns Phase'.Passes schedule lists line room answer answer' h e g = absurd (false≢true e)
call-turns Phase'.Over schedule lists line room answer answer' h e g = absurd (false≢true e)

-- a call on the request lists, answered from them, is a line's turn
pub call-behind : (phase : Phase) (schedule s : Schedule) (lists : Lists) (call : Line) (said room answer answer' out after : List ℕ)
    (at : ℕ) (r : Handled)
    → call ≡ asked_in phase said → is_for_lists call ≡ true → HandlesBehind lists call answer answer' out at after r
    → s ≡ followed schedule r.answer
    → AnswersBehind (shift_of phase (cell_of schedule lists)) said room room answer answer' out at after
    (turn_of phase (cell_of s r.lists) r.at)
call-behind phase schedule s lists call said room answer answer' out after at r c f g e =
    record {
      turn = turn_of phase (followed_by schedule g.handled) g.handled.at;
      turns = call-turns phase schedule lists said room answer answer' g.handled (subst (λ (x : Line). is_for_lists x ≡ true) c f)
          (subst (λ (x : Line). Handles lists x answer answer' g.handled) c g.handles);
      shift = ap₂ (λ (t : Schedule) (l : Lists). shift_of phase (cell_of t l)) (e ∙ ap (followed schedule) g.says) g.leaves;
      behind = g.behind;
    }

-- ---- the loop

pub start : (s : Standing) (piece out : List ℕ) → HearsSome s piece out s 0 0 out
start s piece out =
    record { text = []; hears = (refl, refl); put = none out 0; uncut = refl; most = omega arith; fewer = λ n x u l h. absurd (omega arith) }

at_most_one : (b : Bool) → cond b 1 0 ≤ 1
at_most_one true = omega arith
at_most_one false = omega arith

module _ {s₀ : Standing} {piece out₀ out : List ℕ} {shift : Shift} {len taken at : ℕ} {line room answer after : List ℕ} {cut : Cut}
    (h : HearsSome s₀ piece out₀ (standing shift len line room answer) taken at out) (l : taken < length piece) (small : at ≤ 12288)
    (u : TakesUp line len (rest piece taken) after cut) where
  -- up to the line's LF nothing more is answered
  later : (n : ℕ) (x : List ℕ) (t : Standing) → taken ≤ n → n < taken + cut.taken → Hears s₀ (take n piece) x t → length x ≤ 12288
  later n x t f m g =
      let k : n - taken ≤ length (line_of (rest piece taken)) = omega (arith, u.taken, at_most_one (is_whole (rest piece taken))) in
      let i : n ≡ taken + (n - taken) = omega arith in
      let e : take n piece ≡ take taken piece ++ take (n - taken) (rest piece taken) =
      ap (λ (j : ℕ). take j piece) i ∙ taken-on piece taken (n - taken) in
      let p = parted s₀ t (take taken piece) (take (n - taken) (rest piece taken)) x (subst (λ (q : List ℕ). Hears s₀ q x t) e g) in
      let now = standing shift len line room answer in
      let a = hears-one s₀ p.0 now (take taken piece) p.1 h.text p.3 h.hears in
      let c =
      hears-one p.0 t (kept p.0 (take (n - taken) (rest piece taken))) (take (n - taken) (rest piece taken)) p.2 [] p.4
      (hears-clean p.0 (take (n - taken) (rest piece taken)) (line-front (n - taken) (rest piece taken) k)) in
      omega (arith, ap length p.5, length-append p.1 p.2, ap length a.0, ap length c.0, h.uncut)

  fewer-on : (n : ℕ) (x : List ℕ) (t : Standing) → n < taken + cut.taken → Hears s₀ (take n piece) x t → length x ≤ 12288
  fewer-on n x t m g = by_bool (ltb n taken) (λ b. h.fewer n x t (ltb-true n taken b) g) (λ b. later n x t (ltb-false n taken b) m g)

  -- a line that is not whole yet
  pub part : cut.whole ≡ false → HearsSome s₀ piece out₀ (standing shift cut.kept after room answer) (taken + cut.taken) at out
  part f =
      let v : is_whole (rest piece taken) ≡ false = sym u.whole ∙ f in
      let n₀ : cut.taken ≡ length (line_of (rest piece taken)) + 0 = u.taken ∙ rw v in
      let n : cut.taken ≡ length (line_of (rest piece taken)) = omega arith in
      let e : take (taken + cut.taken) piece ≡ take taken piece ++ line_of (rest piece taken) =
      taken-on piece taken cut.taken ∙ ap (λ (k : ℕ). take taken piece ++ take k (rest piece taken)) n
      ∙ ap (λ (p : List ℕ). take taken piece ++ p) (leading-front (isnt 10) (rest piece taken)) in
      let now = standing shift len line room answer in
      let next = standing shift cut.kept after room answer in
      let k₀ = hears-kept shift len line room answer (line_of (rest piece taken)) after cut.kept u.put (line_clean (rest piece taken)) in
      let g = joined s₀ now next (take taken piece) (line_of (rest piece taken)) h.text [] h.hears k₀ in
      let k : Hears s₀ (take taken piece ++ line_of (rest piece taken)) h.text (standing shift cut.kept after room answer) =
      rw append-nil at g in
      record {
        text = h.text;
        hears = subst (λ (q : List ℕ). Hears s₀ q h.text (standing shift cut.kept after room answer)) (sym e) k;
        put = h.put;
        uncut = h.uncut;
        most = (taken-within piece taken l u).0;
        fewer = fewer-on;
      }

  -- a line that is whole, and answered
  pub whole : {r : Turn} {said room' answer' out' : List ℕ} → cut.whole ≡ true → said ≡ take cut.kept after
      → AnswersBehind shift said room room' answer answer' out at out' r
      → HearsSome s₀ piece out₀ (standing r.shift 0 after room' answer') (taken + cut.taken) r.at out'
  whole {r} {said} {room'} {answer'} {out'} f d a₀ =
      let a : AnswersBehind shift (take cut.kept after) room room' answer answer' out at out' r =
      subst (λ (q : List ℕ). AnswersBehind shift q room room' answer answer' out at out' r) d a₀ in
      let v : is_whole (rest piece taken) ≡ true = sym u.whole ∙ f in
      let n : cut.taken ≡ length (line_of (rest piece taken)) + 1 = u.taken ∙ rw v in
      let e : take (taken + cut.taken) piece ≡ take taken piece ++ (line_of (rest piece taken) ++ (lf ∷ [])) =
      taken-on piece taken cut.taken ∙ ap (λ (k : ℕ). take taken piece ++ take k (rest piece taken)) n
      ∙ ap (λ (p : List ℕ). take taken piece ++ p)
      (line-ended (rest piece taken) (ltb-true (length (line_of (rest piece taken))) (length (rest piece taken)) v)) in
      let w : Answers (standing shift cut.kept after room answer) (take a.turn.at answer') (standing r.shift 0 after room' answer') =
      record { turn = a.turn; turns = a.turns; says = refl; shift = a.shift; len = refl; line = refl } in
      let now = standing shift len line room answer in
      let ended = standing shift cut.kept after room answer in
      let next = standing r.shift 0 after room' answer' in
      let k₀ = hears-kept shift len line room answer (line_of (rest piece taken)) after cut.kept u.put (line_clean (rest piece taken)) in
      let k = joined now ended next (line_of (rest piece taken)) (lf ∷ []) [] (take a.turn.at answer') k₀ (hears-lf w) in
      let g = joined s₀ now next (take taken piece) (line_of (rest piece taken) ++ (lf ∷ [])) h.text (take a.turn.at answer')
      h.hears k in
      let q = and_then h.put a.behind.put in
      record {
        text = h.text ++ take a.turn.at answer';
        hears = subst (λ (p : List ℕ). Hears s₀ p (h.text ++ take a.turn.at answer') (standing r.shift 0 after room' answer')) (sym e) g;
        put = q;
        uncut = omega (arith, a.behind.uncut small, length-append h.text (take a.turn.at answer'), h.uncut);
        most = (taken-within piece taken l u).0;
        fewer = fewer-on;
      }

-- a shift under another name
pub named : {a b : Shift} {line room room' answer answer' out after : List ℕ} {at : ℕ} {r : Turn} → a ≡ b
    → AnswersBehind a line room room' answer answer' out at after r → AnswersBehind b line room room' answer answer' out at after r
named {line = line} {room = room} {room' = room'} {answer = answer} {answer' = answer'} {out = out} {after = after} {at = at} {r = r} e b =
    subst (λ (s : Shift). AnswersBehind s line room room' answer answer' out at after r) e b

-- the end of the loop
pub ended : {s₀ : Standing} {piece out₀ out : List ℕ} {shift s : Shift} {len taken at : ℕ} {line room answer : List ℕ} {r : Heard}
    → HearsSome s₀ piece out₀ (standing shift len line room answer) taken at out
    → s ≡ shift → r ≡ record { shift = s; len = len; taken = taken; at = at } → (taken < length piece → 12288 < at)
    → HearsPiece s₀ piece out₀ (standing r.shift r.len line room answer) r.taken r.at out
ended {s₀ = s₀} {piece = piece} {out₀ = out₀} {out = out} {s = s} {len = len} {taken = taken} {at = at} {line = line} {room = room}
    {answer = answer} h e f g =
    let k : HearsSome s₀ piece out₀ (standing s len line room answer) taken at out =
    subst (λ (t : Shift). HearsSome s₀ piece out₀ (standing t len line room answer) taken at out) (sym e) h in
    subst (λ (q : Heard). HearsPiece s₀ piece out₀ (standing q.shift q.len line room answer) q.taken q.at out) (sym f)
    (record { some = k; all = g })
