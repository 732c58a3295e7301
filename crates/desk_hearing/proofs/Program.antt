-- THE CALLS OF A RUN TOGETHER PRINT WHAT THE PAGE PRINTING SAYS, for any pieces in which the input comes. By induction over
-- the calls: with what has come of a line and of both decks, those that are left answer what is left. Assumes nothing.
use Prim.Native.Nat.{ℕ, suc, ◌+◌, ◌<◌}
use mathlib.Core.Path.{◌≡◌, refl, sym, ap, subst, subst₂, subst₃, ◌∙◌}
use mathlib.Core.Bool.{Bool, true, false, cond}
use mathlib.Core.List.{List, [], ◌∷◌, ◌++◌, append_assoc, append-nil}
use native.Mathlib.Omega.{arith}
use lib.Dec.{eqb}
use lib.ListN.{length, take, drop}
use lib.Seq.{take-append-add}
use borrow.Author.Tests.{ltb-true, eq-eqb, ne_eqb}
use Rattle.numbers.specs.Limits.{deck_bytes}
use Rattle.words.specs.Words.{isnt}
use Rattle.words.specs.Lines.{lf, line_of, line_text}
use Rattle.words.proofs.WordLaws.{leading-front}
use Rattle.words.proofs.LineLaws.{NoLf, no-lf-append, line_clean, line-split}
use Rattle.cards_fields.specs.Deck.{is_termination}
use Rattle.input_lines.specs.Lines.{TakesUp}
use Rattle.input_lines.specs.declared.Cut.{Cut}
use Rattle.desk_hearing.specs.Printing.{last_line, Says, SaysAll, Prints}
use Rattle.desk_hearing.specs.Hearing.{Standing, line_in, repair_in, day_in, Turns, TurnsIf, Hears, EndsIf}
use Rattle.desk_hearing.specs.Hearing.{Ends, Call, Runs, input_of, printed, Begins}
use Rattle.desk_hearing.specs.declared.Stage.{Stage}
use Rattle.desk_hearing.specs.declared.Stage.TheVariants.{GathersRepair, GathersDay, Asks}
use Rattle.desk_hearing.specs.declared.Desk.{Desk}
use Rattle.desk_hearing.proofs.Kept.{Kept, kept-none, kept-count, kept_more, kept_line}
use Rattle.desk_hearing.proofs.CutLaws.{ends-cut, says-cut}
use Rattle.desk_hearing.proofs.Gathering.{asked-last, asked-line, gather_none, gather-line, AsksFrom, DayFrom, BothFrom, prints}

-- what a call takes of its piece
module _ {line piece after : List ℕ} {kept : ℕ} {r : Cut} (t : TakesUp line kept piece after r) where
  took-line : r.whole ≡ true → take r.taken piece ≡ line_text (line_of piece)
  took-line e =
      let w = sym t.whole ∙ e in
      let n : r.taken ≡ length (line_of piece) + 1 = t.taken ∙ rw w in
      let h = ltb-true (length (line_of piece)) (length piece) w in
      rw n (ap (take (length (line_of piece) + 1)) (line-split piece h)
      ∙ take-append-add (line_of piece) (lf ∷ drop (suc (length (line_of piece))) piece) 1)

  took-part : r.whole ≡ false → take r.taken piece ≡ line_of piece
  took-part e =
      let w = sym t.whole ∙ e in
      let n : r.taken ≡ length (line_of piece) = t.taken ∙ rw w (omega arith) in
      rw n (leading-front (isnt 10) piece)

-- what stands in the rooms: what has come of the line and of both decks, as much as fits
record Stands (k : ℕ) (s : Standing) (l r d : List ℕ) : Type 0 where
  line : Kept k s.line l s.desk.line
  clean : NoLf l
  repair : Kept k s.repair r s.desk.repair
  day : Kept k s.day d s.desk.day

-- what is said of the rest of the input
abbrev Claims : Stage → List ℕ → List ℕ → List ℕ → List ℕ → Type 0
Claims GathersRepair repair day rest text = BothFrom text day repair rest
Claims GathersDay repair day rest text = DayFrom text day repair rest
Claims Asks repair day rest text = AsksFrom text repair day rest

kept_same : {k n m : ℕ} {room after text : List ℕ} → Kept k room text n → (after ≡ room) × (m ≡ n) → Kept k after text m
kept_same {k} {text = text} w e = subst₂ (λ (l : List ℕ) (i : ℕ). Kept k l text i) (sym e.0) (sym e.1) w

module _ (k : ℕ) (big : deck_bytes < k) where
  -- what the rooms answer is what the whole texts answer
  says : {s : Standing} {part repair day line text : List ℕ} → Stands k s part repair day
      → Says (take k line) (repair_in s) (day_in s) text → Says line repair day text
  says {repair = repair} {day = day} {line = line} {text = text} w h =
      says-cut k big (subst₂ (λ (r d : List ℕ). Says (take k line) r d text) w.repair.front w.day.front h)

  -- ---- the end of the input

  last_line_lem : (s : Standing) (line repair day last : List ℕ) → Stands k s line repair day
      → EndsIf (eqb s.desk.line 0) s last → SaysAll repair day (last_line line) last
  last_line_lem s [] repair day last w e =
      let z = eq-eqb s.desk.line 0 (omega (arith, kept-count w.line)) in
      subst (λ (b : Bool). EndsIf b s last) z e
  last_line_lem s (b ∷ line) repair day last w e =
      let z = ne_eqb s.desk.line 0 (λ i. omega (arith, kept-count w.line)) in
      let h : Says (line_in s) (repair_in s) (day_in s) last = subst (λ (b : Bool). EndsIf b s last) z e in
      (last, [], says w (subst (λ (l : List ℕ). Says l (repair_in s) (day_in s) last) w.line.front h), refl, sym (append-nil last))

  at-end : (stage : Stage) (s : Standing) (line repair day last : List ℕ) → Stands k s line repair day → Ends stage s last
      → Claims stage repair day line last
  at-end GathersRepair s line repair day last w e = gather_none (DayFrom last day) repair line w.clean e
  at-end GathersDay s line repair day last w e = gather_none (AsksFrom last repair) day line w.clean e
  at-end Asks s line repair day last w e = rw (asked-last line w.clean) (last_line_lem s line repair day last w e)

  -- ---- a whole line

  turned : (stage : Stage) (s m : Standing) (part line repair day rest text more : List ℕ) → Stands k s part repair day → NoLf line
      → Kept k m.line [] m.desk.line → Turns stage (take k line) s m text
      → ((r d : List ℕ) → Stands k m [] r d → Claims m.desk.stage r d rest more) → Claims stage repair day (line_text line ++ rest) (text ++ more)
  turned GathersRepair s m part line repair day rest text more w n l t on =
      let v = on (repair ++ line_text line) day
      (record { line = l; clean = tt; repair = kept_line line w.repair t.0; day = kept_same w.day t.2 }) in
      let c : Claims (cond (is_termination line) GathersDay GathersRepair) (repair ++ line_text line) day rest more =
      rw (t.1, ends-cut k big line) at v in
      rw t.3 (gather-line (DayFrom more day) repair line rest n (λ e. rw e at c) (λ e. rw e at c))
  turned GathersDay s m part line repair day rest text more w n l t on =
      let v = on repair (day ++ line_text line)
      (record { line = l; clean = tt; repair = kept_same w.repair t.2; day = kept_line line w.day t.0 }) in
      let c : Claims (cond (is_termination line) Asks GathersDay) repair (day ++ line_text line) rest more = rw (t.1, ends-cut k big line) at v in
      rw t.3 (gather-line (AsksFrom more repair) day line rest n (λ e. rw e at c) (λ e. rw e at c))
  turned Asks s m part line repair day rest text more w n l t on =
      let v = on repair day (record { line = l; clean = tt; repair = kept_same w.repair t.2; day = kept_same w.day t.3 }) in
      let c : AsksFrom more repair day rest = rw t.1 at v in
      rw (asked-line line rest n) (text, more, says w t.0, c, refl)

  -- ---- ONE CALL

  step : {s m : Standing} {piece text line repair day : List ℕ} {taken : ℕ} (rest more : List ℕ) → Stands k s line repair day
      → Hears s piece m taken text
      → ((l r d : List ℕ) → Stands k m l r d → Claims m.desk.stage r d (l ++ rest) more)
      → Claims s.desk.stage repair day (line ++ (take taken piece ++ rest)) (text ++ more)
  step {s} {m} {piece} {text} {line} {repair} {day} {taken} rest more w h on = by h.cut.whole refl h.turns
    where
      kept : Kept k m.line (line ++ line_of piece) h.cut.kept
      kept = kept_more w.line h.takes.put

      clean : NoLf (line ++ line_of piece)
      clean = no-lf-append line (line_of piece) w.clean (line_clean piece)

      took : {x : List ℕ} → take h.cut.taken piece ≡ x → line ++ (x ++ rest) ≡ line ++ (take taken piece ++ rest)
      took e = ap (λ (l : List ℕ). line ++ (l ++ rest)) (sym e ∙ ap (λ (n : ℕ). take n piece) (sym h.took))

      by : (b : Bool) → h.cut.whole ≡ b → TurnsIf b h.cut.kept s m text
          → Claims s.desk.stage repair day (line ++ (take taken piece ++ rest)) (text ++ more)
      by true e t =
          let i : line_text (line ++ line_of piece) ++ rest ≡ line ++ (line_text (line_of piece) ++ rest) = simp append_assoc in
          let n = kept-none m.line kept.long t.1 in
          subst (λ (l : List ℕ). Claims s.desk.stage repair day l (text ++ more)) (i ∙ took (took-line h.takes e))
          (turned s.desk.stage s m line (line ++ line_of piece) repair day rest text more w clean n
          (subst (λ (l : List ℕ). Turns s.desk.stage l s m text) kept.front t.0) (on []))
      by false e t =
          let v : Stands k m (line ++ line_of piece) repair day =
          record {
            line = kept_same kept (refl, ap (λ (d : Desk). d.line) t.0);
            clean = clean;
            repair = kept_same w.repair (t.1, ap (λ (d : Desk). d.repair) t.0);
            day = kept_same w.day (t.2, ap (λ (d : Desk). d.day) t.0);
          } in
          subst₃ (λ (p : Stage) (l x : List ℕ). Claims p repair day l x) (ap (λ (d : Desk). d.stage) t.0)
          (append_assoc line (line_of piece) rest ∙ took (took-part h.takes e)) (ap (λ (x : List ℕ). x ++ more) (sym t.3))
          (on (line ++ line_of piece) repair day v)

  -- ---- ALL CALLS

  all : (cs : List Call) (s t : Standing) (last line repair day : List ℕ) → Stands k s line repair day → Runs s cs t → Ends t.desk.stage t last
      → Claims s.desk.stage repair day (line ++ input_of cs) (printed cs ++ last)
  all [] s t last line repair day w r e =
      rw (append-nil line) (at-end s.desk.stage s line repair day last w (subst (λ (u : Standing). Ends u.desk.stage u last) r e))
  all (c ∷ cs) s t last line repair day w r e =
      rw (append_assoc c.text (printed cs) last)
      (step (input_of cs) (printed cs ++ last) w r.1 (λ l q d v. all cs r.0 t last l q d v r.2 e))

-- WHAT THE PROGRAM PRINTS
pub program : (s t : Standing) (cs : List Call) (last : List ℕ) → Begins s → Runs s cs t → Ends t.desk.stage t last
    → Prints (input_of cs) (printed cs ++ last)
program s t cs last b r e =
    let w : Stands (deck_bytes + 1) s [] [] [] =
    record {
      line = kept-none s.line b.line (ap (λ (d : Desk). d.line) b.desk);
      clean = tt;
      repair = kept-none s.repair b.repair (ap (λ (d : Desk). d.repair) b.desk);
      day = kept-none s.day b.day (ap (λ (d : Desk). d.day) b.desk);
    } in
    prints (input_of cs) (printed cs ++ last)
    (subst (λ (p : Stage). Claims p [] [] (input_of cs) (printed cs ++ last)) (ap (λ (d : Desk). d.stage) b.desk)
    (all (deck_bytes + 1) (omega arith) cs s t last [] [] [] w r e))
