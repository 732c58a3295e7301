-- WHAT A CALL LEAVES AND ANSWERS, by whether the line's LF has come and by what the line belongs to; and what the end of
-- the input answers. Assumes nothing.
use Prim.Native.Nat.{ℕ, ◌+◌, ◌-◌, ◌≤◌, ◌<◌}
use mathlib.Core.Path.{◌≡◌, refl, sym, ap, subst, ◌∙◌}
use mathlib.Core.Bool.{Bool, true, false, cond}
use mathlib.Core.List.{List, []}
use native.Mathlib.Omega.{arith}
use lib.ListN.{length, take, drop}
use borrow.Author.Tests.{eq-eqb, ne_eqb}
use Rattle.numbers.specs.declared.Refusal.TheVariants.{BadDeck}
use Rattle.text.specs.Room.{Written, Whole}
use Rattle.words.specs.Lines.{line_text}
use Rattle.cards_fields.specs.Deck.{is_termination}
use Rattle.input_lines.specs.Lines.{TakesUp}
use Rattle.input_lines.specs.declared.Cut.{Cut}
use Rattle.input_lines.proofs.LineLaws.{taken-within as lines-within}
use Rattle.answer_pieces.specs.Pieces.{no_line}
use Rattle.desk_hearing.specs.Hearing.{desk_of, Standing, standing, line_in, repair_in, day_in, Turns, TurnsIf, Heard, EndsIf, Ends, Ended}
use Rattle.desk_hearing.specs.Putting.{Answered}
use Rattle.desk_hearing.specs.declared.Stage.{Stage}
use Rattle.desk_hearing.specs.declared.Stage.TheVariants.{GathersRepair, GathersDay, Asks}
use Rattle.desk_hearing.specs.declared.Desk.{Desk}
use Rattle.desk_hearing.specs.declared.Hearing.{Hearing}
use Rattle.desk_hearing.proofs.AnswerLaws.{nothing_put, refused-put}

-- an answer goes by the bytes of the ID and of the decks
pub answered-for : {id id' repair repair' day day' out after· : List ℕ} {at : ℕ} → id ≡ id' → repair ≡ repair' → day ≡ day'
    → Answered id repair day out after· at → Answered id' repair' day' out after· at
answered-for {id} {id'} {repair} {repair'} {day} {day'} {out} {after·} {at} i r d w =
    subst (λ (x : List ℕ). Answered x repair' day' out after· at) i
    (subst (λ (x : List ℕ). Answered id x day' out after· at) r (subst (λ (x : List ℕ). Answered id repair x out after· at) d w))

-- ---- one call
module _ (s : Standing) {piece line' : List ℕ} {cut : Cut} (k : TakesUp s.line s.desk.line piece line' cut) where
  heard : {t : Standing} {text out after· : List ℕ} {at : ℕ} → TakesUp s.line s.desk.line piece t.line cut
      → (b : Bool) → cut.whole ≡ b → TurnsIf b cut.kept s t text → Whole text out after· at → Heard s piece t cut.taken out after· at
  heard {t} {text} j b e turns put = record {
    text = text;
    hears = record { cut = cut; takes = j; took = refl; turns = subst (λ (x : Bool). TurnsIf x cut.kept s t text) (sym e) turns };
    put = put;
  }

  pub waits : cut.whole ≡ false → {d : Desk} → d ≡ desk_of s.desk.stage s.desk.repair s.desk.day cut.kept → (out : List ℕ)
      → Heard s piece (standing d line' s.repair s.day) cut.taken out out 0
  waits f {d} e out = heard {t = standing d line' s.repair s.day} k false f (e, refl, refl, refl) (nothing_put out)

  module _ (w : cut.whole ≡ true) {card : List ℕ} (c : card ≡ take cut.kept line') where
    whole : {t : Standing} {text out after· : List ℕ} {at : ℕ} → TakesUp s.line s.desk.line piece t.line cut → t.line ≡ line'
        → (stage : Stage)
        → s.desk.stage ≡ stage → Turns stage card s t text → t.desk.line ≡ 0 → Whole text out after· at
        → Heard s piece t cut.taken out after· at
    whole {t} {text} j l stage e turns z put =
        heard {t = t} j true w (
          subst (λ (p : Stage). Turns p (take cut.kept t.line) s t text) (sym e)
              (subst (λ (x : List ℕ). Turns stage x s t text) (c ∙ ap (take cut.kept) (sym l)) turns),
          z,
        ) put

    pub of-repair : s.desk.stage ≡ GathersRepair → {room : List ℕ} {n : ℕ} → Written s.repair s.desk.repair (line_text card) room n
        → {p : Stage} → p ≡ cond (is_termination card) GathersDay GathersRepair → {d : Desk} → d ≡ desk_of p n s.desk.day 0 → (out : List ℕ)
        → Heard s piece (standing d line' room s.day) cut.taken out out 0
    of-repair e {room} {n} put {p} next {d} is out =
        subst (λ (x : Desk). Heard s piece (standing x line' room s.day) cut.taken out out 0) (sym is)
        (whole {t = standing (desk_of p n s.desk.day 0) line' room s.day} k refl GathersRepair e (put, next, (refl, refl), refl) refl
        (nothing_put out))

    pub of-day : s.desk.stage ≡ GathersDay → {room : List ℕ} {n : ℕ} → Written s.day s.desk.day (line_text card) room n
        → {p : Stage} → p ≡ cond (is_termination card) Asks GathersDay → {d : Desk} → d ≡ desk_of p s.desk.repair n 0 → (out : List ℕ)
        → Heard s piece (standing d line' s.repair room) cut.taken out out 0
    of-day e {room} {n} put {p} next {d} is out =
        subst (λ (x : Desk). Heard s piece (standing x line' s.repair room) cut.taken out out 0) (sym is)
        (whole {t = standing (desk_of p s.desk.repair n 0) line' s.repair room} k refl GathersDay e (put, next, (refl, refl), refl) refl
        (nothing_put out))

    pub of-asks : s.desk.stage ≡ Asks → {out after· : List ℕ} {at : ℕ} → Answered card (repair_in s) (day_in s) out after· at
        → {d : Desk} → d ≡ desk_of Asks s.desk.repair s.desk.day 0
        → Heard s piece (standing d line' s.repair s.day) cut.taken out after· at
    of-asks e {out} {after·} {at} a {d} is =
        subst (λ (x : Desk). Heard s piece (standing x line' s.repair s.day) cut.taken out after· at) (sym is)
        (whole {t = standing (desk_of Asks s.desk.repair s.desk.day 0) line' s.repair s.day} k refl Asks e
        (a.says, refl, (refl, refl), (refl, refl)) refl a.put)

-- as the code hands it back
pub as-heard : {s : Standing} {d : Desk} {piece line repair day out after· : List ℕ} {taken at : ℕ} {r : Hearing}
    → r ≡ record { desk = d; taken = taken; at = at }
    → Heard s piece (standing d line repair day) taken out after· at
    → Heard s piece (standing r.desk line repair day) r.taken out after· r.at
as-heard {s} {d} {piece} {line} {repair} {day} {out} {after·} e w =
    subst (λ (x : Hearing). Heard s piece (standing x.desk line repair day) x.taken out after· x.at) (sym e) w

-- ---- the end of the input
module _ (s : Standing) where
  ended : {text out after· : List ℕ} {at : ℕ} → (stage : Stage) → s.desk.stage ≡ stage → Ends stage s text → Whole text out after· at
      → Ended s out after· at
  ended {text} stage e w put = record { text = text; ends = subst (λ (p : Stage). Ends p s text) (sym e) w; put = put }

  module _ {out after· : List ℕ} {at : ℕ} (l : length out ≡ 16396) (put : Written out 0 (no_line BadDeck) after· at) where
    pub no-repair : s.desk.stage ≡ GathersRepair → Ended s out after· at
    no-repair e = ended GathersRepair e refl (refused-put l put)

    pub no-day : s.desk.stage ≡ GathersDay → Ended s out after· at
    no-day e = ended GathersDay e refl (refused-put l put)

  pub no_line_lem : s.desk.stage ≡ Asks → s.desk.line ≡ 0 → (out : List ℕ) → Ended s out out 0
  no_line_lem e z out = ended Asks e (subst (λ (b : Bool). EndsIf b s []) (sym (eq-eqb s.desk.line 0 z)) refl) (nothing_put out)

  pub last_line : s.desk.stage ≡ Asks → (s.desk.line ≡ 0 → ⊥) → {out after· : List ℕ} {at : ℕ}
      → Answered (line_in s) (repair_in s) (day_in s) out after· at
      → Ended s out after· at
  last_line e n a = ended Asks e (subst (λ (b : Bool). EndsIf b s a.text) (sym (ne_eqb s.desk.line 0 n)) a.says) a.put

-- ---- what is left of a piece grows shorter
pub taken-within : {s t : Standing} {out after· : List ℕ} {taken end : ℕ} (piece : List ℕ) (at : ℕ) → at < length piece
    → Heard s (take (length piece - at) (drop at piece)) t taken out after· end → (at + taken ≤ length piece) × (0 < taken)
taken-within {taken = taken} piece at h w =
    let q = lines-within piece at h w.hears.takes in
    (omega (arith, q.0, w.hears.took), omega (arith, q.1, w.hears.took))
