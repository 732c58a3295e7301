-- The ID that an error line shows, by the tests that the code makes; and how long the line is. Assumes nothing.
use Prim.Native.Nat.{ℕ, ◌≤◌, ◌<◌}
use mathlib.Core.Path.{◌≡◌, sym, ap, ◌∙◌}
use mathlib.Core.Bool.{Bool, true, false, cond, ◌&&◌}
use mathlib.Core.List.{List, ◌++◌}
use native.Mathlib.Omega.{arith}
use lib.ListN.{length, take, length-append}
use borrow.Author.Tests.{le-leb, lt-leb}
use Rattle.numbers.specs.Quoted.{bytes}
use Rattle.text.specs.Class.{is_alnum}
use Rattle.text.specs.Writing.{decimal_text}
use Rattle.text.proofs.Undo.{few-digits}
use Rattle.words.specs.Words.{every}
use Rattle.cards_fields.specs.Fields.{field, field_of, is_name, is_pty, padded, spaceless}
use Rattle.cards_fields.proofs.FieldLaws.{padded-length, spaceless-short, whole}
use Rattle.cards_fields.specs.declared.Field.{Field}
use Rattle.cards_request.specs.Errors.{error_number}
use Rattle.cards_request.specs.declared.CardError.{CardError}
use Rattle.cards_request.specs.declared.CardError.TheVariants.{
  NotPty,
  PtyMalformed,
  IdLength,
  WrongRush,
  WrongLength,
  WrongContent,
  WrongCount,
  NoFac,
  LaterFac,
  UnknownCard,
  OtherId,
  PmNumber,
  PmWrong,
  TalApart,
  TrnApart,
  FacMalformed,
  LongCode,
  UnknownCode,
  WrongEntry,
  TooMuchCore,
  NoIb,
  TalWrong,
  TalLong,
  TrnWrong,
  TrnLong,
  InSchedule,
  SamePriority,
  SameSequence,
  ScheduleFull,
}
use Rattle.cards_lines.specs.Shown.{error_line, shown_by}

-- the ID shown
module _ (card shown : List ℕ) {b : Bool} (a : b ≡ is_pty card) where
  pub shown-none : b ≡ false → shown ≡ shown_by card shown
  unfolding shown_by is_name
  shown-none e = rw (sym a ∙ e)

  module _ (e : b ≡ true) {f : Field} (is : f ≡ field_of (field card 0)) where
    long : f.len ≡ length (field card 0)
    long = ap (λ (x : Field). x.len) is

    pub shown-short : f.len < 1 → shown ≡ shown_by card shown
    unfolding shown_by is_name
    shown-short h = rw (sym a ∙ e, lt-leb 1 (length (field card 0)) (omega (arith, long)))

    module _ (h : 1 ≤ f.len) where
      pub shown-long : 6 < f.len → shown ≡ shown_by card shown
      unfolding shown_by is_name
      shown-long g = rw (sym a ∙ e, le-leb 1 (length (field card 0)) (omega (arith, long)), lt-leb (length (field card 0)) 6 (omega (arith, long)))

      module _ (g : f.len ≤ 6) {t : Bool} (al : t ≡ every is_alnum (take f.len f.bytes)) where
        name-is : every is_alnum (field card 0) ≡ t
        name-is = ap (λ (x : List ℕ). every is_alnum x) (sym (whole f (field card 0) is (omega arith))) ∙ sym al

        pub shown-other : t ≡ false → shown ≡ shown_by card shown
        unfolding shown_by is_name
        shown-other q =
            rw (
              sym a ∙ e,
              le-leb 1 (length (field card 0)) (omega (arith, long)),
              le-leb (length (field card 0)) 6 (omega (arith, long)),
              name-is ∙ q,
            )

        pub shown-formed : t ≡ true → {r : List ℕ} → r ≡ padded 6 (field card 0) → r ≡ shown_by card shown
        unfolding shown_by is_name
        shown-formed q m =
            m ∙ rw (
              sym a ∙ e,
              le-leb 1 (length (field card 0)) (omega (arith, long)),
              le-leb (length (field card 0)) 6 (omega (arith, long)),
              name-is ∙ q,
            )

-- numbers of two digits
below-100 : (e : CardError) → error_number e < 100
below-100 NotPty = omega arith
below-100 PtyMalformed = omega arith
below-100 IdLength = omega arith
below-100 WrongRush = omega arith
below-100 WrongLength = omega arith
below-100 WrongContent = omega arith
below-100 WrongCount = omega arith
below-100 NoFac = omega arith
below-100 LaterFac = omega arith
below-100 UnknownCard = omega arith
below-100 OtherId = omega arith
below-100 PmNumber = omega arith
below-100 PmWrong = omega arith
below-100 TalApart = omega arith
below-100 TrnApart = omega arith
below-100 FacMalformed = omega arith
below-100 LongCode = omega arith
below-100 UnknownCode = omega arith
below-100 WrongEntry = omega arith
below-100 TooMuchCore = omega arith
below-100 NoIb = omega arith
below-100 TalWrong = omega arith
below-100 TalLong = omega arith
below-100 TrnWrong = omega arith
below-100 TrnLong = omega arith
below-100 InSchedule = omega arith
below-100 SamePriority = omega arith
below-100 SameSequence = omega arith
below-100 ScheduleFull = omega arith

pub error-short : (id : List ℕ) (e : CardError) → length id ≤ 6 → length (error_line id e) ≤ 16
error-short id e h =
    omega (
      arith,
      length-append (spaceless id) (bytes " ER " ++ (decimal_text (error_number e) ++ bytes "\n")),
      length-append (decimal_text (error_number e)) (bytes "\n"),
      spaceless-short id,
      few-digits 1 (error_number e) (below-100 e),
    )

pub shown-few : (card shown : List ℕ) → length shown ≤ 6 → length (shown_by card shown) ≤ 6
unfolding shown_by
shown-few card shown h = by (is_pty card && is_name (field card 0))
  where
    by : (b : Bool) → length (cond b (padded 6 (field card 0)) shown) ≤ 6
    by true = omega (arith, padded-length 6 (field card 0))
    by false = h
