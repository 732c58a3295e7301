-- The table reads a PM card's text as it was meant: its digit and its characters are those that it was written from.
-- Assumes nothing.
use mathlib.Core.Path.{◌≡◌}
use mathlib.Core.Bool.{true}
use native.Mathlib.Omega.{arith}
use Rattle.text.proofs.ClassLaws.{is_digit_lem}
use Rattle.cards_pm.specs.Sheets.{Sheet, Proper, sheet_of}
use Rattle.cards_pm.proofs.PmReadBack.{sheet-letters}
use Rattle.cards_table.specs.Table.{is_pm_text, digit_in, letters_in}

pub sheet-is-pm : (s : Sheet) → Proper s → is_pm_text (sheet_of s) ≡ true
sheet-is-pm s p = is_digit_lem s.digit (omega (arith, p.one))

pub sheet-digit-in : (s : Sheet) → digit_in (sheet_of s) ≡ s.digit
sheet-digit-in s = omega arith

pub sheet-letters-in : (s : Sheet) → letters_in (sheet_of s) ≡ s.letters
sheet-letters-in s = sheet-letters s
