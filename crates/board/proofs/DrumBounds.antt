-- How long the board's lines of drum areas are at most. Assumes nothing.
use Prim.Native.Nat.{ℕ, zero, suc, ◌+◌, ◌*◌, ◌-◌, ◌^◌, ◌≤◌, ◌<◌}
use mathlib.Core.Path.{◌≡◌, refl}
use mathlib.Core.List.{List, [], ◌∷◌, ◌++◌}
use native.Mathlib.Omega.{arith}
use lib.Dec.{leb}
use lib.ListN.{length, length-append}
use Rattle.numbers.specs.Quoted.{bytes}
use Rattle.numbers.proofs.Tests.{by_bool}
use Rattle.text.specs.Writing.{decimal_text}
use Rattle.text.proofs.Undo.{few-digits}
use Rattle.packets.specs.State.{job_in}
use Rattle.packets.specs.declared.Job.{Job}
use Rattle.answer_pieces.specs.Pieces.{span_text, each_of}
use Rattle.board_drum.specs.Areas.{holds, holders, inserted, ascending, area_line, drum_text}

module _ (jobs : List Job) where
  inserted-long : (p : ℕ) (qs : List ℕ)
      → length (each_of (area_line jobs) (inserted jobs p qs)) ≡ length (area_line jobs p) + length (each_of (area_line jobs) qs)
  unfolding each_of inserted
  inserted-long p [] = length-append (area_line jobs p) []
  inserted-long p (q ∷ qs) =
      by_bool (leb (job_in jobs p).from (job_in jobs q).from)
      (λ t. rw t (length-append (area_line jobs p) (area_line jobs q ++ each_of (area_line jobs) qs)))
      (λ f. rw f (omega (
        arith,
        length-append (area_line jobs q) (each_of (area_line jobs) (inserted jobs p qs)),
        length-append (area_line jobs q) (each_of (area_line jobs) qs),
        inserted-long p qs,
      )))

  ascending-long : (ps : List ℕ) → length (each_of (area_line jobs) (ascending jobs ps)) ≡ length (each_of (area_line jobs) ps)
  unfolding each_of ascending
  ascending-long [] = refl
  ascending-long (p ∷ ps) =
      omega (arith, inserted-long p (ascending jobs ps), length-append (area_line jobs p) (each_of (area_line jobs) ps), ascending-long ps)

  module _ (small : (p : ℕ) → ((job_in jobs p).from < 2 ^ 32) × ((job_in jobs p).words < 2 ^ 32)) where
    area-few : (p : ℕ) → p < 16 → length (area_line jobs p) ≤ 30
    area-few p h =
        let from = (job_in jobs p).from in
        let words = (job_in jobs p).words in
        let number = decimal_text p ++ bytes "\n" in
        omega (
          arith,
          length-append (span_text from words) (bytes " " ++ number),
          length-append (decimal_text from) (bytes "-" ++ decimal_text (from + (words - 1))),
          length-append (decimal_text p) (bytes "\n"),
          few-digits 1 p (omega arith),
          few-digits 9 from (omega (arith, (small p).0)),
          few-digits 9 (from + (words - 1)) (omega (arith, (small p).0, (small p).1)),
        )

    holders-few : (n p : ℕ) → p + n ≤ 16 → length (each_of (area_line jobs) (holders jobs n p)) ≤ n * 30
    unfolding each_of holders
    holders-few zero p h = omega arith
    holders-few (suc n) p h =
        by_bool (holds jobs p)
        (λ t. rw t (omega (
          arith,
          length-append (area_line jobs p) (each_of (area_line jobs) (holders jobs n (p + 1))),
          area-few p (omega arith),
          holders-few n (p + 1) (omega arith),
        )))
        (λ f. rw f (omega (arith, holders-few n (p + 1) (omega arith))))

    pub drum-few : length (drum_text jobs) ≤ 480
    drum-few = omega (arith, ascending-long (holders jobs 16 0), holders-few 16 0 (omega arith))
