-- THE WRITER TAKES EXACTLY THE REQUESTS THAT CARDS MAY ASK FOR, with the further cards that they may have: it writes each
-- of them whose cards fit, refuses the others of them with 12, and every other request with 13. Assumes nothing.
use Prim.Native.Nat.{ℕ, ◌≤◌, min}
use mathlib.Core.Path.{◌≡◌, ap}
use mathlib.Core.Bool.{true, false}
use native.Mathlib.Omega.{arith}
use lib.ListN.{length}
use Rattle.numbers.specs.declared.Refusal.TheVariants.{NoRoom, WrongRequest}
use Rattle.numbers.proofs.Tests.{both, by_bool}
use Rattle.numbers.specs.Limits.{most_further}
use Rattle.cards_request.specs.declared.Further.{Further}
use Rattle.cards_request.specs.declared.FullRequest.{FullRequest}
use Rattle.cards_further.specs.Further.{held}
use Rattle.cards_writing.specs.Writing.{takes}
use Rattle.cards_full.specs.Full.{card_count, text_of, takes_further, takes_full, fits, write_answer}
use Rattle.std.specs.Prelude.{Ok, Err}
use Rattle.cards_round.specs.AllowedFurther.{texts_of, AllowedFurther, AllowedFull}
use Rattle.cards_round.proofs.Taking.{further-allowed, further-taken}
use Rattle.cards_round.proofs.Allowing.{allowed-taken, taken-allowed}

-- at most 14 further cards
few : (f : Further) → AllowedFurther f → f.count ≤ most_further
unfolding held
few f a = let e : f.count ≡ min (length (texts_of a.cards)) most_further = ap (λ (x : Further). x.count) a.is in omega arith

-- NO RULE REFUSES IT
pub full-taken : (v : FullRequest) → AllowedFull v → takes_full v ≡ true
unfolding takes_full
full-taken v a =
    let n = few v.further a.further in
    rw (further-taken v.further a.further, allowed-taken (card_count v) (omega arith) v.request a.request)

-- NOTHING ELSE IS TAKEN
pub full-allowed : (v : FullRequest) → takes_full v ≡ true → AllowedFull v
unfolding takes_full
full-allowed v t =
    let q = both (takes_further v.further) (takes (card_count v) v.request) t in
    record { request = taken-allowed (card_count v) v.request q.1; further = further-allowed v.further q.0 }

-- WHAT WRITING ANSWERS
pub allowed-written : (v : FullRequest) (room : ℕ) → AllowedFull v → fits v room ≡ true → write_answer v room ≡ Ok (length (text_of v))
unfolding write_answer
allowed-written v room a f = rw (full-taken v a, f)

pub allowed-no-room : (v : FullRequest) (room : ℕ) → AllowedFull v → fits v room ≡ false → write_answer v room ≡ Err NoRoom
unfolding write_answer
allowed-no-room v room a f = rw (full-taken v a, f)

pub others-refused : (v : FullRequest) (room : ℕ) → (AllowedFull v → ⊥) → write_answer v room ≡ Err WrongRequest
unfolding write_answer
others-refused v room n = by_bool (takes_full v) (λ t. absurd (n (full-allowed v t))) (λ t. rw t)
