-- What taking up a line comes to, by whether its LF is in the piece. Assumes nothing.
use Prim.Native.Nat.{ℕ, ◌+◌}
use mathlib.Core.Path.{◌≡◌, sym, ap, subst, ◌∙◌}
use mathlib.Core.Bool.{true, false}
use mathlib.Core.List.{List}
use native.Mathlib.Omega.{arith}
use lib.ListN.{length, take}
use borrow.Author.Tests.{lt-ltb, le-ltb}
use Rattle.text.specs.Room.{Written}
use Rattle.words.specs.Words.{isnt}
use Rattle.words.proofs.WordLaws.{leading-most, leading-front}
use Rattle.words.specs.Lines.{line_of}
use Rattle.input_lines.specs.Lines.{TakesUp}

module _ {line after : List ℕ} {kept n end : ℕ} (piece : List ℕ) (e : n ≡ length (line_of piece))
    (w : Written line kept (take n piece) after end) where
  put : Written line kept (line_of piece) after end
  put = subst (λ (text : List ℕ). Written line kept text after end) (ap (λ (m : ℕ). take m piece) e ∙ leading-front (isnt 10) piece) w

  pub cut_short : n ≡ length piece → TakesUp line kept piece after (record { kept = end; taken = n; whole = false })
  cut_short h =
      let f = le-ltb (length (line_of piece)) (length piece) (omega arith) in
      record { put = put; whole = sym f; taken = rw f (omega arith) }

  pub cut-whole : (n ≡ length piece → ⊥) → TakesUp line kept piece after (record { kept = end; taken = n + 1; whole = true })
  cut-whole h =
      let f = lt-ltb (length (line_of piece)) (length piece) (omega (arith, leading-most (isnt 10) piece, h)) in
      record { put = put; whole = sym f; taken = rw f (omega arith) }
