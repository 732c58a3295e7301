-- What the code's tests on a line `KEY message` come to. Assumes nothing.
use Prim.Native.Nat.{ℕ, ◌-◌, ◌≤◌, min}
use mathlib.Core.Path.{◌≡◌, sym, ◌∙◌}
use mathlib.Core.Bool.{true, false}
use mathlib.Core.List.{List}
use native.Mathlib.Omega.{arith}
use lib.ListN.{length, take, drop, drop_of_length-le}
use Rattle.numbers.specs.Quoted.{bytes}
use Rattle.words.specs.Words.{same}
use Rattle.std.proofs.lemmas.Cmp.{nat_list_eq_equiv}
use Rattle.numbers.proofs.Tests.{by_bool}
use Rattle.cards_fields.proofs.FieldLaws.{rest-is}
use borrow.Author.Tests.{ltb-true, ltb-false}
use lib.Dec.{ltb}
use Rattle.shift_script.specs.Script.{is_key, message_in}

module _ (s : List ℕ) where
  pub key-alone : true ≡ same s (bytes "KEY") → true ≡ is_key s
  unfolding is_key
  key-alone e = rw (← e)

  pub key-front : false ≡ same s (bytes "KEY") → same (bytes "KEY ") (take 4 s) ≡ is_key s
  unfolding is_key
  key-front e = rw (← e) (nat_list_eq_equiv.symm (bytes "KEY ") (take 4 s))

  -- what is left behind the first four bytes, or behind all of fewer
  pub message : {n : ℕ} → n ≡ min (length s) 4 → take (length s - n) (drop n s) ≡ message_in s
  message {n} e =
      rest-is s n ∙ by_bool (ltb 3 (length s))
      (λ t. let k : n ≡ 4 = omega (arith, ltb-true 3 (length s) t) in rw k)
      (λ f. let short : length s ≤ n = omega (arith, ltb-false 3 (length s) f) in let four : length s ≤ 4 = omega arith in
      drop_of_length-le s short ∙ sym (drop_of_length-le s four))
