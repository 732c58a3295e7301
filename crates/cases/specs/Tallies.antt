-- How cases are counted: two arguments for each, the input and what must come out.
use Rattle.std.specs.Prelude.{ℕ, ◌+◌, ◌-◌, ◌%◌, ◌^◌, Bool, cond, ◌&&◌, nat_lt}
use Rattle.cases.specs.declared.Tally.{Tally}

-- before the first case: argument 0 is the program's own name
abbrev pub first_of : ℕ → Tally
first_of count = record { at = 1; count = count; good = 0 }

-- the argument two on, where there is one, else the end of them
abbrev pub two_on : ℕ → ℕ → ℕ
two_on at count = cond (nat_lt at count && nat_lt 2 (count - at)) (at + 2) count

-- a case is counted if it agrees, and the next one is two arguments on
abbrev pub judged_of : Tally → Bool → Tally
judged_of t agrees = record { at = two_on t.at t.count; count = t.count; good = cond agrees ((t.good + 1) % 2 ^ 64) t.good }
