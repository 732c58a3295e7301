-- What the units of a kind are given to when all have been passed, what is known while they are, and that each turn
-- keeps it. Assumes nothing.
use Rattle.std.specs.Prelude.{Option, Some, None}
use Prim.Native.Nat.{ℕ, ◌+◌, ◌-◌, ◌≤◌, ◌<◌, ◌/◌}
use mathlib.Core.Path.{◌≡◌, refl, sym, ap, ◌∙◌, subst}
use mathlib.Core.Bool.{Bool, true, false, cond}
use mathlib.Core.List.{List}
use native.Mathlib.Omega.{arith}
use lib.ListN.{length, get_or, set, length-set}
use lib.Seq.{get_or-set_same, get_or-set_other}
use Rattle.numbers.proofs.Tests.{by_bool, never}
use Rattle.numbers.specs.declared.LogicalChannel.{LogicalChannel}
use Rattle.assign_channels.specs.declared.ByLogical.{ByLogical}
use Rattle.assign_channels.specs.Choice.{want}
use Rattle.assign_heads.specs.declared.Head.{Head}
use Rattle.assign_heads.specs.Heads.{is_given}
use Rattle.assign_heads.specs.Whose.{logical, free_at, blank, to_at}
use Rattle.assign_heads.specs.Giving.{taker_of, less_of}
use Rattle.assign_heads.proofs.GivingLaws.{Took, took, not_free}
use Rattle.assign_heads.specs.GaveOut.{own_at, Logical, Gave, GaveOut}
use Rattle.assign_heads.proofs.PassedLaws.{carried, onward, begun}

less-long : (left : ByLogical) (g : Option LogicalChannel) → length (less_of left g).0 ≡ length left.0
less-long left None = refl
less-long left (Some l) = length-set left.0 l.0 (want left l.0 - 1)

pub gave-none : (free : List Bool) (own : List LogicalChannel) (wants : ByLogical) (before : List Head) → length before ≡ 256
    → length wants.0 ≡ 16 → Gave free own wants before before wants 0
gave-none free own wants before w l = record {
  high = omega arith;
  wide = w;
  long = l;
  passed = begun (free_at free) (own_at own) (to_at free before) wants;
  kept = λ j f. refl;
}

module _ {free : List Bool} {own : List LogicalChannel} {wants : ByLogical} {before after : List Head} {left : ByLogical} {i : ℕ}
    (small : i < 256) (g : Gave free own wants before after left i) where
  -- a unit that is not free is passed over
  pub gave-over : free_at free i ≡ false → Gave free own wants before after left (i + 1)
  gave-over e = record {
    high = omega arith;
    wide = g.wide;
    long = g.long;
    passed = onward g.passed (subst (λ (x : Option LogicalChannel). Took (free_at free i) left (own_at own (i / 16)) x left) (sym to-nothing)
        (not_free left g.long (own_at own (i / 16)) (free_at free i) e));
    kept = g.kept;
  }
    where
      to-nothing : to_at free after i ≡ None
      to-nothing = ap (λ (b : Bool). cond b (get_or after i blank).to None) e

  -- a free one goes to its taker
  module _ (free-i : free_at free i ≡ true) (logical-own : Logical own) where
    abbrev to : Option LogicalChannel
    to = taker_of left (get_or own (i / 16) (logical 0))

    abbrev next : List Head
    next = set after i (record { to = to })

    pub own-small : own_at own (i / 16) < 16
    own-small = logical-own.each (i / 16) (omega arith)

    earlier : (j : ℕ) → j < i → to_at free next j ≡ to_at free after j
    earlier j h = ap (λ (x : Head). cond (free_at free j) x.to None) (get_or-set_other after i j (record { to = to }) blank (λ e. omega arith))

    here : to_at free next i ≡ to
    here =
        ap (λ (b : Bool). cond b (get_or next i blank).to None) free-i
        ∙ ap (λ (x : Head). x.to) (get_or-set_same after i (record { to = to }) blank (omega (arith, g.wide)))

    pub gave_one : Gave free own wants before next (less_of left to) (i + 1)
    gave_one = record {
      high = omega arith;
      wide = length-set after i (record { to = to }) ∙ g.wide;
      long = less-long left to ∙ g.long;
      passed = onward (carried g.passed (to_at free next) earlier)
          (subst (λ (x : Option LogicalChannel). Took (free_at free i) left (own_at own (i / 16)) x (less_of left to)) (sym here)
          (subst (λ (b : Bool). Took b left (own_at own (i / 16)) to (less_of left to)) (sym free-i)
          (took left g.long (get_or own (i / 16) (logical 0)) own-small)));
      kept = λ j f. get_or-set_other after i j (record { to = to }) blank (λ e. never free-i (ap (free_at free) (sym e) ∙ f)) ∙ g.kept j f;
    }

    -- the same, where calls gave the parts
    pub gave-turn : {t : Option LogicalChannel} {left' : ByLogical} {next' : List Head} → t ≡ to → left' ≡ less_of left t
        → next' ≡ set after i (record { to = t }) → Gave free own wants before next' left' (i + 1)
    gave-turn {t} {left'} {next'} e f h =
        let a : less_of left to ≡ left' = ap (less_of left) (sym e) ∙ sym f in
        let b : next ≡ next' = ap (λ (x : Option LogicalChannel). set after i (record { to = x })) (sym e) ∙ sym h in
        subst (λ (x : ByLogical). Gave free own wants before next' x (i + 1)) a
        (subst (λ (x : List Head). Gave free own wants before x (less_of left to) (i + 1)) b gave_one)

  -- and where a branch did
  pub gave-past : {left' : ByLogical} {next' : List Head} → free_at free i ≡ false → left' ≡ left → next' ≡ after
      → Gave free own wants before next' left' (i + 1)
  gave-past {left'} {next'} n e f =
      subst (λ (x : ByLogical). Gave free own wants before next' x (i + 1)) (sym e)
      (subst (λ (x : List Head). Gave free own wants before x left (i + 1)) (sym f) (gave-over n))

pub gave_all : {free : List Bool} {own : List LogicalChannel} {wants : ByLogical} {before after : List Head} {left : ByLogical} {i : ℕ}
    → 256 ≤ i → Gave free own wants before after left i → GaveOut free own wants before after
gave_all {free} {own} {wants} {before} {after} {left} {i} h g = record {
  left = left;
  gave = subst (Gave free own wants before after left) (upto i h g.high) g;
}
  where
    upto : (i : ℕ) → 256 ≤ i → i ≤ 256 → i ≡ 256
    upto i h k = omega arith

-- only units that are free are given
pub only-free : (free : List Bool) (heads : List Head) (i : ℕ) → is_given (to_at free heads i) ≡ true → free_at free i ≡ true
only-free free heads i t =
    by_bool (free_at free i) (λ e. e) (λ e. never t (ap (λ (b : Bool). is_given (cond b (get_or heads i blank).to None)) e))
