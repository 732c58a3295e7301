-- The loop of `drum_length`, and the tables of `wants_of`: what a turn does, and what is there at the end. Assumes nothing.
use Rattle.std.specs.Prelude.{Option, Some, None}
use Prim.Native.Nat.{ℕ, ◌+◌, ◌*◌, ◌≤◌, ◌<◌}
use mathlib.Core.Path.{◌≡◌, refl, sym, ap, ◌∙◌}
use mathlib.Core.Bool.{Bool, true, false, cond}
use mathlib.Core.List.{List}
use native.Mathlib.Omega.{arith}
use native.Mathlib.Numerals.{add-one}
use lib.ListN.{length, get_or, drop, replicate, drop_of_length-le, get_or-replicate, get_or-eq_default}
use lib.Seq.{drop-cons, ext_get_or}
use Rattle.numbers.specs.Values.{values}
use Rattle.numbers.proofs.ValuesLaws.{values-at}
use Rattle.numbers.specs.Kinds.{is_drum, unit_kinds}
use Rattle.channels.specs.declared.Fitted.{Fitted}
use Rattle.channels.specs.declared.Channel.{Channel}
use Rattle.channels.specs.Channels.{no_channel}
use Rattle.assign_channels.specs.Choice.{by_logical}
use Rattle.cards_request.specs.Requests.{counts}
use Rattle.cards_request.specs.declared.Facilities.{Facilities}
use Rattle.assign.specs.Assignment.{length_in, drum_length, wants_of}

module _ (channels : List Channel) (c : ℕ) (h : c < length channels) where
  abbrev here : Option Fitted
  here = (get_or channels c no_channel).has

  at : drum_length (drop c channels) ≡ length_in here (drum_length (drop (c + 1) channels))
  unfolding drum_length
  at = ap drum_length (drop-cons channels c no_channel h) ∙ ap (λ (n : ℕ). length_in here (drum_length (drop n channels))) (sym (add-one c))

  pub drum-none : here ≡ None → drum_length (drop (c + 1) channels) ≡ drum_length (drop c channels)
  drum-none e = sym (at ∙ ap (λ (f : Option Fitted). length_in f (drum_length (drop (c + 1) channels))) e)

  module _ {its : Fitted} (e : here ≡ Some its) where
    with-kind : drum_length (drop c channels) ≡ cond (is_drum its.kind) its.n (drum_length (drop (c + 1) channels))
    with-kind = at ∙ ap (λ (f : Option Fitted). length_in f (drum_length (drop (c + 1) channels))) e

    pub drum-other : is_drum its.kind ≡ false → drum_length (drop (c + 1) channels) ≡ drum_length (drop c channels)
    drum-other d = sym (with-kind ∙ ap (λ (b : Bool). cond b its.n (drum_length (drop (c + 1) channels))) d)

    pub drum-here : is_drum its.kind ≡ true → drum_length (drop c channels) ≡ its.n
    drum-here d = with-kind ∙ ap (λ (b : Bool). cond b its.n (drum_length (drop (c + 1) channels))) d

pub drum-end : (channels : List Channel) (c : ℕ) → length channels ≤ c → drum_length (drop c channels) ≡ 0
unfolding drum_length
drum-end channels c h = ap drum_length (drop_of_length-le channels h)

-- a table whose numbers are those of a kind's entries is what they ask for
pub part-is : (wanted : Facilities) (wants : List ℕ) (order : ℕ) → length wants ≡ 16
    → ((l : ℕ) → l < 16 → get_or wants l 0 ≡ get_or wanted.units (order * 16 + l) 0) → by_logical wants ≡ wants_of wanted order
part-is wanted wants order w each = ap by_logical (ext_get_or 0 wants (values 16 (λ l. get_or wanted.units (order * 16 + l) 0)) w λ l h.
    let k : l < 16 = omega arith in
    each l k ∙ sym (values-at 16 (λ l. get_or wanted.units (order * 16 + l) 0) l 0 k))

-- behind the last kind nothing is asked for
pub part_none : (wanted : Facilities) (order : ℕ) → length wanted.units ≡ counts → unit_kinds ≤ order
    → by_logical (replicate 16 0) ≡ wants_of wanted order
part_none wanted order u h = part-is wanted (replicate 16 0) order refl λ l k.
    get_or-replicate 16 l 0 0 k ∙ sym (get_or-eq_default wanted.units 0 {n = order * 16 + l} (omega arith))
