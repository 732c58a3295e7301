-- A room of 96 bytes is enough for every listing: 16 lines of at most 6 bytes, or the error's line. Assumes nothing.
use Prim.Native.Nat.{ℕ, zero, suc, ◌+◌, ◌*◌, ◌≤◌}
use mathlib.Core.Path.{◌≡◌, ap, ◌∙◌}
use mathlib.Core.Bool.{Bool, true, false, cond}
use mathlib.Core.List.{List, [], ◌++◌}
use native.Mathlib.Omega.{arith}
use lib.ListN.{length, take, drop, length-append}
use lib.Seq.{take_at, drop_at}
use Rattle.numbers.specs.Quoted.{bytes}
use Rattle.numbers.specs.Refusals.{number_of}
use Rattle.numbers.specs.declared.Refusal.TheVariants.{BadConfiguration}
use Rattle.numbers.specs.declared.ChannelNumber.{ChannelNumber}
use Rattle.text.specs.Room.{Written}
use Rattle.text.proofs.RoomLaws.{fitted}
use Rattle.text.specs.Writing.{two_text, decimal_text}
use Rattle.text.proofs.Undo.{few-digits}
use Rattle.channels.specs.declared.Configuration.{Configuration}
use Rattle.channels.specs.Channels.{channel_in}
use Rattle.configuration.specs.Configured.{configuration_of}
use Rattle.configuration_form.specs.Means.{Said}
use Rattle.configuration_form.proofs.Meaning.{meaning}
use Rattle.configuration_form.proofs.Enough.{few-lines}
use Rattle.units.specs.declared.Unit.{Unit}
use Rattle.configuration_units.specs.Fresh.{fresh_units}
use Rattle.configuration_listing.specs.Listing.{is_listed, assignable_units, channel_text, lines_from, listing_of, Listed}
use Rattle.configuration_listing.proofs.Counting.{one_at_most}

-- as many assignable units as are looked at, at most
count-bound : (configuration : Configuration) (grid : List (List Unit)) (channel : ChannelNumber) (upto : ℕ)
    → assignable_units configuration grid channel upto ≤ upto
unfolding assignable_units
count-bound configuration grid channel zero = omega arith
count-bound configuration grid channel (suc upto) =
    omega (arith, count-bound configuration grid channel upto, one_at_most configuration grid channel (record { 0 = upto }))

channel-bound : (configuration : Configuration) (channel : ChannelNumber) → length (channel_text configuration channel) ≤ 6
unfolding channel_text
channel-bound configuration channel = by (is_listed (channel_in configuration channel))
  where
    n : ℕ
    n = assignable_units configuration (fresh_units configuration.down) channel 16

    by : (b : Bool) → length (cond b
        (two_text channel.0 ++ (bytes " "
        ++ (decimal_text (assignable_units configuration (fresh_units configuration.down) channel 16) ++ bytes "\n")))
        [])
        ≤ 6
    by true =
        let k = assignable_units configuration (fresh_units configuration.down) channel 16 in
        omega (
          arith,
          length-append (decimal_text k) (bytes "\n"),
          few-digits 1 k (omega (arith, count-bound configuration (fresh_units configuration.down) channel 16)),
        )
    by false = omega arith

lines-bound : (configuration : Configuration) (left c : ℕ) → length (lines_from configuration left c) ≤ 6 * left
unfolding lines_from
lines-bound configuration zero c = omega arith
lines-bound configuration (suc left) c =
    omega (
      arith,
      length-append (channel_text configuration (record { 0 = c })) (lines_from configuration left (c + 1)),
      channel-bound configuration (record { 0 = c }),
      lines-bound configuration left (c + 1),
    )

pub listing-bound : (s : List ℕ) → length (listing_of s) ≤ 96
listing-bound s = by (meaning s).said
  where
    by : Said (configuration_of s) → length (listing_of s) ≤ 96
    by (Said.goods of marks word e) = rw e (omega (arith, lines-bound (record { channels = of; down = marks; codes = word }) 16 0))
    by (Said.bads n e) =
        let number = decimal_text (number_of BadConfiguration) in
        rw e (omega (
          arith,
          length-append number (bytes " LINE " ++ (decimal_text n ++ bytes "\n")),
          few-digits 1 (number_of BadConfiguration) (omega arith),
          length-append (decimal_text n) (bytes "\n"),
          few-digits 2 n (omega (arith, few-lines s n ((meaning s).first n e))),
        ))

-- so what was put is the listing
pub listed : (s : List ℕ) {room after : List ℕ} {r : ℕ} → Written room 0 (listing_of s) after r → Listed s room after r
listed s {room} {after} {r} w = record {
  text = w;
  whole = λ h.
      let f = fitted w (omega (arith, listing-bound s)) in
      let e : length (listing_of s) ≡ r = omega (arith, f.0) in
      let k : 0 + length (listing_of s) ≡ r = omega arith in (
        ap (take r) f.1 ∙ take_at (listing_of s) (drop (0 + length (listing_of s)) room) r e,
        ap (drop r) f.1 ∙ drop_at (listing_of s) (drop (0 + length (listing_of s)) room) r e ∙ ap (λ (n : ℕ). drop n room) k,
      );
}
