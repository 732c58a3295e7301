-- The listing's text, by the parts that were put. Assumes nothing.
use Prim.Native.Nat.{ℕ, suc, ◌+◌, ◌-◌, ◌≤◌, ◌<◌}
use mathlib.Core.Path.{◌≡◌, sym, ap, ◌∙◌}
use mathlib.Core.Bool.{Bool, true, false}
use mathlib.Core.List.{[], ◌++◌}
use native.Mathlib.Omega.{arith}
use Rattle.numbers.specs.Quoted.{bytes}
use Rattle.numbers.specs.declared.ChannelNumber.{ChannelNumber}
use Rattle.text.specs.Writing.{two_text, decimal_text}
use Rattle.channels.specs.declared.Channel.{Channel}
use Rattle.channels.specs.declared.Configuration.{Configuration}
use Rattle.channels.specs.Channels.{channel_in}
use Rattle.configuration_listing.specs.Listing.{is_listed, fresh_count, channel_text, lines_from}

module _ (configuration : Configuration) (channel : ChannelNumber) {on : Channel} {t : Bool} (a : on ≡ channel_in configuration channel)
    (b : t ≡ is_listed on) where
  listed-is : is_listed (channel_in configuration channel) ≡ t
  listed-is = sym (b ∙ ap is_listed a)

  pub channel-line : {n : ℕ} → t ≡ true → n ≡ fresh_count configuration channel
      → two_text channel.0 ++ (bytes " " ++ (decimal_text n ++ bytes "\n")) ≡ channel_text configuration channel
  unfolding channel_text
  channel-line {n} e m = rw (listed-is ∙ e, m)

  pub no_line : t ≡ false → [] ≡ channel_text configuration channel
  unfolding channel_text
  no_line e = rw (listed-is ∙ e)

module _ (configuration : Configuration) (c : ℕ) where
  pub lines-turn : c < 16 → lines_from configuration (16 - c) c
      ≡ channel_text configuration (record { 0 = c }) ++ lines_from configuration (16 - (c + 1)) (c + 1)
  unfolding lines_from
  lines-turn h = let e : 16 - c ≡ suc (16 - (c + 1)) = omega arith in rw e

  pub lines_end : 16 ≤ c → lines_from configuration (16 - c) c ≡ []
  unfolding lines_from
  lines_end h = let e : 16 - c ≡ 0 = omega arith in rw e
