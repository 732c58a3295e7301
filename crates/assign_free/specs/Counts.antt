-- How many units of a kind every channel has, as one private function answers it. Nothing here has to be believed.
use Rattle.std.specs.Prelude.{ℕ, ◌<◌, ◌≡◌, List, length, get_or}
use Rattle.channels.specs.declared.Channel.{Channel}
use Rattle.channels.specs.Channels.{no_channel}
use Rattle.assign_free.specs.declared.Configured.{Configured}
use Rattle.assign_free.specs.Assignable.{units_of_kind}

pub record CountsOf (channels : List Channel) (order : ℕ) (counts : Configured) : Type 0 where
  pub long : length counts.0 ≡ 16
  pub each : (c : ℕ) → c < 16 → get_or counts.0 c 0 ≡ units_of_kind order (get_or channels c no_channel)
