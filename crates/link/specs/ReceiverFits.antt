-- The modes that a receiver of these settings can be in.
use Rattle.std.specs.Prelude.{ℕ, Bool, not, ◌&&◌, ◌||◌, nat_le, nat_lt}
use Rattle.settings.specs.declared.Settings.{Settings}
use Rattle.settings.specs.Lengths.{subframes, subframe_data}
use Rattle.link.specs.declared.receiving.Window.{Window}
use Rattle.link.specs.declared.receiving.Lock.{Lock}
use Rattle.link.specs.declared.receiving.Mode.{Mode}
use Rattle.link.specs.declared.receiving.Mode.TheVariants.{Hunting, Reading, Checking}

-- six octets at most are held
abbrev pub window_is_fit : Window → Bool
window_is_fit w = nat_le w.held 6

-- a count below S, and fewer misses in a row than drop lock
abbrev pub lock_is_fit : Settings → Lock → Bool
lock_is_fit s lock = nat_lt lock.count (subframes s) && nat_lt lock.misses s.miss_limit

-- and in the data of a subframe a place below D
abbrev pub mode_is_fit : Settings → Mode → Bool
mode_is_fit s (Hunting w) = window_is_fit w
mode_is_fit s (Reading lock place) = lock_is_fit s lock && nat_lt place (subframe_data s)
mode_is_fit s (Checking lock w) = lock_is_fit s lock && window_is_fit w

-- Behind next some row is answered.
abbrev pub next_is_fit : Bool → ℕ → Bool
next_is_fit after_next answered = not after_next || nat_lt 0 answered
