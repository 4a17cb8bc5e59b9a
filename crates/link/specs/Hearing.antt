-- What one octet does in each mode, for the functions that do it.
use Rattle.std.specs.Prelude.{◌≡◌, ℕ, Bool, true, false, List, Some, None, Option}
use Rattle.settings.specs.declared.Settings.{Settings}
use Rattle.mapping.specs.Meaning.{MappingMeaning}
use Rattle.link.specs.Rules.{mode_after, report_of, memory_after, block_ends, is_fresh}
use Rattle.link.specs.declared.feeding.Stop.{Stop}
use Rattle.link.specs.declared.feeding.Stop.TheVariants.{Marker, Block}
use Rattle.link.specs.declared.receiving.Window.{Window}
use Rattle.link.specs.declared.receiving.Lock.{Lock}
use Rattle.link.specs.declared.receiving.Mode.{Mode}
use Rattle.link.specs.declared.receiving.Mode.TheVariants.{Hunting, Reading, Checking}
use Rattle.link.specs.declared.report.Report.{Report}

-- the end of a block in progress, if there is one, by whether it is the first since the lock
abbrev pub end_of : Bool → Bool → Option Stop
end_of true first = Some (Block first)
end_of false first = None

-- what stops a feed behind an octet: its report, or else the end of a block
abbrev pub stop_of : Option Report → Option Stop → Option Stop
stop_of (Some report) end = Some (Marker report)
stop_of None end = end

-- an octet of a hunt
pub record Hunted (s : Settings) (window : Window) (octet : ℕ) (mode : Mode) (report : Option Report) : Type 0 where
  pub mode_is : mode ≡ mode_after s (Hunting window) octet
  pub report_is : report ≡ report_of s (Hunting window) octet

-- an octet of a marker that is expected
pub record Judged (s : Settings) (lock : Lock) (window : Window) (octet : ℕ) (mode : Mode) (report : Option Report) : Type 0 where
  pub mode_is : mode ≡ mode_after s (Checking lock window) octet
  pub report_is : report ≡ report_of s (Checking lock window) octet

-- an octet, whatever the mode is
pub record Heard (s : Settings) (m : MappingMeaning) (mode : Mode) (memory : List ℕ) (octet : ℕ) (mode' : Mode) (stop : Option Stop) (memory' : List ℕ) : Type 0 where
  pub mode_is : mode' ≡ mode_after s mode octet
  pub stop_is : stop ≡ stop_of (report_of s mode octet) (end_of (block_ends s mode) (is_fresh mode))
  pub stored : memory' ≡ memory_after s m mode memory octet

-- a data octet of a subframe
pub record DataRead (s : Settings) (m : MappingMeaning) (lock : Lock) (place : ℕ) (memory : List ℕ) (octet : ℕ) (mode : Mode) (memory' : List ℕ) : Type 0 where
  pub mode_is : mode ≡ mode_after s (Reading lock place) octet
  pub stored : memory' ≡ memory_after s m (Reading lock place) memory octet
