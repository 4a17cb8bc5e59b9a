-- The octets of a feed gone through.
use Rattle.std.specs.Prelude.{◌≡◌, ℕ, Bool, true, false, List, Some, None, Option}
use Rattle.settings.specs.declared.Settings.{Settings}
use Rattle.mapping.specs.Meaning.{MappingMeaning}
use Rattle.link.specs.Feeding.{Fed, fed}
use Rattle.link.specs.ReceiverFits.{mode_is_fit}
use Rattle.link.specs.declared.receiving.Mode.{Mode}
use Rattle.link.specs.declared.feeding.Feeding.{Feeding}
use Rattle.link.specs.declared.feeding.Stop.{Stop}
use Rattle.link.specs.declared.feeding.Stop.TheVariants.{Marker, Block}
use Rattle.link.specs.declared.report.Report.{Report}

-- the report of the marker read, if that stopped the feed
abbrev pub report_in : Option Stop → Option Report
report_in None = None
report_in (Some (Marker report)) = Some report
report_in (Some (Block first)) = None

-- whether the end of a block stopped it
abbrev pub ended_in : Option Stop → Bool
ended_in None = false
ended_in (Some (Marker report)) = false
ended_in (Some (Block first)) = true

-- whether it was the end of the first block since the lock
abbrev pub first_in : Option Stop → Bool
first_in None = false
first_in (Some (Marker report)) = false
first_in (Some (Block first)) = first

-- what a feed comes to, with the memory after it
abbrev pub as_fed : Feeding → List ℕ → Fed
as_fed r memory = record { taken = r.taken; report = report_in r.stop; ended = ended_in r.stop; first = first_in r.stop; mode = r.mode; memory = memory }

-- just what the rules say, and the mode is one that a receiver can be in
pub record FedBy (s : Settings) (m : MappingMeaning) (mode : Mode) (memory input : List ℕ) (r : Feeding) (memory' : List ℕ) : Type 0 where
  pub result : fed s m mode memory input ≡ as_fed r memory'
  pub mode_still_fits : mode_is_fit s r.mode ≡ true
