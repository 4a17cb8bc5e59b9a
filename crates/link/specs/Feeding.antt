-- Feeding a receiver: octet after octet, and where it stops. The same octets lead to the same end, however they are cut.
use Rattle.std.specs.Prelude.{◌≡◌, ℕ, ◌+◌, Bool, true, false, List, [], ◌∷◌, ◌++◌, take, Some, None, Option}
use Rattle.settings.specs.declared.Settings.{Settings}
use Rattle.mapping.specs.Meaning.{MappingMeaning}
use Rattle.link.specs.declared.receiving.Mode.{Mode}
use Rattle.link.specs.declared.report.Report.{Report}
use Rattle.link.specs.Rules.{mode_after, report_of, memory_after, block_ends, is_fresh}

-- What a feed comes to: the octets taken, the report, whether a block ended and was the first since the lock; the mode and the memory after.
pub record Fed : Type 0 where
  pub taken : ℕ
  pub report : Option Report
  pub ended : Bool
  pub first : Bool
  pub mode : Mode
  pub memory : List ℕ

-- where it stops behind the last octet: no marker was read and no block ended by it
abbrev pub fed_all : ℕ → Mode → List ℕ → Fed
fed_all n mode memory = record { taken = n; report = None; ended = false; first = false; mode = mode; memory = memory }

-- Behind an octet, the n-th taken, by its report and whether it was the last of a block in progress: a marker read stops the feed, and so
-- does the end of a block; else it goes on.
abbrev pub stop_or : Option Report → Bool → Bool → ℕ → Mode → List ℕ → Fed → Fed
stop_or (Some report) ended first n mode memory further = record { taken = n; report = Some report; ended = false; first = false; mode = mode; memory = memory }
stop_or None true first n mode memory further = record { taken = n; report = None; ended = true; first = first; mode = mode; memory = memory }
stop_or None false first n mode memory further = further

-- n octets were taken, and these are left
unfoldable pub fed_from : Settings → MappingMeaning → ℕ → Mode → List ℕ → List ℕ → Fed
fed_from s m n mode memory [] = fed_all n mode memory
fed_from s m n mode memory (x ∷ xs) =
    stop_or (report_of s mode x) (block_ends s mode) (is_fresh mode) (n + 1) (mode_after s mode x) (memory_after s m mode memory x)
    (fed_from s m (n + 1) (mode_after s mode x) (memory_after s m mode memory x) xs)

-- a feed of these octets
abbrev pub fed : Settings → MappingMeaning → Mode → List ℕ → List ℕ → Fed
fed s m mode memory input = fed_from s m 0 mode memory input

-- ---- any chunking

-- what octets come to: the mode and the memory after, and the reports in order
pub record Passed : Type 0 where
  pub mode : Mode
  pub memory : List ℕ
  pub reports : List Report

-- one report more in front, if there is one
abbrev pub behind : Option Report → Passed → Passed
behind None p = p
behind (Some report) p = record { mode = p.mode; memory = p.memory; reports = report ∷ p.reports }

-- octet after octet, never mind where a feed would stop
unfoldable pub passed : Settings → MappingMeaning → Mode → List ℕ → List ℕ → Passed
passed s m mode memory [] = record { mode = mode; memory = memory; reports = [] }
passed s m mode memory (x ∷ xs) = behind (report_of s mode x) (passed s m (mode_after s mode x) (memory_after s m mode memory x) xs)

-- one feed after the other, each of an input of its own
unfoldable pub fed_each : Settings → MappingMeaning → Mode → List ℕ → List (List ℕ) → Passed
fed_each s m mode memory [] = record { mode = mode; memory = memory; reports = [] }
fed_each s m mode memory (input ∷ inputs) =
    let one : Fed = fed s m mode memory input in
    behind one.report (fed_each s m one.mode one.memory inputs)

-- the octets that these feeds took, joined
unfoldable pub taken_each : Settings → MappingMeaning → Mode → List ℕ → List (List ℕ) → List ℕ
taken_each s m mode memory [] = []
taken_each s m mode memory (input ∷ inputs) =
    let one : Fed = fed s m mode memory input in
    take one.taken input ++ taken_each s m one.mode one.memory inputs

-- Whatever the inputs are: mode, memory and reports after them are those of the octets taken. So two chunkings of which the same octets
-- are taken lead to the same end.
abbrev pub AnyChunking : Type 0
AnyChunking = (s : Settings) (m : MappingMeaning) (mode : Mode) (memory : List ℕ) (inputs : List (List ℕ))
    → fed_each s m mode memory inputs ≡ passed s m mode memory (taken_each s m mode memory inputs)
