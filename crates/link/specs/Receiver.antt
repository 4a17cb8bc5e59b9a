-- The receiver as the contracts of its calls see it.
use Rattle.std.specs.Prelude.{◌≡◌, ℕ, true, false, List, Ok, Err, Option, Result}
use Rattle.settings.specs.declared.Settings.{Settings}
use Rattle.code.specs.Meaning.{CodeMeaning}
use Rattle.code.specs.declared.Code.{Ghosts as Codes}
use Rattle.mapping.specs.Meaning.{MappingMeaning}
use Rattle.mapping.specs.declared.mapping.Mapping.{Ghosts as Mappings}
use Rattle.link.specs.Refusal.{mapping_fits}
use Rattle.link.specs.ReceiverSteps.{receiver_made, FeedStep, NextStep, ShowStep}
use Rattle.link.specs.declared.fault.MakingFault.{MakingFault}
use Rattle.link.specs.declared.fault.MakingFault.TheVariants.{Mapping}
use Rattle.link.specs.declared.reception.FeedFault.{FeedFault}
use Rattle.link.specs.declared.reception.NextFault.{NextFault}
use Rattle.link.specs.declared.reception.ShowFault.{ShowFault}
use Rattle.link.specs.declared.reception.NextAnswer.{NextAnswer}
use Rattle.link.specs.declared.report.Report.{Report}
use Rattle.link.specs.declared.receiver.Receiver.{Receiver}

module _ {C M : Type 0} {codes : Codes C} {mappings : Mappings M} where
  -- a receiver as made, of just these settings, this code and this mapping
  pub record ReceiverAsMade (s : Settings) (c : C) (m : M) (made : Receiver C M codes mappings) : Type 0 where
    pub settings_is : made.line.settings ≡ s
    pub code_is : made.code ≡ c
    pub mapping_is : made.line.mapping ≡ m
    pub state_is : made.state ≡ receiver_made s

  -- what no call changes
  pub record ReceiverKeeps (a b : Receiver C M codes mappings) : Type 0 where
    pub settings_kept : b.line.settings ≡ a.line.settings
    pub code_kept : b.code ≡ a.code
    pub mapping_kept : b.line.mapping ≡ a.line.mapping

-- the calls, over the meanings that the types of the code and of the mapping give
module _ {C M : Type 0} {codes : Codes C} {mappings : Mappings M} (code : C → CodeMeaning) (mapping : M → MappingMeaning) where
  -- made if the mapping fits the settings, else refused
  abbrev pub MakesReceiver : Settings → C → M → Result (Receiver C M codes mappings) MakingFault → Type 0
  MakesReceiver s c m (Ok made) = (mapping_fits s (mapping m) ≡ true) × ReceiverAsMade s c m made
  MakesReceiver s c m (Err fault) = (mapping_fits s (mapping m) ≡ false) × (fault ≡ Mapping)

  pub record Feeds (a : Receiver C M codes mappings) (memory input : List ℕ) (r : Result (ℕ × Option Report) FeedFault) (b : Receiver C M codes mappings) (memory' : List ℕ) : Type 0 where
    pub step : FeedStep a.line.settings (mapping a.line.mapping) a.state memory input r b.state memory'
    pub kept : ReceiverKeeps a b

  pub record Nexts (a : Receiver C M codes mappings) (memory : List ℕ) (r : Result NextAnswer NextFault) (b : Receiver C M codes mappings) (memory' : List ℕ) : Type 0 where
    pub step : NextStep a.line.settings (code a.code) a.state memory r b.state memory'
    pub kept : ReceiverKeeps a b

  abbrev pub Shows : Receiver C M codes mappings → List ℕ → Result (List ℕ) ShowFault → Type 0
  Shows a memory r = ShowStep a.line.settings (code a.code) a.state memory r
