-- The sender as the contracts of its calls see it.
use Rattle.std.specs.Prelude.{◌≡◌, ℕ, true, false, List, Ok, Err, Result}
use Rattle.settings.specs.declared.Settings.{Settings}
use Rattle.code.specs.Meaning.{CodeMeaning}
use Rattle.code.specs.declared.Code.{Ghosts as Codes}
use Rattle.mapping.specs.Meaning.{MappingMeaning}
use Rattle.mapping.specs.declared.mapping.Mapping.{Ghosts as Mappings}
use Rattle.link.specs.Refusal.{mapping_fits}
use Rattle.link.specs.SenderSteps.{sender_made, PutStep, DrawStep}
use Rattle.link.specs.declared.fault.MakingFault.{MakingFault}
use Rattle.link.specs.declared.fault.MakingFault.TheVariants.{Mapping}
use Rattle.link.specs.declared.fault.PutFault.{PutFault}
use Rattle.link.specs.declared.fault.DrawFault.{DrawFault}
use Rattle.link.specs.declared.sender.Sender.{Sender}

module _ {C M : Type 0} {codes : Codes C} {mappings : Mappings M} where
  -- a sender as made, of just these settings, this code and this mapping
  pub record AsMade (s : Settings) (c : C) (m : M) (made : Sender C M codes mappings) : Type 0 where
    pub settings_is : made.line.settings ≡ s
    pub code_is : made.code ≡ c
    pub mapping_is : made.line.mapping ≡ m
    pub state_is : made.state ≡ sender_made

  -- what no call changes
  pub record KeepsParts (a b : Sender C M codes mappings) : Type 0 where
    pub settings_kept : b.line.settings ≡ a.line.settings
    pub code_kept : b.code ≡ a.code
    pub mapping_kept : b.line.mapping ≡ a.line.mapping

-- the calls, over the meanings that the types of the code and of the mapping give
module _ {C M : Type 0} {codes : Codes C} {mappings : Mappings M} (code : C → CodeMeaning) (mapping : M → MappingMeaning) where
  -- made if the mapping fits the settings, else refused
  abbrev pub Makes : Settings → C → M → Result (Sender C M codes mappings) MakingFault → Type 0
  Makes s c m (Ok made) = (mapping_fits s (mapping m) ≡ true) × AsMade s c m made
  Makes s c m (Err fault) = (mapping_fits s (mapping m) ≡ false) × (fault ≡ Mapping)

  pub record Puts (a : Sender C M codes mappings) (memory frame : List ℕ) (r : Result ℕ PutFault) (b : Sender C M codes mappings) (memory' : List ℕ) : Type 0 where
    pub step : PutStep a.line.settings (code a.code) a.state memory frame r b.state memory'
    pub kept : KeepsParts a b

  pub record Draws (a : Sender C M codes mappings) (memory out : List ℕ) (r : Result ℕ DrawFault) (b : Sender C M codes mappings) (out' : List ℕ) : Type 0 where
    pub step : DrawStep a.line.settings (mapping a.line.mapping) a.state memory out r b.state out'
    pub kept : KeepsParts a b
