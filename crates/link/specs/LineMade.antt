-- Making a line.
use Rattle.std.specs.Prelude.{◌≡◌, true, false, Ok, Err, Result}
use Rattle.settings.specs.declared.Settings.{Settings}
use Rattle.mapping.specs.Meaning.{MappingMeaning}
use Rattle.mapping.specs.declared.mapping.Mapping.{Ghosts as Mappings}
use Rattle.link.specs.Refusal.{mapping_fits}
use Rattle.link.specs.declared.fault.MakingFault.{MakingFault}
use Rattle.link.specs.declared.fault.MakingFault.TheVariants.{Mapping}
use Rattle.link.specs.declared.line.Line.{Line}

module _ {M : Type 0} {mappings : Mappings M} where
  -- a line of just these settings and this mapping
  pub record LineOf (s : Settings) (m : M) (line : Line M mappings) : Type 0 where
    pub settings_is : line.settings ≡ s
    pub mapping_is : line.mapping ≡ m

module _ {M : Type 0} {mappings : Mappings M} (mapping : M → MappingMeaning) where
  -- made if the mapping fits the settings, else refused
  abbrev pub MakesLine : Settings → M → Result (Line M mappings) MakingFault → Type 0
  MakesLine s m (Ok line) = (mapping_fits s (mapping m) ≡ true) × LineOf s m line
  MakesLine s m (Err fault) = (mapping_fits s (mapping m) ≡ false) × (fault ≡ Mapping)
