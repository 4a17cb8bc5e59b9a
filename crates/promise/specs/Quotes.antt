-- What a quote says: its figures, and the promise that they carry.
use Rattle.std.specs.Prelude.{◌≡◌, true, false, Ok, Err, Result}
use Rattle.settings.specs.declared.Settings.{Settings}
use Rattle.settings.specs.Lengths.{block_length, resync_length}
use Rattle.code.specs.Meaning.{CodeMeaning}
use Rattle.mapping.specs.Meaning.{MappingMeaning}
use Rattle.link.specs.Frames.{frame_length}
use Rattle.link.specs.Refusal.{mapping_fits}
use Rattle.link.specs.declared.fault.MakingFault.{MakingFault}
use Rattle.link.specs.declared.fault.MakingFault.TheVariants.{Mapping}
use Rattle.promise.specs.declared.figures.Quote.{Quote}
use Rattle.promise.specs.Promise.{LinkPromise}

-- frame length, block length, the mapping's fade for the code's reach, resync length
abbrev pub figures : Settings → CodeMeaning → MappingMeaning → Quote
figures s code m = record {
  frame = frame_length s.depth code;
  block = block_length s;
  fade = m.fade code.reach;
  resync = resync_length s;
}

-- The figures, with the whole promise at just these numbers.
pub record Quoted (s : Settings) (code : CodeMeaning) (m : MappingMeaning) (q : Quote) : Type 0 where
  pub figures_are : q ≡ figures s code m
  pub promise : LinkPromise s code m q.fade q.resync

-- a quote, or the refusal of a mapping that is made for another depth or other rows
abbrev pub Quotes : Settings → CodeMeaning → MappingMeaning → Result Quote MakingFault → Type 0
Quotes s code m (Ok q) = (mapping_fits s m ≡ true) × Quoted s code m q
Quotes s code m (Err fault) = (mapping_fits s m ≡ false) × (fault ≡ Mapping)
