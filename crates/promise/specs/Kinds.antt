-- What the named codes mean, and the quotes for links that are built with them.
use Rattle.std.specs.Prelude.{◌≡◌, Bool, true, false, cond, Ok, Err, Result}
use Rattle.settings.specs.declared.Settings.{Settings}
use Rattle.code.specs.Meaning.{CodeMeaning}
use Rattle.code.specs.Bare.{bare}
use Rattle.rs16.specs.Codewords.{rs16}
use Rattle.mapping.specs.Meaning.{MappingMeaning}
use Rattle.mapping.specs.Interleaver.{interleaved}
use Rattle.mapping.specs.Randomizer.{randomized}
use Rattle.mapping.specs.Refusal.{interleaver_is_allowed}
use Rattle.mapping.specs.declared.interleaver.Interleaver.{Interleaver}
use Rattle.mapping.specs.declared.fault.MappingFault.{MappingFault}
use Rattle.mapping.specs.declared.fault.MappingFault.TheVariants.{Step}
use Rattle.promise.specs.declared.figures.Quote.{Quote}
use Rattle.promise.specs.declared.kinds.CodeName.{CodeName}
use Rattle.promise.specs.declared.kinds.CodeName.TheVariants.{Rs16, Bare}
use Rattle.promise.specs.Quotes.{Quoted}

-- the code that a name stands for
abbrev pub code_of : CodeName → CodeMeaning
code_of Rs16 = rs16
code_of Bare = bare

-- a mapping, with the randomizer over it if that is wanted
abbrev pub masked : MappingMeaning → Bool → MappingMeaning
masked m randomize = cond randomize (randomized m) m

-- The quote for a link with this code, this interleaver and, if wanted, the randomizer; refused if the step is not allowed.
abbrev pub LinkQuoted : Settings → CodeMeaning → Interleaver → Bool → Result Quote MappingFault → Type 0
LinkQuoted s code interleaver randomize (Ok q) = (interleaver_is_allowed interleaver ≡ true) × Quoted s code (masked (interleaved s interleaver) randomize) q
LinkQuoted s code interleaver randomize (Err fault) = (interleaver_is_allowed interleaver ≡ false) × (fault ≡ Step)
