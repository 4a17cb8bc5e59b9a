-- The figures that are quoted for a link.
use Rattle.std.specs.Prelude.{◌*◌}
use Rattle.mapping.specs.Interleaver.{block_of}
use Rattle.settings.specs.declared.Settings.{Settings}
use Rattle.settings.specs.Lengths.{block_length, resync_length}
use Rattle.promise.specs.declared.figures.Quote.{Quote}
use Rattle.promise.specs.declared.kinds.CodeName.{CodeName}
use Rattle.promise.specs.Kinds.{code_of}

-- frame length, block length, the block mapping's fade for the code's reach, resync length
abbrev pub figures_of : CodeName → Settings → Quote
figures_of code s = record {
  frame = (code_of code).information * s.depth;
  block = block_length s;
  fade = (block_of s).fade (code_of code).reach;
  resync = resync_length s;
}
