-- The code bare, for a fibre that alters nothing: every word is a codeword.
use Rattle.octets.specs.Octets.{Octets}
use Rattle.octets.specs.Words.{word_length}
use Rattle.code.specs.Meaning.{CodeMeaning}

-- all 255 octets of a word are information, and none that is altered is put right
abbrev pub bare : CodeMeaning
bare = record { information = word_length; reach = 0; Codeword = Octets word_length }
