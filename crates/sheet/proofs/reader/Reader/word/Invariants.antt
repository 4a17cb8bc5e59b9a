use Rattle.std.proofs.Common.{◌≡◌, ◌++◌, take}
use Rattle.sheet.proofs.reader.Reader.word.Given as goal

-- the letters so far stood before what is left
abbrev pub invariant-loop-letter : goal.invariant-loop-letter
invariant-loop-letter l = l.initial.self.rest.now ≡ take l.letter-index l.letters ++ l.self.rest.now
