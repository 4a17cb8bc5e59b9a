-- What the checks of a word's place give once they have passed.
use Rattle.std.proofs.Common.{◌≡◌, ℕ, ◌*◌, ◌<◌, ◌≤◌, true, List, length, None, arith}
use Rattle.std.proofs.lemmas.Bool.Decides.{nat_tests}
use Rattle.settings.specs.Allowed.{depth_is_allowed}
use Rattle.octets.specs.Words.{word_length}
use Rattle.code.specs.Refusal.{shape_refusal}

pub passed_depth : (depth word : ℕ) (row : List ℕ) → shape_refusal depth word row ≡ None → depth_is_allowed depth ≡ true
passed_depth depth word row h = grind (arith, nat_tests)

pub passed_depth_high : (depth word : ℕ) (row : List ℕ) → shape_refusal depth word row ≡ None → depth ≤ 8
passed_depth_high depth word row h = grind (arith, nat_tests)

pub passed_size : (depth word : ℕ) (row : List ℕ) → shape_refusal depth word row ≡ None → length row ≡ word_length * depth
passed_size depth word row h = grind (arith, nat_tests)

pub passed_word : (depth word : ℕ) (row : List ℕ) → shape_refusal depth word row ≡ None → word < depth
passed_word depth word row h = grind (arith, nat_tests)
