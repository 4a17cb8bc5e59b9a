-- The seven octets before a subframe: the sync word, then the subframe's count with a digit that makes the ones even.
use Rattle.std.specs.Prelude.{ℕ, ◌+◌, ◌*◌, ◌/◌, ◌%◌, cond, List, [], ◌∷◌, ◌++◌, Some, None, Option, count_ones, nat_lt}

-- the four octets that every marker begins with
abbrev pub sync_word : List ℕ
sync_word = 0x1A ∷ 0xCF ∷ 0xFC ∷ 0x1D ∷ []

-- two to the power of 23: a count has 23 digits
abbrev pub count_limit : ℕ
count_limit = 8388608

-- the count, and behind it a digit that makes the ones of all even; as one number of 24 digits
abbrev pub count_field : ℕ → ℕ
count_field c = 2 * c + count_ones c % 2

-- the marker of a count
unfoldable pub marker : ℕ → List ℕ
marker c = sync_word ++ (count_field c / 65536 ∷ count_field c / 256 % 256 ∷ count_field c % 256 ∷ [])

-- the marker of a count, if the count has no more than 23 digits
abbrev pub marker_answer : ℕ → Option (List ℕ)
marker_answer c = cond (nat_lt c count_limit) (Some (marker c)) None
