-- What holds of all markers, and two of them written out.
use Rattle.std.specs.Prelude.{◌≡◌, ℕ, ◌<◌, true, List, [], ◌∷◌, ◌++◌, Some, None}
use Rattle.octets.specs.Octets.{Octets}
use Rattle.marker.specs.Marker.{sync_word, count_limit, marker}
use Rattle.marker.specs.Reading.{reading, first_cause, digits_apart}

-- Counts, as docs/FORMAT.md prints them.
pub record Figures : Type 0 where
  pub count_1 : marker 1 ≡ sync_word ++ (0x00 ∷ 0x00 ∷ 0x03 ∷ [])
  pub count_4095 : marker 4095 ≡ sync_word ++ (0x00 ∷ 0x1F ∷ 0xFE ∷ [])

-- Of a count of 23 digits: its marker is seven octets, and is read back with nothing wrong.
pub record ReadBack (c : ℕ) : Type 0 where
  pub octets : Octets 7 (marker c)
  pub read : reading (marker c) ≡ Some (record { count = c; sync_right = true; parity_right = true })

-- Seven octets have no cause of a miss just if they are the marker expected, and then no digit is wrong; and no digit is wrong only of these.
pub record ToldApart (c : ℕ) (xs : List ℕ) : Type 0 where
  pub hit : first_cause c xs ≡ None → xs ≡ marker c
  pub none : xs ≡ marker c → first_cause c xs ≡ None
  pub right : xs ≡ marker c → digits_apart xs (marker c) ≡ 0
  pub wrong : digits_apart xs (marker c) ≡ 0 → xs ≡ marker c

pub record MarkerLaws : Type 0 where
  pub read_back : (c : ℕ) → c < count_limit → ReadBack c
  pub told_apart : (c : ℕ) → c < count_limit → (xs : List ℕ) → Octets 7 xs → ToldApart c xs
