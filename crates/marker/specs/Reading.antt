-- What seven octets say when they are read as a marker, and how they differ from the marker expected.
use Rattle.std.specs.Prelude.{ℕ, ◌+◌, ◌*◌, ◌/◌, ◌%◌, Bool, cond, ◌&&◌, List, length, Some, None, Option, ◌==◌, bit_xor, count_ones, slice_index}
use Rattle.octets.specs.Counting.{sum}
use Rattle.marker.specs.declared.reading.Reading.{Reading}
use Rattle.marker.specs.declared.cause.Cause.{Cause}
use Rattle.marker.specs.declared.cause.Cause.TheVariants.{SyncWord, Parity, Count}

-- the last three of seven octets, as one number of 24 digits
abbrev pub field_read : List ℕ → ℕ
field_read xs = slice_index xs 4 * 65536 + slice_index xs 5 * 256 + slice_index xs 6

-- the count: all these digits but the last
abbrev pub count_read : List ℕ → ℕ
count_read xs = field_read xs / 2

-- The first four octets are the sync word.
abbrev pub sync_is_right : List ℕ → Bool
sync_is_right xs = slice_index xs 0 == 0x1A && (slice_index xs 1 == 0xCF && (slice_index xs 2 == 0xFC && slice_index xs 3 == 0x1D))

-- The ones of the 24 digits are even.
abbrev pub parity_is_right : List ℕ → Bool
parity_is_right xs = count_ones (field_read xs) % 2 == 0

-- all three, of seven octets; fewer or more say nothing
abbrev pub reading : List ℕ → Option Reading
reading xs = cond (length xs == 7) (Some (record { count = count_read xs; sync_right = sync_is_right xs; parity_right = parity_is_right xs })) None

-- in how many of their 56 digits two markers differ
abbrev pub digits_apart : List ℕ → List ℕ → ℕ
digits_apart xs ys = sum 7 (λ i. count_ones (bit_xor (slice_index xs i) (slice_index ys i)))

-- Why seven octets are not the marker of count c: the first of three causes, or none.
abbrev pub first_cause : ℕ → List ℕ → Option Cause
first_cause c xs =
    cond (sync_is_right xs) (
    cond (parity_is_right xs) (
    cond (count_read xs == c) None (Some Count)
    ) (Some Parity)
    ) (Some SyncWord)
