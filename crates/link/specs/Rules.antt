-- The receiver's rules, octet by octet.
use Rattle.std.specs.Prelude.{ℕ, ◌+◌, ◌*◌, Bool, true, false, cond, not, ◌&&◌, ◌||◌, List, [], ◌∷◌, drop, Some, None, Option, ◌==◌, bit_xor, nat_lt, slice_index_or, slice_set}
use Rattle.settings.specs.declared.Settings.{Settings}
use Rattle.settings.specs.Lengths.{subframes, subframe_data}
use Rattle.mapping.specs.Meaning.{MappingMeaning}
use Rattle.marker.specs.Marker.{marker}
use Rattle.marker.specs.Reading.{sync_is_right, parity_is_right, count_read, digits_apart, first_cause}
use Rattle.marker.specs.declared.cause.Cause.{Cause}
use Rattle.link.specs.declared.receiving.Window.{Window}
use Rattle.link.specs.declared.receiving.Lock.{Lock}
use Rattle.link.specs.declared.receiving.Mode.{Mode}
use Rattle.link.specs.declared.receiving.Mode.TheVariants.{Hunting, Reading, Checking}
use Rattle.link.specs.declared.report.Kind.TheVariants.{Gained, Hit, Miss}
use Rattle.link.specs.declared.report.Report.{Report}

-- ---- octets held

-- none is held
abbrev pub empty_window : Window
empty_window = record { octets = 0 ∷ 0 ∷ 0 ∷ 0 ∷ 0 ∷ 0 ∷ []; held = 0 }

-- there is room for another
abbrev pub room_in : Window → Bool
room_in w = nat_lt w.held 6

-- octet x is held too
abbrev pub with_octet : Window → ℕ → Window
with_octet w x = record { octets = slice_set w.octets w.held x; held = w.held + 1 }

-- the six octets held, and octet x
abbrev pub seven : Window → ℕ → List ℕ
seven w x =
    let at : ℕ → ℕ = λ i. slice_index_or w.octets i 0 in
    at 0 ∷ at 1 ∷ at 2 ∷ at 3 ∷ at 4 ∷ at 5 ∷ x ∷ []

-- the latest six of these seven
abbrev pub latest_six : Window → ℕ → Window
latest_six w x = record { octets = drop 1 (seven w x); held = 6 }

-- ---- hunting

-- Seven octets give lock: the sync word, right parity, and a count below S.
abbrev pub gives_lock : Settings → List ℕ → Bool
gives_lock s octets = sync_is_right octets && (parity_is_right octets && nat_lt (count_read octets) (subframes s))

-- locked by the marker of this count, with no misses counted; a block starts at count 0
abbrev pub lock_at : ℕ → Lock
lock_at count = record { count = count; misses = 0; filling = (count == 0); fresh = true }

-- the lock that is gained is on the marker found, of which no digit is wrong
abbrev pub gained_report : ℕ → Report
gained_report count = record { kind = Gained; count = count; digits = 0; fell = false }

-- ---- locked

-- behind a marker of a lock that stays, with this run of misses: a block starts at count 0, whether the marker was a hit or a lesser miss
abbrev pub onward : Lock → ℕ → Lock
onward lock misses = record { count = lock.count; misses = misses; filling = lock.count == 0 || lock.filling; fresh = lock.fresh }

-- One miss more is the M-th in a row.
abbrev pub last_miss : Settings → Lock → Bool
last_miss s lock = not (nat_lt (lock.misses + 1) s.miss_limit)

-- Seven octets where a marker is expected: a hit sets the run of misses to 0; a miss adds to it, and the M-th in a row drops lock and the
-- block in progress. No cause of a miss is found just if the octets are the marker expected.
abbrev pub judged_mode : Settings → Lock → Option Cause → Mode
judged_mode s lock None = Reading (onward lock 0) 0
judged_mode s lock (Some cause) = cond (last_miss s lock) (Hunting empty_window) (Reading (onward lock (lock.misses + 1)) 0)

-- what is reported of them
abbrev pub judged_report : Settings → Lock → List ℕ → Option Cause → Report
judged_report s lock octets None = record { kind = Hit; count = lock.count; digits = digits_apart octets (marker lock.count); fell = false }
judged_report s lock octets (Some cause) =
    record { kind = Miss cause; count = lock.count; digits = digits_apart octets (marker lock.count); fell = last_miss s lock }

-- The next octet is the last of its subframe's data.
abbrev pub data_ends : Settings → ℕ → Bool
data_ends s place = not (nat_lt (place + 1) (subframe_data s))

-- The subframe is the last of a block.
abbrev pub last_subframe : Settings → Lock → Bool
last_subframe s lock = not (nat_lt (lock.count + 1) (subframes s))

-- behind a subframe's data: the next count modulo S is expected, and behind the last one the block, if there is one, has ended
abbrev pub next_lock : Settings → Lock → Lock
next_lock s lock =
    cond (last_subframe s lock)
    (record { count = 0; misses = lock.misses; filling = false; fresh = lock.fresh && not lock.filling })
    (record { count = lock.count + 1; misses = lock.misses; filling = lock.filling; fresh = lock.fresh })

-- ---- one octet

-- the mode behind octet x
abbrev pub mode_after : Settings → Mode → ℕ → Mode
mode_after s (Hunting w) x =
    cond (room_in w) (Hunting (with_octet w x)) (
    cond (gives_lock s (seven w x)) (Reading (lock_at (count_read (seven w x))) 0) (Hunting (latest_six w x)))
mode_after s (Reading lock place) x = cond (data_ends s place) (Checking (next_lock s lock) empty_window) (Reading lock (place + 1))
mode_after s (Checking lock w) x =
    cond (room_in w) (Checking lock (with_octet w x)) (judged_mode s lock (first_cause lock.count (seven w x)))

-- The report of octet x: there is one where it is the last of a marker that is read.
abbrev pub report_of : Settings → Mode → ℕ → Option Report
report_of s (Hunting w) x =
    cond (room_in w) None (
    cond (gives_lock s (seven w x)) (Some (gained_report (count_read (seven w x)))) None)
report_of s (Reading lock place) x = None
report_of s (Checking lock w) x =
    cond (room_in w) None (Some (judged_report s lock (seven w x) (first_cause lock.count (seven w x))))

-- The memory behind octet x: of a block in progress, data octet p, plus its mask, goes to its source. Other data is passed over.
abbrev pub memory_after : Settings → MappingMeaning → Mode → List ℕ → ℕ → List ℕ
memory_after s m (Hunting w) memory x = memory
memory_after s m (Reading lock place) memory x =
    let p : ℕ = lock.count * subframe_data s + place in
    cond lock.filling (slice_set memory (m.source p) (bit_xor x (m.mask p))) memory
memory_after s m (Checking lock w) memory x = memory

-- The next octet is the last of a block in progress.
abbrev pub block_ends : Settings → Mode → Bool
block_ends s (Hunting w) = false
block_ends s (Reading lock place) = lock.filling && (data_ends s place && last_subframe s lock)
block_ends s (Checking lock w) = false

-- No block has ended since the lock.
abbrev pub is_fresh : Mode → Bool
is_fresh (Hunting w) = false
is_fresh (Reading lock place) = lock.fresh
is_fresh (Checking lock w) = lock.fresh
