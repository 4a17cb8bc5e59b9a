-- The invariants of a receiver's mode: what they say, and that every octet keeps them.
use Rattle.std.proofs.Common.{◌≡◌, ℕ, ◌+◌, ◌*◌, ◌<◌, true, false, cond, not, ◌&&◌, ltb, List, length, set, Some, None, Option, refl, ap, mul_comm, arith}
use lib.Bits.{bit_xor}
use Rattle.std.proofs.lemmas.Nat.{mul-add-lt}
use Rattle.std.proofs.lemmas.List.{length-set}
use Rattle.std.proofs.lemmas.Bool.{and_parts, and_from, ltb-true, lt-ltb, le-leb, cond_both, not-false}
use Rattle.settings.specs.declared.Settings.{Settings}
use Rattle.settings.specs.Lengths.{subframes, subframe_data, block_length}
use Rattle.settings.proofs.Ranges.{ranges}
use Rattle.mapping.specs.Meaning.{MappingMeaning}
use Rattle.marker.specs.Reading.{sync_is_right, parity_is_right, count_read, first_cause}
use Rattle.marker.specs.declared.cause.Cause.{Cause}
use Rattle.link.specs.declared.receiving.Window.{Window}
use Rattle.link.specs.declared.receiving.Lock.{Lock}
use Rattle.link.specs.declared.receiving.Mode.{Mode}
use Rattle.link.specs.declared.receiving.Mode.TheVariants.{Hunting, Reading, Checking}
use Rattle.link.specs.Rules.{empty_window, room_in, with_octet, seven, latest_six, gives_lock, lock_at, onward, last_miss, judged_mode, data_ends, last_subframe, next_lock, mode_after, memory_after}
use Rattle.link.specs.ReceiverFits.{window_is_fit, lock_is_fit, mode_is_fit}
use Rattle.link.proofs.Lengths.{subframes_some, subframe_data_some, data_fills}

module _ (s : Settings) where
  -- a lock that fits
  pub record LockSizes (lock : Lock) : Type 0 where
    pub count_low : lock.count < subframes s
    pub few : lock.misses < s.miss_limit

  pub lock_sizes : (lock : Lock) → lock_is_fit s lock ≡ true → LockSizes lock
  lock_sizes lock h =
      let p = and_parts (ltb lock.count (subframes s)) (ltb lock.misses s.miss_limit) h in
      record { count_low = ltb-true lock.count (subframes s) p.0; few = ltb-true lock.misses s.miss_limit p.1 }

  pub lock_fits : (lock : Lock) → LockSizes lock → lock_is_fit s lock ≡ true
  lock_fits lock h =
      and_from (ltb lock.count (subframes s)) (ltb lock.misses s.miss_limit)
      (lt-ltb lock.count (subframes s) h.count_low) (lt-ltb lock.misses s.miss_limit h.few)

  -- a place in the data of a subframe that fits
  pub record DataSizes (lock : Lock) (place : ℕ) : Type 0 where
    pub lock_is : LockSizes lock
    pub place_low : place < subframe_data s
    -- it is a place of the block
    pub within : lock.count * subframe_data s + place < block_length s

  pub data_sizes : (lock : Lock) (place : ℕ) → mode_is_fit s (Reading lock place) ≡ true → DataSizes lock place
  data_sizes lock place h =
      let p = and_parts (lock_is_fit s lock) (ltb place (subframe_data s)) h in
      let l : LockSizes lock = lock_sizes lock p.0 in
      let low : place < subframe_data s = ltb-true place (subframe_data s) p.1 in
      record {
        lock_is = l;
        place_low = low;
        within = omega (arith, mul-add-lt lock.count (subframe_data s) place (subframes s) l.count_low low, mul_comm (subframe_data s) (subframes s), data_fills s);
      }

  -- that place, by the octets of a subframe's data as they were answered
  pub data_place : (lock : Lock) (place size : ℕ) → size ≡ subframe_data s → mode_is_fit s (Reading lock place) ≡ true → lock.count * size + place < block_length s
  data_place lock place size e h = omega (arith, (data_sizes lock place h).within, ap (λ n. lock.count * n) e)

  -- at the first data octet behind a marker
  reading_first : (lock : Lock) → lock_is_fit s lock ≡ true → mode_is_fit s (Reading lock 0) ≡ true
  reading_first lock h = and_from (lock_is_fit s lock) (ltb 0 (subframe_data s)) h (lt-ltb 0 (subframe_data s) (subframe_data_some s))

  window_next : (w : Window) (x : ℕ) → room_in w ≡ true → window_is_fit (with_octet w x) ≡ true
  window_next w x h = le-leb (w.held + 1) 6 (omega (arith, ltb-true w.held 6 h))

  -- seven octets of a hunt
  hunt_fits : (w : Window) (x : ℕ) → mode_is_fit s (cond (gives_lock s (seven w x)) (Reading (lock_at (count_read (seven w x))) 0) (Hunting (latest_six w x))) ≡ true
  hunt_fits w x = cond_both (gives_lock s (seven w x)) (Reading (lock_at (count_read (seven w x))) 0) (Hunting (latest_six w x)) (λ mode. mode_is_fit s mode ≡ true)
      (λ e.
      let p = and_parts (sync_is_right (seven w x)) (parity_is_right (seven w x) && ltb (count_read (seven w x)) (subframes s)) e in
      let q = and_parts (parity_is_right (seven w x)) (ltb (count_read (seven w x)) (subframes s)) p.1 in
      reading_first (lock_at (count_read (seven w x))) (lock_fits (lock_at (count_read (seven w x)))
      (record { count_low = ltb-true (count_read (seven w x)) (subframes s) q.1; few = (ranges s).miss_limit_low })))
      (λ e. refl)

  judged_fits : (lock : Lock) (cause : Option Cause) → lock_is_fit s lock ≡ true → mode_is_fit s (judged_mode s lock cause) ≡ true
  judged_fits lock None h =
      reading_first (onward lock 0) (lock_fits (onward lock 0) (record { count_low = (lock_sizes lock h).count_low; few = (ranges s).miss_limit_low }))
  judged_fits lock (Some cause) h = cond_both (last_miss s lock) (Hunting empty_window) (Reading (onward lock (lock.misses + 1)) 0) (λ mode. mode_is_fit s mode ≡ true)
      (λ e. refl)
      (λ e. reading_first (onward lock (lock.misses + 1)) (lock_fits (onward lock (lock.misses + 1)) (record {
        count_low = (lock_sizes lock h).count_low;
        few = ltb-true (lock.misses + 1) s.miss_limit (not-false (ltb (lock.misses + 1) s.miss_limit) e);
      })))

  next_lock_fits : (lock : Lock) → lock_is_fit s lock ≡ true → lock_is_fit s (next_lock s lock) ≡ true
  next_lock_fits lock h =
      let first : Lock = record { count = 0; misses = lock.misses; filling = false; fresh = lock.fresh && not lock.filling } in
      let next : Lock = record { count = lock.count + 1; misses = lock.misses; filling = lock.filling; fresh = lock.fresh } in
      cond_both (last_subframe s lock) first next (λ l. lock_is_fit s l ≡ true)
      (λ e. lock_fits first (record { count_low = subframes_some s; few = (lock_sizes lock h).few }))
      (λ e. lock_fits next (record {
        count_low = ltb-true (lock.count + 1) (subframes s) (not-false (ltb (lock.count + 1) (subframes s)) e);
        few = (lock_sizes lock h).few;
      }))

  -- every octet keeps the invariants
  pub mode_stays_fit : (mode : Mode) (x : ℕ) → mode_is_fit s mode ≡ true → mode_is_fit s (mode_after s mode x) ≡ true
  mode_stays_fit (Hunting w) x h = cond_both (room_in w) (Hunting (with_octet w x))
      (cond (gives_lock s (seven w x)) (Reading (lock_at (count_read (seven w x))) 0) (Hunting (latest_six w x))) (λ mode. mode_is_fit s mode ≡ true)
      (λ e. window_next w x e) (λ e. hunt_fits w x)
  mode_stays_fit (Reading lock place) x h =
      let p = and_parts (lock_is_fit s lock) (ltb place (subframe_data s)) h in
      cond_both (data_ends s place) (Checking (next_lock s lock) empty_window) (Reading lock (place + 1)) (λ mode. mode_is_fit s mode ≡ true)
      (λ e. and_from (lock_is_fit s (next_lock s lock)) (window_is_fit empty_window) (next_lock_fits lock p.0) refl)
      (λ e. and_from (lock_is_fit s lock) (ltb (place + 1) (subframe_data s)) p.0 (not-false (ltb (place + 1) (subframe_data s)) e))
  mode_stays_fit (Checking lock w) x h =
      let p = and_parts (lock_is_fit s lock) (window_is_fit w) h in
      cond_both (room_in w) (Checking lock (with_octet w x)) (judged_mode s lock (first_cause lock.count (seven w x))) (λ mode. mode_is_fit s mode ≡ true)
      (λ e. and_from (lock_is_fit s lock) (window_is_fit (with_octet w x)) p.0 (window_next w x e))
      (λ e. judged_fits lock (first_cause lock.count (seven w x)) p.0)

  -- and the memory's length
  pub memory_stays : (m : MappingMeaning) (mode : Mode) (memory : List ℕ) (x : ℕ) → length (memory_after s m mode memory x) ≡ length memory
  memory_stays m (Hunting w) memory x = refl
  memory_stays m (Reading lock place) memory x =
      let p : ℕ = lock.count * subframe_data s + place in
      cond_both lock.filling (set memory (m.source p) (bit_xor x (m.mask p))) memory (λ xs. length xs ≡ length memory)
      (λ e. length-set memory (m.source p) (bit_xor x (m.mask p))) (λ e. refl)
  memory_stays m (Checking lock w) memory x = refl
