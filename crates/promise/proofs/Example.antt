-- A link whose second block is covered, with a whole fade of it altered.
use Rattle.std.proofs.Common.{◌≡◌, ℕ, zero, suc, ◌+◌, ◌-◌, ◌*◌, ◌/◌, ◌%◌, ◌<◌, ◌≤◌, true, false, List, [], ◌∷◌, ◌++◌, length, get_or, Some, None, Ok, replicate, refl, sym, subst, ◌∙◌, inl, inr, lit≤, arith, length-append}
use Rattle.std.proofs.Math.ListN.{get_or-append}
use Rattle.std.proofs.Math.Nat.{div-eq_of_lt, mod-eq_of_lt}
use Rattle.std.proofs.lemmas.Bool.{cases_lt}
use Rattle.std.proofs.lemmas.List.{get_or-append_right, get_or-replicate, length-replicate}
use lib.Count.{ones, ones_in}
use Rattle.settings.specs.declared.Settings.{Settings}
use Rattle.octets.specs.Octets.{altered}
use Rattle.octets.specs.Words.{word_of}
use Rattle.octets.specs.Counting.{sum}
use Rattle.code.specs.Meaning.{Reached}
use Rattle.mapping.specs.Meaning.{MappingMeaning}
use Rattle.mapping.specs.Interleaver.{block_of, block_source, symbol_fade}
use Rattle.mapping.specs.Bounds.{cut_of}
use Rattle.mapping.specs.Laws.{block_laws}
use Rattle.marker.specs.Marker.{marker}
use Rattle.rs16.specs.Codewords.{rs16, Codeword}
use Rattle.rs16.specs.Remainders.{lawful}
use Rattle.rs16.proofs.Theorems.{zero_word, word_of_zeros}
use Rattle.link.specs.Line.{joined, block_line}
use Rattle.link.specs.Rules.{empty_window, lock_at, gained_report}
use Rattle.link.specs.RowMending.{WordAfter, MendedRow}
use Rattle.link.specs.Feeding.{fed_from}
use Rattle.link.specs.SenderHistory.{SenderCall, put, draw, SenderHistory, put_next, draw_next, frames_put, line_sent}
use Rattle.link.specs.SenderSteps.{sender_made, PutStep, DrawStep}
use Rattle.link.specs.ReceiverSteps.{receiver_made, FeedStep, NextStep, ShowStep}
use Rattle.link.specs.declared.state.SenderState.{SenderState}
use Rattle.link.specs.declared.receiving.Lock.{Lock}
use Rattle.link.specs.declared.receiving.Mode.TheVariants.{Reading, Checking}
use Rattle.link.specs.declared.receiving.ReceiverState.{ReceiverState}
use Rattle.link.specs.declared.reception.NextAnswer.{NextAnswer}
use Rattle.link.specs.declared.report.Kind.TheVariants.{Hit}
use Rattle.link.specs.declared.report.Report.{Report}
use Rattle.link.specs.SenderHistory as of_sender
use Rattle.promise.specs.ReceiverHistory.{ReceiverCall, feed, next, show, ReceiverHistory, made, feed_next, next_next, show_next, octets_taken, reports}
use Rattle.promise.specs.Reception.{Reception, AsSent, Intact, AlteredMarker, AllSound, line_place, AlteredWithin, AlteredThroughout, Covered}
use Rattle.promise.specs.Promise.{Link}
use Rattle.promise.specs.Example.{PromiseApplies}
use Rattle.promise.proofs.Bench.{bench_values}
use Rattle.promise.proofs.Promise.{link_promise}

abbrev settings : Settings
settings = record {
  depth = 1;
  rows = 1;
  symbol = 1;
  subframe_rows = 1;
  miss_limit = 1;
  depth_allowed = refl;
  rows_allowed = refl;
  symbol_allowed = refl;
  subframe_rows_allowed = refl;
  miss_limit_allowed = refl;
}

abbrev mapping : MappingMeaning
mapping = block_of settings

-- ---- the sender: twice a frame of zeros is put and its block drawn

abbrev frame : List ℕ
frame = replicate 223 0

abbrev zeros : List ℕ
zeros = replicate 255 0

-- a block of zeros on the line
abbrev line : List ℕ
line = marker 0 ++ zeros

abbrev frame_in : SenderState
frame_in = record { put = 1; drawn = 0 }

put_step : PutStep settings rs16 sender_made zeros frame (Ok 0) frame_in zeros
put_step = record { accepted = refl; row = zeros; encoded = bench_values.zero_frame 1; answer = refl; stored = refl; after = refl }

draw_step : DrawStep settings mapping frame_in zeros (replicate 262 0) (Ok 262) sender_made line
unfolding block_line joined block_source marker ones ones_in
draw_step = record { accepted = refl; answer = refl; written = refl; after = refl }

abbrev sender_calls : List SenderCall
sender_calls = draw (replicate 262 0) line (Ok 262) ∷ put frame (Ok 0) ∷ draw (replicate 262 0) line (Ok 262) ∷ put frame (Ok 0) ∷ []

sending : SenderHistory settings rs16 mapping sender_calls sender_made zeros
sending = draw_next (put_next (draw_next (put_next (of_sender.made zeros) put_step) draw_step) put_step) draw_step

-- ---- the receiver: marker, block, next; marker, block with a fade altered, next, show

abbrev hit : List ℕ
hit = replicate 16 1 ++ replicate 239 0

abbrev locked : ReceiverState
locked = record { mode = Reading (lock_at 0) 0; answered = 1; first = false; after_next = false }

gained : FeedStep settings mapping (receiver_made settings) zeros (marker 0) (Ok (7, Some (gained_report 0))) locked zeros
unfolding fed_from marker ones ones_in
gained = record { accepted = refl; taken = refl; report = refl; stored = refl; after = refl }

abbrev expecting : Lock
expecting = record { count = 0; misses = 0; filling = false; fresh = false }

abbrev first_waits : ReceiverState
first_waits = record { mode = Checking expecting empty_window; answered = 0; first = true; after_next = false }

first_block : FeedStep settings mapping locked zeros zeros (Ok (255, None)) first_waits zeros
unfolding fed_from block_source
first_block = record { accepted = refl; taken = refl; report = refl; stored = refl; after = refl }

-- a row of one word, with sixteen octets altered or none, is mended
mended : (before : List ℕ) (count : ℕ) → altered 255 (word_of 1 0 before) (word_of 1 0 zeros) ≤ 16 → count ≡ altered 255 before zeros → MendedRow 1 rs16 before zeros count (Ok tt)
mended before count near counted =
    let reached : Reached rs16 (word_of 1 0 before) (word_of 1 0 zeros) = record { is_codeword = subst Codeword (word_of_zeros 1 0 255) zero_word; near = near } in
    record { size = refl; words = λ w h. first (λ v. WordAfter rs16 (word_of 1 v before) (word_of 1 v zeros)) w h (inl reached); counted = counted; verdict = λ w h. first (λ v. Reached rs16 (word_of 1 v before) (word_of 1 v zeros)) w h reached }
  where
    first : (P : ℕ → Type 0) (w : ℕ) → w < 1 → P 0 → P w
    first P zero h p = p
    first P (suc w) h p = absurd (omega arith)

abbrev first_answer : NextAnswer
first_answer = record { row = 0; altered = 0; gap = 1; valid = Ok tt }

abbrev first_answered : ReceiverState
first_answered = record { mode = Checking expecting empty_window; answered = 1; first = true; after_next = true }

first_next : NextStep settings rs16 first_waits zeros (Ok first_answer) first_answered zeros
unfolding word_of sum
first_next =
    record { accepted = refl; row_is = refl; gap_is = refl; row_after = zeros; valid = Ok tt; mended = mended zeros 0 (lit≤ tt) refl; valid_is = refl; stored = refl; after = refl }

abbrev in_step : Lock
in_step = record { count = 0; misses = 0; filling = true; fresh = false }

abbrev hit_report : Report
hit_report = record { kind = Hit; count = 0; digits = 0; fell = false }

abbrev second_begins : ReceiverState
second_begins = record { mode = Reading in_step 0; answered = 1; first = true; after_next = false }

marker_hit : FeedStep settings mapping first_answered zeros (marker 0) (Ok (7, Some hit_report)) second_begins zeros
unfolding fed_from marker ones ones_in sum
marker_hit = record { accepted = refl; taken = refl; report = refl; stored = refl; after = refl }

abbrev second_waits : ReceiverState
second_waits = record { mode = Checking expecting empty_window; answered = 0; first = false; after_next = false }

second_block : FeedStep settings mapping second_begins zeros hit (Ok (255, None)) second_waits hit
unfolding fed_from block_source
second_block = record { accepted = refl; taken = refl; report = refl; stored = refl; after = refl }

abbrev second_answer : NextAnswer
second_answer = record { row = 0; altered = 16; gap = 0; valid = Ok tt }

abbrev second_answered : ReceiverState
second_answered = record { mode = Checking expecting empty_window; answered = 1; first = false; after_next = true }

second_next : NextStep settings rs16 second_waits hit (Ok second_answer) second_answered zeros
unfolding word_of sum
second_next =
    record { accepted = refl; row_is = refl; gap_is = refl; row_after = zeros; valid = Ok tt; mended = mended hit 16 (lit≤ tt) refl; valid_is = refl; stored = refl; after = refl }

shown : ShowStep settings rs16 second_answered zeros (Ok frame)
shown = (refl, refl)

abbrev earlier_calls : List ReceiverCall
earlier_calls =
    next (Ok second_answer) ∷ feed hit (Ok (255, None)) ∷ feed (marker 0) (Ok (7, Some hit_report))
    ∷ next (Ok first_answer) ∷ feed zeros (Ok (255, None)) ∷ feed (marker 0) (Ok (7, Some (gained_report 0))) ∷ []

receiving : ReceiverHistory settings rs16 mapping (show (Ok frame) ∷ earlier_calls) second_answered zeros
receiving = show_next (next_next (feed_next (feed_next (next_next (feed_next (feed_next (made zeros) gained) first_block) first_next) marker_hit) second_block) second_next) shown

-- ---- what was taken of the line sent

-- the line up to and with the second marker
abbrev front : List ℕ
front = line ++ marker 0

front_size : length front ≡ 269
unfolding marker
front_size = refl

abbrev calls : List ReceiverCall
calls = show (Ok frame) ∷ earlier_calls

sent_is : line_sent sender_calls ≡ front ++ (replicate 16 0 ++ replicate 239 0)
unfolding line_sent marker ones ones_in
sent_is = refl

taken : octets_taken calls ≡ front ++ (replicate 16 1 ++ replicate 239 0)
unfolding octets_taken marker ones ones_in
taken = refl

all_taken : 0 + length (front ++ (replicate 16 1 ++ replicate 239 0)) ≤ length (line_sent sender_calls)
unfolding line_sent marker ones ones_in
all_taken = lit≤ tt

abbrev reception : Reception (line_sent sender_calls) (octets_taken calls)
reception = record {
  before = [];
  heard = front ++ (replicate 16 1 ++ replicate 239 0);
  start = 0;
  taken_is = taken;
  on_line = all_taken;
}

abbrev Sent : ℕ → Type 0
Sent q = AsSent settings reception q

-- in front of the fade
sent_before : (q : ℕ) → q < 269 → Sent q
sent_before q low =
    let none : q - 0 ≡ q = omega arith in
    let inside : q < length front = omega (arith, front_size) in
    rw (none, sent_is) (get_or-append front (replicate 16 1 ++ replicate 239 0) 0 q inside ∙ sym (get_or-append front (replicate 16 0 ++ replicate 239 0) 0 q inside))

-- and behind it
sent_behind : (q : ℕ) → 285 ≤ q → Sent q
sent_behind q high =
    let none : q - 0 ≡ q = omega arith in
    let past : (x : ℕ) → get_or (front ++ (replicate 16 x ++ replicate 239 0)) q 0 ≡ get_or (replicate 239 0) (q - 269 - 16) 0 =
    λ x. get_or-append_right front (replicate 16 x ++ replicate 239 0) 269 q 0 front_size (omega arith) ∙ get_or-append_right (replicate 16 x) (replicate 239 0) 16 (q - 269) 0 (length-replicate 16 x) (omega arith) in
    rw (none, sent_is) (past 1 ∙ sym (past 0))

-- but not in it
not_sent : (q : ℕ) → 269 ≤ q → q < 285 → Sent q → ⊥
not_sent q low high as_sent =
    let none : q - 0 ≡ q = omega arith in
    let within : (x : ℕ) → get_or (front ++ (replicate 16 x ++ replicate 239 0)) q 0 ≡ x =
    λ x. get_or-append_right front (replicate 16 x ++ replicate 239 0) 269 q 0 front_size low ∙ (get_or-append (replicate 16 x) (replicate 239 0) 0 (q - 269) (omega (arith, length-replicate 16 x)) ∙ get_or-replicate 16 (q - 269) x 0 (omega arith)) in
    let same : get_or (front ++ (replicate 16 1 ++ replicate 239 0)) q 0 ≡ get_or (front ++ (replicate 16 0 ++ replicate 239 0)) q 0 = rw (none, sent_is) at as_sent in
    omega (arith, within 1, within 0, same)

-- ---- the line is covered, and so is its second block

intact : (j : ℕ) → j ≤ 1 → Intact settings reception j
intact j few = record { whole = (omega arith, omega (arith, length-append front (replicate 16 1 ++ replicate 239 0), front_size)); as_sent = λ r low. sent_before (j * 262 + r) (omega arith) }

locks : AllSound settings reception (reports calls)
unfolding reports octets_taken marker ones ones_in
locks = ((λ on. (1, intact 1 (omega arith), refl)), ((λ on. (0, intact 0 (omega arith), refl)), tt))

abbrev link : Link settings rs16 mapping
link = record {
  sender_calls = sender_calls;
  sender = sender_made;
  sender_memory = zeros;
  sending = sending;
  receiver_calls = calls;
  receiver = second_answered;
  receiver_memory = zeros;
  receiving = receiving;
  reception = reception;
  covered = record { markers = markers; locks = locks };
}
  where
    markers : (j : ℕ) → ((i : ℕ) → i < 1 → AlteredMarker settings reception (j + i)) → ⊥
    markers j altered = let a = altered 0 (omega arith) in a.altered (λ r low. sent_before ((j + 0) * 262 + r) (omega (arith, a.whole.1, length-append front (replicate 16 1 ++ replicate 239 0), front_size)))

-- where a data octet of the second block stands on the line
place_is : (p : ℕ) → p < 255 → line_place settings reception 1 p ≡ 269 + p
place_is p low =
    let quotient : p / 255 ≡ 0 = div-eq_of_lt low in
    let remainder : p % 255 ≡ p = mod-eq_of_lt low in
    rw (quotient, remainder) (omega arith)

fade_altered : AlteredThroughout settings reception 1 0 16
fade_altered p low some within = let at : line_place settings reception 1 p ≡ 269 + p = place_is p low in rw at (not_sent (269 + p) (omega arith) (omega arith))

second_covered : Covered settings reception 262 16 1
second_covered = record {
  otherwise = record {
    whole = (omega arith, omega (arith, length-append front (replicate 16 1 ++ replicate 239 0), front_size));
    marker = 1;
    good = record { intact = intact 1 (omega arith); late = omega arith };
    not_behind = omega arith;
  };
  from = 0;
  within = within;
}
  where
    within : AlteredWithin settings reception 1 0 16
    within p low altered = elim (cases_lt p 16) [
      | inl inside ↦ (omega arith, inside)
      | inr outside ↦ let at : line_place settings reception 1 p ≡ 269 + p = place_is p low in absurd ((rw at at altered) (sent_behind (269 + p) (omega arith)))
    ]

pub promise_applies : PromiseApplies
unfolding symbol_fade
promise_applies =
    let promise = link_promise settings rs16 mapping lawful (block_laws 1 1 1 (cut_of settings)) refl in
    record {
      settings = settings;
      holds = record { depth_is = refl; rows_is = refl; symbol_is = refl; subframe_rows_is = refl; miss_limit_is = refl };
      quoted = record { figures_are = refl; promise = promise };
      link = link;
      altered = fade_altered;
      covered = second_covered;
      delivered = promise.ride_through link 1 second_covered;
      before = earlier_calls;
      shown = refl;
    }
