-- A stretch of the line written or stored octet by octet.
use Rattle.std.proofs.Common.{◌≡◌, ℕ, ◌+◌, ◌-◌, ◌*◌, ◌++◌, drop, ◌<◌, ◌≤◌, eqb, ltb, ◌≢◌, ◌⊎◌, List, length, get_or, set, Some, None, Ok, Err, Result, sym, ap, ◌∙◌, ap₂, inl, inr, arith, length-set, get_or-set_other, get_or-set_same}
use lib.Bits.{bit_xor}
use Rattle.std.proofs.Common.{length-append, length-drop}
use Rattle.std.proofs.lemmas.List.{get_or_append_left, get_or-append_right, get_or-drop}
use Rattle.std.proofs.lemmas.Bool.{cases_Bool, cases_eq, ltb-true, lt-ltb, eq-eqb, eqb-true}
use Rattle.mapping.specs.Answers.{place_answer}
use Rattle.mapping.specs.Bulk.{block_refusal, stretch_refusal, stretch, line_octet, LineWritten, LineStored}
use Rattle.mapping.specs.Meaning.{MappingMeaning, MappingLaws, block_size}
use Rattle.settings.specs.declared.Settings.{Settings}
use Rattle.settings.specs.Lengths.{block_length}
use Rattle.mapping.specs.Interleaver.{interleaved, interleaved_source, step_of}
use Rattle.mapping.specs.Walk.{At}
use Rattle.mapping.specs.declared.interleaver.Interleaver.{Interleaver}
use Rattle.mapping.specs.declared.walk.Walk.{Walk}
use Rattle.mapping.proofs.Walking.{place_is}
use Rattle.mapping.specs.declared.fault.MappingFault.{MappingFault}
use Rattle.mapping.specs.declared.fault.MappingFault.TheVariants.{Place, Memory}

-- what a value told for a place says
pub told : (m : MappingMeaning) (f : ℕ → ℕ) (p v : ℕ) (r : Result ℕ MappingFault)
    → r ≡ Ok v → r ≡ place_answer m f p → (p < block_size m) × (v ≡ f p)
told m f p v r was e = elim (cases_Bool (ltb p (block_size m))) [
  | inl below ↦ let same : r ≡ Ok (f p) = rw below at e in (ltb-true p (block_size m) below, (cc))
  | inr past ↦
      let same : r ≡ Err Place = rw past at e in
      let z : ◌≡◌ {A = ℕ} 0 1 = cc in absurd (omega arith)
]

-- nothing is refused of a stretch that begins below the block's end, with a memory of the block's length
pub none_refused : (m : MappingMeaning) (octets start : ℕ) → start < block_size m → octets ≡ block_size m → stretch_refusal m octets start ≡ None
none_refused m octets start below full = rw (lt-ltb start (block_size m) below, eq-eqb octets (block_size m) full)

-- and what is not refused begins below the block's end, with a memory of the block's length
pub not_refused : (m : MappingMeaning) (octets start : ℕ) → stretch_refusal m octets start ≡ None → (start < block_size m) × (octets ≡ block_size m)
not_refused m octets start e = elim (cases_Bool (ltb start (block_size m))) [
  | inl below ↦ elim (cases_Bool (eqb octets (block_size m))) [
    | inl full ↦ (ltb-true start (block_size m) below, eqb-true octets (block_size m) full)
    | inr other ↦
        let same : Some Memory ≡ None = rw (below, other) at e in
        let z : ◌≡◌ {A = ℕ} 0 1 = cc in absurd (omega arith)
  ]
  | inr past ↦
      let same : Some Place ≡ None = rw past at e in
      let z : ◌≡◌ {A = ℕ} 0 1 = cc in absurd (omega arith)
]

-- a memory that is not refused, by what is told of the depth and the rows, has the block's length
pub full_of : (m : MappingMeaning) (octets start depth rows : ℕ) → depth ≡ m.depth → rows ≡ m.rows
    → block_refusal (255 * depth * rows) octets start ≡ None → octets ≡ block_size m
full_of m octets start depth rows deep many e =
    let same : stretch_refusal m octets start ≡ None = ap (λ b. block_refusal b octets start) (ap₂ (λ d n. 255 * d * n) (sym deep) (sym many)) ∙ e in
    (not_refused m octets start same).1

-- a place of a stretch lies below the block's end
pub within : (m : MappingMeaning) (octets start room taken i : ℕ) → (stretch_refusal m octets start ≡ None) × (taken ≡ stretch m start room) → i < taken
    → start + i < block_size m
within m octets start room taken i answer l = omega (arith, (not_refused m octets start answer.0).0, answer.1)

-- at a place of a stretch: the memory has the block's length, the place lies below the block's end, and the walk stands at its source
pub stands : (s : Settings) (i : Interleaver) (octets start room taken n : ℕ) (w : Walk)
    → (stretch_refusal (interleaved s i) octets start ≡ None) × (taken ≡ stretch (interleaved s i) start room) → n < taken → At s (step_of i) (start + n) w
    → (octets ≡ block_length s) × (start + n < block_length s) × (w.base + w.offset + w.octet ≡ interleaved_source s i (start + n))
stands s i octets start room taken n w answer l at =
    let below = within (interleaved s i) octets start room taken n answer l in
    ((not_refused (interleaved s i) octets start answer.0).1, below, place_is s i (start + n) w below at)

-- the first n places are written
pub record Filled (f : ℕ → ℕ) (before after : List ℕ) (n : ℕ) : Type 0 where
  pub size : length after ≡ length before
  pub written : (i : ℕ) → i < n → get_or after i 0 ≡ f i
  pub kept : (i : ℕ) → n ≤ i → get_or after i 0 ≡ get_or before i 0

-- one place more
pub filled_more : (f : ℕ → ℕ) (before after : List ℕ) (n v : ℕ) → Filled f before after n → n < length before → v ≡ f n
    → Filled f before (set after n v) (n + 1)
filled_more f before after n v done room is =
    let room' : n < length after = omega (arith, done.size) in
    record {
      size = length-set after n v ∙ done.size;
      written = λ i l. elim (cases_eq i n) [
        | inl same ↦ rw same (get_or-set_same after n v 0 room' ∙ is)
        | inr other ↦ get_or-set_other after n i v 0 other ∙ done.written i (omega arith)
      ];
      kept = λ i l. get_or-set_other after n i v 0 (λ same. omega arith) ∙ done.kept i (omega arith);
    }

-- the whole of a stretch is written to the front of the output
pub written_front : (m : MappingMeaning) (memory before front : List ℕ) (start taken : ℕ) → start < block_size m → length memory ≡ block_size m
    → taken ≡ stretch m start (length before) → length front ≡ taken → ((i : ℕ) → i < taken → get_or front i 0 ≡ line_octet m memory (start + i))
    → (stretch_refusal m (length memory) start ≡ None) × LineWritten m memory start taken before (front ++ drop taken before)
written_front m memory before front start taken below full taken_is size each =
    let rest = length-drop taken before in (
      none_refused m (length memory) start below full,
      record {
        taken_is = taken_is;
        size = length-append front (drop taken before) ∙ omega (arith, rest);
        written = λ i l. get_or_append_left front (drop taken before) 0 i (omega arith) ∙ each i l;
        kept = λ i l.
            get_or-append_right front (drop taken before) taken i 0 size l ∙ get_or-drop taken before (i - taken) 0
            ∙ ap (λ k. get_or before k 0) (omega arith);
      },
    )

-- the sources of the first n places of a stretch are written
pub record Stored (m : MappingMeaning) (f : ℕ → ℕ) (start : ℕ) (before after : List ℕ) (n : ℕ) : Type 0 where
  pub size : length after ≡ length before
  pub stored : (i : ℕ) → i < n → get_or after (m.source (start + i)) 0 ≡ f i
  pub kept : (p : ℕ) → p < block_size m → (p < start) ⊎ (start + n ≤ p) → get_or after (m.source p) 0 ≡ get_or before (m.source p) 0

-- one place more
pub stored_more : (m : MappingMeaning) → MappingLaws m → (f : ℕ → ℕ) (start : ℕ) (before after : List ℕ) (n q v : ℕ)
    → Stored m f start before after n → length before ≡ block_size m → start + n < block_size m → q ≡ m.source (start + n) → v ≡ f n
    → Stored m f start before (set after q v) (n + 1)
stored_more m laws f start before after n q v done full room from is =
    let here : q < length after = rw (done.size, full, from) (laws.inside (start + n) room) in
    let apart : (p : ℕ) → p < block_size m → (p ≡ start + n → ⊥) → m.source p ≢ q =
    λ p l ne same. ne (laws.once p (start + n) l room (same ∙ from)) in
    record {
      size = length-set after q v ∙ done.size;
      stored = λ i l. elim (cases_eq i n) [
        | inl same ↦ rw (same, ← from) (get_or-set_same after q v 0 here ∙ is)
        | inr other ↦ get_or-set_other after q (m.source (start + i)) v 0 (apart (start + i) (omega arith) (λ e. other (omega arith))) ∙ done.stored i (omega arith)
      ];
      kept = λ p l out. elim out [
        | inl first ↦ get_or-set_other after q (m.source p) v 0 (apart p l (λ e. omega arith)) ∙ done.kept p l (inl first)
        | inr last ↦ get_or-set_other after q (m.source p) v 0 (apart p l (λ e. omega arith)) ∙ done.kept p l (inr (omega arith))
      ];
    }

-- the whole of a stretch is stored
pub stored_all : (m : MappingMeaning) (line before after : List ℕ) (start taken n : ℕ) → start < block_size m → length before ≡ block_size m
    → taken ≡ stretch m start (length line) → n ≡ taken
    → Stored m (λ i. bit_xor (get_or line i 0) (m.mask (start + i))) start before after n
    → (stretch_refusal m (length before) start ≡ None) × LineStored m line start taken before after
stored_all m line before after start taken n below full taken_is all done = (
  none_refused m (length before) start below full,
  record {
    taken_is = taken_is;
    size = done.size;
    stored = λ i l. done.stored i (omega arith);
    kept = λ p l out. done.kept p l (elim out [ inl first ↦ inl first | inr last ↦ inr (omega arith) ]);
  },
)
