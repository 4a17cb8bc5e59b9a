-- A feed before the end of a block heard in step: it stores the block's data, and stops at its end.
use Rattle.std.proofs.Common.{◌≡◌, ℕ, ◌+◌, ◌-◌, ◌<◌, ◌≤◌, true, List, ◌++◌, length, take, drop, sym, refl, ap, ◌∙◌, subst, ⊎_elim, append_assoc, add-zero, arith, length-append}
use Rattle.std.proofs.lemmas.List.{take-append-le, drop_at, take_at, length-take-le, take-take}
use Rattle.std.proofs.lemmas.Bool.{cases_lt}
use Rattle.settings.specs.declared.Settings.{Settings}
use Rattle.settings.specs.Lengths.{block_length}
use Rattle.mapping.specs.Meaning.{MappingMeaning, MappingLaws}
use Rattle.link.specs.Line.{line_length}
use Rattle.link.specs.Refusal.{mapping_fits}
use Rattle.link.specs.Rules.{empty_window, block_ends}
use Rattle.link.specs.Feeding.{fed}
use Rattle.link.specs.declared.receiving.Mode.{Mode}
use Rattle.link.specs.declared.receiving.Mode.TheVariants.{Hunting}
use Rattle.link.specs.declared.receiving.ReceiverState.{ReceiverState}
use Rattle.link.proofs.Tables.{mapping_sizes}
use Rattle.promise.specs.ReceiverHistory.{ReceiverCall, octets_taken}
use Rattle.promise.proofs.Modes.{mode_behind, memory_behind, mode_behind_none, mode_at}
use Rattle.promise.proofs.Found.{Stored}
use Rattle.promise.proofs.Fed.{FedFacts}
use Rattle.promise.proofs.Hearing.{Heard, mode_at_rest}
use Rattle.promise.proofs.BlockEnd.{InDataAt, InMarkersAt, last_ends}
use Rattle.promise.proofs.Stored.{stored_on}

module _ (s : Settings) (m : MappingMeaning) (laws : MappingLaws m) (fits : mapping_fits s m ≡ true) (T : List ℕ) (base : ℕ)
    (reads_at : InDataAt s T base) (checks_at : InMarkersAt s T base)
    (calls : List ReceiverCall) (a : ReceiverState) (memory input rest : List ℕ) (hd : Heard s calls a)
    (t : FedFacts s m 0 a.mode memory input (fed s m a.mode memory input)) (whole : (octets_taken calls ++ take t.k input) ++ rest ≡ T)
    (early : length (octets_taken calls) < base + line_length s) where
  abbrev before : ℕ
  before = length (octets_taken calls)

  whole' : octets_taken calls ++ (take t.k input ++ rest) ≡ T
  whole' = sym (append_assoc (octets_taken calls) (take t.k input) rest) ∙ whole

  mode_within : (i : ℕ) → i ≤ t.k → mode_at s T (before + i) ≡ mode_behind s a.mode (take i input)
  mode_within i le =
      ap (λ (xs : List ℕ). mode_at s xs (before + i)) (sym whole')
      ∙ mode_at_rest s (octets_taken calls) (take t.k input ++ rest) i
      ∙ ap (mode_behind s (mode_behind s (Hunting empty_window) (octets_taken calls)))
      (take-append-le i (take t.k input) rest (omega (arith, length-take-le t.k input t.few)) ∙ take-take i t.k input le)
      ∙ ap (λ (md : Mode). mode_behind s md (take i input)) (sym hd.mode_is)

  pub fed_no_further : before + t.k ≤ base + line_length s
  fed_no_further =
      ⊎_elim
      (λ (over : base + line_length s < before + t.k).
      let i : ℕ = base + line_length s - 1 - before in
      let ends : block_ends s (mode_behind s a.mode (take i input)) ≡ true =
      ap (block_ends s) (sym (mode_within i (omega arith))) ∙ last_ends s T base reads_at checks_at (before + i) (omega arith) in
      let z : ◌≡◌ {A = ℕ} 0 1 = cc (t.quiet i (omega arith)).1 in
      absurd (omega arith))
      (λ z. z)
      (cases_lt (base + line_length s) (before + t.k))

  pub fed_ends : before + t.k ≡ base + line_length s → (fed s m a.mode memory input).ended ≡ true
  fed_ends at =
      let i : ℕ = t.k - 1 in
      (t.last i (omega arith)).1 ∙ ap (block_ends s) (sym (mode_within i (omega arith))) ∙ last_ends s T base reads_at checks_at (before + i) (omega arith)

  octets_within : take t.k (drop before T) ≡ take t.k input
  octets_within =
      ap (λ (xs : List ℕ). take t.k (drop before xs)) (sym whole')
      ∙ ap (take t.k) (drop_at (octets_taken calls) (take t.k input ++ rest) before refl)
      ∙ take_at (take t.k input) rest t.k (length-take-le t.k input t.few)

  within : before + t.k ≤ length T
  within =
      omega (arith, ap length whole, length-append (octets_taken calls ++ take t.k input) rest, length-append (octets_taken calls) (take t.k input), length-take-le t.k input t.few)

  pub fed_stores : length memory ≡ block_length s → Stored s m T base before memory → Stored s m T base (before + t.k) (fed s m a.mode memory input).memory
  fed_stores room st =
      let start : mode_at s T before ≡ a.mode =
      ap (mode_at s T) (sym (add-zero before)) ∙ mode_within 0 (omega arith) ∙ mode_behind_none s a.mode input in
      let is : memory_behind s m (mode_at s T before) memory (take t.k (drop before T)) ≡ (fed s m a.mode memory input).memory =
      ap (λ (md : Mode). memory_behind s m md memory (take t.k (drop before T))) start ∙ ap (memory_behind s m a.mode memory) octets_within ∙ sym t.memory_is in
      subst (Stored s m T base (before + t.k)) is
      (stored_on s m laws fits T base reads_at checks_at t.k before memory (room ∙ sym (mapping_sizes s m fits).block_is) fed_no_further within st)
