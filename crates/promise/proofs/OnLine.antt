-- The octets of the line sent, told by block, subframe and place.
use Rattle.std.proofs.Common.{◌≡◌, ℕ, ◌+◌, ◌*◌, ◌<◌, ◌≤◌, List, length, get_or, sym, ap, ◌∙◌, subst, ⊎_elim, arith, length-append}
use Rattle.std.proofs.lemmas.Nat.{mul-add-lt, mul-le}
use Rattle.std.proofs.lemmas.List.{get_or_append_left}
use Rattle.std.proofs.lemmas.Bool.{cases_lt}
use Rattle.settings.specs.declared.Settings.{Settings}
use Rattle.settings.specs.Lengths.{subframes, subframe_data, period}
use Rattle.code.specs.Meaning.{CodeMeaning}
use Rattle.mapping.specs.Bulk.{line_octet}
use Rattle.mapping.specs.Meaning.{MappingMeaning}
use Rattle.marker.specs.Marker.{marker}
use Rattle.link.specs.Line.{line_length, block_line, block_memory, BeginsLine}
use Rattle.link.proofs.Joined.{length_joined, get_or_joined, length_block_line, line_at_marker, line_at_data}
use Rattle.promise.proofs.Places.{subframe_place}

-- The line sent has its markers in their places.
abbrev pub MarkersSent : Settings → List ℕ → Type 0
MarkersSent s sent =
    (b j r : ℕ) → j < subframes s → r < 7 → (b * subframes s + j) * period s + r < length sent
    → get_or sent ((b * subframes s + j) * period s + r) 0 ≡ get_or (marker j) r 0

module _ (s : Settings) (code : CodeMeaning) (m : MappingMeaning) (frames : List (List ℕ)) (sent : List ℕ) (line : BeginsLine s code m frames sent) where
  -- block b on the line
  abbrev block : ℕ → List ℕ
  block b = block_line s m (block_memory s line.rows b)

  block_sized : (b : ℕ) → length (block b) ≡ line_length s
  block_sized b = length_block_line s m (block_memory s line.rows b)

  sent_short : length sent ≤ line.blocks * line_length s
  sent_short = omega (arith, length_joined (line_length s) block block_sized line.blocks, ap length line.beginning, length-append sent line.rest)

  -- a place of the line sent is one of a block that the frames fill
  pub sent_block : (b q : ℕ) → b * line_length s + q < length sent → b < line.blocks
  sent_block b q h =
      ⊎_elim (λ z. z)
      (λ (past : line.blocks ≤ b). absurd (omega (arith, sent_short, mul-le line.blocks (line_length s) b (line_length s) past (omega arith))))
      (cases_lt b line.blocks)

  pub sent_octet : (b q : ℕ) → q < line_length s → b * line_length s + q < length sent
      → get_or sent (b * line_length s + q) 0 ≡ get_or (block_line s m (block_memory s line.rows b)) q 0
  sent_octet b q low h =
      sym (get_or_append_left sent line.rest 0 (b * line_length s + q) h)
      ∙ ap (λ xs. get_or xs (b * line_length s + q) 0) line.beginning
      ∙ get_or_joined (line_length s) block block_sized line.blocks b q 0 (sent_block b q h) low

  pub markers_sent : MarkersSent s sent
  markers_sent b j r hj hr h =
      let at = subframe_place b (subframes s) j (period s) r in
      let inside : j * period s + r < line_length s = omega (arith, mul-add-lt j (period s) r (subframes s) hj (omega arith)) in
      let h' : b * line_length s + (j * period s + r) < length sent = subst (λ k. k < length sent) at h in
      ap (λ k. get_or sent k 0) at
      ∙ sent_octet b (j * period s + r) inside h'
      ∙ line_at_marker s m (block_memory s line.rows b) j r hj hr

  pub data_sent : (b j r : ℕ) → j < subframes s → r < subframe_data s → b * line_length s + (j * period s + (7 + r)) < length sent
      → get_or sent (b * line_length s + (j * period s + (7 + r))) 0 ≡ line_octet m (block_memory s line.rows b) (j * subframe_data s + r)
  data_sent b j r hj hr h =
      let inside : j * period s + (7 + r) < line_length s = omega (arith, mul-add-lt j (period s) (7 + r) (subframes s) hj (omega arith)) in
      sent_octet b (j * period s + (7 + r)) inside h ∙ line_at_data s m (block_memory s line.rows b) j r hj hr
