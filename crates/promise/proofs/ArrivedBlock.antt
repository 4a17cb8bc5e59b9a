-- A block as it arrived beside the block as it was sent: octets of the memory agree just where the line arrived as sent.
use Rattle.std.proofs.Common.{◌≡◌, ℕ, ◌+◌, ◌-◌, ◌*◌, ◌/◌, ◌%◌, ◌<◌, List, length, get_or, sym, ap, ◌∙◌, subst, arith}
use lib.Bits.{bit_xor}
use Rattle.std.proofs.lemmas.Nat.{div-add-mod', div_below, mod_below, mul-add-lt}
use Rattle.std.proofs.lemmas.List.{ext_get_or}
use Rattle.settings.specs.declared.Settings.{Settings}
use Rattle.settings.specs.Lengths.{subframes, subframe_data, period, block_length}
use Rattle.code.specs.Meaning.{CodeMeaning}
use Rattle.mapping.specs.Bulk.{line_octet}
use Rattle.mapping.specs.Meaning.{MappingMeaning, MappingLaws}
use Rattle.mapping.proofs.Returning.{mask_twice}
use Rattle.link.specs.Line.{line_length, block_memory, BeginsLine}
use Rattle.link.proofs.Lengths.{subframe_data_some, line_some, data_fills}
use Rattle.link.proofs.Tables.{MappingSizes}
use Rattle.promise.specs.Reception.{Reception, Taken, AsSent, line_place}
use Rattle.promise.proofs.Found.{Arrived}
use Rattle.promise.proofs.Heard.{block_base, heard_octet}
use Rattle.promise.proofs.OnLine.{sent_block, data_sent}

-- a data place of a block, told by subframe and place behind the marker
module _ (s : Settings) (p : ℕ) (low : p < block_length s) where
  subframe_below : p / subframe_data s < subframes s
  subframe_below = div_below p (subframe_data s) (subframes s) (subframe_data_some s) (omega (arith, data_fills s))

  behind_marker_below : p % subframe_data s < subframe_data s
  behind_marker_below = mod_below p (subframe_data s) (subframe_data_some s)

  on_block_line : p / subframe_data s * period s + (7 + p % subframe_data s) < line_length s
  on_block_line =
      let small : 7 + p % subframe_data s < period s = omega (arith, behind_marker_below) in
      omega (arith, mul-add-lt (p / subframe_data s) (period s) (7 + p % subframe_data s) (subframes s) subframe_below small)

module _ {sent taken : List ℕ} (s : Settings) (code : CodeMeaning) (m : MappingMeaning) (frames : List (List ℕ)) (line : BeginsLine s code m frames sent)
    (h : Reception sent taken) (b : ℕ) (whole : Taken s h (b * line_length s) (line_length s)) where
  -- the frames fill a block that is wholly heard
  pub block_filled : b < line.blocks
  block_filled = sent_block s code m frames sent line b 0 (omega (arith, whole.1, h.on_line, line_some s))

  -- a memory that holds the block as it arrived, and a data place
  module _ (memory : List ℕ) (arrived : Arrived s m taken (block_base s h b) memory) (p : ℕ) (low : p < block_length s) where
    sent_at : get_or sent (line_place s h b p) 0 ≡ line_octet m (block_memory s line.rows b) p
    sent_at =
        data_sent s code m frames sent line b (p / subframe_data s) (p % subframe_data s) (subframe_below s p low) (behind_marker_below s p low)
        (omega (arith, whole.1, h.on_line, on_block_line s p low))
        ∙ ap (line_octet m (block_memory s line.rows b)) (div-add-mod' p (subframe_data s))

    arrived_at : get_or memory (m.source p) 0 ≡ bit_xor (get_or h.heard (line_place s h b p - h.start) 0) (m.mask p)
    arrived_at =
        let at : block_base s h b + (p / subframe_data s * period s + (7 + p % subframe_data s)) ≡ length h.before + (line_place s h b p - h.start) =
        omega (arith, whole.0) in
        subst (λ k. get_or memory (m.source k) 0 ≡ bit_xor (get_or h.heard (line_place s h b p - h.start) 0) (m.mask k)) (div-add-mod' p (subframe_data s))
        (arrived.stored (p / subframe_data s) (p % subframe_data s) (subframe_below s p low) (behind_marker_below s p low) (omega (arith, on_block_line s p low))
        ∙ ap (λ x. bit_xor x (m.mask (p / subframe_data s * subframe_data s + p % subframe_data s))) (ap (λ k. get_or taken k 0) at ∙ heard_octet h (line_place s h b p - h.start)))

    pub same_where_as_sent : AsSent s h (line_place s h b p) → get_or memory (m.source p) 0 ≡ get_or (block_memory s line.rows b) (m.source p) 0
    same_where_as_sent as_sent =
        arrived_at ∙ ap (λ x. bit_xor x (m.mask p)) (as_sent ∙ sent_at) ∙ mask_twice (get_or (block_memory s line.rows b) (m.source p) 0) (m.mask p)

    pub as_sent_where_same : get_or memory (m.source p) 0 ≡ get_or (block_memory s line.rows b) (m.source p) 0 → AsSent s h (line_place s h b p)
    as_sent_where_same same =
        sym (mask_twice (get_or h.heard (line_place s h b p - h.start) 0) (m.mask p))
        ∙ ap (λ x. bit_xor x (m.mask p)) (sym arrived_at ∙ same)
        ∙ sym sent_at

  -- a block arrives in one way
  pub one_arrival : MappingLaws m → MappingSizes s m → (x y : List ℕ) → Arrived s m taken (block_base s h b) x → Arrived s m taken (block_base s h b) y → x ≡ y
  one_arrival laws sizes x y ax ay = ext_get_or 0 x y (ax.room ∙ sym ay.room) (λ q hq.
      let from = laws.onto q (omega (arith, ax.room, sizes.block_is)) in
      let low : from.0 < block_length s = omega (arith, from.1, sizes.block_is) in
      ap (λ k. get_or x k 0) (sym from.2) ∙ arrived_at x ax from.0 low ∙ sym (arrived_at y ay from.0 low) ∙ ap (λ k. get_or y k 0) from.2)
