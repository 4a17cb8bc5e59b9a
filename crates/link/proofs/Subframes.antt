-- A place of a block's line: in a marker, or in the data behind it.
use Rattle.std.proofs.Common.{◌≡◌, ℕ, ◌+◌, ◌-◌, ◌*◌, ◌/◌, ◌%◌, ◌<◌, ◌≤◌, min, true, List, ◌++◌, length, get_or, take, drop, None, Ok, Err, Result, sym, ap, ◌∙◌, subst, zero-add, arith, length-take}
use Rattle.std.proofs.lemmas.Nat.{div-add-mod', div_below, mod_below, mul-le}
use Rattle.std.proofs.lemmas.Bool.{lt-ltb, eq-eqb}
use Rattle.settings.specs.declared.Settings.{Settings}
use Rattle.settings.specs.Lengths.{block_length, subframes, subframe_data, period}
use Rattle.mapping.specs.Meaning.{MappingMeaning, block_size}
use Rattle.mapping.specs.Bulk.{stretch_refusal, line_octet, WriteAnswer}
use Rattle.mapping.specs.declared.fault.MappingFault.{MappingFault}
use Rattle.link.specs.Line.{line_length, block_line}
use Rattle.link.specs.Pieces.{FrontWritten, MarkerWritten, PieceWritten, from}
use Rattle.link.specs.Refusal.{mapping_fits}
use Rattle.link.proofs.Joined.{line_at_marker, line_at_data}
use Rattle.link.proofs.Lengths.{data_fills}
use Rattle.link.proofs.Pieces.{front_none, front_more}
use Rattle.link.proofs.Tables.{mapping_sizes}

-- a stretch that ends within the block is not refused, and is written whole
pub answer_is : (m : MappingMeaning) (memory : List ℕ) (start : ℕ) (before after : List ℕ) (r : Result ℕ MappingFault)
    → start + length before ≤ block_size m → start < block_size m → length memory ≡ block_size m → WriteAnswer m memory start before after r → r ≡ Ok (length before)
answer_is m memory start before after (Ok taken) fits low size (e, w) = ap Ok (omega (arith, w.taken_is))
answer_is m memory start before after (Err fault) fits low size (e, same) =
    let none : stretch_refusal m (length memory) start ≡ None = rw (lt-ltb start (block_size m) low, eq-eqb (length memory) (block_size m) size) in
    let z : ◌≡◌ {A = ℕ} 0 1 = cc in
    absurd (omega arith)

pub written_from_answer : (m : MappingMeaning) (memory : List ℕ) (start : ℕ) (before after : List ℕ) (r : Result ℕ MappingFault)
    → r ≡ Ok (length before) → WriteAnswer m memory start before after r → FrontWritten (λ i. line_octet m memory (start + i)) (length before) before after
written_from_answer m memory start before after (Ok taken) e (accepted, w) =
    let all : taken ≡ length before = cc in
    record { size = w.size; written = λ i l. w.written i (omega arith); kept = λ i l. w.kept i (omega arith) }
written_from_answer m memory start before after (Err fault) e answer = let z : ◌≡◌ {A = ℕ} 0 1 = cc in absurd (omega arith)

module _ (s : Settings) (place p : ℕ) (ep : p ≡ period s) (low : place < line_length s) where
  pub place_split : place / p * p + place % p ≡ place
  place_split = div-add-mod' place p

  pub count_below : place / p < subframes s
  count_below = subst (λ n. place / n < subframes s) (sym ep) (div_below place (period s) (subframes s) (omega arith) low)

  pub offset_below : place % p < p
  offset_below = mod_below place p (omega arith)

  -- the subframe's end is within the block's line
  subframe_end : (place / p + 1) * p ≤ line_length s
  subframe_end = subst (λ n. (place / p + 1) * n ≤ line_length s) (sym ep) (mul-le (place / p + 1) (period s) (subframes s) (period s) (omega (arith, count_below)) (omega arith))

  module _ (m : MappingMeaning) (memory : List ℕ) where
    -- place + i, as an octet of the subframe
    at_offset : (i : ℕ) → place + i ≡ place / p * period s + (place % p + i)
    at_offset i = omega (arith, place_split, ap (λ n. place / p * n) ep)

    pub piece_of_marker : (taken : ℕ) (before after : List ℕ) → place % p < 7 → MarkerWritten (place / p) (place % p) taken before after
        → PieceWritten s m memory place taken before after
    piece_of_marker taken before after in_marker w = record {
      some = λ room. omega (arith, w.taken_is);
      fits = omega (arith, w.taken_is);
      within = omega (arith, w.taken_is, place_split, subframe_end);
      front = record {
        size = w.front.size;
        written = λ i l.
            w.front.written i l
            ∙ sym (line_at_marker s m memory (place / p) (place % p + i) count_below (omega (arith, w.taken_is)))
            ∙ ap (λ n. get_or (block_line s m memory) n 0) (sym (at_offset i));
        kept = w.front.kept;
      };
    }

    module _ (d taken : ℕ) (before part : List ℕ) (r : Result ℕ MappingFault) (ed : d ≡ subframe_data s)
        (fits : mapping_fits s m ≡ true) (size : length memory ≡ block_length s) (in_data : 7 ≤ place % p)
        (taken_is : taken ≡ min (length before) (p - place % p))
        (answer : WriteAnswer m memory (place / p * d + (place % p - 7)) (take taken before) part r) where
      abbrev start : ℕ
      start = place / p * d + (place % p - 7)

      part_length : length (take taken before) ≡ taken
      part_length = simp length-take (omega arith)

      data_end : (place / p + 1) * d ≤ block_size m
      data_end =
          subst (λ n. (place / p + 1) * n ≤ block_size m) (sym ed)
          (omega (arith, mul-le (place / p + 1) (subframe_data s) (subframes s) (subframe_data s) (omega (arith, count_below)) (omega arith), data_fills s, (mapping_sizes s m fits).block_is))

      whole_answer : r ≡ Ok (length (take taken before))
      whole_answer =
          answer_is m memory start (take taken before) part r
          (omega (arith, part_length, data_end, offset_below)) (omega (arith, data_end, offset_below)) (size ∙ sym (mapping_sizes s m fits).block_is) answer

      data_written : FrontWritten (λ i. line_octet m memory (start + i)) (length (take taken before)) (take taken before) part
      data_written =
          written_from_answer m memory start (take taken before) part r whole_answer answer

      pub piece_answer : r ≡ Ok taken
      piece_answer = whole_answer ∙ ap Ok part_length

      octet_is : (i : ℕ) → i < taken → line_octet m memory (start + i) ≡ from (block_line s m memory) place i
      octet_is i l =
          let at : start + i ≡ place / p * subframe_data s + (place % p - 7 + i) = omega (arith, ap (λ n. place / p * n) ed) in
          let on : place / p * period s + (7 + (place % p - 7 + i)) ≡ place + i = omega (arith, at_offset i) in
          ap (line_octet m memory) at
          ∙ sym (line_at_data s m memory (place / p) (place % p - 7 + i) count_below (omega arith))
          ∙ ap (λ n. get_or (block_line s m memory) n 0) on

      piece_of_data : PieceWritten s m memory place taken before (part ++ drop taken before)
      piece_of_data = record {
        some = λ room. omega (arith, offset_below);
        fits = omega arith;
        within = omega (arith, place_split, subframe_end, offset_below);
        front = subst (λ n. FrontWritten (from (block_line s m memory) place) n before (part ++ drop taken before)) (zero-add taken)
            (front_more (from (block_line s m memory) place) (λ i. line_octet m memory (start + i)) 0 taken taken before before part
            (front_none (from (block_line s m memory) place) before)
            (subst (λ n. FrontWritten (λ i. line_octet m memory (start + i)) n (take taken before) part) part_length data_written)
            (λ i l. octet_is i l ∙ ap (from (block_line s m memory) place) (sym (zero-add i))) (omega arith) (omega arith));
      }

      pub piece_taken : (n : ℕ) → r ≡ Ok n → PieceWritten s m memory place n before (part ++ drop taken before)
      piece_taken n e =
          let whole = piece_answer in
          let same : taken ≡ n = cc in
          subst (λ k. PieceWritten s m memory place k before (part ++ drop taken before)) same piece_of_data
