-- Stretches under the randomizer, from those of the mapping below.
use Rattle.std.proofs.Common.{◌≡◌, ℕ, ◌+◌, ◌-◌, ◌%◌, ◌<◌, ◌≤◌, List, [], ◌++◌, length, get_or, take, drop, drop-drop, length-append, sym, ap, ◌∙◌, ap₂, inl, inr, arith}
use lib.Bits.{bit_xor, xor_assoc, xor_comm}
use Rattle.std.proofs.lemmas.List.{get_or-take, get_or-drop, length-take, length-take-le, length-drop, get_or_append_left, get_or-append_right}
use Rattle.std.proofs.Math.Seq.{drop-append_seam}
use Rattle.std.proofs.lemmas.Bool.{cases_lt}
use Rattle.mapping.specs.Bulk.{stretch, LineStored}
use Rattle.mapping.specs.Meaning.{MappingMeaning, block_size}
use Rattle.mapping.specs.Randomizer.{sequence, randomized, SequenceAdded}
use Rattle.mapping.specs.Digits.{sequence_mod}
use Rattle.mapping.proofs.Stretching.{Filled, Stored}

-- what is stored at line octet i under the randomizer
abbrev pub stored_octet : MappingMeaning → List ℕ → ℕ → ℕ → ℕ
stored_octet m line start i = bit_xor (get_or line i 0) ((randomized m).mask (start + i))

-- an octet of the line with the sequence added first and the mask below then
octet_in_turn : (x y z : ℕ) → bit_xor (bit_xor x y) z ≡ bit_xor x (bit_xor z y)
octet_in_turn x y z = xor_assoc x y z ∙ ap (bit_xor x) (xor_comm y z)

-- a part stored below, behind what was stored before
pub stored_join : (m : MappingMeaning) (line part before mid after : List ℕ) (start done size : ℕ) → start + (done + size) ≤ block_size m
    → Stored m (stored_octet m line start) start before mid done
    → LineStored m part (start + done) size mid after
    → ((i : ℕ) → i < size → get_or part i 0 ≡ bit_xor (get_or line (done + i) 0) (sequence (start + done + i)))
    → Stored m (stored_octet m line start) start before after (done + size)
stored_join m line part before mid after start done size room old new octet = record {
  size = new.size ∙ old.size;
  stored = λ i l. elim (cases_lt i done) [
    | inl first ↦ new.kept (start + i) (omega arith) (inl (omega arith)) ∙ old.stored i first
    | inr last ↦
        let j = i - done in
        let place : start + done + j ≡ start + i = omega arith in
        let j-is : done + j ≡ i = omega arith in
        ap (λ p. get_or after (m.source p) 0) (sym place) ∙ new.stored j (omega arith)
        ∙ ap (λ x. bit_xor x (m.mask (start + done + j))) (octet j (omega arith))
        ∙ octet_in_turn (get_or line (done + j) 0) (sequence (start + done + j)) (m.mask (start + done + j))
        ∙ ap (λ p. bit_xor (get_or line (done + j) 0) ((randomized m).mask p)) place
        ∙ ap (λ k. bit_xor (get_or line k 0) ((randomized m).mask (start + i))) j-is
  ];
  kept = λ p l out. elim out [
    | inl first ↦ new.kept p l (inl (omega arith)) ∙ old.kept p l (inl first)
    | inr last ↦ new.kept p l (inr (omega arith)) ∙ old.kept p l (inr (omega arith))
  ];
}

-- `done` octets of the line are stored of the `wanted` ones, and the rest is still to come
pub record Begun (m : MappingMeaning) (line : List ℕ) (start wanted : ℕ) (before after rest : List ℕ) (done : ℕ) : Type 0 where
  pub few : done ≤ wanted
  pub rest_is : rest ≡ drop done (take wanted line)
  pub stored : Stored m (stored_octet m line start) start before after done

-- the next chunk of the line, randomized and stored below
pub next_chunk : (m : MappingMeaning) (line before mid after chunk part rest : List ℕ) (start wanted done stored : ℕ)
    → start < block_size m → wanted ≤ block_size m - start → wanted ≤ length line
    → Begun m line start wanted before mid (chunk ++ rest) done → SequenceAdded (start + done) chunk part → LineStored m part (start + done) stored mid after
    → Begun m line start wanted before after rest (done + stored)
next_chunk m line before mid after chunk part rest start wanted done stored below fits long old added new =
    let left = length-take wanted line in
    let over = length-drop done (take wanted line) in
    let both = length-append chunk rest in
    let same = ap length old.rest_is in
    let few = old.few in
    let within : done + length chunk ≤ wanted = omega (arith, left, over, both, same) in
    let all : stored ≡ length chunk = omega (arith, new.taken_is, added.size) in
    record {
      few = omega arith;
      rest_is = sym (drop-append_seam chunk rest) ∙ ap (drop (length chunk)) old.rest_is ∙ drop-drop (length chunk) done (take wanted line)
          ∙ ap (λ n. drop n (take wanted line)) (omega arith);
      stored = stored_join m line part before mid after start done stored (omega arith) old.stored new
          (λ i l. added.added i (omega arith) ∙ ap (λ x. bit_xor x (sequence (start + done + i)))
          (sym (get_or_append_left chunk rest 0 i (omega arith)) ∙ ap (λ xs. get_or xs i 0) old.rest_is
          ∙ get_or-drop done (take wanted line) i 0 ∙ get_or-take wanted line (done + i) 0 (omega arith)));
    }

-- with nothing left to come, and nothing stored before, the stretch is stored under the randomizer
pub begun_all : (m : MappingMeaning) (line before mid after rest : List ℕ) (start wanted none done : ℕ) → LineStored m [] start none before mid
    → wanted ≡ stretch m start (length line) → length rest ≡ 0 → Begun m line start wanted mid after rest done
    → LineStored (randomized m) line start done before after
begun_all m line before mid after rest start wanted none done first wanted_is over begun =
    let left = length-take wanted line in
    let behind = length-drop done (take wanted line) in
    let same = ap length begun.rest_is in
    let few = begun.few in
    let is_none : none ≡ 0 = omega (arith, first.taken_is) in
    record {
      taken_is = omega (arith, left, behind, same);
      size = begun.stored.size ∙ first.size;
      stored = begun.stored.stored;
      kept = λ p l out. begun.stored.kept p l out ∙ first.kept p l (elim (cases_lt p start) [ inl low ↦ inl low | inr high ↦ inr (omega arith) ]);
    }

-- the octets with the sequence added, and a run behind them
pub added_join : (start at turn n : ℕ) (before mid part : List ℕ) → turn ≡ (start + at) % 255 → at + n ≤ length mid
    → Filled (λ j. bit_xor (get_or before j 0) (sequence (start + j))) before mid at → SequenceAdded turn (take n (drop at mid)) part
    → Filled (λ j. bit_xor (get_or before j 0) (sequence (start + j))) before (take at mid ++ (part ++ drop n (drop at mid))) (at + n)
added_join start at turn n before mid part turn_is room old run =
    let first : length (take at mid) ≡ at = length-take-le at mid (omega arith) in
    let behind = length-drop at mid in
    let here : length (take n (drop at mid)) ≡ n = length-take-le n (drop at mid) (omega (arith, behind)) in
    let size : length part ≡ n = run.size ∙ here in
    let last = length-drop n (drop at mid) in
    let tail = part ++ drop n (drop at mid) in
    let tail_size = length-append part (drop n (drop at mid)) in
    let round : (i : ℕ) → sequence (turn + i) ≡ sequence (start + (at + i)) = λ i.
    let e : (turn + i) % 255 ≡ (start + (at + i)) % 255 = omega (arith, turn_is) in
    sequence_mod (turn + i) ∙ ap sequence e ∙ sym (sequence_mod (start + (at + i))) in
    record {
      size = length-append (take at mid) tail ∙ omega (arith, first, behind, size, last, tail_size, old.size);
      written = λ j l. elim (cases_lt j at) [
        | inl low ↦ get_or_append_left (take at mid) tail 0 j (omega arith) ∙ get_or-take at mid j 0 low ∙ old.written j low
        | inr high ↦
            let i = j - at in
            let is : at + i ≡ j = omega arith in
            get_or-append_right (take at mid) tail at j 0 first high
            ∙ get_or_append_left part (drop n (drop at mid)) 0 i (omega arith)
            ∙ run.added i (omega arith)
            ∙ ap₂ (λ a b. bit_xor a b)
            (get_or-take n (drop at mid) i 0 (omega arith) ∙ get_or-drop at mid i 0 ∙ ap (λ k. get_or mid k 0) is ∙ old.kept j high)
            (round i ∙ ap (λ k. sequence (start + k)) is)
      ];
      kept = λ j l.
          let is : at + (n + (j - at - n)) ≡ j = omega arith in
          get_or-append_right (take at mid) tail at j 0 first (omega arith)
          ∙ get_or-append_right part (drop n (drop at mid)) n (j - at) 0 size (omega arith)
          ∙ get_or-drop n (drop at mid) (j - at - n) 0 ∙ get_or-drop at mid (n + (j - at - n)) 0
          ∙ ap (λ k. get_or mid k 0) is ∙ old.kept j (omega arith);
    }
