-- The laws of a mapping hold of any other that has the same sources below the block's end, and octets for masks.
use Rattle.std.specs.Prelude.{◌≡◌, ℕ, ◌+◌, ◌*◌, ◌/◌, ◌%◌, ◌<◌, ◌≤◌, refl}
use Rattle.std.proofs.Common.{ap, sym, ◌∙◌, mod-eq_of_lt, arith, lit<}
use Rattle.octets.proofs.Counting.{count_alike}
use Rattle.mapping.specs.Meaning.{MappingMeaning, MappingLaws, Holding, of_row_word, sources_of, block_size}
use Rattle.settings.specs.declared.Settings.{Settings}
use Rattle.settings.specs.Lengths.{block_length}
use Rattle.mapping.specs.Interleaver.{block_source, stepped_source, block, stepped, interleaved, interleaved_source, step_of}
use Rattle.mapping.specs.declared.interleaver.Interleaver.{Interleaver}
use Rattle.mapping.specs.declared.interleaver.Interleaver.TheVariants.{Block, Stepped}
use Rattle.mapping.specs.Bounds.{cut_of}
use Rattle.mapping.specs.InterleaverLemmas.{Cut, round_lt, stepped_laws}

-- the mapping with other sources and masks
abbrev pub changed : MappingMeaning → (ℕ → ℕ) → (ℕ → ℕ) → MappingMeaning
changed m source mask = record { depth = m.depth; rows = m.rows; source = source; mask = mask; fade = m.fade }

-- the same sources belong to a word
pub sources_alike : (m : MappingMeaning) (f g : ℕ → ℕ) → ((p : ℕ) → p < block_size m → f p ≡ m.source p)
    → (r w a n : ℕ) → a + n ≤ block_size m → sources_of (changed m f g) r w a n ≡ sources_of m r w a n
sources_alike m f g same r w a n h =
    count_alike n (λ i. of_row_word m.depth r w (f (a + i))) (λ i. of_row_word m.depth r w (m.source (a + i)))
    (λ i l. ap (of_row_word m.depth r w) (same (a + i) (omega arith)))

pub holding_alike : (m : MappingMeaning) (f g : ℕ → ℕ) → ((p : ℕ) → p < block_size m → f p ≡ m.source p)
    → (n held : ℕ) → Holding m n held → Holding (changed m f g) n held
holding_alike m f g same n held x = record {
  start = x.start;
  row = x.row;
  word = x.word;
  row_is = x.row_is;
  word_is = x.word_is;
  within = x.within;
  holds = sources_alike m f g same x.row x.word x.start n x.within ∙ x.holds;
}

pub laws_alike : (m : MappingMeaning) (f g : ℕ → ℕ) → ((p : ℕ) → p < block_size m → f p ≡ m.source p) → ((p : ℕ) → p < block_size m → g p < 256)
    → MappingLaws m → MappingLaws (changed m f g)
laws_alike m f g same octet laws = record {
  inside = λ p h. rw (same p h) (laws.inside p h);
  once = λ p q hp hq e. laws.once p q hp hq (sym (same p hp) ∙ e ∙ same q hq);
  onto = λ q h. let x = laws.onto q h in (x.0, x.1, same x.0 x.1 ∙ x.2);
  octet = octet;
  spread = λ t a r w ht hr hw h. rw (sources_alike m f g same r w a (m.fade t) h) (laws.spread t a r w ht hr hw h);
  tight = λ t ht. holding_alike m f g same (m.fade t + 1) (t + 1) (laws.tight t ht);
}

-- a step of 0 is no step
pub block_source_is : (I N k : ℕ) → Cut I N k → (p : ℕ) → p < 255 * I * N → block_source I N k p ≡ stepped_source I N k 0 p
unfolding block_source stepped_source
block_source_is I N k cut p h =
    let e : p / k / N + p / k % N * 0 ≡ p / k / N = omega arith in
    rw (e, mod-eq_of_lt (round_lt I N k 0 cut p h))

pub block_laws : (I N k : ℕ) → Cut I N k → MappingLaws (block I N k)
block_laws I N k cut =
    laws_alike (stepped I N k 0) (block_source I N k) (λ _. 0) (block_source_is I N k cut) (λ p h. lit< tt) (stepped_laws I N k 0 cut)

-- every interleaver's sources are those of its step
pub interleaved_source_is : (s : Settings) (i : Interleaver) (p : ℕ) → p < block_length s
    → interleaved_source s i p ≡ stepped_source s.depth s.rows s.symbol (step_of i) p
interleaved_source_is s Block p h = block_source_is s.depth s.rows s.symbol (cut_of s) p h
interleaved_source_is s (Stepped step) p h = refl

pub interleaved_laws : (s : Settings) (i : Interleaver) → MappingLaws (interleaved s i)
interleaved_laws s Block = block_laws s.depth s.rows s.symbol (cut_of s)
interleaved_laws s (Stepped step) = stepped_laws s.depth s.rows s.symbol step (cut_of s)
