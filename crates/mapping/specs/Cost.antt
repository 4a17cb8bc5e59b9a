-- What a run of line places costs: the most octets of one word that it can hold.
use Rattle.std.specs.Prelude.{◌≡◌, ℕ, ◌+◌, ◌<◌, ◌≤◌}
use Rattle.settings.specs.declared.Settings.{Settings}
use Rattle.mapping.specs.Interleaver.{symbol_cost, block_of, stepped_of}
use Rattle.mapping.specs.Meaning.{MappingMeaning, Holding, sources_of, block_size}

-- No n places in a row hold more octets of one word than `cost n`, and some n places in a row hold so many. The fade for t is the
-- longest run that costs t.
pub record CostOf (m : MappingMeaning) (cost : ℕ → ℕ) : Type 0 where
  pub most : (r w start n : ℕ) → r < m.rows → w < m.depth → start + n ≤ block_size m → sources_of m r w start n ≤ cost n
  pub met : (n : ℕ) → n ≤ block_size m → Holding m n (cost n)
  pub of_fade : (t : ℕ) → cost (m.fade t) ≡ t
  pub past_fade : (t : ℕ) → cost (m.fade t + 1) ≡ t + 1

-- the block mapping and every stepped mapping cost the same
pub record SymbolCosts (s : Settings) : Type 0 where
  pub of_block : CostOf (block_of s) (symbol_cost s.depth s.rows s.symbol)
  pub of_stepped : (step : ℕ) → CostOf (stepped_of s step) (symbol_cost s.depth s.rows s.symbol)
