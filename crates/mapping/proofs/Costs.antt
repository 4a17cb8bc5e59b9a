-- The cost of line places, and the fade by it.
use Rattle.std.proofs.Common.{◌≡◌, ℕ, ◌<◌, arith}
use Rattle.settings.specs.declared.Settings.{Settings}
use Rattle.mapping.specs.Cost.{CostOf, SymbolCosts}
use Rattle.mapping.specs.Interleaver.{block_source, symbol_cost, stepped_of}
use Rattle.mapping.specs.Meaning.{MappingMeaning, block_size}
use Rattle.mapping.specs.Bounds.{cut_of}
use Rattle.mapping.specs.InterleaverLemmas.{cost, cost_met, cost_of_fade, cost_past_fade}
use Rattle.mapping.specs.Laws.{changed, sources_alike, holding_alike, block_source_is}

-- a mapping with the same sources below the block's end costs the same
pub cost_alike : (m : MappingMeaning) (f g : ℕ → ℕ) (price : ℕ → ℕ) → ((p : ℕ) → p < block_size m → f p ≡ m.source p)
    → CostOf m price → CostOf (changed m f g) price
cost_alike m f g price same costs = record {
  most = λ r w start n hr hw h. rw (sources_alike m f g same r w start n h) (costs.most r w start n hr hw h);
  met = λ n h. holding_alike m f g same n (price n) (costs.met n h);
  of_fade = costs.of_fade;
  past_fade = costs.past_fade;
}

pub stepped_cost : (s : Settings) (step : ℕ) → CostOf (stepped_of s step) (symbol_cost s.depth s.rows s.symbol)
stepped_cost s step =
    let cut = cut_of s in
    record {
      most = λ r w start n hr hw _. cost s.depth s.rows s.symbol step cut r w hr hw start n;
      met = λ n h. record {
        start = 0;
        row = 0;
        word = 0;
        row_is = cut.some;
        word_is = cut.deep;
        within = omega arith;
        holds = cost_met s.depth s.rows s.symbol step cut n;
      };
      of_fade = cost_of_fade s.depth s.rows s.symbol step cut;
      past_fade = cost_past_fade s.depth s.rows s.symbol step cut;
    }

pub symbol_costs : (s : Settings) → SymbolCosts s
symbol_costs s = record {
  of_block = cost_alike (stepped_of s 0) (block_source s.depth s.rows s.symbol) (λ _. 0) _
      (block_source_is s.depth s.rows s.symbol (cut_of s)) (stepped_cost s 0);
  of_stepped = stepped_cost s;
}
