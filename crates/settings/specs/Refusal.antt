-- When a settings record is refused, and by which number.
use Rattle.std.specs.Prelude.{ℕ, cond, Some, None, Option}
use Rattle.settings.specs.Allowed.{depth_is_allowed, rows_are_allowed, symbol_is_allowed, subframe_rows_are_allowed, miss_limit_is_allowed}
use Rattle.settings.specs.declared.fault.SettingsFault.{SettingsFault}
use Rattle.settings.specs.declared.fault.SettingsFault.TheVariants.{Depth, Rows, Symbol, SubframeRows, MissLimit}

abbrev pub number : SettingsFault → ℕ
number Depth = 1
number Rows = 2
number Symbol = 3
number SubframeRows = 4
number MissLimit = 5

-- the first check that fails
abbrev pub refusal : ℕ → ℕ → ℕ → ℕ → ℕ → Option SettingsFault
refusal depth rows symbol subframe_rows miss_limit =
    cond (depth_is_allowed depth) (
    cond (rows_are_allowed rows) (
    cond (symbol_is_allowed depth symbol) (
    cond (subframe_rows_are_allowed rows subframe_rows) (
    cond (miss_limit_is_allowed miss_limit) None (Some MissLimit)
    ) (Some SubframeRows)
    ) (Some Symbol)
    ) (Some Rows)
    ) (Some Depth)
