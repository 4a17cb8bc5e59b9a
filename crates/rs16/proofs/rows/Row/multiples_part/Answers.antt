use Rattle.std.proofs.Common.{◌≡◌, ℕ, ◌+◌, ◌*◌, ◌/◌, ◌%◌, ◌<◌, ◌∙◌, ap₂, arith, rules}
use Rattle.std.proofs.lemmas.List.FromFn.{get_or-map-range_with_len}
use Rattle.rs16.specs.DualBasis.{combine, line_octet, element}
use Rattle.rs16.specs.Division.{generator}
use Rattle.rs16.specs.Field.{mul, mul_digits, times_alpha}
use Rattle.rs16.specs.Rows.{multiples_part}
use Rattle.rs16.proofs.rows.Row.multiples_part.Goals as goal

row : (f q : ℕ) → q < 4 → (4 * f + q) / 4 ≡ f
row f q l = omega arith

column : (f q : ℕ) → q < 4 → (4 * f + q) % 4 ≡ q
column f q l = omega arith

-- entry i of the table is part i % 4 of the multiples of line octet i / 4
pub returns : goal.returns
unfolding mul mul_digits times_alpha generator line_octet element combine
returns c =
    let place : ℕ = 4 * c.args.octet + c.args.q in
    get_or-map-range_with_len (λ i. multiples_part (i / 4) (i % 4)) 0 1024 place place 0 (search rules) (omega arith)
    ∙ ap₂ multiples_part (row c.args.octet c.args.q c.requires) (column c.args.octet c.args.q c.requires)
