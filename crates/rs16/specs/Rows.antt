-- Method: thirty-two octets as one wide number, octet 0 the least significant, and that as four numbers of 64 digits.
use Rattle.std.specs.Prelude.{ℕ, ◌+◌, ◌*◌, ◌/◌, ◌%◌, ◌^◌, List, [], ◌∷◌, slice_index}
use Rattle.octets.specs.Counting.{tabulate}
use Rattle.rs16.specs.Division.{generator, multiple}
use Rattle.rs16.specs.declared.rows.Row.{Row}

-- octet k of a number
abbrev pub octet_at : ℕ → ℕ → ℕ
octet_at n k = n / 2 ^ (8 * k) % 256

-- the number that has these octets, the first the least significant
abbrev pub packed : List ℕ → ℕ
packed [] = 0
packed (x ∷ xs) = x + 256 * packed xs

abbrev pub wide : Row → ℕ
wide r = r.a + 2 ^ 64 * (r.b + 2 ^ 64 * (r.c + 2 ^ 64 * r.d))

-- the octets of a row
unfoldable pub octets_of : Row → List ℕ
octets_of r = tabulate 32 (octet_at (wide r))

-- a line octet times each of the generator's coefficients
unfoldable pub multiples : ℕ → List ℕ
multiples f = tabulate 32 (λ k. multiple f (slice_index generator k))

-- eight of them, from 8 * q on, as one number
abbrev pub multiples_part : ℕ → ℕ → ℕ
multiples_part f q = packed (tabulate 8 (λ e. multiple f (slice_index generator (8 * q + e))))
