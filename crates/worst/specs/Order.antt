-- How the two kinds of record are compared, and what a total order is.
use Rattle.std.specs.Prelude.{◌≡◌, ℕ, cond, ◌==◌, nat_lt}
use Rattle.std.specs.declared.cmp.Ordering.TheVariants.{Less, Equal, Greater}
use Rattle.std.specs.declared.cmp.Ordering.{Ordering}
use Rattle.std.specs.Ordering.{ordering_reverse}
use Rattle.worst.specs.declared.kinds.RowRecord.{RowRecord}
use Rattle.worst.specs.declared.kinds.MarkerRecord.{MarkerRecord}

-- a number against another: below it, the same, or above it
abbrev pub compared : ℕ → ℕ → Ordering
compared a b = cond (nat_lt a b) Less (cond (a == b) Equal Greater)

-- the pair a b against the pair c d: by the first numbers, and where these are the same by the second
abbrev pub lexical : ℕ → ℕ → ℕ → ℕ → Ordering
lexical a b c d = cond (a == c) (compared b d) (compared a c)

-- rows by the octets altered, then by their number
abbrev pub row_order : RowRecord → RowRecord → Ordering
row_order x y = lexical x.octets x.row y.octets y.row

-- markers by the digits wrong, then by their count
abbrev pub marker_order : MarkerRecord → MarkerRecord → Ordering
marker_order x y = lexical x.digits x.count y.digits y.count

-- a total order: the other way round the answer is reversed, what is below one that is below a third is below the third,
-- and none but the same record is equal
pub record TotalOrder {X : Type 0} (cmp : X → X → Ordering) : Type 0 where
  pub turned : (x y : X) → cmp x y ≡ ordering_reverse (cmp y x)
  pub passed_on : (x y z : X) → cmp x y ≡ Less → cmp y z ≡ Less → cmp x z ≡ Less
  pub same : (x y : X) → cmp x y ≡ Equal → x ≡ y
