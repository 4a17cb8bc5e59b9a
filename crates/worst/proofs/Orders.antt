-- Pairs of numbers, compared by the first and then by the second, are totally ordered; so are rows and markers.
use Rattle.std.proofs.Common.{◌≡◌, ℕ, Ordering, Less, Equal, ap, ◌∙◌, arith}
use Rattle.std.proofs.lemmas.Bool.Decides.{nat_tests}
use Rattle.std.specs.Cmp.{IsTotalOrder}
use Rattle.std.specs.Ordering.{ordering_reverse, ordering_then, nat_cmp}
use Rattle.worst.specs.Order.{lexical, row_order, marker_order, TotalOrder}
use Rattle.worst.specs.declared.kinds.RowRecord.{RowRecord}
use Rattle.worst.specs.declared.kinds.MarkerRecord.{MarkerRecord}

pub lexical_turned : (a b c d : ℕ) → lexical a b c d ≡ ordering_reverse (lexical c d a b)
lexical_turned a b c d = grind (arith, nat_tests)

pub lexical_passed_on : (a b c d e f : ℕ) → lexical a b c d ≡ Less → lexical c d e f ≡ Less → lexical a b e f ≡ Less
lexical_passed_on a b c d e f p q = grind (arith, nat_tests)

pub lexical_same : (a b c d : ℕ) → lexical a b c d ≡ Equal → (a ≡ c) × (b ≡ d)
lexical_same a b c d p = (grind (arith, nat_tests), grind (arith, nat_tests))

row_of : ℕ → ℕ → RowRecord
row_of octets row = record { octets = octets; row = row }

marker_of : ℕ → ℕ → MarkerRecord
marker_of digits count = record { digits = digits; count = count }

pub rows_total : TotalOrder row_order
unfolding row_of
rows_total =
    record {
      turned = λ x y. lexical_turned x.octets x.row y.octets y.row;
      passed_on = λ x y z. lexical_passed_on x.octets x.row y.octets y.row z.octets z.row;
      same = λ x y p.
          let e = lexical_same x.octets x.row y.octets y.row p in
          ap (λ t. row_of t x.row) e.0 ∙ ap (λ t. row_of y.octets t) e.1;
    }

pub markers_total : TotalOrder marker_order
unfolding marker_of
markers_total =
    record {
      turned = λ x y. lexical_turned x.digits x.count y.digits y.count;
      passed_on = λ x y z. lexical_passed_on x.digits x.count y.digits y.count z.digits z.count;
      same = λ x y p.
          let e = lexical_same x.digits x.count y.digits y.count p in
          ap (λ t. marker_of t x.count) e.0 ∙ ap (λ t. marker_of y.digits t) e.1;
    }

-- a total order is lawful as std has it
abbrev pub lawful : {X : Type 0} (cmp : X → X → Ordering) → TotalOrder cmp → IsTotalOrder cmp
lawful cmp t = record { antisymm = t.turned; trans = t.passed_on; congr = λ x y z e. ap (λ w. cmp w z) (t.same x y e) }

-- ---- the orders that are derived, field by field, are these

derived : (a b c d : ℕ) → ordering_then (nat_cmp a c) (nat_cmp b d) ≡ lexical a b c d
derived a b c d = grind (arith, nat_tests)

pub rows_derived : ◌≡◌ {A = RowRecord → RowRecord → Ordering} (λ x y. ordering_then (nat_cmp x.octets y.octets) (nat_cmp x.row y.row)) row_order
rows_derived = λ i x y. derived x.octets x.row y.octets y.row i

pub markers_derived : ◌≡◌ {A = MarkerRecord → MarkerRecord → Ordering} (λ x y. ordering_then (nat_cmp x.digits y.digits) (nat_cmp x.count y.count)) marker_order
markers_derived = λ i x y. derived x.digits x.count y.digits y.count i
