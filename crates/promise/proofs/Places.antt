-- Places of the line, told by block, subframe and what is behind its marker.
use Rattle.std.proofs.Common.{◌≡◌, ℕ, ◌+◌, ◌*◌, ◌<◌, ◌≤◌, sym, ⊎_elim, mul_assoc, add-mul, arith}
use Rattle.std.proofs.lemmas.Nat.{mul-le}
use Rattle.std.proofs.lemmas.Bool.{cases_lt}

pub no_later : (a b n r q : ℕ) → a * n + r ≡ b * n + q → q < n → a ≤ b
no_later a b n r q e lt =
    ⊎_elim (λ (more : b < a). absurd (omega (arith, mul-le (b + 1) n a n (omega arith) (omega arith)))) (λ z. z) (cases_lt b a)

-- one place is behind one marker
pub same_marker : (a b n r q : ℕ) → a * n + r ≡ b * n + q → r < n → q < n → a ≡ b
same_marker a b n r q e lr lq = omega (arith, no_later a b n r q e lq, no_later b a n q r (sym e) lr)

-- subframe j of block b, of S to a block and P octets each
pub subframe_place : (b S j P r : ℕ) → (b * S + j) * P + r ≡ b * (S * P) + (j * P + r)
subframe_place b S j P r = omega (arith, add-mul (b * S) j P, mul_assoc b S P)
