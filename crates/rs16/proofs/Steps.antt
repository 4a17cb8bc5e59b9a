-- The steps of the division: one octet, and a list of them.
use Rattle.std.proofs.Common.{◌≡◌, ℕ, zero, suc, ◌+◌, ◌<◌, ◌≤◌, List, [], ◌∷◌, length, get_or, drop, sym, refl, ap, ◌∙◌, subst, le_of_suc-le-suc, not-suc-le-zero, one-add, arith}
use Rattle.std.proofs.lemmas.List.{drop_more, drop_all, get_or-drop}
use Rattle.rs16.specs.Field.{◌⊕◌}
use Rattle.rs16.specs.Division.{generator, multiple, plus_multiple, divide_step, remainder}
use Rattle.rs16.specs.Remainders.{generator_length}

-- ---- one step of the division

plus_multiple_at : (f : ℕ) (g r : List ℕ) (k : ℕ) → k < length g → get_or (plus_multiple f g r) k 0 ≡ get_or r k 0 ⊕ multiple f (get_or g k 0)
unfolding plus_multiple
plus_multiple_at f [] r k l = absurd (not-suc-le-zero l)
plus_multiple_at f (c ∷ g) r zero l = refl
plus_multiple_at f (c ∷ g) r (suc k) l =
    plus_multiple_at f g (drop 1 r) k (le_of_suc-le-suc l)
    ∙ ap (λ z. z ⊕ multiple f (get_or g k 0)) (get_or-drop 1 r k 0 ∙ ap (λ n. get_or r n 0) (one-add k))

pub divide_step_at : (o : ℕ) (r : List ℕ) (k : ℕ) → k < 32 → get_or (divide_step o r) k 0 ≡ get_or r (k + 1) 0 ⊕ multiple (get_or r 0 0 ⊕ o) (get_or generator k 0)
unfolding divide_step
divide_step_at o r k l =
    plus_multiple_at (get_or r 0 0 ⊕ o) generator (drop 1 r) k (subst (λ n. k < n) (sym generator_length) l)
    ∙ ap (λ z. z ⊕ multiple (get_or r 0 0 ⊕ o) (get_or generator k 0)) (get_or-drop 1 r k 0 ∙ ap (λ n. get_or r n 0) (omega arith))

-- ---- the division of a list

pub remainder_more : (r w : List ℕ) (i : ℕ) → i < length w → remainder (divide_step (get_or w i 0) r) (drop (i + 1) w) ≡ remainder r (drop i w)
unfolding remainder
remainder_more r w i l = sym (ap (remainder r) (drop_more w i 0 l))

pub remainder_all : (r w : List ℕ) (i : ℕ) → length w ≤ i → remainder r (drop i w) ≡ r
unfolding remainder
remainder_all r w i l = ap (remainder r) (drop_all i w l)
