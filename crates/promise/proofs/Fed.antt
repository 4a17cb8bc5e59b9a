-- What a feed does, told by the octets that it took.
use Rattle.std.proofs.Common.{◌≡◌, ℕ, zero, suc, ◌+◌, ◌<◌, ◌≤◌, Bool, true, false, List, [], ◌∷◌, length, get_or, take, Some, None, Option, sym, refl, ◌∙◌, subst, arith}
use Rattle.settings.specs.declared.Settings.{Settings}
use Rattle.mapping.specs.Meaning.{MappingMeaning}
use Rattle.link.specs.Rules.{mode_after, report_of, memory_after, block_ends, is_fresh}
use Rattle.link.specs.Feeding.{Fed, stop_or, fed_from}
use Rattle.link.specs.declared.receiving.Mode.{Mode}
use Rattle.link.specs.declared.receiving.Mode.TheVariants.{Hunting, Reading, Checking}
use Rattle.link.specs.declared.report.Report.{Report}
use Rattle.promise.proofs.Modes.{mode_behind, memory_behind}

-- no block ends where a marker is read
report_no_end : (s : Settings) (mode : Mode) (x : ℕ) (r : Report) → report_of s mode x ≡ Some r → block_ends s mode ≡ false
report_no_end s (Hunting w) x r e = refl
report_no_end s (Reading lock place) x r e = let z : ◌≡◌ {A = ℕ} 0 1 = cc in absurd (omega arith)
report_no_end s (Checking lock w) x r e = refl

module _ (s : Settings) (m : MappingMeaning) where
  -- With n octets taken before, a feed takes k of these: before the last of them no marker is read and no block ends, and what it says of
  -- both is what the rules say of the last.
  pub record FedFacts (n : ℕ) (mode : Mode) (memory xs : List ℕ) (f : Fed) : Type 0 where
    pub k : ℕ
    pub taken_is : f.taken ≡ n + k
    pub few : k ≤ length xs
    pub mode_is : f.mode ≡ mode_behind s mode (take k xs)
    pub memory_is : f.memory ≡ memory_behind s m mode memory (take k xs)
    pub quiet : (i : ℕ) → i + 1 < k → (report_of s (mode_behind s mode (take i xs)) (get_or xs i 0) ≡ None) × (block_ends s (mode_behind s mode (take i xs)) ≡ false)
    pub none : k ≡ 0 → (f.report ≡ None) × (f.ended ≡ false)
    pub last : (i : ℕ) → i + 1 ≡ k → (f.report ≡ report_of s (mode_behind s mode (take i xs)) (get_or xs i 0)) × (f.ended ≡ block_ends s (mode_behind s mode (take i xs)))

  module _ (n : ℕ) (mode : Mode) (memory : List ℕ) (x : ℕ) (xs : List ℕ) where
    -- one octet, which stops the feed
    stops : (f : Fed) → f.taken ≡ n + 1 → f.mode ≡ mode_after s mode x → f.memory ≡ memory_after s m mode memory x → f.report ≡ report_of s mode x
        → f.ended ≡ block_ends s mode → FedFacts n mode memory (x ∷ xs) f
    unfolding mode_behind memory_behind
    stops f t md me r e = record {
      k = 1;
      taken_is = t;
      few = omega arith;
      mode_is = md;
      memory_is = me;
      quiet = λ i h. absurd (omega arith);
      none = λ z. absurd (omega arith);
      last = λ i h.
          let z : 0 ≡ i = omega arith in
          subst (λ (v : ℕ). (f.report ≡ report_of s (mode_behind s mode (take v (x ∷ xs))) (get_or (x ∷ xs) v 0)) × (f.ended ≡ block_ends s (mode_behind s mode (take v (x ∷ xs))))) z (r, e);
    }

    -- one octet, behind which it goes on
    goes_on : (f : Fed) → report_of s mode x ≡ None → block_ends s mode ≡ false → FedFacts (n + 1) (mode_after s mode x) (memory_after s m mode memory x) xs f
        → FedFacts n mode memory (x ∷ xs) f
    unfolding mode_behind memory_behind
    goes_on f silent on t = record {
      k = suc t.k;
      taken_is = t.taken_is ∙ omega arith;
      few = omega (arith, t.few);
      mode_is = t.mode_is;
      memory_is = t.memory_is;
      quiet = at_quiet;
      none = λ z. absurd (omega arith);
      last = at_last;
    }
      where
        at_quiet : (i : ℕ) → i + 1 < suc t.k
            → (report_of s (mode_behind s mode (take i (x ∷ xs))) (get_or (x ∷ xs) i 0) ≡ None) × (block_ends s (mode_behind s mode (take i (x ∷ xs))) ≡ false)
        at_quiet zero h = (silent, on)
        at_quiet (suc i) h = t.quiet i (omega arith)

        at_last : (i : ℕ) → i + 1 ≡ suc t.k
            → (f.report ≡ report_of s (mode_behind s mode (take i (x ∷ xs))) (get_or (x ∷ xs) i 0)) × (f.ended ≡ block_ends s (mode_behind s mode (take i (x ∷ xs))))
        at_last zero h = let z = t.none (omega arith) in (z.0 ∙ sym silent, z.1 ∙ sym on)
        at_last (suc i) h = t.last i (omega arith)

    stops_or_goes_on : (r : Option Report) (ended : Bool) (further : Fed) → report_of s mode x ≡ r → block_ends s mode ≡ ended
        → FedFacts (n + 1) (mode_after s mode x) (memory_after s m mode memory x) xs further
        → FedFacts n mode memory (x ∷ xs) (stop_or r ended (is_fresh mode) (n + 1) (mode_after s mode x) (memory_after s m mode memory x) further)
    stops_or_goes_on (Some r) ended further e b t = stops _ refl refl refl (sym e) (sym (report_no_end s mode x r e))
    stops_or_goes_on None true further e b t = stops _ refl refl refl (sym e) (sym b)
    stops_or_goes_on None false further e b t = goes_on further e b t

  pub fed_facts : (n : ℕ) (mode : Mode) (memory xs : List ℕ) → FedFacts n mode memory xs (fed_from s m n mode memory xs)
  unfolding fed_from mode_behind memory_behind
  fed_facts n mode memory [] = record {
    k = 0;
    taken_is = omega arith;
    few = omega arith;
    mode_is = refl;
    memory_is = refl;
    quiet = λ i h. absurd (omega arith);
    none = λ z. (refl, refl);
    last = λ i h. absurd (omega arith);
  }
  fed_facts n mode memory (x ∷ xs) =
      stops_or_goes_on n mode memory x xs (report_of s mode x) (block_ends s mode) (fed_from s m (n + 1) (mode_after s mode x) (memory_after s m mode memory x) xs) refl refl
      (fed_facts (n + 1) (mode_after s mode x) (memory_after s m mode memory x) xs)
