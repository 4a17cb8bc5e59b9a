-- Feeding octet after octet: the loop of feed turn by turn, and that any chunking leads to the same end.
use Rattle.std.proofs.Common.{◌≡◌, ℕ, suc, ◌+◌, ◌<◌, ◌≤◌, Bool, true, false, List, [], ◌∷◌, ◌++◌, length, get_or, take, drop, is_some, Some, None, Option, sym, refl, ap, ◌∙◌, ap₂, arith}
use Rattle.std.proofs.lemmas.List.{drop_more, drop_all}
use Rattle.settings.specs.declared.Settings.{Settings}
use Rattle.mapping.specs.Meaning.{MappingMeaning}
use Rattle.link.specs.declared.receiving.Mode.{Mode}
use Rattle.link.specs.declared.report.Report.{Report}
use Rattle.link.specs.Rules.{mode_after, report_of, memory_after, block_ends, is_fresh}
use Rattle.link.specs.Hearing.{end_of, stop_of, Heard}
use Rattle.link.specs.FedOctets.{as_fed}
use Rattle.link.specs.declared.feeding.Stop.{Stop}
use Rattle.link.specs.Feeding.{Fed, fed_all, stop_or, fed_from, fed, behind, passed, fed_each, taken_each, AnyChunking}

-- ---- where a feed stops

pub stops_there : (report : Option Report) (ended first : Bool) (n : ℕ) (mode : Mode) (memory : List ℕ) (further : Fed) → is_some (stop_of report (end_of ended first)) ≡ true
    → stop_or report ended first n mode memory further ≡ as_fed (record { taken = n; stop = stop_of report (end_of ended first); mode = mode }) memory
stops_there (Some report) ended first n mode memory further e = refl
stops_there None true first n mode memory further e = refl
stops_there None false first n mode memory further e = let z : ◌≡◌ {A = ℕ} 0 1 = cc in absurd (omega arith)

pub goes_on_there : (report : Option Report) (ended first : Bool) (n : ℕ) (mode : Mode) (memory : List ℕ) (further : Fed) → is_some (stop_of report (end_of ended first)) ≡ false
    → stop_or report ended first n mode memory further ≡ further
goes_on_there (Some report) ended first n mode memory further e = let z : ◌≡◌ {A = ℕ} 0 1 = cc in absurd (omega arith)
goes_on_there None true first n mode memory further e = let z : ◌≡◌ {A = ℕ} 0 1 = cc in absurd (omega arith)
goes_on_there None false first n mode memory further e = refl

module _ (s : Settings) (m : MappingMeaning) where
  -- ---- the loop of feed

  -- behind the last octet
  pub fed_all_lem : (n : ℕ) (mode : Mode) (memory xs : List ℕ) (i : ℕ) → length xs ≤ i → fed_from s m n mode memory (drop i xs) ≡ fed_all n mode memory
  unfolding fed_from
  fed_all_lem n mode memory xs i h = rw (drop_all i xs h)

  -- one octet more
  pub fed_at : (n : ℕ) (mode : Mode) (memory xs : List ℕ) (i x : ℕ) → i < length xs → x ≡ get_or xs i 0
      → fed_from s m n mode memory (drop i xs)
      ≡ stop_or (report_of s mode x) (block_ends s mode) (is_fresh mode) (n + 1) (mode_after s mode x) (memory_after s m mode memory x)
      (fed_from s m (n + 1) (mode_after s mode x) (memory_after s m mode memory x) (drop (i + 1) xs))
  unfolding fed_from
  fed_at n mode memory xs i x h e = rw (drop_more xs i 0 h, ← e) refl

  -- one octet heard
  pub fed_turn : (n : ℕ) (mode : Mode) (memory xs : List ℕ) (i x : ℕ) (mode' : Mode) (stop : Option Stop) (memory' : List ℕ)
      → i < length xs → x ≡ get_or xs i 0 → Heard s m mode memory x mode' stop memory'
      → fed_from s m n mode memory (drop i xs)
      ≡ stop_or (report_of s mode x) (block_ends s mode) (is_fresh mode) (n + 1) mode' memory' (fed_from s m (n + 1) mode' memory' (drop (i + 1) xs))
  fed_turn n mode memory xs i x mode' stop memory' h e heard =
      fed_at n mode memory xs i x h e
      ∙ ap₂ (λ md mem. stop_or (report_of s mode x) (block_ends s mode) (is_fresh mode) (n + 1) md mem (fed_from s m (n + 1) md mem (drop (i + 1) xs)))
      (sym heard.mode_is) (sym heard.stored)

  -- ---- any chunking

  -- A feed with n octets taken before takes k of these, and octets behind those pass as they do after the feed.
  record Goes (n : ℕ) (mode : Mode) (memory xs : List ℕ) (f : Fed) : Type 0 where
    k : ℕ
    taken_is : f.taken ≡ n + k
    goes_on : (zs : List ℕ) → passed s m mode memory (take k xs ++ zs) ≡ behind f.report (passed s m f.mode f.memory zs)

  pass_one : (mode : Mode) (memory : List ℕ) (x : ℕ) (xs : List ℕ)
      → passed s m mode memory (x ∷ xs) ≡ behind (report_of s mode x) (passed s m (mode_after s mode x) (memory_after s m mode memory x) xs)
  unfolding passed
  pass_one mode memory x xs = refl

  goes_one : (n : ℕ) (mode : Mode) (memory : List ℕ) (x : ℕ) (xs : List ℕ) (r : Option Report) (ended first : Bool) (further : Fed)
      → report_of s mode x ≡ r → Goes (n + 1) (mode_after s mode x) (memory_after s m mode memory x) xs further
      → Goes n mode memory (x ∷ xs) (stop_or r ended first (n + 1) (mode_after s mode x) (memory_after s m mode memory x) further)
  goes_one n mode memory x xs (Some report) ended first further e h = record {
    k = 1;
    taken_is = refl;
    goes_on = λ zs. pass_one mode memory x zs ∙ ap (λ r. behind r (passed s m (mode_after s mode x) (memory_after s m mode memory x) zs)) e;
  }
  goes_one n mode memory x xs None true first further e h = record {
    k = 1;
    taken_is = refl;
    goes_on = λ zs. pass_one mode memory x zs ∙ ap (λ r. behind r (passed s m (mode_after s mode x) (memory_after s m mode memory x) zs)) e;
  }
  goes_one n mode memory x xs None false first further e h = record {
    k = suc h.k;
    taken_is = omega (arith, h.taken_is);
    goes_on = λ zs. pass_one mode memory x (take h.k xs ++ zs)
        ∙ ap (λ r. behind r (passed s m (mode_after s mode x) (memory_after s m mode memory x) (take h.k xs ++ zs))) e ∙ h.goes_on zs;
  }

  goes : (n : ℕ) (mode : Mode) (memory xs : List ℕ) → Goes n mode memory xs (fed_from s m n mode memory xs)
  unfolding fed_from
  goes n mode memory [] = record { k = 0; taken_is = omega arith; goes_on = λ zs. refl }
  goes n mode memory (x ∷ xs) =
      goes_one n mode memory x xs (report_of s mode x) (block_ends s mode) (is_fresh mode)
      (fed_from s m (n + 1) (mode_after s mode x) (memory_after s m mode memory x) xs) refl
      (goes (n + 1) (mode_after s mode x) (memory_after s m mode memory x) xs)

  -- octets behind those that a feed took
  pub fed_passed : (mode : Mode) (memory input zs : List ℕ)
      → passed s m mode memory (take (fed s m mode memory input).taken input ++ zs)
      ≡ behind (fed s m mode memory input).report (passed s m (fed s m mode memory input).mode (fed s m mode memory input).memory zs)
  fed_passed mode memory input zs =
      let g : Goes 0 mode memory input (fed s m mode memory input) = goes 0 mode memory input in
      let at : (fed s m mode memory input).taken ≡ g.k = omega (arith, g.taken_is) in
      ap (λ k. passed s m mode memory (take k input ++ zs)) at ∙ g.goes_on zs

  pub chunks_pass : (mode : Mode) (memory : List ℕ) (inputs : List (List ℕ))
      → fed_each s m mode memory inputs ≡ passed s m mode memory (taken_each s m mode memory inputs)
  unfolding fed_each taken_each passed
  chunks_pass mode memory [] = refl
  chunks_pass mode memory (input ∷ inputs) =
      let one : Fed = fed s m mode memory input in
      ap (behind one.report) (chunks_pass one.mode one.memory inputs)
      ∙ sym (fed_passed mode memory input (taken_each s m one.mode one.memory inputs))

pub any_chunking : AnyChunking
any_chunking s m mode memory inputs = chunks_pass s m mode memory inputs
