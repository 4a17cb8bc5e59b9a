-- The modes and the memories that a receiver goes through over the octets taken.
use Rattle.std.proofs.Common.{◌≡◌, ℕ, ◌+◌, ◌<◌, true, List, [], ◌∷◌, ◌++◌, length, get_or, take, Some, refl, ap, ◌∙◌}
use Rattle.std.proofs.lemmas.List.{take_more}
use Rattle.settings.specs.declared.Settings.{Settings}
use Rattle.mapping.specs.Meaning.{MappingMeaning}
use Rattle.link.specs.Rules.{empty_window, mode_after, memory_after, report_of}
use Rattle.link.specs.declared.receiving.Mode.{Mode}
use Rattle.link.specs.declared.receiving.Mode.TheVariants.{Hunting, Reading, Checking}
use Rattle.link.specs.declared.report.Report.{Report}
use Rattle.promise.specs.Reception.{Reception, Sound}

-- the mode behind these octets
unfoldable pub mode_behind : Settings → Mode → List ℕ → Mode
mode_behind s mode [] = mode
mode_behind s mode (x ∷ xs) = mode_behind s (mode_after s mode x) xs

-- the memory behind these octets
unfoldable pub memory_behind : Settings → MappingMeaning → Mode → List ℕ → List ℕ → List ℕ
memory_behind s m mode memory [] = memory
memory_behind s m mode memory (x ∷ xs) = memory_behind s m (mode_after s mode x) (memory_after s m mode memory x) xs

-- the mode of a receiver, as made, behind the first e octets taken
abbrev pub mode_at : Settings → List ℕ → ℕ → Mode
mode_at s taken e = mode_behind s (Hunting empty_window) (take e taken)

module _ (s : Settings) where
  pub mode_behind_none : (mode : Mode) (xs : List ℕ) → mode_behind s mode (take 0 xs) ≡ mode
  unfolding mode_behind
  mode_behind_none mode xs = refl

  pub mode_behind_push : (mode : Mode) (xs : List ℕ) (x : ℕ) → mode_behind s mode (xs ++ (x ∷ [])) ≡ mode_after s (mode_behind s mode xs) x
  unfolding mode_behind
  mode_behind_push mode [] x = refl
  mode_behind_push mode (y ∷ ys) x = mode_behind_push (mode_after s mode y) ys x

  pub mode_behind_append : (mode : Mode) (xs ys : List ℕ) → mode_behind s mode (xs ++ ys) ≡ mode_behind s (mode_behind s mode xs) ys
  unfolding mode_behind
  mode_behind_append mode [] ys = refl
  mode_behind_append mode (x ∷ xs) ys = mode_behind_append (mode_after s mode x) xs ys

  pub mode_at_more : (taken : List ℕ) (e : ℕ) → e < length taken → mode_at s taken (e + 1) ≡ mode_after s (mode_at s taken e) (get_or taken e 0)
  mode_at_more taken e lt = ap (mode_behind s (Hunting empty_window)) (take_more taken e 0 lt) ∙ mode_behind_push (Hunting empty_window) (take e taken) (get_or taken e 0)

-- in the data of subframe j of a block in progress, with p octets of it read
abbrev pub InData : ℕ → ℕ → Mode → Type 0
InData j p (Hunting w) = ⊥
InData j p (Reading lock place) = (lock.count ≡ j) × (place ≡ p) × (lock.filling ≡ true)
InData j p (Checking lock w) = ⊥

-- locked, in a marker
abbrev pub InMarker : Mode → Type 0
InMarker (Hunting w) = ⊥
InMarker (Reading lock place) = ⊥
InMarker (Checking lock w) = Unit

-- Each lock and each hit that the rules give over the octets taken is sound.
abbrev pub SoundCourse : {sent taken : List ℕ} (s : Settings) → Reception sent taken → Type 0
SoundCourse {sent} {taken} s h =
    (e : ℕ) → e < length taken → (r : Report) → report_of s (mode_at s taken e) (get_or taken e 0) ≡ Some r → Sound s h r.kind (e + 1)
