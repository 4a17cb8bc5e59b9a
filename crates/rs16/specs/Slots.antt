-- A list of corrections in fixed memory: thirty-two slots, of which those behind the last correction hold zeros.
use Rattle.std.specs.Prelude.{ℕ, List, ◌≡◌, ◌≤◌, ◌-◌, ◌++◌, length, take, drop, replicate}
use Rattle.std.proofs.Common.{sym, ap, ◌∙◌, subst}
use Rattle.std.proofs.lemmas.List.{length-take-le, take-append-drop}
use Rattle.rs16.specs.declared.corrections.Correction.{Correction}

-- what a slot holds that is not used
abbrev pub unused : Correction
unused = record { place = 0; octet = 0 }

-- the slots that hold these corrections
abbrev pub slots_of : List Correction → List Correction
slots_of corrections = corrections ++ replicate (32 - length corrections) unused

-- slots of which so many are used
pub record AreSlots (slots : List Correction) (count : ℕ) : Type 0 where
  pub size : length slots ≡ 32
  pub few : count ≤ 32
  pub rest : drop count slots ≡ replicate (32 - count) unused

pub used_count : (slots : List Correction) (count : ℕ) → AreSlots slots count → length (take count slots) ≡ count
used_count slots count are = length-take-le count slots (subst (λ n. count ≤ n) (sym are.size) are.few)

pub used_slots : (slots : List Correction) (count : ℕ) → AreSlots slots count → slots_of (take count slots) ≡ slots
used_slots slots count are =
    ap (λ n. take count slots ++ replicate (32 - n) unused) (used_count slots count are)
    ∙ ap (λ ys. take count slots ++ ys) (sym are.rest)
    ∙ take-append-drop count slots
