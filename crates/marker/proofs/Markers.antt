-- A marker is read back as it was written, and is told from all other octets.
use Rattle.std.proofs.Common.{◌≡◌, ℕ, zero, suc, ◌/◌, ◌%◌, ◌<◌, Bool, true, false, cond, ◌&&◌, eqb, List, length, get_or, Some, None, refl, ap, ◌∙◌, arith}
use lib.Count.{ones, ones_in, ones_step}
use Rattle.std.proofs.lemmas.Nat.{div-add-mod', mod_below}
use Rattle.std.proofs.lemmas.Bool.{eq-eqb, eqb-true, and_parts}
use Rattle.octets.specs.Octets.{Octets}
use Rattle.octets.proofs.Octets.{octets_same}
use Rattle.marker.specs.Marker.{count_limit, count_field, marker}
use Rattle.marker.specs.Reading.{field_read, count_read, sync_is_right, parity_is_right, first_cause}
use Rattle.marker.specs.Theorems.{Figures, ReadBack}
use Rattle.marker.specs.declared.cause.Cause.TheVariants.{SyncWord, Parity, Count}

parity_digit : (c : ℕ) → ones c % 2 < 2
parity_digit c = mod_below (ones c) 2 (omega arith)

pub field_below : (c : ℕ) → c < count_limit → count_field c < 16777216
field_below c h = omega (arith, parity_digit c)

pub length_marker : (c : ℕ) → length (marker c) ≡ 7
unfolding marker
length_marker c = refl

pub marker_octets : (c : ℕ) → c < count_limit → Octets 7 (marker c)
unfolding marker
marker_octets c h = record { size = length_marker c; octet = at }
  where
    at : (j : ℕ) → j < 7 → get_or (marker c) j 0 < 256
    at zero l = omega arith
    at (suc zero) l = omega arith
    at (suc (suc zero)) l = omega arith
    at (suc (suc (suc zero))) l = omega arith
    at (suc (suc (suc (suc zero)))) l = let f = field_below c h in omega arith
    at (suc (suc (suc (suc (suc zero))))) l = mod_below (count_field c / 256) 256 (omega arith)
    at (suc (suc (suc (suc (suc (suc zero)))))) l = mod_below (count_field c) 256 (omega arith)
    at (suc (suc (suc (suc (suc (suc (suc j))))))) l = absurd (omega arith)

-- ---- what a marker says

pub field_of_marker : (c : ℕ) → field_read (marker c) ≡ count_field c
unfolding marker
field_of_marker c = omega (arith, div-add-mod' (count_field c) 65536, div-add-mod' (count_field c) 256)

half_of_field : (c : ℕ) → count_field c / 2 ≡ c
half_of_field c = omega (arith, parity_digit c)

pub count_of_marker : (c : ℕ) → count_read (marker c) ≡ c
count_of_marker c = ap (λ (n : ℕ). n / 2) (field_of_marker c) ∙ half_of_field c

ones_of_field : (c : ℕ) → ones (count_field c) % 2 ≡ 0
ones_of_field c =
    let low : count_field c % 2 ≡ ones c % 2 = omega (arith, parity_digit c) in
    let high : ones (count_field c / 2) ≡ ones c = ap ones (half_of_field c) in
    omega (arith, ones_step (count_field c))

pub sync_of_marker : (c : ℕ) → sync_is_right (marker c) ≡ true
unfolding marker
sync_of_marker c = refl

pub parity_of_marker : (c : ℕ) → parity_is_right (marker c) ≡ true
parity_of_marker c = eq-eqb (ones (field_read (marker c)) % 2) 0 (ap (λ (n : ℕ). ones n % 2) (field_of_marker c) ∙ ones_of_field c)

pub reads_back : (c : ℕ) → c < count_limit → ReadBack c
reads_back c h = record {
  octets = marker_octets c h;
  read = rw (length_marker c, count_of_marker c, sync_of_marker c, parity_of_marker c);
}

-- ---- octets that have no cause of a miss

-- 24 digits whose ones are even are those of the count that they begin with
field_from : (n : ℕ) → ones n % 2 ≡ 0 → n ≡ count_field (n / 2)
field_from n e = omega (arith, ones_step n)

module _ (c : ℕ) (xs : List ℕ) (h : c < count_limit) (all : Octets 7 xs) where
  pub hit_from_parts : sync_is_right xs ≡ true → parity_is_right xs ≡ true → count_read xs ≡ c → xs ≡ marker c
  unfolding marker
  hit_from_parts sync parity count = octets_same 7 xs (marker c) all (marker_octets c h) at
    where
      last_two : Bool
      last_two = eqb (get_or xs 2 0) 0xFC && eqb (get_or xs 3 0) 0x1D

      s1 : (eqb (get_or xs 0 0) 0x1A ≡ true) × ((eqb (get_or xs 1 0) 0xCF && last_two) ≡ true)
      s1 = and_parts (eqb (get_or xs 0 0) 0x1A) (eqb (get_or xs 1 0) 0xCF && last_two) sync

      s2 : (eqb (get_or xs 1 0) 0xCF ≡ true) × (last_two ≡ true)
      s2 = and_parts (eqb (get_or xs 1 0) 0xCF) last_two s1.1

      s3 : (eqb (get_or xs 2 0) 0xFC ≡ true) × (eqb (get_or xs 3 0) 0x1D ≡ true)
      s3 = and_parts (eqb (get_or xs 2 0) 0xFC) (eqb (get_or xs 3 0) 0x1D) s2.1

      whole : field_read xs ≡ count_field c
      whole = field_from (field_read xs) (eqb-true (ones (field_read xs) % 2) 0 parity) ∙ ap count_field count

      at : (j : ℕ) → j < 7 → get_or xs j 0 ≡ get_or (marker c) j 0
      at zero l = eqb-true (get_or xs 0 0) 0x1A s1.0
      at (suc zero) l = eqb-true (get_or xs 1 0) 0xCF s2.0
      at (suc (suc zero)) l = eqb-true (get_or xs 2 0) 0xFC s3.0
      at (suc (suc (suc zero))) l = eqb-true (get_or xs 3 0) 0x1D s3.1
      at (suc (suc (suc (suc zero)))) l = omega (arith, whole, all.octet 5 (omega arith), all.octet 6 (omega arith))
      at (suc (suc (suc (suc (suc zero))))) l = omega (arith, whole, all.octet 5 (omega arith), all.octet 6 (omega arith))
      at (suc (suc (suc (suc (suc (suc zero)))))) l = omega (arith, whole, all.octet 5 (omega arith), all.octet 6 (omega arith))
      at (suc (suc (suc (suc (suc (suc (suc j))))))) l = absurd (omega arith)

  pub hit_from_cause : first_cause c xs ≡ None → xs ≡ marker c
  hit_from_cause e = by (sync_is_right xs) (parity_is_right xs) (eqb (count_read xs) c) refl refl refl e
    where
      by : (s p n : Bool) → sync_is_right xs ≡ s → parity_is_right xs ≡ p → eqb (count_read xs) c ≡ n
          → cond s (cond p (cond n None (Some Count)) (Some Parity)) (Some SyncWord) ≡ None → xs ≡ marker c
      by true true true s p n e = hit_from_parts s p (eqb-true (count_read xs) c n)
      by true true false s p n e = let z : ◌≡◌ {A = ℕ} 0 1 = cc in absurd (omega arith)
      by true false n s p n' e = let z : ◌≡◌ {A = ℕ} 0 1 = cc in absurd (omega arith)
      by false p n s p' n' e = let z : ◌≡◌ {A = ℕ} 0 1 = cc in absurd (omega arith)

  pub cause_of_hit : xs ≡ marker c → first_cause c xs ≡ None
  cause_of_hit e =
      ap (first_cause c) e ∙ rw (sync_of_marker c, parity_of_marker c, eq-eqb (count_read (marker c)) c (count_of_marker c))

-- ---- two markers written out

pub figures : Figures
unfolding marker ones ones_in
figures = record { count_1 = refl; count_4095 = refl }
