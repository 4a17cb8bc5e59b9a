-- The octets that a window holds, and seven octets that end where a marker of the line does.
use Rattle.std.proofs.Common.{◌≡◌, ℕ, ◌+◌, ◌-◌, ◌*◌, ◌<◌, ◌≤◌, List, [], ◌∷◌, ◌++◌, length, get_or, take, sym, refl, ap, ◌∙◌, subst, arith, length-append, length-set}
use Rattle.std.proofs.lemmas.List.{get_or-append-add, get_or-take, ext_get_or, take_more, take_more_set, length-take-le, append_assoc}
use Rattle.settings.specs.declared.Settings.{Settings}
use Rattle.settings.specs.Lengths.{subframes, period}
use Rattle.marker.specs.Marker.{marker}
use Rattle.marker.proofs.Markers.{length_marker}
use Rattle.link.specs.Rules.{empty_window, with_octet, seven, latest_six}
use Rattle.link.specs.declared.receiving.Window.{Window}
use Rattle.promise.specs.Reception.{Reception, Intact, Taken}
use Rattle.promise.proofs.OnLine.{MarkersSent}
use Rattle.promise.proofs.Heard.{heard_octet, length_taken}

-- ---- what a window holds

abbrev pub held_octets : Window → List ℕ
held_octets w = take w.held w.octets

-- a window has six places, of which no more are filled
pub record SixPlaces (w : Window) : Type 0 where
  pub size : length w.octets ≡ 6
  pub few : w.held ≤ 6

pub empty_places : SixPlaces empty_window
empty_places = record { size = refl; few = omega arith }

pub places_more : (w : Window) (x : ℕ) → SixPlaces w → w.held < 6 → SixPlaces (with_octet w x)
places_more w x h lt = record { size = length-set w.octets w.held x ∙ h.size; few = omega arith }

pub held_more : (w : Window) (x : ℕ) → SixPlaces w → w.held < 6 → held_octets (with_octet w x) ≡ held_octets w ++ (x ∷ [])
held_more w x h lt = take_more_set w.octets w.held x (omega (arith, h.size))

pub seven_length : (w : Window) (x : ℕ) → length (seven w x) ≡ 7
seven_length w x = refl

pub latest_places : (w : Window) (x : ℕ) → SixPlaces (latest_six w x)
latest_places w x = record { size = refl; few = omega arith }

-- six octets, place by place
six_octets : (xs : List ℕ) → length xs ≡ 6 → take 6 xs ≡ get_or xs 0 0 ∷ get_or xs 1 0 ∷ get_or xs 2 0 ∷ get_or xs 3 0 ∷ get_or xs 4 0 ∷ get_or xs 5 0 ∷ []
six_octets [] e = absurd (omega arith)
six_octets (a ∷ []) e = absurd (omega arith)
six_octets (a ∷ b ∷ []) e = absurd (omega arith)
six_octets (a ∷ b ∷ c ∷ []) e = absurd (omega arith)
six_octets (a ∷ b ∷ c ∷ d ∷ []) e = absurd (omega arith)
six_octets (a ∷ b ∷ c ∷ d ∷ f ∷ []) e = absurd (omega arith)
six_octets (a ∷ b ∷ c ∷ d ∷ f ∷ g ∷ xs) e = refl

pub seven_held : (w : Window) (x : ℕ) → SixPlaces w → w.held ≡ 6 → held_octets w ++ (x ∷ []) ≡ seven w x
seven_held w x h six = ap (λ n. take n w.octets ++ (x ∷ [])) six ∙ ap (λ xs. xs ++ (x ∷ [])) (six_octets w.octets h.size)

-- the first of seven octets, and the latest six
pub first_and_six : (w : Window) (x : ℕ) → seven w x ≡ (get_or w.octets 0 0 ∷ []) ++ held_octets (latest_six w x)
first_and_six w x = refl

-- ---- the last octets taken

pub suffix_more : (xs pre w : List ℕ) (e : ℕ) → e < length xs → take e xs ≡ pre ++ w → take (e + 1) xs ≡ pre ++ (w ++ (get_or xs e 0 ∷ []))
suffix_more xs pre w e h k = take_more xs e 0 h ∙ ap (λ l. l ++ (get_or xs e 0 ∷ [])) k ∙ append_assoc pre w (get_or xs e 0 ∷ [])

suffix_length : (xs pre w : List ℕ) (e : ℕ) → e ≤ length xs → take e xs ≡ pre ++ w → length pre + length w ≡ e
suffix_length xs pre w e h k = sym (length-append pre w) ∙ ap length (sym k) ∙ length-take-le e xs h

suffix_octet : (xs pre w : List ℕ) (e i : ℕ) → e ≤ length xs → take e xs ≡ pre ++ w → i < length w → get_or w i 0 ≡ get_or xs (length pre + i) 0
suffix_octet xs pre w e i h k lt =
    let n = suffix_length xs pre w e h k in
    let below : length pre + i < e = omega arith in
    sym (get_or-append-add pre w i 0) ∙ ap (λ l. get_or l (length pre + i) 0) (sym k) ∙ get_or-take e xs (length pre + i) 0 below

module _ {sent taken : List ℕ} (s : Settings) (h : Reception sent taken) (markers : MarkersSent s sent) where
  -- seven octets that end where marker g of the line does, which is marker j of block b
  module _ (b j g e : ℕ) (pre w : List ℕ) (at : g ≡ b * subframes s + j) (below : j < subframes s) (le : e ≤ length taken) (suffix : take e taken ≡ pre ++ w) (seven-of : length w ≡ 7)
      (place : h.start + e ≡ length h.before + (g * period s + 7)) (from : h.start ≤ g * period s) where
    octet_as : (r : ℕ) → r < 7 → get_or w r 0 ≡ get_or h.heard (g * period s + r - h.start) 0
    octet_as r hr =
        let n = suffix_length taken pre w e le suffix in
        let here : length pre + r ≡ length h.before + (g * period s + r - h.start) = omega arith in
        suffix_octet taken pre w e r le suffix (omega arith) ∙ ap (λ i. get_or taken i 0) here ∙ heard_octet h (g * period s + r - h.start)

    sent_as : (r : ℕ) → r < 7 → get_or sent (g * period s + r) 0 ≡ get_or (marker j) r 0
    sent_as r hr =
        let inside : g * period s + r < length sent = omega (arith, length_taken h, h.on_line) in
        let inside' : (b * subframes s + j) * period s + r < length sent = subst (λ x. x * period s + r < length sent) at inside in
        ap (λ x. get_or sent (x * period s + r) 0) at ∙ markers b j r below hr inside'

    pub intact_window : Intact s h g → w ≡ marker j
    intact_window i =
        ext_get_or 0 w (marker j) (seven-of ∙ sym (length_marker j)) (λ r hr.
        let hr7 : r < 7 = omega arith in
        octet_as r hr7 ∙ i.as_sent r hr7 ∙ sent_as r hr7)

    pub window_whole : Taken s h (g * period s) 7
    window_whole = (from, omega (arith, length_taken h))
