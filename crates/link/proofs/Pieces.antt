-- Pieces of the line written one behind the other.
use Rattle.std.proofs.Common.{◌≡◌, ℕ, ◌+◌, ◌-◌, ◌<◌, ◌≤◌, List, ◌++◌, length, get_or, take, drop, sym, refl, ap, ◌∙◌, ⊎_elim, arith, length-append, length-drop, length-take}
use borrow.Rule.Slice.PartMut.{put_mid}
use Rattle.std.proofs.lemmas.List.{ext_get_or, get_or_append_left, get_or-append_right, get_or-drop, get_or-take, length-take-le}
use Rattle.std.proofs.lemmas.Bool.{cases_lt}
use Rattle.link.specs.Pieces.{FrontWritten, from}

-- ---- a part of a list, replaced

module _ (w k : ℕ) (xs part : List ℕ) (size : length part ≡ k) (fits : w + k ≤ length xs) where
  front : length (take w xs) ≡ w
  front = length-take-le w xs (omega arith)

  pub length_put : length (put_mid w k xs part) ≡ length xs
  length_put = simp (length-append, length-take, length-drop) (omega arith)

  pub put_before : (i : ℕ) → i < w → get_or (put_mid w k xs part) i 0 ≡ get_or xs i 0
  put_before i l = get_or_append_left (take w xs) (part ++ drop k (drop w xs)) 0 i (omega (arith, front)) ∙ get_or-take w xs i 0 l

  pub put_inside : (r : ℕ) → r < k → get_or (put_mid w k xs part) (w + r) 0 ≡ get_or part r 0
  put_inside r l =
      let at : w + r - w ≡ r = omega arith in
      get_or-append_right (take w xs) (part ++ drop k (drop w xs)) w (w + r) 0 front (omega arith)
      ∙ ap (λ n. get_or (part ++ drop k (drop w xs)) n 0) at
      ∙ get_or_append_left part (drop k (drop w xs)) 0 r (omega arith)

  pub put_behind : (i : ℕ) → w + k ≤ i → get_or (put_mid w k xs part) i 0 ≡ get_or xs i 0
  put_behind i l =
      let at : w + (k + (i - w - k)) ≡ i = omega arith in
      get_or-append_right (take w xs) (part ++ drop k (drop w xs)) w i 0 front (omega arith)
      ∙ get_or-append_right part (drop k (drop w xs)) k (i - w) 0 size (omega arith)
      ∙ get_or-drop k (drop w xs) (i - w - k) 0
      ∙ get_or-drop w xs (k + (i - w - k)) 0
      ∙ ap (λ n. get_or xs n 0) at

-- ---- what is written to the front of an output

pub front_none : (octet : ℕ → ℕ) (out : List ℕ) → FrontWritten octet 0 out out
front_none octet out = record { size = refl; written = λ i l. absurd (omega arith); kept = λ i l. refl }

-- a piece more, written to a part of the output
module _ (octet piece : ℕ → ℕ) (w k taken : ℕ) (before mid after : List ℕ)
    (held : FrontWritten octet w before mid) (part : FrontWritten piece taken (take k (drop w mid)) after)
    (same : (i : ℕ) → i < taken → piece i ≡ octet (w + i)) (fits : w + k ≤ length mid) (few : taken ≤ k) where
  part_size : length (take k (drop w mid)) ≡ k
  part_size = simp (length-take, length-drop) (omega arith)

  after_size : length after ≡ k
  after_size = part.size ∙ part_size

  pub front_more : FrontWritten octet (w + taken) before (put_mid w k mid after)
  front_more = record {
    size = length_put w k mid after after_size fits ∙ held.size;
    written = λ i l. ⊎_elim
        (λ (lt : i < w). put_before w k mid after after_size fits i lt ∙ held.written i lt)
        (λ (ge : w ≤ i).
        let at : w + (i - w) ≡ i = omega arith in
        let low : i - w < taken = omega arith in
        ap (λ n. get_or (put_mid w k mid after) n 0) (sym at)
        ∙ put_inside w k mid after after_size fits (i - w) (omega arith)
        ∙ part.written (i - w) low ∙ same (i - w) low ∙ ap octet at)
        (cases_lt i w);
    kept = λ i l. ⊎_elim
        (λ (lt : i < w + k).
        let at : w + (i - w) ≡ i = omega arith in
        ap (λ n. get_or (put_mid w k mid after) n 0) (sym at)
        ∙ put_inside w k mid after after_size fits (i - w) (omega arith)
        ∙ part.kept (i - w) (omega arith)
        ∙ get_or-take k (drop w mid) (i - w) 0 (omega arith)
        ∙ get_or-drop w mid (i - w) 0
        ∙ ap (λ n. get_or mid n 0) at
        ∙ held.kept i (omega arith))
        (λ (ge : w + k ≤ i). put_behind w k mid after after_size fits i ge ∙ held.kept i (omega arith))
        (cases_lt i (w + k));
  }

-- what is written to the front, as a list
pub front_list : (xs before after : List ℕ) (place taken : ℕ) → FrontWritten (from xs place) taken before after → taken ≤ length before → place + taken ≤ length xs
    → after ≡ take taken (drop place xs) ++ drop taken before
front_list xs before after place taken h few fits =
    let cut : length (take taken (drop place xs)) ≡ taken = simp (length-take, length-drop) (omega arith) in
    ext_get_or 0 after (take taken (drop place xs) ++ drop taken before)
    (h.size ∙ sym (length-append (take taken (drop place xs)) (drop taken before) ∙ omega (arith, cut, length-drop taken before)))
    (λ i l. ⊎_elim
    (λ (lt : i < taken).
    h.written i lt
    ∙ sym (get_or-drop place xs i 0)
    ∙ sym (get_or-take taken (drop place xs) i 0 lt)
    ∙ sym (get_or_append_left (take taken (drop place xs)) (drop taken before) 0 i (omega (arith, cut))))
    (λ (ge : taken ≤ i).
    let at : taken + (i - taken) ≡ i = omega arith in
    h.kept i ge
    ∙ ap (λ n. get_or before n 0) (sym at)
    ∙ sym (get_or-drop taken before (i - taken) 0)
    ∙ sym (get_or-append_right (take taken (drop place xs)) (drop taken before) taken i 0 cut ge))
    (cases_lt i taken))
