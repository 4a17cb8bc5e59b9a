-- The octets taken of a line: those before it, then those heard of it.
use Rattle.std.proofs.Common.{◌≡◌, ℕ, ◌+◌, ◌-◌, ◌*◌, List, length, get_or, ap, ◌∙◌, length-append}
use Rattle.std.proofs.lemmas.List.{get_or-append-add}
use Rattle.settings.specs.declared.Settings.{Settings}
use Rattle.link.specs.Line.{line_length}
use Rattle.promise.specs.Reception.{Reception}

module _ {sent taken : List ℕ} (h : Reception sent taken) where
  pub heard_octet : (i : ℕ) → get_or taken (length h.before + i) 0 ≡ get_or h.heard i 0
  heard_octet i = ap (λ xs. get_or xs (length h.before + i) 0) h.taken_is ∙ get_or-append-add h.before h.heard i 0

  pub length_taken : length taken ≡ length h.before + length h.heard
  length_taken = ap length h.taken_is ∙ length-append h.before h.heard

-- of the octets taken, the place of the first of block b
abbrev pub block_base : {sent taken : List ℕ} → Settings → Reception sent taken → ℕ → ℕ
block_base s h b = length h.before + (b * line_length s - h.start)
