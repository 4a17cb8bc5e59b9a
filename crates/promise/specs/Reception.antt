-- What a receiver took of the line sent, and which blocks of it are covered.
use Rattle.std.specs.Prelude.{◌≡◌, ℕ, ◌+◌, ◌-◌, ◌*◌, ◌/◌, ◌%◌, ◌<◌, ◌≤◌, List, [], ◌∷◌, ◌++◌, length, slice_index}
use Rattle.settings.specs.declared.Settings.{Settings}
use Rattle.settings.specs.Lengths.{subframes, subframe_data, marker_length, period, block_length}
use Rattle.link.specs.Line.{line_length}
use Rattle.link.specs.declared.report.Kind.{Kind}
use Rattle.link.specs.declared.report.Kind.TheVariants.{Gained, Hit, Miss}
use Rattle.link.specs.declared.report.Report.{Report}

-- The octets taken are any octets, then the line sent from its place `start` on and as far as it is taken, some altered, none lost or added.
pub record Reception (sent taken : List ℕ) : Type 0 where
  pub before : List ℕ
  pub heard : List ℕ
  pub start : ℕ
  pub taken_is : taken ≡ before ++ heard
  pub on_line : start + length heard ≤ length sent

module _ {sent taken : List ℕ} (s : Settings) (h : Reception sent taken) where
  -- The n places of the line from place q on are all heard.
  abbrev pub Taken : ℕ → ℕ → Type 0
  Taken q n = (h.start ≤ q) × (q + n ≤ h.start + length h.heard)

  -- Place q of the line, one of those heard, arrived as it was sent.
  abbrev pub AsSent : ℕ → Type 0
  AsSent q = slice_index h.heard (q - h.start) ≡ slice_index sent q

  -- It is altered.
  abbrev pub Altered : ℕ → Type 0
  Altered q = AsSent q → ⊥

  -- Marker j of the line, counted from the line's first, stands at j periods. Taken whole, it is intact if it is as sent ..
  pub record Intact (j : ℕ) : Type 0 where
    pub whole : Taken (j * period s) marker_length
    pub as_sent : (r : ℕ) → r < marker_length → AsSent (j * period s + r)

  -- .. and else altered.
  pub record AlteredMarker (j : ℕ) : Type 0 where
    pub whole : Taken (j * period s) marker_length
    pub altered : ((r : ℕ) → r < marker_length → AsSent (j * period s + r)) → ⊥

  -- A lock or a hit by seven octets of which the last is the e-th octet taken: if they take in an octet of the line, they are an intact marker of it.
  abbrev pub OnIntact : ℕ → Type 0
  OnIntact e = length h.before < e → (j : ℕ) × Intact j × (h.start + e ≡ length h.before + (j * period s + marker_length))

  -- what a report says of the line; a miss says nothing
  abbrev pub Sound : Kind → ℕ → Type 0
  Sound Gained e = OnIntact e
  Sound Hit e = OnIntact e
  Sound (Miss cause) e = Unit

  abbrev pub AllSound : List (ℕ × Report) → Type 0
  AllSound [] = Unit
  AllSound (report ∷ reports) = Sound report.1.kind report.0 × AllSound reports

  -- The line is covered: nowhere are as many markers in a row altered as drop lock, and each lock and each hit is on an intact one. A feed
  -- reports each lock and each hit that the receiver's rules give, so these are read off the reports.
  pub record CoveredLine (reports : List (ℕ × Report)) : Type 0 where
    pub markers : (j : ℕ) → ((i : ℕ) → i < s.miss_limit → AlteredMarker (j + i)) → ⊥
    pub locks : AllSound reports

  -- a marker from which on all is well: intact, with at least a resync length of the line taken before it
  pub record GoodMarker (resync j : ℕ) : Type 0 where
    pub intact : Intact j
    pub late : h.start + resync ≤ j * period s

  -- Block b is otherwise covered: it is wholly taken, and some good marker does not come behind its beginning. So no part of it comes before
  -- the first good marker.
  pub record OtherwiseCovered (resync b : ℕ) : Type 0 where
    pub whole : Taken (b * line_length s) (line_length s)
    pub marker : ℕ
    pub good : GoodMarker resync marker
    pub not_behind : marker ≤ b * subframes s

  -- Where data place p of block b stands on the line: in subframe p div D, behind its marker.
  abbrev pub line_place : ℕ → ℕ → ℕ
  line_place b p = b * line_length s + (p / subframe_data s * period s + (marker_length + p % subframe_data s))

  -- The altered data of block b lie within n data places in a row, from q on. Markers between them are not counted.
  abbrev pub AlteredWithin : ℕ → ℕ → ℕ → Type 0
  AlteredWithin b q n = (p : ℕ) → p < block_length s → Altered (line_place b p) → (q ≤ p) × (p < q + n)

  -- Each of n data places in a row of block b, from q on, is altered.
  abbrev pub AlteredThroughout : ℕ → ℕ → ℕ → Type 0
  AlteredThroughout b q n = (p : ℕ) → p < block_length s → q ≤ p → p < q + n → Altered (line_place b p)

  -- Block b is covered: its altered data also lie within one fade.
  pub record Covered (resync fade b : ℕ) : Type 0 where
    pub otherwise : OtherwiseCovered resync b
    pub from : ℕ
    pub within : AlteredWithin b from fade

  -- the octets taken up to and with the last of block b
  abbrev pub taken_with : ℕ → ℕ
  taken_with b = length h.before + ((b + 1) * line_length s - h.start)
